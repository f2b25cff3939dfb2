use Rattle.std.proofs.Common.{drop}
use Rattle.row_text.proofs.RowEnds.{AreDigits}
use Rattle.row_text.proofs.row_end.cost_end.Given as goal

-- the bytes from here on have the last digits
abbrev pub invariant-loop-rest : goal.invariant-loop-rest
invariant-loop-rest l = AreDigits l.cost l.rest l.at l.bytes (drop 15 l.initial.bytes)

abbrev pub decreases-loop-rest : goal.decreases-loop-rest
decreases-loop-rest l = l.rest
