use Rattle.std.proofs.Common.{◌≡◌, ◌≤◌, ◌*◌, take}
use Rattle.piece_pick.specs.Stock.{taken}
use Rattle.piece_pick.specs.Choice.{lists_of}
use Rattle.piece_pick.proofs.stock.taken.Given as goal

abbrev pub invariant-loop-i : goal.invariant-loop-i
invariant-loop-i l = (l.taken ≡ taken l.tool l.piece l.wants (lists_of (take l.i l.picked))) × (l.taken ≤ 32 * l.i)
