use Rattle.brake_io.specs.Pieces.{GoesOn, reads_left}
use Rattle.brake_io.proofs.window.Window.fill_line.Given as goal

abbrev pub invariant-loop-from : goal.invariant-loop-from
invariant-loop-from g l = GoesOn l.initial.self l.self

abbrev pub decreases-loop-from : goal.decreases-loop-from
decreases-loop-from g l = reads_left l.self
