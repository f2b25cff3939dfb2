use Rattle.brake_io.specs.Pieces.{GoesOn, reads_left}
use Rattle.cert_check.proofs.read_window.begin_from.Given as goal

abbrev pub invariant-loop-stand : goal.invariant-loop-stand
invariant-loop-stand g l = GoesOn l.initial.window l.window

abbrev pub decreases-loop-stand : goal.decreases-loop-stand
decreases-loop-stand g l = reads_left l.window
