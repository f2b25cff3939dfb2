use Rattle.brake_io.specs.Pieces.{reads_left}
use Rattle.brake_io.proofs.Parts.{ReadsOn}
use Rattle.brake_io.proofs.window.Window.finish.Given as goal

abbrev pub invariant-loop-self : goal.invariant-loop-self
invariant-loop-self g l = ReadsOn l.initial.self l.self

abbrev pub decreases-loop-self : goal.decreases-loop-self
decreases-loop-self g l = reads_left l.self
