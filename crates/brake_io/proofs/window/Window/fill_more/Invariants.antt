use Rattle.brake_io.specs.Pieces.{reads_left}
use Rattle.brake_io.proofs.Parts.{IsNearer}
use Rattle.brake_io.proofs.window.Window.fill_more.Given as goal

abbrev pub invariant-loop-alloc : goal.invariant-loop-alloc
invariant-loop-alloc g l = IsNearer l.initial.self l.self

abbrev pub decreases-loop-alloc : goal.decreases-loop-alloc
decreases-loop-alloc g l = reads_left l.self
