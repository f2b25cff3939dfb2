use Rattle.bend_state.proofs.Moving.{IsRestoring}
use Rattle.bend_state.proofs.moves.restore_faces.Given as goal

abbrev pub invariant-loop-face : goal.invariant-loop-face
invariant-loop-face l = IsRestoring l.shape l.fold.before l.fold.group l.fold.mark l.face l.left l.places l.trail.items
