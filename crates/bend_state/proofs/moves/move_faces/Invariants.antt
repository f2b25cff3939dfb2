use Rattle.std.proofs.Common.{◌≡◌, ◌+◌, length}
use Rattle.bend_state.proofs.Moving.{IsMoving}
use Rattle.bend_state.proofs.moves.move_faces.Given as goal

abbrev pub invariant-loop-face : goal.invariant-loop-face
invariant-loop-face l = record {
  moving : IsMoving l.shape l.fn.before l.fn.group (length l.initial.trail.items) l.face l.initial.trail.items l.places l.trail.items;
  left : l.trail.room + length l.trail.items ≡ l.initial.trail.room + length l.initial.trail.items;
}
