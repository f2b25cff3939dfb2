use Rattle.std.proofs.Common.{◌≡◌, ℕ, nat_lt, ◌&&◌}
use Rattle.brake_base.specs.Masks.{has}
use Rattle.fold_boxes.specs.Pose.{is_beyond_some}
use Rattle.fold_boxes.proofs.halves.faces_beyond.Given as goal

abbrev pub invariant-loop-bend : goal.invariant-loop-bend
invariant-loop-bend l = (f : ℕ) → has l.beyond f ≡ (nat_lt f l.bend && is_beyond_some l.shape.part.faces (has l.group) f)
