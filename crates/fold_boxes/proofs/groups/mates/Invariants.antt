use Rattle.std.proofs.Common.{◌≡◌, ℕ, nat_lt, ◌&&◌}
use Rattle.brake_base.specs.Masks.{has}
use Rattle.fold_boxes.specs.Groups.{is_mate}
use Rattle.fold_boxes.proofs.groups.mates.Given as goal

abbrev pub invariant-loop-other : goal.invariant-loop-other
invariant-loop-other l = (c : ℕ) → has l.mates c ≡ (nat_lt c l.other && is_mate l.shape l.bend c)
