-- The bends so far that decide, and none of those that follow.
use Rattle.std.proofs.Common.{◌≡◌, ℕ, ◌<◌, ◌≤◌, false}
use Rattle.brake_base.specs.Masks.{has}
use Rattle.box_support.specs.Deciding.{is_deciding}
use Rattle.stroke_table.proofs.deciding.bends_between.Given as goal

abbrev pub invariant-loop-bend : goal.invariant-loop-bend
invariant-loop-bend l = record {
  deciding : (f : ℕ) → 1 ≤ f → f < l.bend → has l.bends f ≡ is_deciding l.job.part.faces l.from l.number f;
  none : (f : ℕ) → l.bend ≤ f → has l.bends f ≡ false;
}
