use Rattle.std.proofs.Common.{◌≡◌, ℕ, ◌-◌, ◌≤◌, ◌<◌, length, get_or}
use Rattle.brake_base.specs.declared.mask.Mask.{Mask}
use Rattle.plan_lines.specs.Facts.{AreEarlier}
use Rattle.plan_lines.proofs.job_facts.all_earlier.Given as goal

-- the masks of the bends so far
abbrev pub invariant-loop-bend : goal.invariant-loop-bend
invariant-loop-bend l = record {
  count : length l.earlier ≡ 12;
  each : (b : ℕ) (d : Mask) → 1 ≤ b → b < l.bend → AreEarlier l.job b (get_or l.earlier (b - 1) d);
}
