-- A stroke's group as a mask.
use Rattle.std.proofs.Common.{◌≡◌, ℕ, ◌^◌, ◌≤◌, ◌<◌}
use Rattle.brake_base.specs.declared.mask.Mask.{Mask}
use Rattle.brake_base.specs.Masks.{has}
use Rattle.brake_base.proofs.MaskNumbers.{is_mask_of, has_mask_of, mask_of_fits}
use Rattle.job_setup.specs.Setup.{JobData}
use Rattle.job_setup.specs.StrokeGroup.{in_group, group_of}

-- the bends of the group's mask are those of the group
pub has_group_of : (job : JobData) (mask : Mask) (bend other : ℕ) → 1 ≤ other → other ≤ 16 → has (group_of job mask bend) other ≡ in_group job (has mask) bend other
unfolding group_of
has_group_of job mask bend other = has_mask_of (in_group job (has mask) bend) other

pub group_of_fits : (job : JobData) (mask : Mask) (bend : ℕ) → (group_of job mask bend).0 < 2 ^ 16
unfolding group_of
group_of_fits job mask bend = mask_of_fits (in_group job (has mask) bend)

-- a mask of the bends of the group is the group's
pub is_group_of : (job : JobData) (mask group : Mask) (bend : ℕ) → group.0 < 2 ^ 16 → ((other : ℕ) → has group other ≡ in_group job (has mask) bend other) → group ≡ group_of job mask bend
unfolding group_of
is_group_of job mask group bend fits bends = is_mask_of group (in_group job (has mask) bend) fits (λ other first last. bends other)
