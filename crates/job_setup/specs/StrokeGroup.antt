-- The bends of one stroke, and the bends that may lead one.
use Rattle.std.specs.Prelude.{ℕ, ◌==◌, nat_lt, Bool, not, ◌&&◌, if◌then◌else◌}
use Rattle.std.specs.List.{list_all}
use Rattle.brake_base.specs.declared.mask.Mask.{Mask}
use Rattle.brake_base.specs.Masks.{has, mask_of}
use Rattle.unfolder.specs.Blank.{bend_numbers}
use Rattle.fold_boxes.specs.Groups.{is_mate}
use Rattle.job_setup.specs.Setup.{JobData, shape_of}

-- Bend c is in the group of bend b where the bends of a set are folded: without gangs it is b
-- itself, with gangs a mate of b that isn't folded.
abbrev pub in_group : JobData → (ℕ → Bool) → ℕ → ℕ → Bool
in_group job folded b c =
    if job.setup.gang then is_mate (shape_of job) b c && not (folded c) else (c == b)

-- the group of a bend where the bends of a mask are folded
unfoldable pub group_of : JobData → Mask → ℕ → Mask
group_of job mask bend = mask_of (in_group job (has mask) bend)

-- the bend is the lead of a stroke where the bends of the mask are folded: it isn't folded, and no
-- lesser bend is in its group
unfoldable pub is_lead : JobData → Mask → ℕ → Bool
is_lead job mask b =
    not (has mask b)
    && list_all (λ c. not (nat_lt c b && in_group job (has mask) b c)) (bend_numbers job.part.faces)
