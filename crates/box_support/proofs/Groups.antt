-- Where two sets of folded bends agree on the bends that may be bent with b, the group of b is the same.
use Rattle.std.proofs.Common.{◌≡◌, ℕ, ◌==◌, nat_lt, Bool, true, false, not, ◌&&◌, IsTrue, refl, ap}
use Rattle.std.specs.Prelude.{if◌then◌else◌}
use Rattle.std.specs.List.{list_all}
use Rattle.brake_base.specs.declared.mask.Mask.{Mask}
use Rattle.brake_base.specs.Masks.{has, mask_of}
use Rattle.unfolder.specs.Blank.{bend_numbers}
use Rattle.job_setup.specs.Setup.{JobData}
use Rattle.job_setup.specs.StrokeGroup.{in_group, group_of, is_lead}

alike_in : (gang mate own x y : Bool) → (IsTrue (if gang then mate && not false else own) → x ≡ y) → (if gang then mate && not x else own) ≡ (if gang then mate && not y else own)
alike_in true true own x y same = ap not (same refl)
alike_in true false own x y same = refl
alike_in false mate own x y same = refl

-- where two sets of folded bends agree on the bends that may be bent with b, the group of b is the same
pub group_alike : (job : JobData) (s t : Mask) (b : ℕ) → ((c : ℕ) → IsTrue (in_group job (λ d. false) b c) → has s c ≡ has t c) → group_of job s b ≡ group_of job t b
unfolding group_of
group_alike job s t b agree = ap mask_of (λ i c. alike_in job.setup.gang _ (c == b) (has s c) (has t c) (agree c) i)

-- and b is the lead of a stroke at both or at none
pub lead_alike : (job : JobData) (s t : Mask) (b : ℕ) → has s b ≡ has t b → ((c : ℕ) → IsTrue (in_group job (λ d. false) b c) → has s c ≡ has t c) → is_lead job s b ≡ is_lead job t b
unfolding is_lead
lead_alike job s t b own agree =
    λ i. not (own i) && list_all (λ c. not (nat_lt c b && alike_in job.setup.gang _ (c == b) (has s c) (has t c) (agree c) i)) (bend_numbers job.part.faces)
