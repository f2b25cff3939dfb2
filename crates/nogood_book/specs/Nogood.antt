-- What a nogood says: of which sets of folded bends, and when it is true of them. After the nogoods
-- of constraint satisfaction: a choice that fails wherever some conditions hold.
use Rattle.std.specs.Prelude.{◌≡◌, ◌≢◌, ◌⊎◌, ℕ, ◌^◌, ◌<◌, false, not, ◌&&◌, IsTrue}
use Rattle.brake_base.specs.declared.mask.Mask.{Mask}
use Rattle.brake_base.specs.declared.stroke.Key.{Key}
use Rattle.brake_base.specs.declared.stroke.Action.{Action}
use Rattle.brake_base.specs.declared.reason.Reason.{Reason}
use Rattle.brake_base.specs.declared.reason.Reason.TheVariants.{NoGauge}
use Rattle.brake_base.specs.Masks.{has, IsSubset, mask_of}
use Rattle.job_setup.specs.Setup.{JobData, bend_count}
use Rattle.job_setup.specs.StrokeGroup.{is_lead}
use Rattle.handling_cost.specs.StepCost.{IsActionOf}
use Rattle.handling_cost.specs.Plan.{IsReasonFor}
use Rattle.nogood_book.specs.declared.nogood.Nogood.{Nogood}
use Rattle.nogood_book.specs.Support.{support_of, NamesBoxes}

-- a set of bends of the job
abbrev pub IsSetOf : JobData → Mask → Type 0
IsSetOf job mask = mask.0 < 2 ^ bend_count job

-- a key where the bends of the mask are folded. Which actions can be tried at a key, and why they
-- are refused, depends on its mask alone
abbrev pub key_at : Mask → Key
key_at mask = record { mask = mask; attitude = 0; stage = 0 }

-- no bend is in both sets
abbrev pub AreDisjoint : Mask → Mask → Type 0
AreDisjoint a b = (bend : ℕ) → IsTrue (has a bend) → has b bend ≡ false

-- the nogood matches a set of folded bends: its folded bends are folded there, and its flat ones
-- are not
pub record Matches (nogood : Nogood) (mask : Mask) : Type 0 where
  pub folded : IsSubset nogood.folded mask
  pub flat : AreDisjoint nogood.flat mask

-- where the bends of the mask are folded the nogood's bend is the lead of its group, and its reason
-- holds against its action
pub record HoldsWhere (job : JobData) (nogood : Nogood) (mask : Mask) : Type 0 where
  pub lead : IsTrue (is_lead job mask nogood.action.bend)
  pub reason : IsReasonFor job mask nogood.action nogood.reason

-- the nogood is true: so it is at every set of the job's bends that it matches
abbrev pub IsTrueNogood : JobData → Nogood → Type 0
IsTrueNogood job nogood =
    (mask : Mask) → IsSetOf job mask → Matches nogood mask → HoldsWhere job nogood mask

-- each bend of the reason's support is among the folded or among the flat bends
abbrev pub IsCovered : JobData → Nogood → Type 0
IsCovered job nogood =
    (bend : ℕ) → IsTrue (has (support_of job nogood.action.bend nogood.reason) bend)
    → IsTrue (has nogood.folded bend) ⊎ IsTrue (has nogood.flat bend)

-- the nogood is verified, by a look at one set: that of its folded bends
pub record IsVerified (job : JobData) (nogood : Nogood) : Type 0 where
  pub action : IsActionOf job nogood.action
  pub folded : IsSetOf job nogood.folded
  pub flat : IsSetOf job nogood.flat
  pub disjoint : AreDisjoint nogood.folded nogood.flat
  pub kind : nogood.reason ≢ NoGauge
  pub boxes : NamesBoxes job nogood.reason
  pub own : IsTrue (has nogood.flat nogood.action.bend)
  pub lead : IsTrue (is_lead job nogood.folded nogood.action.bend)
  pub covered : IsCovered job nogood
  pub holds : IsReasonFor job nogood.folded nogood.action nogood.reason

-- what is learned from a reason against an action where the bends of the mask are folded: it holds
-- wherever its support is folded as it is there
abbrev pub learned : JobData → Mask → Action → Reason → Nogood
learned job mask action reason =
    let support = support_of job action.bend reason in record {
      action = action;
      reason = reason;
      folded = mask_of (λ bend. has support bend && has mask bend);
      flat = mask_of (λ bend. has support bend && not (has mask bend));
    }
