-- The book of a job: all its nogoods, as they come in going through the sets of folded bends.
use Rattle.std.specs.Prelude.{◌≡◌, ◌≢◌, ◌↔◌, ℕ, zero, suc, ◌*◌, ◌^◌, ◌-◌, ◌<◌, List, [], ◌∷◌, ◌++◌}
use Rattle.std.specs.Prelude.{All, Any, Some, slice_get}
use Rattle.brake_base.specs.declared.mask.Mask.{Mask}
use Rattle.brake_base.specs.declared.stroke.Action.{Action}
use Rattle.brake_base.specs.declared.reason.Reason.{Reason}
use Rattle.brake_base.specs.declared.reason.Reason.TheVariants.{NoGauge}
use Rattle.brake_base.specs.Actions.{IsActionAmong, number_of_action}
use Rattle.job_setup.specs.Setup.{JobData, bend_count, stage_count}
use Rattle.job_setup.specs.StrokeGroup.{group_of}
use Rattle.job_setup.specs.Reasons.{IsFirstReason}
use Rattle.handling_cost.specs.StepCost.{IsActionAt}
use Rattle.handling_cost.specs.Plan.{IsReasonFor}
use Rattle.nogood_book.specs.declared.nogood.Nogood.{Nogood}
use Rattle.nogood_book.specs.Nogood.{IsSetOf, key_at, Matches, IsTrueNogood, learned}

-- the nogood refutes an action where the bends of the mask are folded: it is of this action, and
-- matches
pub record Refutes (nogood : Nogood) (mask : Mask) (action : Action) : Type 0 where
  pub same : nogood.action ≡ action
  pub matches : Matches nogood mask

-- some nogood of the list does
abbrev pub IsRefuted : List Nogood → Mask → Action → Type 0
IsRefuted nogoods mask action = Any (λ nogood. Refutes nogood mask action) nogoods

-- a reason other than NoGauge holds against the action
abbrev pub IsOpposed : JobData → Mask → Action → Type 0
IsOpposed job mask action =
    (reason : Reason) × (reason ≢ NoGauge) × IsReasonFor job mask action reason

-- the first reason of all against the action, where that isn't NoGauge, which comes last
pub record IsFirstOpposing (job : JobData) (mask : Mask) (action : Action) (reason : Reason)
    : Type 0 where
  pub kind : reason ≢ NoGauge
  pub first :
      IsFirstReason job mask (group_of job mask action.bend) action.back action.stage reason

-- What a list becomes by an action where the bends of the mask are folded: where it can be tried, a
-- reason other than NoGauge holds, and no nogood so far refutes it, the nogood that is learned from
-- the first reason is appended.
pub data Grows (job : JobData) (mask : Mask) (action : Action) (before : List Nogood)
    : List Nogood → Type 0 where
  learns :
      (reason : Reason) → IsActionAt job (key_at mask) action
      → IsFirstOpposing job mask action reason → ¬ IsRefuted before mask action
      → Grows job mask action before (before ++ learned job mask action reason ∷ [])
  stays :
      (IsActionAt job (key_at mask) action → IsOpposed job mask action
      → IsRefuted before mask action)
      → Grows job mask action before before

-- the action of a number
pub record IsNumbered (job : JobData) (number : ℕ) (action : Action) : Type 0 where
  pub among : IsActionAmong 12 (stage_count job) action
  pub is : number_of_action (stage_count job) action ≡ number

-- what a list becomes by the actions of all numbers below one, upwards
abbrev pub GrowsBelow : JobData → Mask → ℕ → List Nogood → List Nogood → Type 0
GrowsBelow job mask zero before after = after ≡ before
GrowsBelow job mask (suc number) before after =
    (so_far : List Nogood) × (action : Action) × GrowsBelow job mask number before so_far
    × IsNumbered job number action × Grows job mask action so_far after

-- what stands in the book after all sets of folded bends below one, upwards from that of no bend
abbrev pub IsBookBelow : JobData → ℕ → List Nogood → Type 0
IsBookBelow job zero book = book ≡ []
IsBookBelow job (suc mask) book =
    (so_far : List Nogood) × IsBookBelow job mask so_far
    × GrowsBelow job (record { 0 = mask }) (24 * stage_count job) so_far book

-- the book: after all sets below that of all bends
abbrev pub IsBook : JobData → List Nogood → Type 0
IsBook job book = IsBookBelow job (2 ^ bend_count job - 1) book

-- the least number of a nogood that refutes the action
pub record IsFirstRefuting (book : List Nogood) (mask : Mask) (action : Action) (number : ℕ)
    : Type 0 where
  pub refutes :
      (nogood : Nogood) × (slice_get book number ≡ Some nogood)
      × Refutes nogood mask action
  pub first :
      (other : ℕ) (nogood : Nogood) → other < number → slice_get book other ≡ Some nogood
      → ¬ Refutes nogood mask action

-- each nogood is true, and they refute exactly the actions against which a reason other than
-- NoGauge holds
pub record IsNogoodLaw (job : JobData) (book : List Nogood) : Type 0 where
  pub true_ : All (IsTrueNogood job) book
  pub complete :
      (mask : Mask) (action : Action) → IsSetOf job mask → IsActionAt job (key_at mask) action
      → (IsOpposed job mask action ↔ IsRefuted book mask action)

-- a book as its job and its list
pub record BookData : Type 0 where
  pub job : JobData
  pub nogoods : List Nogood
