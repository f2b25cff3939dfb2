-- What belongs to the actions where the bends of a set are folded, by their numbers.
use Rattle.std.specs.Prelude.{◌≡◌, ℕ, ◌*◌, ◌<◌, false, IsTrue, slice_index_or, Option, Some, None}
use Rattle.brake_base.specs.declared.mask.Mask.{Mask}
use Rattle.brake_base.specs.declared.stroke.Action.{Action}
use Rattle.brake_base.specs.Masks.{union}
use Rattle.job_setup.specs.Setup.{JobData, bend_count, stage_count}
use Rattle.job_setup.specs.StrokeGroup.{group_of, is_lead}
use Rattle.handling_cost.specs.StepCost.{attitude_at}
use Rattle.handling_cost.specs.Bound.{bound_of}
use Rattle.cert_lines.specs.Lines.{action_at}
use Rattle.cert_check.specs.declared.set_actions.NextKey.{NextKey}
use Rattle.cert_check.specs.declared.set_actions.SetActions.{SetActions}

-- the key to which an action leads that can be tried there, and the bound of that key
pub record IsNext (job : JobData) (folded : Mask) (action : Action) (next : NextKey) : Type 0 where
  pub lead : IsTrue (is_lead job folded action.bend)
  pub mask : next.key.mask ≡ union folded (group_of job folded action.bend)
  pub attitude : next.key.attitude ≡ attitude_at job folded action
  pub stage : next.key.stage ≡ action.stage
  pub bound : next.bound ≡ bound_of job next.key

-- that of an action; none exactly where its bend is no lead
abbrev pub IsNextOf : JobData → Mask → Action → Option NextKey → Type 0
IsNextOf job mask action (Some next) = IsNext job mask action next
IsNextOf job mask action None = is_lead job mask action.bend ≡ false

-- where each action leads
abbrev pub AreActionsOf : JobData → SetActions → Type 0
AreActionsOf job actions =
    (number : ℕ) → number < 2 * bend_count job * stage_count job
    → IsNextOf job actions.mask (action_at (stage_count job) number)
    (slice_index_or actions.next number None)
