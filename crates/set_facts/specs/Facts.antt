-- What all keys of one set of folded bends have in common.
use Rattle.std.specs.Prelude.{◌≡◌, false, ℕ, ◌+◌, ◌-◌, ◌*◌, ◌<◌, ◌≤◌, List, length, slice_index_or}
use Rattle.brake_base.specs.declared.mask.Mask.{Mask}
use Rattle.brake_base.specs.declared.stroke.Back.{Back}
use Rattle.brake_base.specs.declared.stroke.Action.{Action}
use Rattle.brake_base.specs.Actions.{back_number}
use Rattle.brake_base.specs.Masks.{has}
use Rattle.job_setup.specs.Setup.{JobData, bend_count, stage_count}
use Rattle.job_setup.specs.StrokeGroup.{is_lead}
use Rattle.handling_cost.specs.StepCost.{attitude_at}
use Rattle.handling_cost.specs.Bound.{leads_left, farthest, bound_with}
use Rattle.set_facts.specs.declared.facts.SetFacts.{SetFacts}

-- where what belongs to a bend and a side stands
abbrev pub side_place : ℕ → Back → ℕ
side_place bend back = (bend - 1) * 2 + back_number back

-- a set has the leads of the strokes that may come next where the bends of the mask are folded
abbrev pub AreLeads : JobData → Mask → Mask → Type 0
AreLeads job mask leads =
    (bend : ℕ) → 1 ≤ bend → bend ≤ bend_count job → has leads bend ≡ is_lead job mask bend

-- no bend past the job's last is in the set
abbrev pub HasNoneBeyond : JobData → Mask → Type 0
HasNoneBeyond job bends = (bend : ℕ) → bend_count job < bend → has bends bend ≡ false

-- the bound of each key where the bends of the mask are folded, by its stage, in tenths of a second
abbrev pub AreBounds : JobData → Mask → List ℕ → Type 0
AreBounds job mask bounds =
    (stage d : ℕ) → stage < stage_count job
    → slice_index_or bounds stage d
    ≡ bound_with job mask (length (leads_left job mask)) (farthest job mask stage)

-- how the part is held in the strokes of each bend where the bends of the mask are folded
abbrev pub AreAttitudes : JobData → Mask → List ℕ → Type 0
AreAttitudes job mask attitudes =
    (action : Action) (d : ℕ) → 1 ≤ action.bend → action.bend ≤ bend_count job
    → slice_index_or attitudes (side_place action.bend action.back) d ≡ attitude_at job mask action

-- the leads, the bound at each stage, and how the part is held in each stroke
pub record IsFacts (job : JobData) (mask : Mask) (facts : SetFacts) : Type 0 where
  pub leads : AreLeads job mask facts.leads
  pub only : HasNoneBeyond job facts.leads
  pub bounds : AreBounds job mask facts.bounds
  pub held : AreAttitudes job mask facts.attitudes
