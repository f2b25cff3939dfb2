-- The sums of a key's actions by place. Costs are in tenths of a second.
use Rattle.std.specs.Prelude.{◌≡◌, ◌≢◌, ℕ, ◌+◌, ◌/◌, ◌%◌, ◌<◌, ◌≤◌, false, IsTrue, List, slice_index}
use Rattle.brake_base.specs.declared.mask.Mask.{Mask}
use Rattle.brake_base.specs.declared.stroke.Key.{Key}
use Rattle.brake_base.specs.declared.stroke.Back.{Back}
use Rattle.brake_base.specs.declared.stroke.Action.{Action}
use Rattle.brake_base.specs.Masks.{union}
use Rattle.stage_lanes.specs.declared.actions.ActionSet.{ActionSet}
use Rattle.stage_lanes.specs.ActionSets.{place_of, has_place}
use Rattle.action_lanes.specs.declared.costs.ActionCosts.{ActionCosts}
use Rattle.action_lanes.specs.Costs.{cost_at, is_of}
use Rattle.job_setup.specs.Setup.{JobData, stage_count}
use Rattle.job_setup.specs.StrokeGroup.{group_of}
use Rattle.set_facts.specs.LaneFacts.{key_at}
use Rattle.handling_cost.specs.StepCost.{IsActionAt, stage_cost}
use Rattle.handling_cost.specs.Bound.{bound_of, sum_of}

-- past the job's stages there is no way on, and no cost is above this
pub record HasLanesPast (job : JobData) (most : ℕ) (lanes : List ℕ) : Type 0 where
  pub past :
      (stage : ℕ) → stage_count job ≤ stage → stage < 8 → 536870912 ≤ slice_index lanes stage
  pub small : (stage : ℕ) → stage < 8 → slice_index lanes stage ≤ most

-- the sums of a lead's actions at each stage but for the change of attitude
pub record AreStillSums (job : JobData) (key : Key) (bend : ℕ) (lanes : List ℕ) : Type 0 where
  pub each :
      (stage : ℕ) → stage < stage_count job
      → slice_index lanes stage
      ≡ job.setup.cost.stroke + stage_cost job key.mask key.stage stage
      + bound_of job (key_at (union key.mask (group_of job key.mask bend)) stage)
  pub bounds : HasLanesPast job 1100000000 lanes

-- the sums of a lead's actions with this side at the back, at each stage
pub record AreSideSums (job : JobData) (key : Key) (bend : ℕ) (back : Back) (lanes : List ℕ)
    : Type 0 where
  pub each :
      (stage : ℕ) → stage < stage_count job
      → slice_index lanes stage
      ≡ sum_of job key (record { bend = bend; back = back; stage = stage })
  pub bounds : HasLanesPast job 1200000000 lanes

-- the sums of a bend's actions at their places, and elsewhere what there was
pub record AreBendSums (job : JobData) (key : Key) (bend : ℕ) (before after : ActionCosts)
    : Type 0 where
  pub each :
      (action : Action) → IsActionAt job key action → action.bend ≡ bend
      → cost_at after (place_of action) ≡ sum_of job key action
  pub past :
      (place : ℕ) → place < 192 → place / 16 + 1 ≡ bend → stage_count job ≤ place % 8
      → 536870912 ≤ cost_at after place
  pub small : (place : ℕ) → place < 192 → place / 16 + 1 ≡ bend → cost_at after place ≤ 1600000000
  pub others :
      (place : ℕ) → place < 192 → place / 16 + 1 ≢ bend
      → cost_at after place ≡ cost_at before place

-- each action at the key of a bend below this one has its sum; past the job's stages there is no
-- way on
pub record AreSumsBelow (job : JobData) (key : Key) (bend : ℕ) (sums : ActionCosts) : Type 0 where
  pub each :
      (action : Action) → IsActionAt job key action → action.bend < bend
      → cost_at sums (place_of action) ≡ sum_of job key action
  pub past :
      (place : ℕ) → place < 192 → stage_count job ≤ place % 8 → 536870912 ≤ cost_at sums place
  pub small : (place : ℕ) → place < 192 → cost_at sums place ≤ 1600000000

-- each action at the key has its sum; past the job's stages there is no way on
pub record AreSums (job : JobData) (key : Key) (leads : Mask) (sums : ActionCosts) : Type 0 where
  pub each :
      (action : Action) → IsActionAt job key action
      → cost_at sums (place_of action) ≡ sum_of job key action
  pub past :
      (place : ℕ) → place < 192 → IsTrue (is_of leads place) → stage_count job ≤ place % 8
      → 536870912 ≤ cost_at sums place
  pub small : (place : ℕ) → place < 192 → cost_at sums place ≤ 1600000000

-- sums of untested actions, which are at most what no way on costs; all others are that
pub record AreOpenSums (untested : ActionSet) (sums : ActionCosts) : Type 0 where
  pub small :
      (place : ℕ) → place < 192 → IsTrue (has_place untested place)
      → cost_at sums place ≤ 536870912
  pub others :
      (place : ℕ) → place < 192 → has_place untested place ≡ false
      → cost_at sums place ≡ 536870912
