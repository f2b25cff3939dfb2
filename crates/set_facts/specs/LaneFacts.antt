-- What belongs to each set of folded bends, a lane for each stage. Costs are in tenths of a second.
use Rattle.std.specs.Prelude.{◌≡◌, ℕ, ◌^◌, ◌<◌, ◌≤◌, nat_lt, List, length}
use Rattle.std.specs.Prelude.{slice_index_or, if◌then◌else◌}
use Rattle.brake_base.specs.declared.mask.Mask.{Mask}
use Rattle.brake_base.specs.declared.stroke.Key.{Key}
use Rattle.stage_lanes.specs.declared.costs.StageCosts.{StageCosts}
use Rattle.stage_lanes.specs.Lanes.{AreLanes}
use Rattle.machine_file.specs.declared.machine.Costs.{Costs}
use Rattle.job_setup.specs.Setup.{JobData, bend_count, stage_count}
use Rattle.job_setup.specs.ValidJob.{IsJob}
use Rattle.handling_cost.specs.StepCost.{change, change_cost, stage_cost}
use Rattle.handling_cost.specs.Bound.{leads_left, farthest, bound_of}
use Rattle.set_facts.specs.Facts.{AreLeads, HasNoneBeyond, AreAttitudes}
use Rattle.set_facts.specs.declared.set_lanes.SetLanes.{SetLanes}

-- the key with these bends folded at a stage; its bound is that of the key in any other attitude
abbrev pub key_at : Mask → ℕ → Key
key_at mask stage = record { mask = mask; attitude = 0; stage = stage }

-- a cost at the job's stages; past the last of them the cost from which there is no way on
abbrev pub within_stages : JobData → (ℕ → ℕ) → ℕ → ℕ
within_stages job cost stage = if nat_lt stage (stage_count job) then cost stage else 536870912

-- each lane has the bound of the keys with this set at its stage
abbrev pub HasBounds : JobData → Mask → List ℕ → Type 0
HasBounds job mask lanes =
    AreLanes lanes (within_stages job (λ stage. bound_of job (key_at mask stage)))

-- each lane has what the way from a stage to its own costs where the bends of the mask are folded
abbrev pub HasWays : JobData → Mask → ℕ → List ℕ → Type 0
HasWays job mask from lanes = AreLanes lanes (within_stages job (λ to. stage_cost job mask from to))

-- at each stage the distance to the farthest of the stages that are nearest to it among those that
-- meet the group of a lead left
abbrev pub HasFarthest : JobData → Mask → List ℕ → Type 0
HasFarthest job mask distances =
    (stage d : ℕ) → stage < stage_count job
    → slice_index_or distances stage d ≡ farthest job mask stage

-- the leads and their number, the farthest distances and the bounds by stage, and how the part is
-- held in each stroke
pub record IsSetLanes (job : JobData) (mask : Mask) (set : SetLanes) : Type 0 where
  pub leads : AreLeads job mask set.leads
  pub only : HasNoneBeyond job set.leads
  pub count : set.count ≡ length (leads_left job mask)
  pub farthest : HasFarthest job mask set.farthest
  pub bounds : HasBounds job mask set.bounds.0
  pub held : AreAttitudes job mask set.attitudes

-- there is a place for each set of the job's bends, and what stands at those from a number on
-- belongs to its set
pub record AreFilled (job : JobData) (from : ℕ) (sets : List SetLanes) : Type 0 where
  pub places : length sets ≡ 2 ^ bend_count job
  pub each :
      (mask : Mask) (d : SetLanes) → from ≤ mask.0 → mask.0 < 2 ^ bend_count job
      → IsSetLanes job mask (slice_index_or sets mask.0 d)

-- a row for each attitude, and in it what the change to each attitude costs
pub record AreChanges (costs : Costs) (changes : List (List ℕ)) : Type 0 where
  pub rows : length changes ≡ 24
  pub each :
      (from to d : ℕ) (ds : List ℕ) → from < 24 → to < 24
      → slice_index_or (slice_index_or changes from ds) to d ≡ change_cost costs (change from to)

-- a row for each stage, and in it what the way to each stage costs; behind them one of no cost, for
-- the start, from which no way is paid
pub record AreWays (job : JobData) (ways : List StageCosts) : Type 0 where
  pub rows : length ways ≡ 7
  pub paid :
      (mask : Mask) (from : ℕ) (d : StageCosts) → 0 < mask.0 → from < stage_count job
      → HasWays job mask from (slice_index_or ways from d).0
  pub start :
      (from : ℕ) (d : StageCosts) → HasWays job (record { 0 = 0 }) from (slice_index_or ways 6 d).0

-- the parts of a valid job's table
pub record IsLaneFacts (job : JobData) (change_rows : List (List ℕ)) (way_rows : List StageCosts)
    (set_rows : List SetLanes) : Type 0 where
  pub valid : IsJob job
  pub changes : AreChanges job.setup.cost change_rows
  pub ways : AreWays job way_rows
  pub sets : AreFilled job 0 set_rows
