-- The worths of the keys of a set, found for eight stages at once. Costs are in tenths of a second.
-- The next keys of all keys of a set are the same. So the least of what they come to is found in
-- steps: what is proved, by attitude and stage; with the change of attitude; with the way.
use Rattle.std.specs.Prelude.{◌≡◌, ◌⊎◌, ℕ, ◌+◌, ◌<◌, ◌≤◌, nat_lt, List, [], length}
use Rattle.std.specs.Prelude.{slice_index, slice_index_or, Option, Some, None, if◌then◌else◌}
use Rattle.brake_base.specs.declared.stroke.Key.{Key}
use Rattle.brake_base.specs.declared.stroke.Worth.{Worth}
use Rattle.brake_base.specs.declared.stroke.Worth.TheVariants.{Cost, Blocked}
use Rattle.stage_lanes.specs.declared.costs.StageCosts.{StageCosts}
use Rattle.job_setup.specs.Setup.{JobData}
use Rattle.handling_cost.specs.StepCost.{change, change_cost}
use Rattle.set_facts.specs.LaneFacts.{HasWays}
use Rattle.cert_merge.specs.declared.settled_sets.NextKey.{NextKey}
use Rattle.cert_merge.specs.Settled.{capped}

-- a worth as a number; one that no row may have where there is no way on
abbrev pub number_of : Worth → ℕ
number_of (Cost cost) = cost
number_of Blocked = 1500000000

-- the worth for which a number stands, of step costs and then a worth that a row may have
abbrev pub worth_of : ℕ → Worth
worth_of number = if nat_lt number 1200000000 then Cost number else Blocked

-- no number of some is less, and it is one of them or stands for no way on
pub record IsFloor (Among : ℕ → Type 0) (number : ℕ) : Type 0 where
  pub one : (1500000000 ≤ number) ⊎ Among number
  pub least : (other : ℕ) → Among other → number ≤ other

-- the same of the sums, over the first so many, of a cost and a value
pub record IsLeastSum (count : ℕ) (cost value : ℕ → ℕ) (number : ℕ) : Type 0 where
  pub one : (1500000000 ≤ number) ⊎ ((k : ℕ) × (k < count) × (number ≡ cost k + value k))
  pub least : (k : ℕ) → k < count → number ≤ cost k + value k

-- the lanes of an attitude, and the lane of a stage in them
abbrev pub lanes_of : List StageCosts → ℕ → List ℕ
lanes_of rows attitude = (slice_index_or rows attitude (record { 0 = [] })).0

abbrev pub lane_at : List StageCosts → ℕ → ℕ → ℕ
lane_at rows attitude stage = slice_index (lanes_of rows attitude) stage

-- there is a row for each attitude, and no lane has more than what stands for no way on
pub record AreLaneRows (rows : List StageCosts) : Type 0 where
  pub count : length rows ≡ 24
  pub small : (attitude stage : ℕ) → attitude < 24 → stage < 8
      → lane_at rows attitude stage ≤ 1500000000

-- what is proved of one of the next keys, which has this attitude and this stage
pub record IsProvedAt (nexts : List (Option NextKey)) (attitude stage number : ℕ) : Type 0 where
  pub action : ℕ
  pub next : NextKey
  pub at : slice_index_or nexts action None ≡ Some next
  pub its_attitude : next.key.attitude ≡ attitude
  pub its_stage : next.key.stage ≡ stage
  pub is : number ≡ number_of next.proved

-- each lane has the least that is proved of the next keys with its attitude and its stage
abbrev pub AreProved : List (Option NextKey) → List StageCosts → Type 0
AreProved nexts proved = (attitude stage : ℕ) → attitude < 24 → stage < 8
    → IsFloor (IsProvedAt nexts attitude stage) (lane_at proved attitude stage)

-- what a change of attitude costs
abbrev pub cost_of_change : JobData → ℕ → ℕ → ℕ
cost_of_change job from to = change_cost job.setup.cost (change from to)

-- each lane has the least, over all attitudes, of what the change costs and is then proved
abbrev pub AreChangedFrom : JobData → List StageCosts → ℕ → List ℕ → Type 0
AreChangedFrom job proved from lanes = (stage : ℕ) → stage < 8
    → IsLeastSum 24 (cost_of_change job from) (λ to. lane_at proved to stage)
    (slice_index lanes stage)

-- so of each attitude
abbrev pub AreChanged : JobData → List StageCosts → List StageCosts → Type 0
AreChanged job proved changed = (from : ℕ) → from < 24
    → AreChangedFrom job proved from (lanes_of changed from)

-- the worth is that of the least, over the stages, of a stroke, the way there and what its lane
-- has
pub record IsSettledByLanes (job : JobData) (key : Key) (lanes : List ℕ) (worth : Worth)
    : Type 0 where
  pub ways : List ℕ
  pub are_ways : HasWays job key.mask key.stage ways
  pub number : ℕ
  pub is_least :
      IsLeastSum 8 (λ to. job.setup.cost.stroke + slice_index ways to) (slice_index lanes) number
  pub is : worth ≡ capped (worth_of number)
