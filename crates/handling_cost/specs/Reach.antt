-- The keys that legal steps reach, and how many there can be.
use Rattle.std.specs.Prelude.{◌≡◌, ◌≢◌, ℕ, ◌+◌, ◌-◌, ◌*◌, ◌^◌, ◌<◌, ◌==◌, List, [], ◌∷◌, length}
use Rattle.std.specs.Prelude.{All, AllPairs, if◌then◌else◌}
use Rattle.brake_base.specs.declared.stroke.Key.{Key}
use Rattle.brake_base.specs.declared.stroke.Step.{Step}
use Rattle.job_setup.specs.Setup.{JobData, bend_count, stage_count}
use Rattle.handling_cost.specs.StepCost.{IsFull, key_after}
use Rattle.handling_cost.specs.Plan.{IsLegal, start}

-- legal steps, the last one first, lead from the start to the key
abbrev pub Leads : JobData → List Step → Key → Type 0
Leads job [] key = key ≡ start
Leads job (step ∷ earlier) key =
    (before : Key) × Leads job earlier before × IsLegal job before step
    × (key ≡ key_after job before step.action)

abbrev pub IsReached : JobData → Key → Type 0
IsReached job key = (steps : List Step) × Leads job steps key

-- a reached key that isn't full; reach is the number of these
pub record IsNode (job : JobData) (key : Key) : Type 0 where
  pub reached : IsReached job key
  pub not_full : IsFull job key → ⊥

-- reach is above a number: that many different keys and more are reached and not full
abbrev pub ReachIsAbove : JobData → ℕ → Type 0
ReachIsAbove job count =
    (keys : List Key) × (count < length keys) × AllPairs (λ a b. a ≢ b) keys × All (IsNode job) keys

-- the start, and for each other mask that isn't full one key for each attitude and stage; none
-- where there is no bend
abbrev pub nodes : JobData → ℕ
nodes job = if bend_count job == 0 then 0 else 1 + (2 ^ bend_count job - 2) * (24 * stage_count job)
