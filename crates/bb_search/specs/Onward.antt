-- Following the worths of the rows from key to key.
use Rattle.std.specs.Prelude.{◌≡◌, ℕ, ◌+◌, List}
use Rattle.brake_base.specs.declared.stroke.Key.{Key}
use Rattle.brake_base.specs.declared.stroke.Action.{Action}
use Rattle.brake_base.specs.declared.stroke.Step.{Step}
use Rattle.brake_base.specs.declared.stroke.Worth.TheVariants.{Cost}
use Rattle.job_setup.specs.Setup.{JobData}
use Rattle.handling_cost.specs.StepCost.{key_after, cost_of}
use Rattle.handling_cost.specs.Plan.{IsLegal}
use Rattle.row_pool.specs.Rows.{PoolRow}
use Rattle.bb_search.specs.Settling.{IsKnown}

-- a legal step from a key of this worth, and the worth of the next key
pub record IsOnward (job : JobData) (rows : List PoolRow) (key : Key) (worth : ℕ) (step : Step)
    (rest : ℕ) : Type 0 where
  pub legal : IsLegal job key step
  pub known : IsKnown job rows (key_after job key step.action) (Cost rest)
  pub sum : cost_of job key step.action + rest ≡ worth

-- no legal step with this action leads from a key of this worth to a known worth
abbrev pub NoneGoesOn : JobData → List PoolRow → Key → ℕ → Action → Type 0
NoneGoesOn job rows key worth action =
    (step : Step) (rest : ℕ) → step.action ≡ action → IsOnward job rows key worth step rest → ⊥
