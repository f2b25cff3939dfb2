-- What is proved of a key: the greatest worth that stands for it.
use Rattle.std.specs.Prelude.{List, [], ◌∷◌, if◌then◌else◌}
use Rattle.brake_base.specs.declared.stroke.Key.{Key}
use Rattle.brake_base.specs.declared.stroke.Worth.{Worth}
use Rattle.brake_base.specs.declared.stroke.Worth.TheVariants.{Cost}
use Rattle.brake_base.specs.Keys.{is_key}
use Rattle.brake_base.specs.Worths.{IsAtMost, greater}
use Rattle.job_setup.specs.Setup.{JobData}
use Rattle.handling_cost.specs.Bound.{bound_of}
use Rattle.handling_cost.specs.Good.{Proves}

-- a worth that stands for the key, and none that does is greater
pub record IsProvedWorth (job : JobData) (HasRow : Key → Worth → Type 0) (key : Key) (worth : Worth)
    : Type 0 where
  pub stands : Proves job HasRow key worth
  pub most : (other : Worth) → Proves job HasRow key other → IsAtMost other worth

-- each row of the one table has a row of its key in the other that proves as much or more
abbrev pub Grows : (Key → Worth → Type 0) → (Key → Worth → Type 0) → Type 0
Grows R S =
    (key : Key) (worth : Worth) → R key worth → (more : Worth) × S key more × IsAtMost worth more

-- proved(key): the greatest of the key's bound and the worths of its rows
abbrev pub proved_of : JobData → List (Key × Worth) → Key → Worth
proved_of job [] key = Cost (bound_of job key)
proved_of job (row ∷ rows) key =
    if is_key row.0 key then greater row.1 (proved_of job rows key) else proved_of job rows key
