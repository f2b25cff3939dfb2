-- What a contract sees of a search.
use Rattle.std.specs.Prelude.{◌≡◌, ℕ, ◌*◌, Option, None, List, [], min}
use Rattle.brake_base.specs.declared.space.Place.{Place}
use Rattle.brake_base.specs.declared.stroke.Step.{Step}
use Rattle.undo_region.specs.Room.{ListWithRoom, list_with_room}
use Rattle.job_setup.specs.Setup.{JobData, stage_count}
use Rattle.handling_cost.specs.Reach.{nodes}
use Rattle.row_pool.specs.Rows.{Pool, empty_pool}
use Rattle.bb_search.specs.declared.outcome.Outcome.{Outcome}
use Rattle.bb_search.specs.KnownActions.{TableData, AreKnown}

-- the job for which it was opened, the pool of rows, how many keys may be settled, what the run
-- answered, and the kept steps
pub record SearchData : Type 0 where
  pub job : JobData
  pub pool : Pool
  pub budget : ℕ
  pub outcome : Option Outcome
  pub steps : List Step

-- all of them together
abbrev pub search_data : JobData → Pool → ℕ → Option Outcome → List Step → SearchData
search_data job pool budget outcome steps = record {
  job = job;
  pool = pool;
  budget = budget;
  outcome = outcome;
  steps = steps;
}

-- a search that hasn't run
abbrev pub opened : JobData → ℕ → SearchData
opened job budget =
    search_data job (empty_pool (min budget (nodes job)) (24 * stage_count job)) budget None []

-- before the run it is as it was opened, and its table knows nothing that isn't so; the trail has
-- room for the folds of all bends
pub record IsSearch (search : SearchData) (trail : ListWithRoom Place) (table : TableData)
    : Type 0 where
  pub fresh : search.outcome ≡ None → search ≡ opened search.job search.budget
  pub known : search.outcome ≡ None → AreKnown search.job search.pool table
  pub actions : search.pool.actions ≡ 24 * stage_count search.job
  pub limit : search.pool.limit ≡ min search.budget (nodes search.job)
  pub room : trail ≡ list_with_room [] 156
