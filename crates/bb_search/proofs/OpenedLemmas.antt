-- A search that is opened.
use Rattle.std.proofs.Common.{◌≡◌, ℕ, ◌*◌, min, List, [], None, sym, ◌∙◌, ap, subst}
use Rattle.brake_base.specs.declared.space.Place.{Place}
use Rattle.brake_base.specs.declared.stroke.Step.{Step}
use Rattle.undo_region.specs.Room.{ListWithRoom, list_with_room}
use Rattle.job_setup.specs.Setup.{JobData, stage_count}
use Rattle.handling_cost.specs.Reach.{nodes}
use Rattle.row_pool.specs.Rows.{Pool, empty_pool}
use Rattle.bb_search.specs.KnownActions.{TableData, AreKnown}
use Rattle.bb_search.specs.Searches.{search_data, opened, IsSearch}

-- the pool is that of the job
own_pool : (job : JobData) (budget rows actions : ℕ) (pool : Pool) → pool ≡ empty_pool rows actions → rows ≡ min budget (nodes job) → actions ≡ 24 * stage_count job → pool ≡ empty_pool (min budget (nodes job)) (24 * stage_count job)
own_pool job budget rows actions pool empty few each = empty ∙ (λ i. empty_pool (few i) (each i))

pub opened_is : (job : JobData) (budget rows actions : ℕ) (pool : Pool) (steps : List Step) (table : TableData) → table.job ≡ job → pool ≡ empty_pool rows actions → rows ≡ min budget (nodes job) → actions ≡ 24 * stage_count job → steps ≡ []
    → search_data table.job pool budget None steps ≡ opened job budget
opened_is job budget rows actions pool steps table its empty few each none =
    let own = own_pool job budget rows actions pool empty few each in
    λ i. search_data (its i) (own i) budget None (none i)

pub search_opened : (job : JobData) (budget rows actions : ℕ) (pool : Pool) (steps : List Step) (trail : ListWithRoom Place) (table : TableData) → table.job ≡ job → pool ≡ empty_pool rows actions → rows ≡ min budget (nodes job) → actions ≡ 24 * stage_count job → steps ≡ []
    → trail ≡ list_with_room [] 156 → ((limit : ℕ) → AreKnown job (empty_pool limit (24 * stage_count job)) table) → IsSearch (search_data table.job pool budget None steps) trail table
search_opened job budget rows actions pool steps trail table its empty few each none room known =
    let own = own_pool job budget rows actions pool empty few each in
    record {
      fresh = λ is_none. opened_is job budget rows actions pool steps table its empty few each none ∙ ap (λ (j : JobData). opened j budget) (sym its);
      known = λ is_none. subst (λ (j : JobData). AreKnown j pool table) (sym its) (subst (λ (p : Pool). AreKnown job p table) (sym own) (known (min budget (nodes job))));
      actions = ap (λ (p : Pool). p.actions) own ∙ ap (λ (j : JobData). 24 * stage_count j) (sym its);
      limit = ap (λ (p : Pool). p.limit) own ∙ ap (λ (j : JobData). min budget (nodes j)) (sym its);
      room = room;
    }
