-- What stays true of rows while the list of rows grows.
use Rattle.std.proofs.Common.{inl, inr, List, [], arith, refl, sym, ◌∙◌, ap}
use Rattle.brake_base.specs.declared.stroke.Key.{Key}
use Rattle.brake_base.specs.declared.stroke.Action.{Action}
use Rattle.brake_base.specs.declared.stroke.Worth.{Worth}
use Rattle.brake_base.specs.declared.stroke.Worth.TheVariants.{Cost, Blocked}
use Rattle.brake_base.specs.Worths.{IsAtMost}
use Rattle.job_setup.specs.Setup.{JobData}
use Rattle.job_setup.specs.ValidJob.{IsJob}
use Rattle.handling_cost.specs.StepCost.{key_after}
use Rattle.handling_cost.specs.Bound.{bound_of}
use Rattle.handling_cost.specs.Good.{Proves, IsClosed}
use Rattle.handling_cost.proofs.Admissible.{bound_is_admissible, full_has_no_bound}
use Rattle.handling_cost.proofs.Tables.{closed_moved}
use Rattle.row_pool.specs.Rows.{PoolRow}
use Rattle.bb_search.specs.Table.{HasRow, Extends, Grows}
use Rattle.bb_search.specs.Settling.{IsAttained, IsKnown, LeadsOn, IsSettled, IsSound, HasSource}

module _ (job : JobData) (before after : List PoolRow) (extends : Extends before after) where
  pub row_kept : (key : Key) (worth : Worth) → HasRow before key worth → HasRow after key worth
  row_kept key worth row = (row.0, row.1, extends row.0 row.1 worth row.2 row.4, row.3, row.4)

  pub known_kept : (key : Key) (worth : Worth) → IsKnown job before key worth → IsKnown job after key worth
  known_kept key worth (inl full) = inl full
  known_kept key worth (inr row) = inr (row_kept key worth row)

  pub closed_kept : (key : Key) (action : Action) (worth : Worth) → IsClosed job (HasRow before) key action worth → IsClosed job (HasRow after) key action worth
  closed_kept key action worth closed = closed_moved job (HasRow before) (HasRow after) row_kept key action worth closed

  pub leads_on_kept : (key : Key) (worth : Worth) → LeadsOn job before key worth → LeadsOn job after key worth
  leads_on_kept key (Cost n) on = (on.0, on.1, on.2, known_kept (key_after job key on.0.action) (Cost on.1) on.3, on.4)
  leads_on_kept key Blocked on = tt

  pub settled_kept : (row : PoolRow) (worth : Worth) → IsSettled job before row worth → IsSettled job after row worth
  settled_kept row worth settled =
      record {
        noted = settled.noted;
        closed = λ action at free. closed_kept row.key action worth (settled.closed action at free);
        attained = settled.attained;
        leads_on = leads_on_kept row.key worth settled.leads_on;
      }

  pub source_kept : (key : Key) → HasSource job before key → HasSource job after key
  source_kept key source =
      (source.0, source.1, source.2, source.3, extends source.0 source.1 source.2 source.4 source.5, source.5, source.6)

pub grown_extends : (before after : List PoolRow) → Grows before after → Extends before after
grown_extends before after grows i row worth at is = grows.keeps i row at

module _ (job : JobData) where
  pub known_attained : (rows : List PoolRow) (key : Key) (worth : Worth) → IsSound job rows → IsKnown job rows key worth → IsAttained job key worth
  known_attained rows key worth sound (inl full) = rw full.1 ([], full.0, refl)
  known_attained rows key worth sound (inr row) = rw (← row.3) (sound.settled row.0 row.1 worth row.2 row.4).attained

  module _ (is_job : IsJob job) where
    -- no worth is below its key's bound
    pub attained_above_bound : (key : Key) (worth : Worth) → IsAttained job key worth → IsAtMost (Cost (bound_of job key)) worth
    attained_above_bound key (Cost n) attained = let bound = bound_is_admissible job is_job key attained.0 attained.1 in omega (arith, bound, attained.2)
    attained_above_bound key Blocked attained = tt

    pub known_proves : (rows : List PoolRow) (key : Key) (worth : Worth) → IsKnown job rows key worth → Proves job (HasRow rows) key worth
    known_proves rows key worth (inl full) = inl (full.1 ∙ ap Cost (sym (full_has_no_bound job is_job key full.0)))
    known_proves rows key worth (inr row) = inr row
