-- A table whose rows are all accounted for is closed, and what a closed one proves is true.
use Rattle.std.proofs.Common.{true, inl, inr, ℕ, ◌*◌, ◌≤◌, length, arith, subst}
use Rattle.std.proofs.lemmas.Nat.{mul-le}
use Rattle.job_setup.specs.Setup.{JobData, bend_count, stage_count}
use Rattle.job_setup.specs.ValidJob.{IsJob}
use Rattle.handling_cost.specs.StepCost.{IsKeyOf}
use Rattle.handling_cost.specs.Plan.{start}
use Rattle.handling_cost.proofs.Actions.{few_bends}
use Rattle.handling_cost.proofs.Least.{good_implies_least}
use Rattle.handling_cost.proofs.Proved.{proved_is}
use Rattle.cert_lines.specs.declared.row_head.RowHead.{RowHead}
use Rattle.plan_lines.specs.LinesFit.{IsRow}
use Rattle.plan_cert.specs.WellFormed.{AreRowsOf}
use Rattle.plan_cert.specs.GoodCert.{worths_in, HaveRow, HaveNote}
use Rattle.plan_cert.specs.RowFaults.{HoldsAt, RowsAreAccounted}
use Rattle.plan_cert.proofs.RowOrder.{few_stages}
use Rattle.plan_cert.proofs.Conditions.{rows_of, accounted, condition_met, one_note, no_full}
use Rattle.cert_merge.specs.declared.proved.TableFault.{TableFault}
use Rattle.cert_merge.specs.declared.proved.TableFault.TheVariants.{BadReason, NotClosed}
use Rattle.cert_merge.specs.Table.{TableData, IsTable, IsClosedTable}
use Rattle.cert_merge.specs.TableChecks.{CostsAtLeast, proved_by, IsTableFault}

-- a job has at most 144 actions
pub most_numbers : (job : JobData) → IsJob job → 2 * bend_count job * stage_count job ≤ 144
most_numbers job is_job = let bends = few_bends job is_job in mul-le (2 * bend_count job) (stage_count job) 24 6 (omega (arith, bends)) (few_stages job is_job)

-- the key of a row is in range
pub row_key : (job : JobData) (head : RowHead) → IsRow job head → IsKeyOf job head.key
row_key job head row = let mask = row.mask in record { mask = omega (arith, mask); attitude = row.attitude; stage = row.stage }

module _ (job : JobData) (t : TableData) (is : IsTable job t) where
  pub table_rows : AreRowsOf job t.rows
  table_rows = rows_of job is.valid t.rows t.notes is.rows

  pub all_rows : (count : ℕ) → length t.rows ≤ count → RowsAreAccounted job t.rows t.notes count → IsClosedTable job t
  all_rows count all rows = condition_met job is.valid t.rows t.notes is.rows (λ row head less at. rows row head (omega (arith, less, all)) at)

  -- a table with a fault isn't closed
  pub fault_is_open : (fault : TableFault) → IsTableFault job t fault → IsClosedTable job t → ⊥
  fault_is_open (BadReason row action) first closed =
      let cause = first.cause in
      elim (accounted job is.valid t.rows t.notes is.rows closed row action first.head first.at first.tried) [
        | inl note ↦ cause.2 (subst (HoldsAt job first.head action) (one_note job is.valid t.rows t.notes is.rows row action note.0 cause.0 note.1 cause.1) note.2)
        | inr free ↦ free.0 cause.0 cause.1
      ]
  fault_is_open (NotClosed row action) first closed =
      let cause = first.cause in
      elim (accounted job is.valid t.rows t.notes is.rows closed row action first.head first.at first.tried) [
        | inl note ↦ cause.0 note.0 note.1
        | inr free ↦ cause.1 free.1
      ]

  -- what a closed table proves of the start is true of every plan
  pub closed_is_true : IsClosedTable job t → CostsAtLeast job (proved_by job t.rows start)
  closed_is_true closed steps plan =
      good_implies_least job is.valid (HaveRow t.rows) (HaveNote job t.rows t.notes) (no_full job is.valid t.rows t.notes is.rows) closed steps start (proved_by job t.rows start)
      (proved_is job (worths_in t.rows) start).stands plan
