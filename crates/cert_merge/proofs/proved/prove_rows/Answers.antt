use Rattle.std.proofs.Common.{length, refl, sym, ◌∙◌, ap, subst}
use Rattle.std.proofs.lemmas.Result.{err_from_is_err_and}
use Rattle.handling_cost.specs.StepCost.{IsKeyOf}
use Rattle.handling_cost.proofs.Keys.{start_in_range}
use Rattle.plan_cert.specs.WellFormed.{AreRowsOf}
use Rattle.cert_check.specs.RowTable.{RowsOf}
use Rattle.cert_merge.specs.TableChecks.{CostsAtLeast, proved_by}
use Rattle.cert_merge.proofs.TableChecking.{closed_is_true}
use Rattle.cert_merge.proofs.RowProving.{rows_read, count_is, has_notes, rows_closed, rows_open}
use Rattle.cert_merge.proofs.proved.prove_rows.Goals as goal

pub proved-at_start-requires-clause-rows : goal.proved-at_start-requires-clause-rows
proved-at_start-requires-clause-rows c = subst (AreRowsOf c.args.read.job) (sym c.as_slice.ensures.value) (rows_read c.args.read c.requires.0 c.requires.1)

pub proved-at_start-requires-clause-key : goal.proved-at_start-requires-clause-key
proved-at_start-requires-clause-key c = subst (IsKeyOf c.args.read.job) (sym c.start_key.ensures) (start_in_range c.args.read.job c.requires.1.form.valid)

pub open-requires : goal.open-requires
open-requires c = record { rows = rows_read c.args.read c.requires.0 c.requires.1 }

pub check_rows-requires-clause-table : goal.check_rows-requires-clause-table
check_rows-requires-clause-table c = c.requires.1.testing.table

pub check_rows-requires-clause-count : goal.check_rows-requires-clause-count
check_rows-requires-clause-count c = count_is c.args.read c.requires.0 c.requires.1 c.in_ok-rows.rows.rows (ap (λ (t : RowsOf). t.rows) c.in_ok-rows.ensures)

pub returns-in_err-check_rows-clause-answer : goal.returns-in_err-check_rows-clause-answer
returns-in_err-check_rows-clause-answer c = λ t are.
    let same = ap (λ (t : RowsOf). t.rows) c.in_ok-rows.ensures in
    let answer = err_from_is_err_and c.from_residual-in_err-check_rows.result c.from_residual-in_err-check_rows.ensures.1 in
    rw (answer.1, answer.2) (rows_open c.args.read t are c.in_ok-rows.rows.rows same c.in_err-check_rows.field-0.0 (c.in_err-check_rows.ensures t.notes (has_notes c.args.read t are c.in_ok-rows.rows.rows same)))

pub returns-clause-answer : goal.returns-clause-answer
returns-clause-answer c = λ t are.
    let job = c.args.read.job in
    let same = ap (λ (t : RowsOf). t.rows) c.in_ok-rows.ensures in
    let slice = c.as_slice.ensures.value ∙ are.rows in
    record {
      closed = rows_closed c.args.read t are c.in_ok-rows.rows.rows same (c.in_ok-check_rows.ensures t.notes (has_notes c.args.read t are c.in_ok-rows.rows.rows same));
      job_is = refl;
      rows = c.len.ensures ∙ ap length (same ∙ are.rows);
      at_start = c.proved-at_start.ensures.value ∙ (λ i. proved_by job (slice i) (c.start_key.ensures i));
    }

pub returns-clause-truth : goal.returns-clause-truth
returns-clause-truth c =
    let t = c.requires.0 in
    let are = c.requires.1 in
    let is = returns-clause-answer c t are in
    subst (CostsAtLeast c.args.read.job) (sym is.at_start) (closed_is_true c.args.read.job t are.form is.closed)
