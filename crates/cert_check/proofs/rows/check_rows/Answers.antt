use Rattle.std.proofs.Common.{◌≡◌, length, Ok, Err, arith, sym, ◌∙◌, ap, subst}
use Rattle.plan_cert.specs.RowFaults.{RowsAreAccounted}
use Rattle.cert_check.specs.RowNotes.{unsound_at}
use Rattle.cert_check.specs.Rows.{first_fault}
use Rattle.cert_check.proofs.Accounting.{Outcome, outcome, rows_on}
use Rattle.cert_check.proofs.rows.check_rows.Goals as goal

pub loop-row-init : goal.loop-row-init
loop-row-init c = record {
  set = c.first-set.ensures.set;
  each = λ all has. ((λ row head less. absurd (omega (arith, less))), λ place is. omega arith);
}

pub returns-in-Err : goal.returns-in-Err
returns-in-Err c = λ all has.
    let job = c.args.job.now in
    let rows = c.args.rows.now.rows in
    let notes = c.args.notes.now in
    let row = c.loop-row.row in
    let noted = c.noted_row-noted in
    let each = c.loop-row.invariant.each all has in
    let is : Err c.in-Err.fault ≡ first_fault row c.first_open-found.result (unsound_at row notes.unsound) = c.in-Err.ensures ∙ ap (first_fault row c.first_open-found.result) c.unsound_at.ensures in
    subst (Outcome job rows all notes has row noted.result.head noted.ensures.row noted.result.noted noted.ensures.noted each.0) (sym is)
    (outcome job rows all notes has row noted.result.head noted.ensures.row noted.result.noted noted.ensures.noted each.0 c.first_open-found.result c.first_open-found.ensures.first each.1)

pub loop-row-preserved : goal.loop-row-preserved
loop-row-preserved c = record {
  set = c.first_open-found.ensures.set;
  each = λ all has.
      let job = c.args.job.now in
      let rows = c.args.rows.now.rows in
      let notes = c.args.notes.now in
      let row = c.loop-row.row in
      let noted = c.noted_row-noted in
      let each = c.loop-row.invariant.each all has in
      let is : Ok tt ≡ first_fault row c.first_open-found.result (unsound_at row notes.unsound) = c.in_default.ensures ∙ ap (first_fault row c.first_open-found.result) c.unsound_at.ensures in
      let met = subst (Outcome job rows all notes has row noted.result.head noted.ensures.row noted.result.noted noted.ensures.noted each.0) (sym is)
      (outcome job rows all notes has row noted.result.head noted.ensures.row noted.result.noted noted.ensures.noted each.0 c.first_open-found.result c.first_open-found.ensures.first each.1) in
      (rows_on job rows all notes has row noted.result.head noted.ensures.row noted.result.noted noted.ensures.noted each.0 met.0, met.1);
}

pub returns : goal.returns
returns c = λ all has.
    let end : c.loop-row.row ≡ length c.args.rows.now.rows = let test = c.loop-row-test.false in let far = c.loop-row.auto.row-end in let len = c.len-row-end.ensures in omega (arith, test, far, len) in
    subst (RowsAreAccounted c.args.job.now c.args.rows.now.rows all) end (c.loop-row.invariant.each all has).0
