use Rattle.std.proofs.Common.{◌≡◌, List, Ok, Err, length, sym, ◌∙◌, ap, subst}
use Rattle.brake_base.specs.declared.stroke.Worth.{Worth}
use Rattle.cert_lines.specs.declared.row_head.RowHead.{RowHead}
use Rattle.plan_cert.specs.WellFormed.{AreRowsOf}
use Rattle.cert_check.specs.RowTable.{RowsOf}
use Rattle.cert_check.specs.RowNotes.{HasNotes}
use Rattle.cert_check.specs.Rows.{ProvesAnswer, RowsAnswer}
use Rattle.plan_cert.proofs.Conditions.{rows_of}
use Rattle.cert_check.proofs.Deciding.{notes_read, claim_answer, rows_refused}
use Rattle.cert_check.proofs.verdict.check_proof.Goals as goal

pub open-requires : goal.open-requires
open-requires c =
    let cert = c.requires.0 in
    let are = c.requires.1 in
    record { rows = subst (AreRowsOf c.args.job.now) (sym are.rows_are) (rows_of c.args.job.now are.valid cert.rows cert.notes are.form.rows) }

pub check_rows-requires-clause-table : goal.check_rows-requires-clause-table
check_rows-requires-clause-table c = let are = c.requires.1 in are.table

pub check_rows-requires-clause-count : goal.check_rows-requires-clause-count
check_rows-requires-clause-count c =
    let are = c.requires.1 in
    let rows = ap (λ (t : RowsOf). t.rows) c.in_ok-rows.ensures ∙ are.rows_are in
    are.notes_are.noted.count ∙ ap length (sym rows)

pub returns-in-Ok : goal.returns-in-Ok
returns-in-Ok c = λ cert are.
    let job = c.args.job.now in
    let rows : c.in_ok-rows.rows.rows ≡ cert.rows = ap (λ (t : RowsOf). t.rows) c.in_ok-rows.ensures ∙ are.rows_are in
    let has = subst (λ (rs : List RowHead). HasNotes job rs cert.notes c.args.notes.now) (sym rows) (notes_read job c.args.claim c.args.rows.items c.args.notes.now cert are) in
    claim_answer job cert c.check_claim.result (subst (λ (rs : List RowHead). RowsAnswer job rs cert.notes (Ok tt)) rows (c.in-Ok.ensures cert.notes has))
    (subst (λ (w : Worth). ProvesAnswer job cert.rows w c.check_claim.result) are.claim_is (subst (λ (rs : List RowHead). ProvesAnswer job rs c.args.claim c.check_claim.result) rows c.check_claim.ensures))

pub returns : goal.returns
returns c = λ cert are.
    let job = c.args.job.now in
    let rows : c.in_ok-rows.rows.rows ≡ cert.rows = ap (λ (t : RowsOf). t.rows) c.in_ok-rows.ensures ∙ are.rows_are in
    let has = subst (λ (rs : List RowHead). HasNotes job rs cert.notes c.args.notes.now) (sym rows) (notes_read job c.args.claim c.args.rows.items c.args.notes.now cert are) in
    rows_refused job cert c.in-Err.fault (subst (λ (rs : List RowHead). RowsAnswer job rs cert.notes (Err c.in-Err.fault)) rows (c.in-Err.ensures cert.notes has))
