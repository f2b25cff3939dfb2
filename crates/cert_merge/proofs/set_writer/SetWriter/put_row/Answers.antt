use Rattle.std.proofs.Common.{sym, subst}
use Rattle.std.proofs.lemmas.Result.{on_ok_weaker}
use Rattle.brake_base.specs.declared.mask.Mask.{Mask}
use Rattle.cert_lines.specs.declared.row_head.RowHead.{RowHead}
use Rattle.cert_lines.specs.Lines.{IsWorth}
use Rattle.cert_merge.specs.SetRows.{IsSetOf, AreNotesOf}
use Rattle.cert_merge.proofs.SetNotes.{row_is_put}
use Rattle.cert_merge.proofs.set_writer.SetWriter.put_row.Goals as goal

pub put_row-requires-clause-worth : goal.put_row-requires-clause-worth
put_row-requires-clause-worth c = subst IsWorth (sym c.worth.ensures) (c.requires.worth c.set.result.now c.set.ensures)

pub put_row-requires-clause-notes : goal.put_row-requires-clause-notes
put_row-requires-clause-notes c =
    (c.requires.writer.its_notes c.set.result.now (subst (λ (m : Mask). IsSetOf c.args.settled.now m c.set.result.now) c.requires.mask c.set.ensures)).among

pub returns-clause-text : goal.returns-clause-text
returns-clause-text c =
    let settled = c.args.settled.now in
    let key = c.args.key.now in
    let w = c.args.self.now in
    let own = c.set.result.now in
    let head : RowHead = record { key = key; worth = c.worth.result } in
    let are : AreNotesOf own.reasons w.writer w.notes = c.requires.writer.its_notes own (subst (λ (m : Mask). IsSetOf settled m own) c.requires.mask c.set.ensures) in
    on_ok_weaker c.put_row.result
    (row_is_put settled w.writer w.notes key head own c.args.out.now.items c.put_row.new.out.items c.requires.writable.few c.set.ensures (c.requires.writable.reasons key.mask own c.set.ensures) are (λ i. record { key = key; worth = c.worth.ensures i }))
    c.put_row.ensures.rows
