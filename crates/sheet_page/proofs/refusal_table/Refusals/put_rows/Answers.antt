use Rattle.std.proofs.Common.{sym, append-nil, arith}
use Rattle.brake_base.specs.declared.reason.Reason.TheVariants.{Cover}
use Rattle.plan_lines.specs.declared.note.Note.{Note}
use Rattle.sheet_page.specs.Refused.{is_one_row, refusal_row}
use Rattle.sheet_page.proofs.Firsts.{texts_more, texts_all}
use Rattle.sheet_page.proofs.refusal_table.Refusals.put_rows.Goals as goal

abbrev pub no_note : Note
no_note = record { row = 0; action = 0; reason = Cover }

pub loop-i-init : goal.loop-i-init
loop-i-init c = sym (append-nil _)

pub loop-i-preserved : goal.loop-i-preserved
loop-i-preserved c =
    let job = c.args.self.now.job.now in
    let mask = c.args.self.now.mask in
    let notes = c.args.self.now.notes.now in
    texts_more (is_one_row job mask) (refusal_row job mask notes) notes c.loop-i.i no_note _ _ (omega arith) c.loop-i.invariant (c.in_ok-put_row_at.ensures no_note)

pub returns : goal.returns
returns c =
    let job = c.args.self.now.job.now in
    let mask = c.args.self.now.mask in
    let notes = c.args.self.now.notes.now in
    texts_all (is_one_row job mask) (refusal_row job mask notes) notes c.loop-i.i _ _ (omega arith) c.loop-i.invariant
