use Rattle.std.proofs.Common.{refl, arith, ◌*◌, ◌<◌}
use Rattle.std.specs.List.{prefix_len}
use Rattle.std.proofs.lemmas.List.Elements.{All-take, All-drop}
use Rattle.plan_lines.specs.declared.note.Note.{Note}
use Rattle.plan_cert.proofs.NoteOrder.{is_of, ascend}
use Rattle.plan_cert.proofs.RowTexts.{rows_more, rows_done}
use Rattle.plan_cert.proofs.rows.put_rows.Goals as goal

pub loop-i-init : goal.loop-i-init
loop-i-init c = record {
  told = refl;
  ascend = ascend 0 c.args.notes.now (λ d some. omega arith) c.requires.order;
  actions = c.requires.actions;
}

pub put_notes-requires-clause-actions : goal.put_notes-requires-clause-actions
put_notes-requires-clause-actions c =
    rw c.split_notes.ensures.front (All-take (λ (note : Note). note.action < 24 * c.args.stages) (prefix_len (is_of c.loop-i.i) c.loop-i.rest.now) c.loop-i.rest.now c.loop-i.invariant.actions)

pub loop-i-preserved : goal.loop-i-preserved
loop-i-preserved c =
    let more =
    rows_more c.args.stages c.loop-i.i c.args.rows.now c.loop-i.rest.now c.index-rows-i.result (prefix_len (is_of c.loop-i.i) c.loop-i.rest.now) _ c.loop-i.out.items c.put_row.new.out.items c.put_notes.new.out.items
    c.loop-i-test.true c.index-rows-i.is refl c.loop-i.invariant.ascend c.loop-i.invariant.told c.in_ok-put_row.ensures (rw c.split_notes.ensures.front at c.in_ok-put_notes.ensures) in
    record {
      told = rw c.split_notes.ensures.rest more.0;
      ascend = rw c.split_notes.ensures.rest more.1;
      actions = rw c.split_notes.ensures.rest (All-drop (λ (note : Note). note.action < 24 * c.args.stages) (prefix_len (is_of c.loop-i.i) c.loop-i.rest.now) c.loop-i.rest.now c.loop-i.invariant.actions);
    }

pub returns : goal.returns
returns c = rows_done c.args.stages c.loop-i.i c.args.rows.now c.loop-i.rest.now c.args.notes.now c.args.out.now.items c.loop-i.out.items c.loop-i-test.false c.loop-i.invariant.told
