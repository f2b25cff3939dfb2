use Rattle.std.proofs.Common.{List, All, ◌<◌, refl, sym, subst}
use Rattle.plan_lines.specs.declared.note.Note.{Note}
use Rattle.cert_merge.proofs.UnitedRows.{HasPushed, few_more, none_pushed, one_pushed, not_none, all_pushed}
use Rattle.cert_merge.proofs.united_rows.push_notes.Goals as goal

pub loop-line-init : goal.loop-line-init
loop-line-init c = record { few = c.requires.few; pushed = λ job own are. none_pushed job c.args.bends c.args.stages own c.args.notes.now.items c.args.text.now are }

pub loop-line-preserved-in_ok-push : goal.loop-line-preserved-in_ok-push
loop-line-preserved-in_ok-push c =
    let note = c.in-Some-note_of.note in
    let items = c.in_ok-push.ensures.items in
    record {
      few = subst (λ (ns : List Note). All (λ (n : Note). n.action < 144) ns) (sym items) (few_more c.loop-line.notes.items note c.loop-line.invariant.few c.in-Some-note_of.ensures.few);
      pushed = λ job own are.
          subst (λ (ns : List Note). HasPushed job c.args.bends c.args.stages own c.args.notes.now.items ns c.in-Some.behind.now) (sym items)
          (one_pushed job c.args.bends c.args.stages c.requires.bends c.requires.stages c.loop-line.rest.now c.in-Some.line.now c.in-Some.behind.now c.in-Some.ensures.some c.note_of.result c.note_of.ensures.read own c.args.notes.now.items c.loop-line.notes.items note c.in-Some-note_of.is
          (c.loop-line.invariant.pushed job own are));
    }

pub loop-line-preserved : goal.loop-line-preserved
loop-line-preserved c = record {
  few = c.loop-line.invariant.few;
  pushed = λ job own are.
      absurd (not_none job c.args.bends c.args.stages c.requires.bends c.requires.stages c.loop-line.rest.now c.in-Some.line.now c.in-Some.behind.now c.in-Some.ensures.some c.note_of.result c.note_of.ensures.read own c.args.notes.now.items c.loop-line.notes.items c.in_default-note_of.is
      (c.loop-line.invariant.pushed job own are));
}

pub returns-clause-few : goal.returns-clause-few
returns-clause-few c = c.loop-line.invariant.few

pub returns-clause-notes : goal.returns-clause-notes
returns-clause-notes c = λ job own are.
    all_pushed job c.args.bends c.args.stages c.requires.bends c.requires.stages own c.args.notes.now.items c.loop-line.notes.items c.loop-line.rest.now (c.in_default.ensures.none refl) (c.loop-line.invariant.pushed job own are)
