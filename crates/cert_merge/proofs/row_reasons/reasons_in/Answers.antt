use Rattle.std.proofs.Common.{◌∙◌, refl}
use Rattle.std.proofs.lemmas.List.{take_all}
use Rattle.cert_merge.proofs.Arrays.{kept_on, none_kept}
use Rattle.cert_merge.proofs.row_reasons.reasons_in.Goals as goal

pub loop-note-init : goal.loop-note-init
loop-note-init c = record { count = refl; kept = λ row action all. none_kept 144 action }

pub loop-note-preserved : goal.loop-note-preserved
loop-note-preserved c = record {
  count = c.keep.array_long;
  kept = kept_on c.loop-note.reasons c.keep.new.reasons c.args.notes.now c.loop-note.note-index _ c.loop-note-test.true c.loop-note.invariant.count c.requires c.loop-note.invariant.kept c.keep.ensures;
}

pub returns : goal.returns
returns c = λ row action all.
    c.loop-note.invariant.kept row action all ∙ rw (take_all c.loop-note.note-index c.args.notes.now c.loop-note-test.false) refl
