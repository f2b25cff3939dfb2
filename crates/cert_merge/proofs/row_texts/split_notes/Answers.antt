use Rattle.std.proofs.Common.{◌≡◌, ◌++◌, false, Some, sym, ◌∙◌}
use Rattle.std.proofs.lemmas.Bool.Decides.{Decides-eqb}
use Rattle.std.proofs.lemmas.Slice.Eq.{strip_prefix_is}
use Rattle.cert_merge.specs.RowTexts.{begins_with_note}
use Rattle.cert_merge.proofs.NoteBytes.{lines_before}
use Rattle.cert_merge.proofs.row_texts.split_notes.Goals as goal

pub returns-in-Some-clause-notes : goal.returns-in-Some-clause-notes
returns-in-Some-clause-notes c =
    let text = c.args.text.now in
    let last = c.args.last.now in
    let rest = c.in-Some.rest.now in
    let whole : text ≡ last ++ rest = strip_prefix_is Decides-eqb text last (Some c.in-Some.rest) c.in-Some.ensures.cases in
    let other : begins_with_note rest ≡ false = sym c.begins_with_note.ensures ∙ c.if-not-begins_with_note.true in
    let cut = lines_before text last rest whole c.requires other in
    cut.1 ∙ cut.0
