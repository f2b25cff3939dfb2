use Rattle.std.proofs.Common.{◌≡◌, ◌++◌, ℕ, List, All, None, ap, subst, ◌∙◌}
use Rattle.std.specs.Prelude.{slice_index_or}
use Rattle.plan_lines.specs.declared.note.Note.{Note}
use Rattle.cert_merge.specs.Merged.{reason_noted}
use Rattle.cert_merge.proofs.UnitedRows.{reasons_there}
use Rattle.cert_merge.proofs.united_rows.reasons_of.Goals as goal

pub returns : goal.returns
returns c =
    let items = c.push_notes.new.notes.items in
    reasons_there c.args.bends c.args.stages c.args.text.now items c.reasons_in.result (λ job own are. c.in_ok-push_notes.ensures.notes job own are ∙ ap (λ (ns : List Note). ns ++ own) c.new-notes.ensures.items)
    (subst (λ (ns : List Note). (row action : ℕ) → All (λ (note : Note). note.row ≡ row) ns → slice_index_or c.reasons_in.result action None ≡ reason_noted ns row action) c.as_slice.ensures.value c.reasons_in.ensures)
