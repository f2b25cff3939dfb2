use Rattle.std.proofs.Common.{◌≡◌, List, All, sym, subst}
use Rattle.std.specs.Prelude.{AllPairs}
use Rattle.handling_cost.proofs.Actions.{few_bends}
use Rattle.job_setup.specs.Setup.{JobData}
use Rattle.plan_lines.specs.declared.note.Note.{Note}
use Rattle.cert_lines.specs.declared.row_head.RowHead.{RowHead}
use Rattle.plan_cert.specs.WellFormed.{IsNote, NoteIsBefore}
use Rattle.sheet_page.specs.Kept.{HaveActions}
use Rattle.sheet_page.proofs.KeptNotes.{all_numbered}
use Rattle.sheet_page.proofs.kept.collect.Goals as goal

same_notes : (job : JobData) (rows given_rows : List RowHead) (notes given_notes : List Note) → given_rows ≡ rows → given_notes ≡ notes → All (IsNote job rows) notes → All (IsNote job given_rows) given_notes
same_notes job rows given_rows notes given_notes same_rows same are =
    subst (λ (r : List RowHead). All (IsNote job r) given_notes) (sym same_rows) (subst (λ (n : List Note). All (IsNote job rows) n) (sym same) are)

pub kept_of-requires-clause-notes : goal.kept_of-requires-clause-notes
kept_of-requires-clause-notes c = same_notes c.args.job.now _ _ _ _ c.as_slice.ensures.value c.as_slice-2.ensures.value c.requires.notes

pub kept_of-requires-clause-order : goal.kept_of-requires-clause-order
kept_of-requires-clause-order c = subst (λ (n : List Note). AllPairs NoteIsBefore n) (sym c.as_slice-2.ensures.value) c.requires.order

pub kept_of-requires-clause-actions : goal.kept_of-requires-clause-actions
kept_of-requires-clause-actions c = subst (HaveActions c.args.job.now) (sym c.as_slice-2.ensures.value) (all_numbered c.args.job.now _ _ (few_bends c.args.job.now c.recall_valid.ensures) c.requires.notes)
