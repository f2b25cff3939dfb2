use Rattle.std.proofs.Common.{◌≡◌, ℕ, All, None, slice_index_or, length, take}
use Rattle.plan_lines.specs.declared.note.Note.{Note}
use Rattle.cert_merge.specs.Merged.{reason_noted}
use Rattle.cert_merge.proofs.row_reasons.reasons_in.Given as goal

-- the reasons of the first so many notes are kept
abbrev pub invariant-loop-note : goal.invariant-loop-note
invariant-loop-note l = record {
  count : length l.reasons ≡ 144;
  kept : (row action : ℕ) → All (λ (note : Note). note.row ≡ row) l.notes → slice_index_or l.reasons action None ≡ reason_noted (take l.note-index l.notes) row action;
}
