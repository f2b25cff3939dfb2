-- The notes of a state are against actions that can be tried there.
use Rattle.std.proofs.Common.{◌≡◌, ℕ, ◌+◌, ◌-◌, ◌*◌, ◌<◌, ◌≤◌, ◌∙◌, inl, inr, IsTrue, List, length, All, get_or, drop, ap, subst, sym, arith}
use Rattle.std.specs.Prelude.{slice_index_or}
use Rattle.std.specs.List.{AllWithin}
use Rattle.std.proofs.Math.Nat.{mul-le-mul_right}
use Rattle.std.proofs.lemmas.Bool.{cases_lt}
use Rattle.std.proofs.lemmas.List.{get_or-take, get_or-drop, length-take}
use Rattle.job_setup.specs.Setup.{JobData, bend_count, stage_count}
use Rattle.job_setup.specs.StrokeGroup.{is_lead}
use Rattle.plan_lines.specs.declared.note.Note.{Note}
use Rattle.cert_lines.specs.declared.row_head.RowHead.{RowHead}
use Rattle.cert_lines.specs.Lines.{action_at}
use Rattle.plan_cert.specs.WellFormed.{IsNote}
use Rattle.plan_lines.proofs.ActionNumbers.{bend_of_number}
use Rattle.sheet_page.specs.Kept.{IsNoteAt, AreNotesAt, HaveActions, notes_between}

few_numbers : (bends stages number : ℕ) → bends ≤ 12 → number < 2 * bends * stages → number < 24 * stages
few_numbers bends stages number few below =
    let most : 2 * bends * stages ≤ 24 * stages = mul-le-mul_right stages (omega (arith, few)) in
    omega (arith, most, below)

-- of a job's notes each is against an action of 12 bends
pub all_numbered : (job : JobData) (rows : List RowHead) (notes : List Note) → bend_count job ≤ 12 → All (IsNote job rows) notes → HaveActions job notes
all_numbered job rows notes few are = λ k d within. few_numbers (bend_count job) (stage_count job) (get_or notes k d).action few (are k d within).action

-- a note of a row is against an action that can be tried there
note_tried : (job : JobData) (rows : List RowHead) (row : ℕ) (d : RowHead) (note : Note) → bend_count job ≤ 12 → IsNote job rows note → note.row ≡ row → IsNoteAt job (slice_index_or rows row d).key.mask note
note_tried job rows row d note few is at =
    let among = bend_of_number (bend_count job) (stage_count job) note.action is.action in
    record {
      number = few_numbers (bend_count job) (stage_count job) note.action few is.action;
      action = record {
        first = among.0;
        last = among.1;
        stage = among.2;
        lead = subst (λ (n : ℕ). IsTrue (is_lead job (slice_index_or rows n d).key.mask (action_at (stage_count job) note.action).bend)) at (is.lead d);
      };
    }

-- what holds from a place on and below another holds one further
pub row_more : (notes : List Note) (row begin end : ℕ) → AllWithin (λ note. note.row ≡ row) notes begin end → ((e : Note) → (get_or notes end e).row ≡ row) → AllWithin (λ note. note.row ≡ row) notes begin (end + 1)
row_more notes row begin end before last k e from below = elim (cases_lt k end) [
  | inl low ↦ before k e from low
  | inr high ↦ let same : k ≡ end = omega (arith, high, below) in ap (λ (n : ℕ). (get_or notes n e).row) same ∙ last e
]

-- the notes from a place on and none from another on are tried at a row's bends, where all are of it
pub row_tried : (job : JobData) (rows : List RowHead) (notes : List Note) (row begin end : ℕ) (d : RowHead) → bend_count job ≤ 12 → begin ≤ end → end ≤ length notes → All (IsNote job rows) notes → AllWithin (λ note. note.row ≡ row) notes begin end → AreNotesAt job (slice_index_or rows row d).key.mask (notes_between notes begin end)
row_tried job rows notes row begin end d few order within are of k e inside =
    let count = end - begin in
    let taken = length-take count (drop begin notes) in
    let low : k < count = omega (arith, inside, taken) in
    let is : get_or (notes_between notes begin end) k e ≡ get_or notes (begin + k) e = get_or-take count (drop begin notes) k e low ∙ get_or-drop begin notes k e in
    subst (λ (n : Note). IsNoteAt job (slice_index_or rows row d).key.mask n) (sym is)
    (note_tried job rows row d (get_or notes (begin + k) e) few (are (begin + k) e (omega (arith, low, order, within))) (of (begin + k) e (omega arith) (omega (arith, low, order))))
