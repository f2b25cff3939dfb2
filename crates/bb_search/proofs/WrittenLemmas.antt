-- The text of one row more.
use Rattle.std.proofs.Common.{◌≡◌, ℕ, ◌+◌, ◌*◌, ◌<◌, ◌≤◌, List, [], ◌∷◌, ◌++◌, codes, map, length, take, Some, arith, refl, sym, ◌∙◌, ap, subst, append_assoc}
use Rattle.std.specs.Prelude.{slice_get, All}
use Rattle.std.proofs.lemmas.List.{append-nil, length-append}
use Rattle.std.proofs.Math.Seq.{take-append_seam}
use Rattle.std.proofs.lemmas.Option.{get_or_from_slice_get}
use Rattle.brake_base.specs.declared.stroke.Step.{Step}
use Rattle.brake_base.specs.declared.stroke.Worth.{Worth}
use Rattle.job_setup.specs.Setup.{JobData, stage_count}
use Rattle.cert_lines.specs.declared.row_head.RowHead.{RowHead}
use Rattle.plan_lines.specs.declared.note.Note.{Note}
use Rattle.cert_lines.specs.declared.format.Format.TheVariants.{Version2}
use Rattle.plan_cert.specs.Cert.{CertData}
use Rattle.cert_lines.specs.Lines.{CertLine, lines_text, line_text, format_line, claim_line, step_line, row_line, end_line}
use Rattle.cert_lines.specs.JobText.{job_lines}
use Rattle.plan_cert.specs.CertText.{line_of_note, rows_lines, cert_text2}
use Rattle.cert_lines.proofs.JobTexts.{four}
use Rattle.row_pool.specs.Rows.{Pool, IsPool, reason_at}
use Rattle.row_text.proofs.MoreRows.{AreAt, more_text}
use Rattle.bb_search.specs.CertRows.{row_of_order, IsHeadOf, note_order, AreNotes}
use Rattle.bb_search.specs.WrittenRows.{beginning_text, without_rows, noted_places, row_note, row_notes, worth_lines, head_lines, row_text, AreRowsWritten}
use Rattle.bb_search.proofs.NoteLists.{no_notes}
use Rattle.bb_search.proofs.RowOrders.{heads_push}
use Rattle.bb_search.proofs.WrittenNotes.{row_noted}

-- ---- the rows
pub no_rows : (pool : Pool) (stages : ℕ) (orders old : List ℕ) → AreRowsWritten pool stages orders 0 old old
unfolding rows_lines
no_rows pool stages orders old = record {
  rows = [];
  notes = [];
  heads = record { all = refl; each = λ i order head at is. absurd (cc) };
  listed = no_notes pool orders;
  text = sym (append-nil old);
}

-- a note of rows before a place is of one of so many rows
early_notes : (pool : Pool) (orders : List ℕ) (count : ℕ) (rows : List RowHead) (notes : List Note) → length rows ≡ count → AreNotes pool orders (note_order count 0) notes → All (λ (note : Note). note.row < length rows) notes
early_notes pool orders count rows notes all listed k d within =
    let is = listed.only k d within in
    let early = is.early in
    omega (arith, early, all)

-- the notes of a row are of it
own_notes : (pool : Pool) (stages row among : ℕ) (places : List ℕ) → AreAt among (map (row_note pool stages row among) places)
own_notes pool stages row among [] = tt
own_notes pool stages row among (place ∷ places) = (refl, own_notes pool stages row among places)

-- their lines don't tell where the row stands
same_lines : (pool : Pool) (stages row among other : ℕ) (places : List ℕ) → map (line_of_note stages) (map (row_note pool stages row among) places) ≡ map (line_of_note stages) (map (row_note pool stages row other) places)
same_lines pool stages row among other [] = refl
same_lines pool stages row among other (place ∷ places) = ap (λ (ls : List CertLine). line_of_note stages (row_note pool stages row among place) ∷ ls) (same_lines pool stages row among other places)

-- the text of a row by its key and its worth
pub row_text_is : (pool : Pool) (stages row : ℕ) (head : RowHead) → IsHeadOf pool.rows row head → row_text pool stages row ≡ lines_text (row_line head ∷ map (line_of_note stages) (row_notes pool stages row 0))
unfolding row_text
row_text_is pool stages row head (it, at, key, worth) =
    ap (λ (ls : List CertLine). lines_text (ls ++ map (line_of_note stages) (row_notes pool stages row 0))) (ap head_lines at ∙ (λ i. worth_lines (key i) (worth i)))

pub row_more : (pool : Pool) (stages : ℕ) → IsPool pool → stages ≤ 6 → pool.actions ≡ 24 * stages → (orders : List ℕ) (count order : ℕ) → slice_get orders count ≡ Some order → (head : RowHead) → IsHeadOf pool.rows (row_of_order order) head → (old middle new : List ℕ)
    → AreRowsWritten pool stages orders count old middle → new ≡ middle ++ row_text pool stages (row_of_order order) → AreRowsWritten pool stages orders (count + 1) old new
row_more pool stages is_pool few actions orders count order at head is_head old middle new before told = record {
  rows = before.rows ++ head ∷ [];
  notes = before.notes ++ own;
  heads = heads_push pool.rows orders count order before.rows head at is_head before.heads;
  listed = row_noted pool orders count row (λ number. ap (λ (o : ℕ). reason_at pool (row_of_order o) number) (get_or_from_slice_get orders count order 0 at)) stages few before.notes before.listed is_pool actions;
  text = told ∙ ap (λ (t : List ℕ). t ++ row_text pool stages row) before.text ∙ append_assoc old texts (row_text pool stages row)
      ∙ ap (λ (t : List ℕ). old ++ t)
      (ap (λ (t : List ℕ). texts ++ t) (row_text_is pool stages row head is_head ∙ ap (λ (ls : List CertLine). lines_text (row_line head ∷ ls)) (same_lines pool stages row 0 count (noted_places pool stages row)))
      ∙ sym (more_text stages before.rows head before.notes own (early_notes pool orders count before.rows before.notes before.heads.all before.listed)
      (subst (λ (n : ℕ). AreAt n own) (sym before.heads.all) (own_notes pool stages row count (noted_places pool stages row)))));
}
  where
    row : ℕ
    row = row_of_order order

    own : List Note
    own = row_notes pool stages row count

    texts : List ℕ
    texts = lines_text (rows_lines stages before.rows before.notes)

-- ---- the whole text
last_line : line_text end_line ++ [] ≡ codes "end\n"
unfolding line_text
last_line = refl

-- a certificate's text is its beginning, its rows and the last line
pub text_parts : (job : JobData) (cert : CertData) → beginning_text job cert.claim cert.steps ++ lines_text (rows_lines (stage_count job) cert.rows cert.notes) ++ codes "end\n" ≡ cert_text2 job cert
unfolding cert_text2
text_parts job cert =
    let head = lines_text (format_line Version2 ∷ job_lines job) in
    let plan = lines_text (claim_line cert.claim ∷ map step_line cert.steps) in
    let rows = lines_text (rows_lines (stage_count job) cert.rows cert.notes) in
    ap (λ (t : List ℕ). ((head ++ plan) ++ rows) ++ t) (sym last_line)
    ∙ append_assoc (head ++ plan) rows (lines_text (end_line ∷ []))
    ∙ append_assoc head plan (rows ++ lines_text (end_line ∷ []))
    ∙ sym (four (format_line Version2 ∷ job_lines job) (claim_line cert.claim ∷ map step_line cert.steps) (rows_lines (stage_count job) cert.rows cert.notes) (end_line ∷ []))
    ∙ ap (λ (ls : List CertLine). lines_text (ls ++ end_line ∷ [])) (append_assoc (format_line Version2 ∷ job_lines job) (claim_line cert.claim ∷ map step_line cert.steps) (rows_lines (stage_count job) cert.rows cert.notes))

-- without rows the text up to its last line is the beginning
module _ (job : JobData) (claim : Worth) (steps : List Step) (text : List ℕ) (is : text ≡ cert_text2 job (without_rows claim steps)) where
  begun_parts : text ≡ beginning_text job claim steps ++ codes "end\n"
  unfolding rows_lines
  begun_parts = is ∙ sym (text_parts job (without_rows claim steps)) ∙ ap (λ (t : List ℕ). t ++ codes "end\n") (append-nil (beginning_text job claim steps))

  pub cut_length : length text ≡ length (beginning_text job claim steps) + 4
  cut_length = ap (λ (t : List ℕ). length t) begun_parts ∙ length-append (beginning_text job claim steps) (codes "end\n")

  pub cut_text : (n : ℕ) → n + 4 ≡ length text → take n text ≡ beginning_text job claim steps
  cut_text n cut =
      let begun = beginning_text job claim steps in
      ap (take n) begun_parts ∙ ap (λ (k : ℕ). take k (begun ++ codes "end\n")) (omega (arith, cut, cut_length)) ∙ take-append_seam begun (codes "end\n")
