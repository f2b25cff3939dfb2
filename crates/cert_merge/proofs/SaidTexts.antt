-- The text of a table is that of what its rows say.
use Rattle.std.proofs.Common.{◌≡◌, ℕ, suc, ◌+◌, ◌<◌, ◌≤◌, true, List, [], ◌∷◌, ◌++◌, codes, length, drop, All, refl, sym, ap, subst, ◌∙◌, arith, append_assoc, append-nil}
use Rattle.std.proofs.lemmas.List.{length-append, length-map}
use Rattle.std.proofs.lemmas.List.Elements.{All-nil, All-append}
use Rattle.std.proofs.Math.Seq.{drop-append_seam}
use Rattle.brake_base.specs.declared.stroke.Key.{Key}
use Rattle.job_setup.specs.Setup.{JobData, bend_count, stage_count}
use Rattle.handling_cost.proofs.Actions.{few_bends}
use Rattle.plan_lines.specs.declared.note.Note.{Note}
use Rattle.cert_lines.specs.JobText.{job_text}
use Rattle.cert_lines.specs.Lines.{CertLine, lines_text, row_line}
use Rattle.plan_cert.specs.CertText.{rows_lines, table_text}
use Rattle.plan_cert.proofs.RowOrder.{few_stages}
use Rattle.row_text.proofs.MoreRows.{more_text}
use Rattle.cert_merge.specs.declared.row_texts.RowTexts.{RowTexts}
use Rattle.cert_merge.specs.Entries.{Settled}
use Rattle.cert_merge.specs.Table.{TableData, IsTable}
use Rattle.cert_merge.specs.TableTexts.{IsTextOfTable}
use Rattle.cert_merge.specs.MergeSteps.{Rows, flat, head_of, heads, merge_rows, most_actions, notes_upto, table_said, written}
use Rattle.cert_merge.specs.RowTexts.{AreLeft, AreNoteLines, AreRowsOfJob, rows_text, said_text}
use Rattle.cert_merge.proofs.Flat.{IsOneOf, all_map, flat_says, notes_are}
use Rattle.cert_merge.proofs.Merging.{Each}
use Rattle.cert_merge.proofs.MergedForm.{IsSaidOf, is_merged, merged_fits, merged_form, table_says}
use Rattle.cert_merge.proofs.MergeLaws.{merge_laws}
use Rattle.cert_merge.proofs.PieceTexts.{no_lines, notes_at, same_lines}
use Rattle.cert_merge.proofs.TableWritten.{table_written}
use Rattle.cert_merge.proofs.Writing.{flat_push, heads_push}

-- the lines of rows, which are written
abbrev written_text : ℕ → Rows → List ℕ
written_text stages rows = lines_text (rows_lines stages (heads rows) (flat 0 rows))

flat_below : (from : ℕ) (rows : Rows) → All (λ note. note.row < from + length rows) (flat from rows)
flat_below from [] = All-nil (λ (note : Note). note.row < from + 0)
flat_below from (said ∷ rows) =
    let own = notes_upto from said.1.reasons most_actions in
    let more = flat_below (suc from) rows in
    All-append (λ (note : Note). note.row < from + suc (length rows)) own (flat (suc from) rows)
    (all_map (IsOneOf from said.1.reasons most_actions) (λ note. note.row < from + suc (length rows)) own (λ note one. let here = one.here in omega (arith, here)) (notes_are from said.1.reasons most_actions))
    (all_map (λ note. note.row < suc from + length rows) (λ note. note.row < from + suc (length rows)) (flat (suc from) rows) (λ note less. omega (arith, less)) more)

said_more : (stages : ℕ) (done : Rows) (said : Key × Settled) → written_text stages (done ++ said ∷ []) ≡ written_text stages done ++ said_text stages said
unfolding said_text
said_more stages done said =
    let n = length (heads done) in
    let count : 0 + length done ≡ n = omega (arith, length-map done head_of) in
    let own = notes_upto n said.1.reasons most_actions in
    let below : All (λ note. note.row < n) (flat 0 done) = subst (λ (m : ℕ). All (λ note. note.row < m) (flat 0 done)) count (flat_below 0 done) in
    (λ i. lines_text (rows_lines stages (heads_push done said i) ((flat_push 0 done said ∙ ap (λ (m : ℕ). flat 0 done ++ notes_upto m said.1.reasons most_actions) count) i)))
    ∙ more_text stages (heads done) (head_of said) (flat 0 done) own below (notes_at n said.1.reasons most_actions)
    ∙ ap (λ (ls : List CertLine). written_text stages done ++ lines_text (row_line (head_of said) ∷ ls)) (same_lines stages n 0 said.1.reasons most_actions)

rows_more : (stages : ℕ) (done rest : Rows) → written_text stages (done ++ rest) ≡ written_text stages done ++ rows_text stages rest
rows_more stages done [] = ap (written_text stages) (append-nil done) ∙ sym (append-nil (written_text stages done))
rows_more stages done (said ∷ rest) =
    ap (written_text stages) (sym (append_assoc done (said ∷ []) rest))
    ∙ rows_more stages (done ++ said ∷ []) rest
    ∙ ap (λ (t : List ℕ). t ++ rows_text stages rest) (said_more stages done said)
    ∙ append_assoc (written_text stages done) (said_text stages said) (rows_text stages rest)

-- a table's text up to its rows
abbrev pub beginning_of : JobData → List ℕ
beginning_of job = codes "brake-table 1\n" ++ job_text job

-- the text of rows is that of their lines as a table has them
pub rows_text_written : (stages : ℕ) (rows : Rows) → rows_text stages rows ≡ lines_text (rows_lines stages (heads rows) (flat 0 rows))
rows_text_written stages rows = sym (rows_more stages [] rows ∙ ap (λ (t : List ℕ). t ++ rows_text stages rows) (no_lines stages))

-- the text of rows that are written, put together
pub rows_written : (job : JobData) (stages : ℕ) (rows : Rows) → stages ≡ stage_count job → (beginning_of job ++ rows_text stages rows) ++ codes "end\n" ≡ table_text job (heads rows) (flat 0 rows)
rows_written job stages rows same =
    table_written job (heads rows) (flat 0 rows) stages [] (codes "brake-table 1\n") (beginning_of job) (beginning_of job ++ rows_text stages rows) ((beginning_of job ++ rows_text stages rows) ++ codes "end\n")
    same refl refl refl (ap (λ (t : List ℕ). beginning_of job ++ t) (rows_text_written stages rows)) refl

-- ---- a table and what its rows say
pub table_again : (job : JobData) (t : TableData) → IsTable job t → written (table_said t) ≡ t
table_again job t is =
    let rows = merge_rows (table_said t) (table_said t) in
    let form : IsTable job (written rows) = record { valid = is.valid; rows = merged_form job t t is is } in
    let one : t ≡ written rows = merge_laws.one job t t t (written rows) is form (merge_laws.keeps t) (is_merged job t t is is) in
    let says : table_said t ≡ rows = ap table_said one ∙ flat_says 0 rows [] (All-nil (λ (note : Note). note.row < 0)) (merged_fits job t t is is) in
    ap written says ∙ sym one

rows_of_job : (job : JobData) (rows : Rows) → Each (IsSaidOf job) rows → AreRowsOfJob job rows
rows_of_job job [] each = tt
rows_of_job job (said ∷ rows) each = (
  record { row = each.0.row; notes = λ number reason e. let note = each.0.notes number reason e in record { action = note.action; range = note.range } },
  rows_of_job job rows each.1,
)

-- the rows of a table's text
module _ (job : JobData) (t : TableData) (text : List ℕ) (is : IsTextOfTable (record { job = job; table = t }) text) where
  form : IsTable job t
  form = record { valid = is.valid; rows = is.rows }

  pub text_whole : (stages : ℕ) → stages ≡ stage_count job → text ≡ (beginning_of job ++ rows_text stages (table_said t)) ++ codes "end\n"
  text_whole stages same =
      is.spelled ∙ ap (λ (u : TableData). table_text job u.rows u.notes) (sym (table_again job t form)) ∙ sym (rows_written job stages (table_said t) same)

  pub text_behind : (stages : ℕ) → stages ≡ stage_count job → text ≡ beginning_of job ++ (rows_text stages (table_said t) ++ codes "end\n")
  text_behind stages same = text_whole stages same ∙ append_assoc (beginning_of job) (rows_text stages (table_said t)) (codes "end\n")

  pub long_enough : (beginning : List ℕ) → beginning ≡ beginning_of job → length beginning ≤ length text
  long_enough beginning begins =
      let rest = rows_text (stage_count job) (table_said t) ++ codes "end\n" in
      let all : length text ≡ length (beginning_of job ++ rest) = ap (λ (u : List ℕ). length u) (text_behind (stage_count job) refl) in
      let first : length beginning ≡ length (beginning_of job) = ap (λ (u : List ℕ). length u) begins in
      omega (arith, all, first, length-append (beginning_of job) rest)

  -- all of them are to be read
  pub rows_begun : (texts : RowTexts) (beginning : List ℕ) → beginning ≡ beginning_of job → texts.bends ≡ bend_count job → texts.stages ≡ stage_count job → texts.rest.now ≡ drop (length beginning) text → texts.notes.now ≡ [] → AreLeft job (table_said t) texts
  rows_begun texts beginning begins bends stages rest none = record {
    bends = bends;
    few_bends = subst (λ (n : ℕ). n ≤ 12) (sym bends) (few_bends job is.valid);
    stages = stages;
    few_stages = subst (λ (n : ℕ). n ≤ 6) (sym stages) (few_stages job is.valid);
    each = rows_of_job job (table_said t) (table_says job t form);
    rest =
        rest ∙ (λ i. drop (length (begins i)) (text_behind texts.stages stages i))
        ∙ drop-append_seam (beginning_of job) (rows_text texts.stages (table_said t) ++ codes "end\n");
    notes = subst (AreNoteLines true) (sym none) tt;
  }
