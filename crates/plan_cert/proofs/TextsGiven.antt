-- The text of a format of a valid job gives the job, and the items of the lines behind it, which are those that are written of them.
use Rattle.std.proofs.Common.{codes, ◌≡◌, ℕ, ◌<◌, pos, true, ◌&&◌, ◌+◌, List, [], ◌∷◌, ◌++◌, length, map, filter, Option, Some, None, Result, Ok, refl, sym, ap, ◌∙◌, append_assoc, arith}
use Rattle.std.specs.Prelude.{is_some}
use Rattle.std.proofs.lemmas.Bool.{and_from, or_right}
use Rattle.std.specs.List.{flat_map, enumerate_from}
use Rattle.std.proofs.lemmas.List.{map-append}
use Rattle.job_setup.specs.Setup.{JobData, bend_count, stage_count}
use Rattle.job_setup.specs.ValidJob.{IsJob}
use Rattle.cert_lines.specs.Lines.{lines_of_format}
use Rattle.plan_cert.specs.CertText.{format_lines, row_lines, rows_lines}
use Rattle.cert_lines.specs.declared.format.Format.{Format}
use Rattle.cert_lines.specs.declared.format.TextKind.{TextKind}
use Rattle.cert_lines.specs.declared.format.Format.TheVariants.{Version1, Version2, Table}
use Rattle.plan_lines.specs.declared.item.Item.{Item}
use Rattle.plan_lines.specs.declared.item.Item.TheVariants as given
use Rattle.plan_lines.specs.declared.item.CertFault.{CertFault}
use Rattle.brake_base.specs.declared.stroke.Key.{Key}
use Rattle.brake_base.specs.declared.stroke.Worth.{Worth}
use Rattle.cert_words.specs.LineWords.{◌>>=◌}
use Rattle.cert_words.specs.JobWords.{numbers_in}
use Rattle.cert_lines.specs.JobLineReading.{line_in, words_line_in, number_line_in}
use Rattle.cert_lines.specs.Lines.{CertLine, words_of, format_line, claim_line, step_line, row_line, note_line, end_line, lines_text, action_at}
use Rattle.cert_lines.specs.JobText.{job_lines}
use Rattle.cert_lines.specs.JobTest.{is_job}
use Rattle.cert_lines.specs.LineReading.{behind_keyword}
use Rattle.cert_lines.specs.Formats.{format_of}
use Rattle.cert_words.specs.LineWords.{◌>>=◌}
use Rattle.cert_lines.specs.JobFold.{is_complete, all_by, take}
use Rattle.cert_lines.specs.JobLines.{JobLinesData, no_lines, begun_stage, job_of}
use Rattle.plan_lines.specs.PlanReading.{give, first_section, may_follow_job, is_end_line, is_row_line}
use Rattle.cert_lines.specs.JobFold.{take_line}
use Rattle.plan_lines.specs.Items.{next_number, plan_items, may_be_judged, items_behind, job_items, items_of_lines, items}
use Rattle.cert_lines.specs.LineReading.{lines_in}
use Rattle.cert_lines.proofs.JobDecided.{job_decided}
use Rattle.plan_lines.proofs.PlanLineRead.{IsSmall, claim_reads, row_reads}
use Rattle.cert_lines.proofs.TextLines.{ArePlain, ArePlainLines, line_bytes, lines_back, plain_both}
use Rattle.cert_lines.proofs.FormatLines.{JobIn}
use Rattle.cert_lines.proofs.FoldShown.{state}
use Rattle.cert_lines.proofs.FoldFormats.{written}
use Rattle.cert_lines.proofs.JobLineRead.{job_lines_read}
use Rattle.cert_lines.proofs.LinesTaken.{taken_written}
use Rattle.cert_lines.proofs.JobLinesFit.{AreJobLines, job_told, told_of_format, plain_of_told}
use Rattle.plan_cert.proofs.Runs.{small_of, line_of_item, Run, ends_with, lines_for, first_on, run_plain, some_more, run_given}
use Rattle.plan_lines.proofs.JobItems.{good_any, stopped_any, judged_by}
use Rattle.plan_lines.specs.declared.section.Section.{Section}
use Rattle.cert_lines.specs.declared.row_head.RowHead.{RowHead}
use Rattle.plan_lines.specs.declared.note.Note.{Note}
use Rattle.plan_cert.specs.Cert.{CertData}
use Rattle.plan_cert.specs.CertItems.{row_items, rows_items}
use Rattle.plan_cert.proofs.NoteOrder.{is_of}
use Rattle.plan_cert.proofs.PlanWritten.{item_of}
use Rattle.plan_cert.proofs.ReadWell.{body_items}

-- lines that run are taken before others
one_taken : (n : ℕ) (s t : JobLinesData) (line : List ℕ) (rest : List (List ℕ)) → 0 < length rest → take_line s line ≡ Some t → job_items n s (line ∷ rest) ≡ job_items (next_number n) t rest
unfolding job_items
one_taken n s t line [] some e = absurd (omega arith)
one_taken n s t line (next ∷ more) some e = ap (λ (o : Option JobLinesData). elim o [ Some x ↦ job_items (next_number n) x (next ∷ more) | None ↦ items_behind n s line (next ∷ more) ]) e

runs_taken : (n : ℕ) (s t : JobLinesData) (lines : List CertLine) (rest : List (List ℕ)) → 0 < length rest → AreJobLines lines → all_by take s lines ≡ Some t → (m : ℕ) × (job_items n s (map line_bytes lines ++ rest) ≡ job_items m t rest)
unfolding take_line
runs_taken n s t [] rest some told run = (n, let same : s ≡ t = cc in ap (λ x. job_items n x rest) same)
runs_taken n s t (line ∷ lines) rest some told run = by_taken (take s line) refl (λ u run. runs_taken (next_number n) u t lines rest some told.1 run) run
  where
    by_taken : (taken : Option JobLinesData) → take s line ≡ taken → ((u : JobLinesData) → all_by take u lines ≡ Some t → (m : ℕ) × (job_items (next_number n) u (map line_bytes lines ++ rest) ≡ job_items m t rest)) → (taken >>= λ u. all_by take u lines) ≡ Some t
        → (m : ℕ) × (job_items n s (map line_bytes (line ∷ lines) ++ rest) ≡ job_items m t rest)
    by_taken (Some u) is behind run =
        let (m, more) = behind u run in
        (m, one_taken n s u (line_bytes line) (map line_bytes lines ++ rest) (some_more lines rest some) (taken_written job_lines_read (take s) line told.0 ∙ is) ∙ more)
    by_taken None is behind run = absurd (cc)

-- the first line behind the job, which is no job line and may follow the job
abbrev first_of : ℕ → List Item → List ℕ
first_of stages [] = line_bytes end_line
first_of stages (item ∷ items) = line_bytes (line_of_item stages item)

abbrev behind_first : ℕ → List Item → List (List ℕ)
behind_first stages [] = [] ∷ []
behind_first stages (item ∷ items) = lines_for stages items

cut_first : (stages : ℕ) (items : List Item) → lines_for stages items ≡ first_of stages items ∷ behind_first stages items
cut_first stages [] = refl
cut_first stages (item ∷ items) = refl

some_first : (stages : ℕ) (items : List Item) → 0 < length (behind_first stages items)
some_first stages [] = omega arith
some_first stages (item ∷ items) = some_more (map (line_of_item stages) items) (line_bytes end_line ∷ [] ∷ []) (omega arith)

stops : (stages : ℕ) (items : List Item) (s : JobLinesData) → take_line s (first_of stages items) ≡ None
unfolding take_line line_in words_line_in number_line_in
stops stages [] s = refl
stops stages (given.Claim claim ∷ items) s = refl
stops stages (given.Step step ∷ items) s = refl
stops stages (given.Row row ∷ items) s = refl
stops stages (given.Note action reason ∷ items) s = refl
stops stages (given.Job job ∷ items) s = refl
stops stages (given.End ∷ items) s = refl

may_follow : (format : Format) (job : JobData) (items : List Item) → IsSmall job → Run format job (first_section format) items → may_follow_job format (bend_count job) (stage_count job) (first_of (stage_count job) items) ≡ true
unfolding give
may_follow Version1 job (given.Claim claim ∷ items) small (next, follows, run) = ap (λ (o : Option Worth). is_some o) (claim_reads.back claim follows.0)
may_follow Version2 job (given.Claim claim ∷ items) small (next, follows, run) = ap (λ (o : Option Worth). is_some o) (claim_reads.back claim follows.0)
may_follow Table job [] small run = refl
may_follow Table job (given.Row row ∷ items) small (next, follows, run) =
    let line = line_bytes (row_line row) in
    or_right (is_end_line line) (is_row_line (bend_count job) (stage_count job) line) (ap (λ (o : Option (Key × Worth)). is_some o) ((row_reads job small).back (row.key, row.worth) follows.0))
may_follow _ job [] small run = absurd (cc)
may_follow _ job (_ ∷ items) small (next, follows, run) = absurd (let none = follows.1 in cc)

split_lines : (own lines : List CertLine) → map line_bytes (own ++ (lines ++ end_line ∷ [])) ++ [] ∷ [] ≡ map line_bytes own ++ (map line_bytes lines ++ line_bytes end_line ∷ [] ∷ [])
split_lines own lines =
    ap (λ (ls : List (List ℕ)). ls ++ [] ∷ []) (map-append line_bytes own (lines ++ end_line ∷ []))
    ∙ append_assoc (map line_bytes own) (map line_bytes (lines ++ end_line ∷ [])) ([] ∷ [])
    ∙ ap (λ (ls : List (List ℕ)). map line_bytes own ++ (ls ++ [] ∷ [])) (map-append line_bytes lines (end_line ∷ []))
    ∙ ap (λ (ls : List (List ℕ)). map line_bytes own ++ ls) (append_assoc (map line_bytes lines) (line_bytes end_line ∷ []) ([] ∷ []))

format_plain : (format : Format) → ArePlain (words_of (format_line format))
format_plain Version1 = (refl, tt)
format_plain Version2 = (refl, tt)
format_plain Table = (refl, tt)

-- the lines of the text of a job and of items that follow one another
pub cut_lines : (format : Format) (job : JobData) (section : Section) (items : List Item) → IsJob job → Run format job section items
    → lines_in (lines_text (format_lines format job (map (line_of_item (stage_count job)) items))) ≡ line_bytes (format_line format) ∷ (map line_bytes (lines_of_format format (job_lines job)) ++ lines_for (stage_count job) items)
cut_lines format job section items valid run =
    let own = lines_of_format format (job_lines job) in
    let lines = map (line_of_item (stage_count job)) items in
    let told = plain_of_told own (told_of_format format (job_lines job) (job_told job valid)) in
    let plain : ArePlainLines (format_line format ∷ (own ++ (lines ++ end_line ∷ []))) = (format_plain format, plain_both own (lines ++ end_line ∷ []) told (plain_both lines (end_line ∷ []) (run_plain format job section items (small_of job valid) run) (tt, tt))) in
    ap (λ (ls : List CertLine). lines_in (lines_text ls)) (append_assoc (format_line format ∷ own) lines (end_line ∷ []))
    ∙ lines_back (format_line format ∷ (own ++ (lines ++ end_line ∷ []))) plain ∙ ap (λ (ls : List (List ℕ)). line_bytes (format_line format) ∷ ls) (split_lines own lines)

-- the text gives the job, the items, and the end
pub text_given : (kind : TextKind) (format : Format) (job : JobData) (items' : List Item) → format_of kind (line_bytes (format_line format)) ≡ Some format → IsJob job → JobIn format job → Run format job (first_section format) items'
    → items kind (lines_text (format_lines format job (map (line_of_item (stage_count job)) items'))) ≡ Ok (given.Job job) ∷ ends_with items'
unfolding items
text_given kind format job items' named valid tells runs =
    let small = small_of job valid in
    let stages = stage_count job in
    let run = written format job valid tells in
    let own = lines_of_format format (job_lines job) in
    let told = told_of_format format (job_lines job) (job_told job valid) in
    let s = state format run.0 job.part job.q job.setup (begun_stage (pos 0) (pos 0)) true in
    let rest = lines_for stages items' in
    let some : 0 < length rest = some_more (map (line_of_item stages) items') (line_bytes end_line ∷ [] ∷ []) (omega arith) in
    let taken = runs_taken 2 (no_lines format) s own rest some told run.2 in
    let m = taken.0 in
    let first = first_of stages items' in
    let more = behind_first stages items' in
    let sound : (s.is_sound && is_job (job_of s)) ≡ true = (job_decided job).1 valid in
    let may : may_be_judged s first ≡ true = and_from (is_complete s.section) (may_follow_job s.format (bend_count (job_of s)) (stage_count (job_of s)) first) run.1 (may_follow format job items' small runs) in
    ap (λ (ls : List (List ℕ)). items_of_lines kind ls) (cut_lines format job (first_section format) items' valid runs)
    ∙ good_any kind format (line_bytes (format_line format)) (map line_bytes own ++ rest) (some_more own rest some) named
    ∙ taken.1
    ∙ ap (λ (ls : List (List ℕ)). job_items m s ls) (cut_first stages items')
    ∙ stopped_any m s first more (some_first stages items') (stops stages items' s)
    ∙ judged_by m s first more true may sound
    ∙ ap (λ (ls : List (List ℕ)). Ok (given.Job job) ∷ plan_items format job m (first_section format) ls) (sym (cut_first stages items'))
    ∙ ap (λ (a : List (Result Item CertFault)). Ok (given.Job job) ∷ a) (run_given format job m (first_section format) items' small (first_on format) runs)

-- ---- the lines of the items of a certificate are those that are written of it
mapped : {A B C : Type 0} (f : B → C) (g : A → B) (xs : List A) → map f (map g xs) ≡ map (λ x. f (g x)) xs
mapped f g [] = refl
mapped f g (x ∷ xs) = ap (λ ys. f (g x) ∷ ys) (mapped f g xs)

rows_from : (stages : ℕ) (notes : List Note) (i : ℕ) (rows : List RowHead) → map (line_of_item stages) (flat_map (row_items notes) (enumerate_from i rows)) ≡ flat_map (row_lines stages notes) (enumerate_from i rows)
rows_from stages notes i [] = refl
rows_from stages notes i (row ∷ rows) =
    map-append (line_of_item stages) (row_items notes (i, row)) (flat_map (row_items notes) (enumerate_from (i + 1) rows))
    ∙ ap (λ (ls : List CertLine). (row_line row ∷ ls) ++ map (line_of_item stages) (flat_map (row_items notes) (enumerate_from (i + 1) rows))) (mapped (line_of_item stages) item_of (filter (is_of i) notes))
    ∙ ap (λ (ls : List CertLine). row_lines stages notes (i, row) ++ ls) (rows_from stages notes (i + 1) rows)

pub rows_shown : (stages : ℕ) (rows : List RowHead) (notes : List Note) → map (line_of_item stages) (rows_items rows notes) ≡ rows_lines stages rows notes
unfolding rows_items rows_lines
rows_shown stages rows notes = rows_from stages notes 0 rows

pub body_lines : (stages : ℕ) (cert : CertData) → map (line_of_item stages) (body_items cert) ≡ claim_line cert.claim ∷ map step_line cert.steps ++ rows_lines stages cert.rows cert.notes
body_lines stages cert =
    map-append (line_of_item stages) (given.Claim cert.claim ∷ map given.Step cert.steps) (rows_items cert.rows cert.notes)
    ∙ ap (λ (ls : List CertLine). (claim_line cert.claim ∷ ls) ++ map (line_of_item stages) (rows_items cert.rows cert.notes)) (mapped (line_of_item stages) given.Step cert.steps)
    ∙ ap (λ (ls : List CertLine). (claim_line cert.claim ∷ map step_line cert.steps) ++ ls) (rows_shown stages cert.rows cert.notes)
