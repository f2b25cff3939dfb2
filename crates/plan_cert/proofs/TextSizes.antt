-- The text of a certificate is shorter than 2^30 bytes: its lines have few words, and those of the notes short ones.
use Rattle.std.proofs.Common.{◌≡◌, ℕ, zero, suc, ◌+◌, ◌*◌, ◌^◌, ◌<◌, ◌≤◌, ◌==◌, pos, Bool, true, false, nat_le, List, [], ◌∷◌, ◌++◌, length, map, filter, get_or, Option, Some, None, All, sym, ap, ◌∙◌, append_assoc, arith}
use Rattle.std.specs.Prelude.{if◌then◌else◌}
use Rattle.std.specs.List.{flat_map, enumerate_from, list_all}
use Rattle.std.specs.Fmt.{signed_decimal}
use Rattle.std.proofs.lemmas.Bool.{and_parts, leb-true}
use Rattle.std.proofs.lemmas.Fmt.{length-decimal-le}
use Rattle.std.proofs.lemmas.Grind.{flat_map-append}
use Rattle.std.proofs.lemmas.List.{length-append, length-map}
use Rattle.std.proofs.lemmas.List.Concat.{length-flat_map}
use Rattle.std.proofs.lemmas.List.Elements.{All-tail, All-weaker, All-filter, All-from_recursion}
use Rattle.std.proofs.lemmas.List.Folds.{flat_map-map}
use Rattle.std.proofs.lemmas.List.Sums.{sum_by-le}
use Rattle.brake_base.specs.declared.plane.Quarter.{Quarter}
use Rattle.brake_base.specs.declared.plane.Quarter.TheVariants.{Q1, Q2, Q3, Q4}
use Rattle.brake_base.specs.declared.stroke.Back.{Back}
use Rattle.brake_base.specs.declared.stroke.Back.TheVariants.{Parent, Child}
use Rattle.brake_base.specs.declared.stroke.Half.{Half}
use Rattle.brake_base.specs.declared.stroke.Half.TheVariants.{Back as BackHalf, Front as FrontHalf}
use Rattle.brake_base.specs.declared.stroke.Step.{Step}
use Rattle.brake_base.specs.declared.reason.Reason.{Reason}
use Rattle.brake_base.specs.declared.reason.Reason.TheVariants.{Cover, Rest, Frame, Upper, Nose, Lower, SelfHit, NoGauge, Load}
use Rattle.brake_base.specs.Reasons.{quarter_number}
use Rattle.part_file.specs.declared.part.Joint.{Joint}
use Rattle.part_file.specs.Part.{FaceData}
use Rattle.job_setup.specs.Setup.{StageData, JobData, bend_count, stage_count}
use Rattle.job_setup.specs.ValidJob.{IsStage, IsJob}
use Rattle.cert_lines.specs.declared.format.Format.TheVariants.{Version1, Version2, Table}
use Rattle.cert_lines.specs.declared.row_head.RowHead.{RowHead}
use Rattle.plan_lines.specs.declared.note.Note.{Note}
use Rattle.cert_lines.specs.Lines.{CertLine, format_line, face_line, fine_line, pieces_line, claim_line, step_line, row_line, note_line, end_line, face_words, spaced, number, back_word, half_word, meeting_words, reason_words, keyword_of, words_of, line_text, lines_text, action_at}
use Rattle.cert_lines.specs.JobText.{stage_lines, job_lines, job_text}
use Rattle.plan_lines.specs.LinesFit.{IsReasonInRange, IsStep}
use Rattle.plan_cert.specs.Cert.{CertData}
use Rattle.plan_cert.specs.WellFormed.{IsWellFormed}
use Rattle.plan_cert.specs.CertText.{line_of_note, row_lines, rows_lines, cert_text2}
use Rattle.cert_lines.proofs.WordsRead.{is_plain, spelled}
use Rattle.cert_lines.proofs.TextLines.{ArePlain}
use Rattle.cert_lines.proofs.JobLineRead.{IsJobLine, job_lines_read}
use Rattle.cert_lines.proofs.JobLinesFit.{job_told}
use Rattle.cert_lines.proofs.JobTexts.{four}
use Rattle.plan_lines.proofs.Actions.{in_range, few_actions}
use Rattle.plan_lines.proofs.PlanLineRead.{IsSmall, plan_lines_read}
use Rattle.plan_cert.proofs.NoteOrder.{is_of}
use Rattle.plan_cert.proofs.PlanWritten.{own_notes, all_notes}
use Rattle.plan_cert.proofs.RowOrder.{few_rows}
use Rattle.plan_cert.proofs.NoteCounts.{few_notes}
use Rattle.plan_cert.proofs.Runs.{small_of, few_steps}

-- ---- lists of pieces, and lines of plain words
at_most : {A B : Type 0} (f : A → List B) (most : ℕ) (xs : List A) → All (λ x. length (f x) ≤ most) xs → length (flat_map f xs) ≤ length xs * most
at_most f most xs each = rw (length-flat_map f xs) (sum_by-le (λ x. length (f x)) most xs each)

-- plain words have at most 24 bytes each
few_bytes : (words : List (List ℕ)) → ArePlain words → length (spelled words) ≤ 25 * length words
few_bytes [] plain = omega arith
few_bytes (word ∷ words) plain =
    let here = leb-true (length word) 24 (and_parts (list_all is_plain word) (nat_le (length word) 24) plain.0).1 in
    omega (arith, here, few_bytes words plain.1, length-append (spaced word) (spelled words))

keyword_length : (line : CertLine) → length (keyword_of line) ≤ 11
keyword_length (format_line Version1) = omega arith
keyword_length (format_line Version2) = omega arith
keyword_length (format_line Table) = omega arith
keyword_length _ = omega arith

-- a line is its keyword, its words and a line feed
line_length : (line : CertLine) → length (line_text line) ≡ length (keyword_of line) + length (spelled (words_of line)) + 1
unfolding line_text
line_length line = omega (arith, length-append (keyword_of line ++ spelled (words_of line)) (10 ∷ []), length-append (keyword_of line) (spelled (words_of line)))

plain_length : (line : CertLine) → ArePlain (words_of line) → length (line_text line) ≤ 12 + 25 * length (words_of line)
plain_length line plain = omega (arith, line_length line, keyword_length line, few_bytes (words_of line) plain)

-- ---- the lines of a job
face_count : (face : FaceData) (joint : Option Joint) → length (face_words face joint) ≤ 32
face_count face None = omega arith
face_count face (Some joint) = omega arith

few_words : (line : CertLine) → IsJobLine line → length (words_of line) ≤ 32
few_words (pieces_line pieces) is = omega (arith, is.1, length-map pieces signed_decimal)
few_words (note_line action reason) is = absurd is
few_words (face_line face) is = face_count face face.joint
few_words _ is = omega arith

job_line_length : (line : CertLine) → IsJobLine line → length (line_text line) ≤ 812
job_line_length line is = omega (arith, plain_length line (job_lines_read.plain line is), few_words line is)

stage_count_of : (stage : StageData) → IsStage stage → length (stage_lines stage) ≤ 21
stage_count_of stage is = simp (length-append, length-map) (omega (arith, is.punch.lists.few_boxes, is.die.lists.few_boxes))

few_fine : (none : Bool) (line : CertLine) → length (if none then [] else line ∷ []) ≤ 1
few_fine true line = omega arith
few_fine false line = omega arith

job_count : (job : JobData) → IsJob job → length (job_lines job) ≤ 1000
unfolding job_lines
job_count job valid =
    let setup = job.setup in
    let fixtures = valid.setup.fixtures in
    let fine = few_fine (setup.fine == 0) (fine_line (pos setup.fine)) in
    let stages = at_most stage_lines 21 setup.stages (All-weaker IsStage (λ stage. length (stage_lines stage) ≤ 21) stage_count_of setup.stages valid.setup.stages.each) in
    simp (length-append, length-map) (omega (arith, fine, stages, fixtures.few_frames, fixtures.few_upper, fixtures.few_lower, valid.part.few_faces, valid.setup.stages.few_stages))

job_length : (job : JobData) → IsJob job → length (job_text job) ≤ 812000
unfolding job_text
job_length job valid =
    let each = All-weaker IsJobLine (λ line. length (line_text line) ≤ 812) job_line_length (job_lines job) (All-from_recursion IsJobLine (job_lines job) (job_told job valid)) in
    omega (arith, at_most line_text 812 (job_lines job) each, job_count job valid)

-- ---- the line of a note
-- at most so many words, each of at most 2 bytes
abbrev AreShort : ℕ → List (List ℕ) → Type 0
AreShort most [] = Unit {0}
AreShort zero (word ∷ words) = ⊥
AreShort (suc most) (word ∷ words) = (length word ≤ 2) × AreShort most words

short_bytes : (most : ℕ) (words : List (List ℕ)) → AreShort most words → length (spelled words) ≤ 3 * most
short_bytes most [] short = omega arith
short_bytes zero (word ∷ words) short = absurd short
short_bytes (suc most) (word ∷ words) short = omega (arith, short.0, short_bytes most words short.1, length-append (spaced word) (spelled words))

short_number : (n : ℕ) → n < 100 → length (number n) ≤ 2
short_number n few = length-decimal-le 2 n (omega arith) (omega (arith, few)) (omega (arith, few))

back_short : (back : Back) → length (back_word back) ≤ 2
back_short Parent = omega arith
back_short Child = omega arith

half_short : (half : Half) → length (half_word half) ≤ 2
half_short BackHalf = omega arith
half_short FrontHalf = omega arith

quarter_few : (quarter : Quarter) → quarter_number quarter < 100
quarter_few Q1 = omega arith
quarter_few Q2 = omega arith
quarter_few Q3 = omega arith
quarter_few Q4 = omega arith

meeting_short : (box : ℕ) (quarter : Quarter) (other : ℕ) → box ≤ 24 → other < 100 → AreShort 3 (meeting_words box quarter other)
meeting_short box quarter other few_box few_other = (short_number box (omega (arith, few_box)), (short_number (quarter_number quarter) (quarter_few quarter), (short_number other few_other, tt)))

reason_short : (job : JobData) (reason : Reason) → stage_count job ≤ 6 → IsReasonInRange job reason → AreShort 4 (reason_words reason)
reason_short job Cover few is = (short_number 1 (omega arith), tt)
reason_short job (Rest half) few is = (short_number 2 (omega arith), (half_short half, tt))
reason_short job (Frame box) few is = (short_number 3 (omega arith), (short_number box (omega (arith, is)), tt))
reason_short job (Upper box quarter index) few is = (short_number 4 (omega arith), meeting_short box quarter index is.0 (omega (arith, is.1)))
reason_short job (Nose box quarter stage) few is = (short_number 5 (omega arith), meeting_short box quarter stage is.0 (omega (arith, is.1, few)))
reason_short job (Lower box quarter index) few is = (short_number 6 (omega arith), meeting_short box quarter index is.0 (omega (arith, is.1)))
reason_short job (SelfHit box quarter other) few is = (short_number 7 (omega arith), meeting_short box quarter other is.0 (omega (arith, is.1)))
reason_short job NoGauge few is = (short_number 8 (omega arith), tt)
reason_short job Load few is = (short_number 9 (omega arith), tt)

-- ---- the rows, each with its notes
abbrev note_text : ℕ → Note → List ℕ
note_text stages note = line_text (line_of_note stages note)

abbrev step_text : Step → List ℕ
step_text step = line_text (step_line step)

abbrev row_text : RowHead → List ℕ
row_text row = line_text (row_line row)

rows_length : (stages i : ℕ) (rows : List RowHead) (notes : List Note) → All (λ row. length (row_text row) ≤ 112) rows → All (λ note. length (note_text stages note) ≤ 23) notes
    → length (lines_text (flat_map (row_lines stages notes) (enumerate_from i rows))) ≤ 112 * length rows + 23 * length (flat_map (own_notes notes) (enumerate_from i rows))
rows_length stages i [] notes short_rows short_notes = omega arith
rows_length stages i (row ∷ rows) notes short_rows short_notes =
    let own = filter (is_of i) notes in
    let mine = row_line row ∷ map (line_of_note stages) own in
    let behind = flat_map (row_lines stages notes) (enumerate_from (i + 1) rows) in
    let here = at_most (note_text stages) 23 own (All-filter (is_of i) (λ note. length (note_text stages note) ≤ 23) notes short_notes) in
    omega (
      arith,
      here,
      ap length (flat_map-map line_text (line_of_note stages) own),
      short_rows 0 row (omega arith),
      rows_length stages (i + 1) rows notes (All-tail (λ row. length (row_text row) ≤ 112) row rows short_rows) short_notes,
      ap length (flat_map-append line_text mine behind),
      length-append (lines_text mine) (lines_text behind),
      length-append (row_text row) (lines_text (map (line_of_note stages) own)),
      length-append own (flat_map (own_notes notes) (enumerate_from (i + 1) rows)),
    )

-- ---- the whole text
module _ (job : JobData) (cert : CertData) (valid : IsJob job) (form : IsWellFormed job cert) where
  small : IsSmall job
  small = small_of job valid

  short_rows : All (λ row. length (row_text row) ≤ 112) cert.rows
  short_rows k d within = let row = get_or cert.rows k d in omega (arith, plain_length (row_line row) ((plan_lines_read job small).plain (row_line row) (form.rows.each_row k d within)))

  short_notes : All (λ note. length (note_text (stage_count job) note) ≤ 23) cert.notes
  short_notes k d within =
      let is = form.rows.each_note k d within in
      let note = get_or cert.notes k d in
      let action = action_at (stage_count job) note.action in
      let range = in_range (stage_count job) note.action (few_actions note.action (bend_count job) (stage_count job) small.bends is.action) in
      let last = range.last in
      let stage = range.stage in
      let words : AreShort 7 (words_of (note_line action note.reason)) =
      (short_number action.bend (omega (arith, last)), (back_short action.back, (short_number action.stage (omega (arith, stage, small.stages)), reason_short job note.reason small.stages is.reason))) in
      omega (arith, line_length (note_line action note.reason), short_bytes 7 (words_of (note_line action note.reason)) words)

  rows_text : length (lines_text (rows_lines (stage_count job) cert.rows cert.notes)) ≤ 112 * length cert.rows + 23 * length cert.notes
  unfolding rows_lines
  rows_text =
      let own : flat_map (own_notes cert.notes) (enumerate_from 0 cert.rows) ≡ cert.notes = all_notes job cert.rows cert.notes form.rows in
      omega (arith, ap length own, rows_length (stage_count job) 0 cert.rows cert.notes short_rows short_notes)

  plan_text : length (lines_text (claim_line cert.claim ∷ map step_line cert.steps)) ≤ 10556
  plan_text =
      let read = plan_lines_read job small in
      let each = All-weaker (IsStep job) (λ step. length (step_text step) ≤ 137) (λ step is. omega (arith, plain_length (step_line step) (read.plain (step_line step) is))) cert.steps form.steps in
      omega (
        arith,
        plain_length (claim_line cert.claim) (read.plain (claim_line cert.claim) form.claim),
        at_most step_text 137 cert.steps each,
        ap length (flat_map-map line_text step_line cert.steps),
        length-append (line_text (claim_line cert.claim)) (lines_text (map step_line cert.steps)),
        few_steps job cert.claim cert.steps small form.has_steps,
      )

  first_text : length (lines_text (format_line Version2 ∷ job_lines job)) ≤ 812013
  unfolding job_text line_text
  first_text = omega (arith, job_length job valid, length-append (line_text (format_line Version2)) (lines_text (job_lines job)))

  last_text : length (lines_text (end_line ∷ [])) ≤ 4
  unfolding line_text
  last_text = omega arith

  pub cert_length : length (cert_text2 job cert) < 2 ^ 30
  unfolding cert_text2
  cert_length =
      let first = format_line Version2 ∷ job_lines job in
      let plan = claim_line cert.claim ∷ map step_line cert.steps in
      let rows = rows_lines (stage_count job) cert.rows cert.notes in
      let last = end_line ∷ [] in
      let whole = ap (λ (ls : List CertLine). lines_text (ls ++ last)) (sym (append_assoc first plan rows)) ∙ four first plan rows last in
      let few = few_rows job valid cert.rows (record { each = form.rows.each_row; order = form.rows.row_order }) in
      let one = length-append (lines_text first) (lines_text plan ++ (lines_text rows ++ lines_text last)) in
      let two = length-append (lines_text plan) (lines_text rows ++ lines_text last) in
      let three = length-append (lines_text rows) (lines_text last) in
      omega (arith, ap length whole, one, two, three, first_text, plan_text, rows_text, last_text, few, few_notes job valid cert.rows cert.notes form.rows)
