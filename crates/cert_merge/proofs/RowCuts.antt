-- A row is cut off a table's text.
use Rattle.std.proofs.Common.{◌≡◌, ◌≢◌, ℕ, suc, ◌+◌, ◌-◌, ◌≤◌, ◌==◌, not, Bool, true, false, List, [], ◌∷◌, ◌++◌, codes, length, map, take, drop, get_or, Option, Some, None, All, refl, sym, ap, subst, ◌∙◌, arith, append_assoc}
use Rattle.std.specs.List.{list_all}
use Rattle.std.proofs.Math.Seq.{take-append_seam}
use Rattle.std.proofs.lemmas.Bool.{and_parts, eqb-false, not-true}
use Rattle.std.proofs.lemmas.List.Sums.{AllPass-from_list_all}
use Rattle.std.proofs.lemmas.List.{append_cancel_left, length-append}
use Rattle.std.proofs.lemmas.Option.{same_Some}
use Rattle.brake_base.specs.declared.stroke.Key.{Key}
use Rattle.brake_base.specs.declared.stroke.Worth.{Worth}
use Rattle.job_setup.specs.Setup.{JobData, bend_count, stage_count}
use Rattle.cert_words.specs.LineWords.{word_length, word_at, count_at}
use Rattle.cert_words.specs.PlanWords.{row_in, key_at}
use Rattle.cert_lines.specs.declared.row_head.RowHead.{RowHead}
use Rattle.plan_lines.specs.declared.note.Note.{Note}
use Rattle.cert_lines.specs.LineReading.{lines_in}
use Rattle.cert_lines.specs.Lines.{line_text, lines_text, row_line, words_of, action_at}
use Rattle.plan_cert.specs.CertText.{line_of_note}
use Rattle.cert_lines.specs.LineReading.{IsCut}
use Rattle.plan_lines.proofs.ActionNumbers.{bend_of_number}
use Rattle.cert_lines.proofs.WordsRead.{spelled}
use Rattle.cert_lines.proofs.TextLines.{ArePlain, line_bytes, spelled_other}
use Rattle.plan_lines.proofs.PlanLineRead.{IsSmall, row_reads, note_reads}
use Rattle.cert_lines.proofs.WholeLines.{cut_line, some_line}
use Rattle.cert_merge.specs.declared.row_texts.RowText.{RowText}
use Rattle.cert_merge.specs.declared.row_texts.RowTexts.{RowTexts}
use Rattle.cert_merge.specs.Entries.{Settled}
use Rattle.cert_merge.specs.MergeSteps.{Rows, head_of, most_actions, notes_upto}
use Rattle.cert_merge.specs.RowTexts.{AreLeft, AreNoteLines, IsNoteOfJob, IsRowOfJob, TakesRow, begins_with_note, note_bytes, note_lines, notes_text, rows_text, said_text}
use Rattle.cert_merge.proofs.Flat.{IsOneOf, all_map, notes_are as notes_upto_are}
use Rattle.cert_merge.proofs.NoteBytes.{lines_before}

-- ---- the text of a row
abbrev head_bytes : Key × Settled → List ℕ
head_bytes said = line_bytes (row_line (head_of said))

abbrev behind : ℕ → Rows → List ℕ
behind stages rows = rows_text stages rows ++ codes "end\n"

row_first : (stages : ℕ) (said : Key × Settled) → said_text stages said ≡ head_bytes said ++ 10 ∷ notes_text stages said
unfolding said_text notes_text line_text
row_first stages said = append_assoc (head_bytes said) (10 ∷ []) (lines_text (note_lines stages said))

rows_first : (stages : ℕ) (said : Key × Settled) (rows : Rows) → behind stages (said ∷ rows) ≡ said_text stages said ++ behind stages rows
rows_first stages said rows = append_assoc (said_text stages said) (rows_text stages rows) (codes "end\n")

line_first : (stages : ℕ) (said : Key × Settled) (rows : Rows) → behind stages (said ∷ rows) ≡ head_bytes said ++ 10 ∷ (notes_text stages said ++ behind stages rows)
line_first stages said rows =
    rows_first stages said rows ∙ ap (λ (t : List ℕ). t ++ behind stages rows) (row_first stages said) ∙ append_assoc (head_bytes said) (10 ∷ notes_text stages said) (behind stages rows)

-- the line behind a row begins otherwise than a note's
other_behind : (stages : ℕ) (rows : Rows) → begins_with_note (behind stages rows) ≡ false
unfolding said_text line_text
other_behind stages [] = refl
other_behind stages (said ∷ rows) = refl

-- ---- its lines
pub no_feed : (bytes : List ℕ) → list_all (λ byte. not (byte == 10)) bytes ≡ true → All (λ byte. byte ≢ 10) bytes
no_feed bytes all i d within feed =
    let other = not-true (get_or bytes i d == 10) (AllPass-from_list_all (λ byte. not (byte == 10)) bytes all i d within) in
    eqb-false (get_or bytes i d) 10 other feed

within_line : (bytes more : List ℕ) → list_all (λ byte. not (byte == 10)) bytes ≡ true → AreNoteLines true more → AreNoteLines false (bytes ++ 10 ∷ more)
within_line [] more all are = are
within_line (byte ∷ bytes) more all are =
    let parts = and_parts (not (byte == 10)) (list_all (λ b. not (b == 10)) bytes) all in
    subst (λ (t : Bool). AreNoteLines t (bytes ++ 10 ∷ more)) (sym (not-true (byte == 10) parts.0)) (within_line bytes more parts.1 are)

module _ (job : JobData) (small : IsSmall job) where
  head_plain : (said : Key × Settled) → IsRowOfJob job said → ArePlain (words_of (row_line (head_of said)))
  head_plain said is = (row_reads job small).plain (said.0, said.1.worth) is.row

  pub note_plain : (note : Note) → IsNoteOfJob job note.action note.reason → ArePlain (words_of (line_of_note (stage_count job) note))
  note_plain note is =
      let among = bend_of_number (bend_count job) (stage_count job) note.action is.action in
      (note_reads job small).plain (action_at (stage_count job) note.action, note.reason) (record { first = among.0; last = among.1; stage = among.2 }, is.range)

  lines_are : (notes : List Note) → All (λ note. IsNoteOfJob job note.action note.reason) notes → AreNoteLines true (lines_text (map (line_of_note (stage_count job)) notes))
  unfolding line_text
  lines_are [] all = tt
  lines_are (note ∷ notes) all =
      let words = spelled (words_of (line_of_note (stage_count job) note)) in
      let more = lines_text (map (line_of_note (stage_count job)) notes) in (
        refl,
        subst (AreNoteLines false) (sym (append_assoc words (10 ∷ []) more))
            (within_line words more (spelled_other (words_of (line_of_note (stage_count job) note)) (note_plain note (all 0 note (omega arith)))) (lines_are notes (λ i d within. all (suc i) d (omega (arith, within))))),
      )

  notes_are : (said : Key × Settled) → IsRowOfJob job said → AreNoteLines true (notes_text (stage_count job) said)
  unfolding notes_text
  notes_are said is =
      lines_are (notes_upto 0 said.1.reasons most_actions)
      (all_map (IsOneOf 0 said.1.reasons most_actions) (λ note. IsNoteOfJob job note.action note.reason) (notes_upto 0 said.1.reasons most_actions) (λ note one. is.notes note.action note.reason one.reason) (notes_upto_are 0 said.1.reasons most_actions))

  head_other : (said : Key × Settled) → IsRowOfJob job said → All (λ byte. byte ≢ 10) (head_bytes said)
  head_other said is = no_feed (head_bytes said) (spelled_other (words_of (row_line (head_of said))) (head_plain said is))

-- ---- the first line
pub cut_is : (text line rest l r : List ℕ) → IsCut text line rest → text ≡ l ++ 10 ∷ r → All (λ byte. byte ≢ 10) l → (line ≡ l) × (rest ≡ r)
cut_is text line rest l r cut whole other =
    let lines : (line ∷ lines_in rest) ≡ (l ∷ lines_in r) = sym (ap (λ (t : List ℕ). lines_in t) cut.whole ∙ cut_line line rest cut.alone) ∙ (ap (λ (t : List ℕ). lines_in t) whole ∙ cut_line l r other) in
    let same : line ≡ l = cc in
    let parts : (line ++ 10 ∷ rest) ≡ (line ++ 10 ∷ r) = sym cut.whole ∙ whole ∙ ap (λ (t : List ℕ). t ++ 10 ∷ r) (sym same) in
    let tails : (10 ∷ rest) ≡ (10 ∷ r) = append_cancel_left line (10 ∷ rest) (10 ∷ r) parts in
    (same, cc)

not_both : (x : Key × Worth) → Some x ≡ None → ⊥
not_both x e = absurd (cc)

end_read : (bends stages : ℕ) → row_in bends stages (drop (word_length (codes "end")) (codes "end")) ≡ None
unfolding row_in key_at count_at word_at
end_read bends stages = refl

-- ---- taking a row
module _ (job : JobData) (old : RowTexts) where
  small_of : (rows : Rows) → AreLeft job rows old → IsSmall job
  small_of rows left = record { bends = subst (λ (n : ℕ). n ≤ 12) left.bends left.few_bends; stages = subst (λ (n : ℕ). n ≤ 6) left.stages left.few_stages }

  -- without a whole line there is no row
  pub none_uncut : (rows : Rows) (new : RowTexts) → AreLeft job rows old → lines_in old.rest.now ≡ old.rest.now ∷ [] → TakesRow job rows None new
  none_uncut [] new left uncut = tt
  none_uncut (said ∷ rows) new left uncut =
      let small = small_of (said ∷ rows) left in
      let first = left.rest ∙ line_first old.stages said rows in
      let r = notes_text old.stages said ++ behind old.stages rows in
      let lines : (old.rest.now ∷ []) ≡ (head_bytes said ∷ lines_in r) = sym uncut ∙ ap (λ (t : List ℕ). lines_in t) first ∙ cut_line (head_bytes said) r (head_other job small said left.each.0) in
      absurd (let none : [] ≡ lines_in r = cc in let some = some_line r in let count : 0 ≡ length (lines_in r) = ap (λ (ls : List (List ℕ)). length ls) none in omega (arith, some, count))

  module _ (line rest : List ℕ) (cut : IsCut old.rest.now line rest) where
    abbrev read : Option (Key × Worth)
    read = row_in old.bends old.stages (drop (word_length line) line)

    -- the last line is no row's
    last_line : AreLeft job [] old → read ≡ None
    last_line left =
        let same = (cut_is old.rest.now line rest (codes "end") [] cut left.rest (no_feed (codes "end") refl)).0 in
        ap (λ (l : List ℕ). row_in old.bends old.stages (drop (word_length l) l)) same ∙ end_read old.bends old.stages

    -- a row's line gives its head
    row_line_read : (said : Key × Settled) (rows : Rows) → AreLeft job (said ∷ rows) old → read ≡ Some (said.0, said.1.worth)
    row_line_read said rows left =
        let small = small_of (said ∷ rows) left in
        let r = notes_text old.stages said ++ behind old.stages rows in
        let same = (cut_is old.rest.now line rest (head_bytes said) r cut (left.rest ∙ line_first old.stages said rows) (head_other job small said left.each.0)).0 in
        let words = spelled (words_of (row_line (head_of said))) in
        ap (λ (l : List ℕ). row_in old.bends old.stages (drop (word_length l) l)) same
        ∙ (λ i. row_in (left.bends i) (left.stages i) words)
        ∙ (row_reads job small).back (said.0, said.1.worth) left.each.0.row

    pub none_read : (rows : Rows) (new : RowTexts) → AreLeft job rows old → read ≡ None → TakesRow job rows None new
    none_read [] new left none = tt
    none_read (said ∷ rows) new left none = absurd (not_both (said.0, said.1.worth) (sym (row_line_read said rows left) ∙ none))

    module _ (head : RowHead) (row : RowText) (new : RowTexts) (after : List ℕ)
        (is_read : read ≡ Some (head.key, head.worth)) (head_is : row.head ≡ head)
        (notes_are_all : row.notes.now ≡ note_bytes true rest) (whole : rest ≡ row.notes.now ++ after)
        (lines_are_all : row.lines.now ≡ take (length old.rest.now - length after) old.rest.now)
        (bends_are : new.bends ≡ old.bends) (stages_are : new.stages ≡ old.stages) (rest_is : new.rest.now ≡ after) (notes_kept : new.notes.now ≡ row.notes.now) where
      module _ (said : Key × Settled) (rows : Rows) (left : AreLeft job (said ∷ rows) old) where
        small : IsSmall job
        small = small_of (said ∷ rows) left

        abbrev own : List ℕ
        own = notes_text old.stages said

        abbrev later : List ℕ
        later = behind old.stages rows

        own_lines : AreNoteLines true own
        own_lines = subst (λ (n : ℕ). AreNoteLines true (notes_text n said)) (sym left.stages) (notes_are job small said left.each.0)

        rest_of : rest ≡ own ++ later
        rest_of = (cut_is old.rest.now line rest (head_bytes said) (own ++ later) cut (left.rest ∙ line_first old.stages said rows) (head_other job small said left.each.0)).1

        notes_own : row.notes.now ≡ own
        notes_own = notes_are_all ∙ sym (lines_before rest own later rest_of own_lines (other_behind old.stages rows)).0

        after_is : after ≡ later
        after_is = append_cancel_left own after later (ap (λ (t : List ℕ). t ++ after) (sym notes_own) ∙ sym whole ∙ rest_of)

        text_is : old.rest.now ≡ said_text old.stages said ++ later
        text_is = left.rest ∙ rows_first old.stages said rows

        lines_own : row.lines.now ≡ said_text old.stages said
        lines_own =
            let all : length old.rest.now ≡ length (said_text old.stages said) + length later = ap (λ (t : List ℕ). length t) text_is ∙ length-append (said_text old.stages said) later in
            let short : length after ≡ length later = ap (λ (t : List ℕ). length t) after_is in
            let count : length old.rest.now - length after ≡ length (said_text old.stages said) = omega (arith, all, short) in
            lines_are_all ∙ (λ i. take (count i) (text_is i)) ∙ take-append_seam (said_text old.stages said) later

        head_own : row.head ≡ head_of said
        head_own =
            let same : (head.key, head.worth) ≡ (said.0, said.1.worth) = same_Some (head.key, head.worth) (said.0, said.1.worth) (sym is_read ∙ row_line_read said rows left) in
            head_is ∙ (λ i. record { key = (same i).0; worth = (same i).1 })

        still : AreLeft job rows new
        still = record {
          bends = bends_are ∙ left.bends;
          few_bends = subst (λ (n : ℕ). n ≤ 12) (sym bends_are) left.few_bends;
          stages = stages_are ∙ left.stages;
          few_stages = subst (λ (n : ℕ). n ≤ 6) (sym stages_are) left.few_stages;
          each = left.each.1;
          rest = rest_is ∙ after_is ∙ ap (λ (n : ℕ). behind n rows) (sym stages_are);
          notes = subst (AreNoteLines true) (sym (notes_kept ∙ notes_own)) own_lines;
        }

      pub row_taken : (rows : Rows) → AreLeft job rows old → TakesRow job rows (Some row) new
      row_taken [] left = absurd (not_both (head.key, head.worth) (sym is_read ∙ last_line left))
      row_taken (said ∷ rows) left = (
        record {
          of_job = left.each.0;
          head = head_own said rows left;
          lines = lines_own said rows left ∙ ap (λ (n : ℕ). said_text n said) (sym stages_are);
          notes = notes_own said rows left ∙ ap (λ (n : ℕ). notes_text n said) (sym stages_are);
        },
        still said rows left,
      )
