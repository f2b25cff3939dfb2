-- Rows with the notes of two rows, and the notes of a text.
use Rattle.std.proofs.Common.{◌≡◌, ◌≢◌, ℕ, zero, suc, ◌*◌, ◌<◌, ◌≤◌, List, [], ◌∷◌, ◌++◌, length, map, drop, Option, Some, None, All, refl, sym, ap, subst, ◌∙◌, arith, append_assoc, append-nil, inl, inr}
use Rattle.std.proofs.lemmas.List.{length-append}
use Rattle.std.proofs.lemmas.List.Elements.{All-append, All-nil, All-cons}
use Rattle.std.specs.Prelude.{slice_index_or, AllPairs}
use Rattle.std.proofs.lemmas.Option.{same_Some}
use Rattle.brake_base.specs.declared.stroke.Action.{Action}
use Rattle.brake_base.specs.declared.stroke.Key.{Key}
use Rattle.brake_base.specs.declared.reason.Reason.{Reason}
use Rattle.brake_base.specs.Actions.{IsActionAmong, number_of_action}
use Rattle.job_setup.specs.Setup.{JobData, bend_count, stage_count}
use Rattle.cert_words.specs.LineWords.{word_length}
use Rattle.cert_words.specs.PlanWords.{note_in}
use Rattle.plan_lines.specs.declared.note.Note.{Note}
use Rattle.cert_lines.specs.LineReading.{lines_in}
use Rattle.cert_lines.specs.Lines.{line_text, lines_text, row_line, words_of, action_at}
use Rattle.plan_cert.specs.CertText.{line_of_note, rows_lines}
use Rattle.cert_lines.specs.LineReading.{IsCut}
use Rattle.plan_cert.specs.WellFormed.{NoteIsBefore}
use Rattle.plan_lines.proofs.ActionNumbers.{number_is, bend_of_number}
use Rattle.plan_lines.proofs.Actions.{few_actions}
use Rattle.plan_lines.proofs.PlanLineRead.{IsSmall, note_reads}
use Rattle.cert_lines.proofs.TextLines.{line_bytes, spelled_other}
use Rattle.cert_lines.proofs.WholeLines.{cut_line, some_line}
use Rattle.cert_lines.proofs.WordsRead.{spelled}
use Rattle.row_text.proofs.MoreRows.{more_text}
use Rattle.cert_merge.specs.declared.row_texts.RowText.{RowText}
use Rattle.cert_merge.specs.Entries.{Settled, first_reason, united}
use Rattle.cert_merge.specs.Merged.{reason_noted}
use Rattle.cert_merge.specs.MergeSteps.{head_of, most_actions, noted_as, notes_upto}
use Rattle.cert_merge.specs.RowTexts.{IsNoteOfJob, IsRowOfJob, notes_text, said_text}
use Rattle.cert_merge.specs.UnitedRows.{AreNotesOf, AreOfJob, AreOfOneRow, AreReasonsOf}
use Rattle.cert_merge.proofs.Flat.{IsOneOf, all_map, notes_are, noted_upto}
use Rattle.cert_merge.proofs.FlatForm.{upto_ordered}
use Rattle.cert_merge.proofs.Joining.{reason_once}
use Rattle.cert_merge.proofs.MergedForm.{one_reason}
use Rattle.cert_merge.proofs.PieceTexts.{notes_at, no_lines}
use Rattle.cert_merge.proofs.RowCuts.{cut_is, no_feed, note_plain}

pub among_all : (bends stages : ℕ) (action : Action) → bends ≤ 12 → IsActionAmong bends stages action → IsActionAmong 12 stages action
among_all bends stages action few is = record { first = is.first; last = let last = is.last in omega (arith, last, few); stage = is.stage }

-- ---- the notes of a text
abbrev bytes_of : ℕ → Note → List ℕ
bytes_of stages note = line_bytes (line_of_note stages note)

no_text : (line rest : List ℕ) → [] ≡ line ++ 10 ∷ rest → ⊥
no_text line rest e = absurd (let none : 0 ≡ length (line ++ 10 ∷ rest) = ap (λ (t : List ℕ). length t) e in omega (arith, none, length-append line (10 ∷ rest)))

note_first : (stages : ℕ) (note : Note) (notes : List Note) → lines_text (map (line_of_note stages) (note ∷ notes)) ≡ bytes_of stages note ++ 10 ∷ lines_text (map (line_of_note stages) notes)
unfolding line_text
note_first stages note notes = append_assoc (bytes_of stages note) (10 ∷ []) (lines_text (map (line_of_note stages) notes))

module _ (job : JobData) (bends stages : ℕ) where
  -- so many of the notes are pushed, and the text of the others is left
  pub record HasPushed (own initial pushed : List Note) (rest : List ℕ) : Type 0 where
    pub done : List Note
    pub left : List Note
    pub whole : own ≡ done ++ left
    pub items : pushed ≡ initial ++ done
    pub are_left : AreNotesOf job bends stages left rest

  pub none_pushed : (own initial : List Note) (text : List ℕ) → AreNotesOf job bends stages own text → HasPushed own initial initial text
  none_pushed own initial text are = record { done = []; left = own; whole = refl; items = sym (append-nil initial); are_left = are }

module _ (job : JobData) (bends stages : ℕ) (few_bends : bends ≤ 12) (few_stages : stages ≤ 6) where
  module _ (counts : AreOfJob job bends stages) where
    small : IsSmall job
    small = record { bends = subst (λ (n : ℕ). n ≤ 12) counts.bends_are few_bends; stages = subst (λ (n : ℕ). n ≤ 6) counts.stages_are few_stages }

    note_other : (note : Note) → IsNoteOfJob job note.action note.reason → All (λ byte. byte ≢ 10) (bytes_of stages note)
    note_other note is =
        subst (λ (n : ℕ). All (λ byte. byte ≢ 10) (bytes_of n note)) (sym counts.stages_are)
        (no_feed (bytes_of (stage_count job) note) (spelled_other (words_of (line_of_note (stage_count job) note)) (note_plain job small note is)))

    note_read : (note : Note) → IsNoteOfJob job note.action note.reason → note_in bends stages (drop (word_length (bytes_of stages note)) (bytes_of stages note)) ≡ Some (action_at stages note.action, note.reason)
    note_read note is =
        let among = bend_of_number (bend_count job) (stage_count job) note.action is.action in
        let back = (note_reads job small).back (action_at (stage_count job) note.action, note.reason) (record { first = among.0; last = among.1; stage = among.2 }, is.range) in
        (λ i. note_in (counts.bends_are i) (counts.stages_are i) (spelled (words_of (line_of_note (counts.stages_are i) note)))) ∙ back ∙ (λ i. Some (action_at (sym counts.stages_are i) note.action, note.reason))

  -- the next line is that of the next note
  module _ (rest line behind : List ℕ) (cut : IsCut rest line behind) where
    not_empty : rest ≡ [] → ⊥
    not_empty empty = no_text line behind (sym empty ∙ cut.whole)

    module _ (note : Note) (left : List Note) (are : AreNotesOf job bends stages (note ∷ left) rest) where
      here : IsNoteOfJob job note.action note.reason
      here = are.each 0 note (omega arith)

      cut_here : (line ≡ bytes_of stages note) × (behind ≡ lines_text (map (line_of_note stages) left))
      cut_here = cut_is rest line behind (bytes_of stages note) (lines_text (map (line_of_note stages) left)) cut (are.text_is ∙ note_first stages note left) (note_other are.counts note here)

      is_read : note_in bends stages (drop (word_length line) line) ≡ Some (action_at stages note.action, note.reason)
      is_read = ap (λ (l : List ℕ). note_in bends stages (drop (word_length l) l)) cut_here.0 ∙ note_read are.counts note here

      itself : record { row = 0; action = number_of_action stages (action_at stages note.action); reason = note.reason } ≡ note
      itself = λ i. record { row = sym (are.rows 0 note (omega arith)) i; action = number_is stages note.action i; reason = note.reason }

      others_of : AreNotesOf job bends stages left behind
      others_of = record {
        counts = are.counts;
        text_is = cut_here.1;
        rows = λ k d within. are.rows (suc k) d (omega (arith, within));
        each = λ k d within. are.each (suc k) d (omega (arith, within));
      }

    module _ (told : Option Note)
        (reads : (action : Action) (reason : Reason) → note_in bends stages (drop (word_length line) line) ≡ Some (action, reason)
        → told ≡ Some (record { row = 0; action = number_of_action stages action; reason = reason })) where
      pub one_pushed : (own initial pushed : List Note) (note : Note) → told ≡ Some note → HasPushed job bends stages own initial pushed rest → HasPushed job bends stages own initial (pushed ++ note ∷ []) behind
      one_pushed own initial pushed note some has = by_left has.left refl
        where
          by_left : (left : List Note) → has.left ≡ left → HasPushed job bends stages own initial (pushed ++ note ∷ []) behind
          by_left [] none = absurd (not_empty ((subst (λ (ns : List Note). AreNotesOf job bends stages ns rest) none has.are_left).text_is))
          by_left (first ∷ left) is =
              let are = subst (λ (ns : List Note). AreNotesOf job bends stages ns rest) is has.are_left in
              let same : note ≡ first = same_Some note first (sym some ∙ reads (action_at stages first.action) first.reason (is_read first left are) ∙ ap Some (itself first left are)) in
              record {
                done = has.done ++ first ∷ [];
                left = left;
                whole = has.whole ∙ ap (λ (ns : List Note). has.done ++ ns) is ∙ sym (append_assoc has.done (first ∷ []) left);
                items = (λ i. has.items i ++ same i ∷ []) ∙ append_assoc initial has.done (first ∷ []);
                are_left = others_of first left are;
              }

      pub not_none : (own initial pushed : List Note) → told ≡ None → HasPushed job bends stages own initial pushed rest → ⊥
      not_none own initial pushed none has = by_left has.left refl
        where
          both : (note : Note) → Some note ≡ None → ⊥
          both note e = absurd (cc)

          by_left : (left : List Note) → has.left ≡ left → ⊥
          by_left [] empty = not_empty ((subst (λ (ns : List Note). AreNotesOf job bends stages ns rest) empty has.are_left).text_is)
          by_left (first ∷ left) is =
              let are = subst (λ (ns : List Note). AreNotesOf job bends stages ns rest) is has.are_left in
              both first (sym (ap Some (itself first left are)) ∙ sym (reads (action_at stages first.action) first.reason (is_read first left are)) ∙ none)

  -- without a whole line all are pushed
  pub all_pushed : (own initial pushed : List Note) (rest : List ℕ) → lines_in rest ≡ rest ∷ [] → HasPushed job bends stages own initial pushed rest → pushed ≡ initial ++ own
  all_pushed own initial pushed rest uncut has = by_left has.left refl
    where
      by_left : (left : List Note) → has.left ≡ left → pushed ≡ initial ++ own
      by_left [] none = has.items ∙ ap (λ (ns : List Note). initial ++ ns) (sym (has.whole ∙ ap (λ (ns : List Note). has.done ++ ns) none ∙ append-nil has.done))
      by_left (note ∷ left) is =
          let are = subst (λ (ns : List Note). AreNotesOf job bends stages ns rest) is has.are_left in
          let later = lines_text (map (line_of_note stages) left) in
          let lines : (rest ∷ []) ≡ (bytes_of stages note ∷ lines_in later) =
          sym uncut ∙ ap (λ (t : List ℕ). lines_in t) (are.text_is ∙ note_first stages note left) ∙ cut_line (bytes_of stages note) later (note_other are.counts note (are.each 0 note (omega arith))) in
          absurd (let none : [] ≡ lines_in later = cc in let some = some_line later in let count : 0 ≡ length (lines_in later) = ap (λ (ls : List (List ℕ)). length ls) none in omega (arith, some, count))

-- a text is that of one list of notes
pub one_text_of_notes : (job : JobData) (bends stages : ℕ) → bends ≤ 12 → stages ≤ 6 → (notes others : List Note) (text : List ℕ) → AreNotesOf job bends stages notes text → AreNotesOf job bends stages others text → notes ≡ others
one_text_of_notes job bends stages few_bends few_stages [] [] text one two = refl
one_text_of_notes job bends stages few_bends few_stages [] (other ∷ others) text one two = absurd (no_text (bytes_of stages other) (lines_text (map (line_of_note stages) others)) (sym one.text_is ∙ two.text_is ∙ note_first stages other others))
one_text_of_notes job bends stages few_bends few_stages (note ∷ notes) [] text one two = absurd (no_text (bytes_of stages note) (lines_text (map (line_of_note stages) notes)) (sym two.text_is ∙ one.text_is ∙ note_first stages note notes))
one_text_of_notes job bends stages few_bends few_stages (note ∷ notes) (other ∷ others) text one two =
    let later = lines_text (map (line_of_note stages) notes) in
    let cut : IsCut text (bytes_of stages note) later = record { whole = one.text_is ∙ note_first stages note notes; alone = note_other job bends stages few_bends few_stages one.counts note (one.each 0 note (omega arith)) } in
    let first = is_read job bends stages few_bends few_stages text (bytes_of stages note) later cut note notes one in
    let second = is_read job bends stages few_bends few_stages text (bytes_of stages note) later cut other others two in
    let same : (action_at stages note.action, note.reason) ≡ (action_at stages other.action, other.reason) =
    same_Some (action_at stages note.action, note.reason) (action_at stages other.action, other.reason) (sym first ∙ second) in
    let head : note ≡ other =
    sym (itself job bends stages few_bends few_stages text (bytes_of stages note) later cut note notes one) ∙ (λ i. record { row = 0; action = number_of_action stages (same i).0; reason = (same i).1 }) ∙ itself job bends stages few_bends few_stages text (bytes_of stages note) later cut other others two in
    let tail = one_text_of_notes job bends stages few_bends few_stages notes others later (others_of job bends stages few_bends few_stages text (bytes_of stages note) later cut note notes one) (others_of job bends stages few_bends few_stages text (bytes_of stages note) later cut other others two) in
    λ i. head i ∷ tail i

pub few_more : (notes : List Note) (note : Note) → All (λ n. n.action < 144) notes → note.action < 144 → All (λ n. n.action < 144) (notes ++ note ∷ [])
few_more notes note all less = All-append (λ (n : Note). n.action < 144) notes (note ∷ []) all (All-cons (λ (n : Note). n.action < 144) note [] less (All-nil (λ (n : Note). n.action < 144)))

-- ---- the reasons of a row's text
module _ (job : JobData) (bends stages : ℕ) (said : Key × Settled) (is : IsRowOfJob job said) where
  abbrev own : List Note
  own = notes_upto 0 said.1.reasons most_actions

  pub notes_there : (text : List ℕ) → AreOfJob job bends stages → text ≡ notes_text stages said → AreNotesOf job bends stages own text
  unfolding notes_text
  notes_there text counts text_is = record {
    counts = counts;
    text_is = text_is;
    rows = all_map (IsOneOf 0 said.1.reasons most_actions) (λ note. note.row ≡ 0) own (λ note one. one.here) (notes_are 0 said.1.reasons most_actions);
    each = all_map (IsOneOf 0 said.1.reasons most_actions) (λ note. IsNoteOfJob job note.action note.reason) own (λ note one. is.notes note.action note.reason one.reason) (notes_are 0 said.1.reasons most_actions);
  }

  pub reason_there : (notes : List Note) (told : Option Reason) (action : ℕ) → notes ≡ own → action < 144 → (All (λ note. note.row ≡ 0) notes → told ≡ reason_noted notes 0 action) → told ≡ said.1.reasons action
  unfolding most_actions
  reason_there notes told action same less tells =
      tells (subst (λ (ns : List Note). All (λ note. note.row ≡ 0) ns) (sym same) (all_map (IsOneOf 0 said.1.reasons most_actions) (λ note. note.row ≡ 0) own (λ note one. one.here) (notes_are 0 said.1.reasons most_actions)))
      ∙ ap (λ (ns : List Note). reason_noted ns 0 action) same ∙ noted_upto 0 said.1.reasons most_actions action less

pub reasons_there : (bends stages : ℕ) (text : List ℕ) (notes : List Note) (reasons : List (Option Reason))
    → ((job : JobData) (own : List Note) → AreNotesOf job bends stages own text → notes ≡ [] ++ own)
    → ((row action : ℕ) → All (λ note. note.row ≡ row) notes → slice_index_or reasons action None ≡ reason_noted notes row action) → AreReasonsOf bends stages text reasons
reasons_there bends stages text notes reasons pushed tells job said counts is text_is action less =
    reason_there job bends stages said is notes (slice_index_or reasons action None) action (pushed job (notes_upto 0 said.1.reasons most_actions) (notes_there job bends stages said is text counts text_is)) less (tells 0 action)

-- ---- a row with the notes of both
upto_same : (row count : ℕ) (r s : ℕ → Option Reason) → ((action : ℕ) → action < count → r action ≡ s action) → notes_upto row r count ≡ notes_upto row s count
upto_same row zero r s same = refl
upto_same row (suc count) r s same = λ i. upto_same row count r s (λ action less. same action (omega (arith, less))) i ++ noted_as row count (same count (omega arith) i)

module _ (job : JobData) (bends stages : ℕ) (x y : Key × Settled) (first second : RowText) (are : AreOfOneRow job bends stages x y first second) where
  abbrev both : Settled
  both = united x.1 y.1

  abbrev both_notes : List Note
  both_notes = notes_upto 0 both.reasons most_actions

  module _ (few_bends : bends ≤ 12) (own other reasons : List (Option Reason)) (own_is : AreReasonsOf bends stages first.notes.now own) (other_is : AreReasonsOf bends stages second.notes.now other)
      (are_united : (action : ℕ) → slice_index_or reasons action None ≡ first_reason (slice_index_or own action None) (slice_index_or other action None)) where
    abbrev told : ℕ → Option Reason
    told action = slice_index_or reasons action None

    told_is : (action : ℕ) → action < 144 → told action ≡ both.reasons action
    told_is action less =
        are_united action
        ∙ (λ i. first_reason (own_is job x are.counts are.first_is.of_job are.first_is.notes action less i) (other_is job y are.counts are.second_is.of_job are.second_is.notes action less i))

    notes_same : notes_upto 0 told most_actions ≡ both_notes
    unfolding most_actions
    notes_same = upto_same 0 most_actions told both.reasons told_is

    note_of_job : (note : Note) → IsOneOf 0 both.reasons most_actions note → note.action < 24 * stages
    note_of_job note one =
        let of : IsNoteOfJob job note.action note.reason = elim (one_reason (x.1.reasons note.action) (y.1.reasons note.action) note.reason one.reason) [
          | inl is ↦ are.first_is.of_job.notes note.action note.reason is
          | inr is ↦ are.second_is.of_job.notes note.action note.reason is
        ] in
        subst (λ (n : ℕ). note.action < 24 * n) (sym are.counts.stages_are)
        (few_actions note.action (bend_count job) (stage_count job) (subst (λ (n : ℕ). n ≤ 12) are.counts.bends_are few_bends) of.action)

    module _ (notes : List Note) (notes_are_all : notes ≡ [] ++ notes_upto 0 told most_actions) where
      pub few_there : All (λ note. note.action < 24 * stages) notes
      few_there = subst (λ (ns : List Note). All (λ note. note.action < 24 * stages) ns) (sym (notes_are_all ∙ notes_same)) (all_map (IsOneOf 0 both.reasons most_actions) (λ note. note.action < 24 * stages) both_notes note_of_job (notes_are 0 both.reasons most_actions))

      pub order_there : AllPairs NoteIsBefore notes
      order_there = subst (λ (ns : List Note). AllPairs NoteIsBefore ns) (sym notes_are_all) (upto_ordered 0 told most_actions)

      pub text_there : lines_text (rows_lines stages (first.head ∷ []) notes) ≡ said_text stages (x.0, both)
      unfolding said_text
      text_there =
          (λ i. lines_text (rows_lines stages (are.first_is.head i ∷ []) ((notes_are_all ∙ notes_same) i)))
          ∙ more_text stages [] (head_of x) [] both_notes (λ k d within. absurd (omega (arith, within))) (notes_at 0 both.reasons most_actions)
          ∙ ap (λ (t : List ℕ). t ++ lines_text (row_line (head_of x) ∷ map (line_of_note stages) both_notes)) (no_lines stages)

-- rows with one text of notes have the same reasons
pub same_reasons : (job : JobData) (bends stages : ℕ) (x y : Key × Settled) → bends ≤ 12 → stages ≤ 6 → AreOfJob job bends stages → IsRowOfJob job x → IsRowOfJob job y → notes_text stages x ≡ notes_text stages y
    → (action : ℕ) → action < 144 → x.1.reasons action ≡ y.1.reasons action
unfolding most_actions
same_reasons job bends stages x y few_bends few_stages counts is_x is_y same action less =
    let own = notes_upto 0 x.1.reasons most_actions in
    let other = notes_upto 0 y.1.reasons most_actions in
    let notes : own ≡ other =
    one_text_of_notes job bends stages few_bends few_stages own other (notes_text stages x) (notes_there job bends stages x is_x (notes_text stages x) counts refl) (notes_there job bends stages y is_y (notes_text stages x) counts same) in
    sym (noted_upto 0 x.1.reasons most_actions action less) ∙ ap (λ (ns : List Note). reason_noted ns 0 action) notes ∙ noted_upto 0 y.1.reasons most_actions action less

-- what is said by both is the text of the first
pub said_same : (stages : ℕ) (key : Key) (a b : Settled) → ((action : ℕ) → action < 144 → a.reasons action ≡ b.reasons action) → said_text stages (key, united a b) ≡ said_text stages (key, a)
unfolding said_text most_actions
said_same stages key a b same =
    ap (λ (ns : List Note). lines_text (row_line (head_of (key, a)) ∷ map (line_of_note stages) ns))
    (upto_same 0 most_actions (united a b).reasons a.reasons (λ action less. ap (λ (r : Option Reason). first_reason (a.reasons action) r) (sym (same action less)) ∙ reason_once (a.reasons action)))
