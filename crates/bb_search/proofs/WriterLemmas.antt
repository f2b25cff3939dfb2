-- What a writer knows of a pool's reasons, and the text that it writes of a row.
use Rattle.std.proofs.Common.{◌≡◌, ◌≢◌, inl, inr, ◌⊎◌, ℕ, zero, suc, ◌+◌, ◌*◌, ◌/◌, ◌%◌, ◌<◌, ◌||◌, ◌&&◌, ◌==◌, not, nat_lt, Bool, true, false, if◌then◌else◌, List, [], ◌∷◌, ◌++◌, map, filter, Some, IsTrue, arith, refl, sym, ◌∙◌, ap, subst, true≢false}
use Rattle.std.specs.Prelude.{slice_get, is_some, All}
use Rattle.std.proofs.lemmas.List.{map-append}
use Rattle.std.proofs.lemmas.Option.{slice_get_within, get_or_from_slice_get, same_Some}
use Rattle.std.proofs.lemmas.Bool.{cases_eq, or_left, or_right, and_from, and_parts}
use Rattle.brake_base.specs.declared.mask.Mask.{Mask}
use Rattle.brake_base.specs.declared.stroke.Key.{Key}
use Rattle.brake_base.specs.declared.stroke.Action.{Action}
use Rattle.brake_base.specs.declared.reason.Reason.{Reason}
use Rattle.brake_base.specs.Actions.{IsActionAmong, number_of_action}
use Rattle.stage_lanes.specs.declared.actions.ActionSet.{ActionSet}
use Rattle.stage_lanes.specs.ActionSets.{has_place, place_of, ArePlaces, IsNone, numbers_below, places_of}
use Rattle.cert_lines.specs.declared.row_head.RowHead.{RowHead}
use Rattle.plan_lines.specs.declared.note.Note.{Note}
use Rattle.cert_lines.specs.Lines.{CertLine, lines_text, row_line}
use Rattle.plan_cert.specs.CertText.{line_of_note}
use Rattle.row_pool.specs.Index.{HasPlace}
use Rattle.row_pool.specs.Rows.{Pool, PoolRow, keys, reason_at, common_at}
use Rattle.plan_lines.specs.NoteLines.{number_at}
use Rattle.row_text.specs.Notes.{SetNotes, IsAmong, note_at, notes_of}
use Rattle.row_text.specs.Notes.{reason_at as reason_of}
use Rattle.plan_lines.proofs.NoteSets.{one_more, skip, keep, number_of_place}
use Rattle.bb_search.specs.CertRows.{IsHeadOf}
use Rattle.bb_search.specs.WrittenRows.{AreWritable, IsWriterOf, is_noted, noted_places, known, row_note, row_notes, row_text}
use Rattle.bb_search.proofs.CertLemmas.{mapped}
use Rattle.bb_search.proofs.WrittenNotes.{noted_reason}
use Rattle.bb_search.proofs.WrittenLemmas.{row_text_is}

-- ---- one reason more
equal : (m n : ℕ) → m ≡ n → (m == n) ≡ true
equal m n h = grind arith

differ : (m n : ℕ) → m ≢ n → (m == n) ≡ false
differ m n h = grind arith

left_of : (s t : Bool) → (s || t) ≡ true → t ≡ false → s ≡ true
left_of true t e f = refl
left_of false t e f = absurd cc

module _ (pool : Pool) (stages : ℕ) (before after : SetNotes) (action : Action) (reason : Reason) (among : IsActionAmong 12 8 action) (same_stages : after.stages ≡ before.stages) (same_mask : after.mask ≡ before.mask)
    (known : ArePlaces after.known (λ place. has_place before.known place || place == place_of action))
    (reasons : (number : ℕ) → reason_of after number ≡ (if number == number_of_action before.stages action then reason else reason_of before number))
    (common : common_at pool before.mask (number_of_action stages action) ≡ Some reason) (writer : IsWriterOf pool stages before) where
  own : (place : ℕ) → place < 192 → IsTrue (has_place after.known place) → common_at pool before.mask (number_at before.stages place) ≡ Some (reason_of after (number_at before.stages place))
  own place within is =
      let number = number_at before.stages place in
      let here = number_of_action before.stages action in
      elim (cases_eq number here) [
        | inl same ↦
            ap (common_at pool before.mask) (same ∙ ap (λ (s : ℕ). number_of_action s action) writer.its_stages) ∙ common
            ∙ ap Some (sym (reasons number ∙ ap (λ (t : Bool). if t then reason else reason_of before number) (equal number here same)))
        | inr apart ↦
            let other : (place == place_of action) ≡ false = differ place (place_of action) (λ e. apart (ap (number_at before.stages) e ∙ number_of_place before.stages action among.stage)) in
            writer.its_reasons place within (left_of (has_place before.known place) (place == place_of action) (sym (known place within) ∙ is) other)
            ∙ ap Some (sym (reasons number ∙ ap (λ (t : Bool). if t then reason else reason_of before number) (differ number here apart)))
      ]

  pub reason_more : IsWriterOf pool stages after
  reason_more = record {
    its_stages = same_stages ∙ writer.its_stages;
    its_reasons = λ place within is.
        (λ i. common_at pool (same_mask i) (number_at (same_stages i) place)) ∙ own place within is ∙ ap (λ (s : ℕ). Some (reason_of after (number_at s place))) (sym same_stages);
  }

-- each of some actions waits or is known
abbrev pub AreWaiting : ActionSet → ActionSet → ActionSet → Type 0
AreWaiting actions rest known =
    (place : ℕ) → place < 192 → IsTrue (has_place actions place) → IsTrue (has_place rest place) ⊎ IsTrue (has_place known place)

pub waiting_less : (actions rest less known more : ActionSet) (here : ℕ) → ArePlaces less (λ place. has_place rest place && not (place == here)) → ArePlaces more (λ place. has_place known place || place == here) → AreWaiting actions rest known → AreWaiting actions less more
waiting_less actions rest less known more here fewer further are place within is = elim (cases_eq place here) [
  | inl same ↦ inr (further place within ∙ or_right (has_place known place) (place == here) (equal place here same))
  | inr apart ↦ elim (are place within is) [
    | inl waits ↦ inl (fewer place within ∙ and_from (has_place rest place) (not (place == here)) waits (ap not (differ place here apart)))
    | inr there ↦ inr (further place within ∙ or_left (has_place known place) (place == here) there)
  ]
]

pub none_waits : (actions rest known : ActionSet) → IsNone rest → AreWaiting actions rest known → IsAmong actions known
none_waits actions rest known none are place within is = elim (are place within is) [
  | inl waits ↦ absurd (true≢false (sym waits ∙ none place within))
  | inr there ↦ there
]

pub known_stays : (first known more : ActionSet) (here : ℕ) → ArePlaces more (λ place. has_place known place || place == here) → IsAmong first known → IsAmong first more
known_stays first known more here further are place within is = further place within ∙ or_left (has_place known place) (place == here) (are place within is)

pub left_among : (actions rest less : ActionSet) (here : ℕ) → ArePlaces less (λ place. has_place rest place && not (place == here)) → IsAmong rest actions → IsAmong less actions
left_among actions rest less here fewer are place within is = are place within (and_parts (has_place rest place) (not (place == here)) (sym (fewer place within) ∙ is)).0

-- what isn't known yet and what is known are all
pub all_known : (notes unknown known more : ActionSet) → ArePlaces unknown (λ place. has_place notes place && not (has_place known place)) → IsAmong unknown more → IsAmong known more → IsAmong notes more
all_known notes unknown known more left news olds place within is = elim (cases (has_place known place)) [
  | inl there ↦ olds place within there
  | inr out ↦ news place within (left place within ∙ and_from (has_place notes place) (not (has_place known place)) is (ap not out))
]
  where
    cases : (b : Bool) → (b ≡ true) ⊎ (b ≡ false)
    cases true = inl refl
    cases false = inr refl

-- ---- the reasons of a row
-- the reasons of a row are the common ones
pub commons : (pool : Pool) (row : ℕ) (head : RowHead) (mask : Mask) → IsHeadOf pool.rows row head → mask ≡ head.key.mask
    → ((key : Key) (number : ℕ) (reason : Reason) → slice_get (keys pool) row ≡ Some key → reason_at pool row number ≡ Some reason → common_at pool key.mask number ≡ Some reason)
    → (number : ℕ) (reason : Reason) → reason_at pool row number ≡ Some reason → common_at pool mask number ≡ Some reason
commons pool row head mask is same all number reason has =
    ap (λ (m : Mask). common_at pool m number) same ∙ all head.key number reason (mapped (λ (r : PoolRow). r.key) pool.rows row is.0 is.1 ∙ ap Some is.2) has

-- two lists of notes are one, where the tests of places and the notes of those that pass are
same_notes : (f g : ℕ → Bool) (s t : ℕ → Note) (n : ℕ) → ((k : ℕ) → k < n → f k ≡ g k) → ((k : ℕ) → k < n → f k ≡ true → s k ≡ t k) → map s (filter f (numbers_below n)) ≡ map t (filter g (numbers_below n))
same_notes f g s t zero tests same = refl
same_notes f g s t (suc n) tests same =
    ap (map s) (one_more f n) ∙ map-append s (filter f (numbers_below n)) (filter f (n ∷ []))
    ∙ ap (λ (ns : List Note). ns ++ map s (filter f (n ∷ []))) (same_notes f g s t n (λ k lt. tests k (omega (arith, lt))) (λ k lt. same k (omega (arith, lt))))
    ∙ ap (λ (ns : List Note). map t (filter g (numbers_below n)) ++ ns) (last (f n) refl)
    ∙ sym (ap (map t) (one_more g n) ∙ map-append t (filter g (numbers_below n)) (filter g (n ∷ [])))
  where
    here : f n ≡ g n
    here = tests n (omega arith)

    last : (b : Bool) → f n ≡ b → map s (filter f (n ∷ [])) ≡ map t (filter g (n ∷ []))
    last true pass = ap (map s) (keep f n pass) ∙ ap (λ (note : Note). note ∷ []) (same n (omega arith) pass) ∙ sym (ap (map t) (keep g n (sym here ∙ pass)))
    last false fail = ap (map s) (skip f n fail) ∙ sym (ap (map t) (skip g n (sym here ∙ fail)))

-- the row is written with them
module _ (pool : Pool) (stages row others : ℕ) (head : RowHead) (notes : ActionSet) (said : SetNotes) (is_head : IsHeadOf pool.rows row head) (other : others ≡ stages)
    (are : ArePlaces notes (λ place. nat_lt (place % 8) others && is_some (reason_at pool row (place / 8 * others + place % 8)))) (writer : IsWriterOf pool stages said) (among : IsAmong notes said.known)
    (common : (number : ℕ) (reason : Reason) → reason_at pool row number ≡ Some reason → common_at pool said.mask number ≡ Some reason) where
  tested : (k : ℕ) → k < 192 → has_place notes k ≡ is_noted pool stages row k
  tested k lt = are k lt ∙ ap (λ (s : ℕ). nat_lt (k % 8) s && is_some (reason_at pool row (k / 8 * s + k % 8))) other

  noted : (k : ℕ) → k < 192 → has_place notes k ≡ true → note_at said 0 k ≡ row_note pool stages row 0 k
  noted k lt is =
      let number = number_at said.stages k in
      let there : reason_at pool row number ≡ Some (known (reason_at pool row number)) =
      subst (λ (s : ℕ). reason_at pool row (number_at s k) ≡ Some (known (reason_at pool row (number_at s k)))) (sym writer.its_stages) (noted_reason pool stages row k (sym (tested k lt) ∙ is)) in
      let value : reason_of said number ≡ known (reason_at pool row number) =
      same_Some (reason_of said number) (known (reason_at pool row number)) (sym (writer.its_reasons k lt (among k lt is)) ∙ common number (known (reason_at pool row number)) there) in
      let own : note_at said 0 k ≡ row_note pool said.stages row 0 k = λ i. record { row = 0; action = number; reason = value i } in
      own ∙ ap (λ (s : ℕ). row_note pool s row 0 k) writer.its_stages

  all_noted : notes_of said 0 notes ≡ row_notes pool stages row 0
  unfolding places_of noted_places
  all_noted = same_notes (has_place notes) (is_noted pool stages row) (note_at said 0) (row_note pool stages row 0) 192 tested noted

  pub row_written : (old new : List ℕ) → new ≡ old ++ lines_text (row_line head ∷ map (line_of_note said.stages) (notes_of said 0 notes)) → new ≡ old ++ row_text pool stages row
  row_written old new told =
      told
      ∙ ap (λ (ls : List CertLine). old ++ lines_text (row_line head ∷ ls))
      ((λ i. map (line_of_note (writer.its_stages i)) (notes_of said 0 notes)) ∙ ap (map (line_of_note stages)) all_noted)
      ∙ ap (λ (t : List ℕ). old ++ t) (sym (row_text_is pool stages row head is_head))

-- ---- the keys of rows
pub placed_at : (pool : Pool) (places : ℕ) → All (HasPlace places) (keys pool) → (row : ℕ) (it : PoolRow) → slice_get pool.rows row ≡ Some it → HasPlace places it.key
placed_at pool places placed row it at =
    let there = mapped (λ (r : PoolRow). r.key) pool.rows row it at in
    subst (HasPlace places) (get_or_from_slice_get (keys pool) row it.key it.key there) (placed row it.key (slice_get_within (keys pool) row it.key there))

pub stage_of_head : (pool : Pool) (stages : ℕ) → AreWritable stages pool → (row : ℕ) (head : RowHead) → IsHeadOf pool.rows row head → head.key.stage < stages
stage_of_head pool stages writable row head is =
    let has = placed_at pool pool.actions writable.placed row is.0 is.1 in
    let stage = subst (λ (k : Key). k.stage < pool.actions / 24) is.2 has.stage in
    let actions = writable.actions in
    omega (arith, stage, actions)
