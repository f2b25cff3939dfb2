-- The lines that are kept are those of the notes.
use Rattle.std.proofs.Common.{◌≡◌, ◌≢◌, ℕ, suc, ◌%◌, ◌<◌, ◌≤◌, Bool, true, false, ◌&&◌, ◌||◌, not, ◌==◌, List, [], ◌++◌, length, map, set, get_or, refl, ap, sym, ◌∙◌, subst, arith, append_assoc, inl, inr}
use Rattle.std.specs.List.{flat_map}
use Rattle.std.proofs.lemmas.List.{get_or-set_same, get_or-set_other}
use Rattle.std.proofs.lemmas.List.Folds.{flat_map-map}
use Rattle.std.proofs.lemmas.Bool.{cases_eq}
use Rattle.brake_base.specs.declared.stroke.Action.{Action}
use Rattle.brake_base.specs.declared.reason.Reason.{Reason}
use Rattle.brake_base.specs.declared.reason.Reason.TheVariants.{Cover}
use Rattle.brake_base.specs.Actions.{IsActionAmong, number_of_action}
use Rattle.stage_lanes.specs.declared.actions.ActionSet.{ActionSet}
use Rattle.stage_lanes.specs.ActionSets.{has_place, place_of, places_of, ArePlaces, IsNone, IsFirst}
use Rattle.cert_lines.specs.Lines.{line_text, lines_text, note_line, action_at}
use Rattle.plan_cert.specs.CertText.{line_of_note}
use Rattle.plan_lines.specs.NoteLines.{number_at}
use Rattle.row_text.specs.Notes.{SetNotes, IsAmong, AreOfStages, note_at, notes_of}
use Rattle.row_text.specs.Blocks.{block_text, IsFirstSplit}
use Rattle.row_text.specs.Writer.{AreLines}
use Rattle.row_text.proofs.ActionPlaces.{among_eight, action_of_place, action_at_number, same_place}
use Rattle.plan_lines.proofs.NoteSets.{first_place, no_places, number_of_place, stage_of_place, place_below}
use Rattle.row_text.proofs.SetLists.{same_texts}

pub stages_of_some : (stages : ℕ) (set other : ActionSet) → IsAmong set other → AreOfStages stages other → AreOfStages stages set
stages_of_some stages set other among are place within is = are place within (among place within is)

-- a set's kept lines, one after the other, are the text of its notes
pub block_is : (said : SetNotes) (row : ℕ) (lines : List (List ℕ)) (set : ActionSet) → AreOfStages said.stages said.known → AreLines said lines → IsAmong set said.known
    → block_text lines set ≡ lines_text (map (line_of_note said.stages) (notes_of said row set))
block_is said row lines set stages are among =
    same_texts set _ (λ place. line_text (line_of_note said.stages (note_at said row place)))
    (λ place within is.
    are place within (among place within is)
    ∙ ap (λ (action : Action). line_text (note_line action (get_or said.reasons (number_at said.stages place) Cover))) (sym (action_at_number said.stages place (stages place within (among place within is)))))
    ∙ sym (flat_map-map line_text (line_of_note said.stages) (notes_of said row set) ∙ flat_map-map (λ note. line_text (line_of_note said.stages note)) (note_at said row) (places_of set))

-- ---- one line more
either : (s t : Bool) → (s || t) ≡ true → t ≡ false → s ≡ true
either true t e f = refl
either false t e f = absurd cc

known_before : (old : Bool) (place here : ℕ) → (old || (place == here)) ≡ true → place ≢ here → old ≡ true
known_before old place here is apart = either old (place == here) is (differ place here apart)
  where
    differ : (m n : ℕ) → m ≢ n → (m == n) ≡ false
    differ m n h = grind arith

-- the actions that have a reason after one more has
pub stages_more : (stages : ℕ) (known more : ActionSet) (action : Action) → stages ≤ 6 → IsActionAmong 12 stages action → ArePlaces more (λ place. has_place known place || place == place_of action) → AreOfStages stages known → AreOfStages stages more
stages_more stages known more action few among are all place within is = elim (cases_eq place (place_of action)) [
  | inl here ↦
      let eight = among_eight stages action (omega (arith, few)) among in
      subst (λ (p : ℕ). p % 8 < stages) (sym here) (subst (λ (s : ℕ). s < stages) (sym (stage_of_place action eight.stage)) among.stage)
  | inr apart ↦ all place within (known_before (has_place known place) place (place_of action) (sym (are place within) ∙ is) apart)
]

pub lines_more : (said after : SetNotes) (lines : List (List ℕ)) (action : Action) (reason : Reason) (line : List ℕ) → said.stages ≤ 6 → IsActionAmong 12 said.stages action
    → after.stages ≡ said.stages → ArePlaces after.known (λ place. has_place said.known place || place == place_of action) → after.reasons ≡ set said.reasons (number_of_action said.stages action) reason
    → place_of action < length lines → number_of_action said.stages action < length said.reasons → line ≡ line_text (note_line action reason)
    → AreOfStages said.stages said.known → AreLines said lines → AreLines after (set lines (place_of action) line)
lines_more said after lines action reason line few among stages known reasons fits fits_too told all are place within is =
    rw (stages, reasons) (elim (cases_eq place (place_of action)) [
      | inl here ↦
          let at : number_at said.stages place ≡ number = ap (λ (p : ℕ). number_at said.stages p) here ∙ number_of_place said.stages action eight.stage in
          ap (λ (p : ℕ). get_or (set lines (place_of action) line) p []) here ∙ get_or-set_same lines (place_of action) line [] fits ∙ told
          ∙ (λ i. line_text (note_line (same here i) (sym (ap (λ (n : ℕ). get_or (set said.reasons number reason) n Cover) at ∙ get_or-set_same said.reasons number reason Cover fits_too) i)))
      | inr apart ↦
          let before = known_before (has_place said.known place) place (place_of action) (sym (known place within) ∙ is) apart in
          let other : number_at said.stages place ≢ number = λ e. apart (same_place said.stages place (place_of action) (all place within before) (subst (λ (s : ℕ). s < said.stages) (sym (stage_of_place action eight.stage)) among.stage) (e ∙ sym (number_of_place said.stages action eight.stage))) in
          get_or-set_other lines (place_of action) place line [] apart ∙ are place within before
          ∙ ap (λ (r : Reason). line_text (note_line (action_at 8 place) r)) (sym (get_or-set_other said.reasons number (number_at said.stages place) reason Cover other))
    ])
  where
    number : ℕ
    number = number_of_action said.stages action

    eight : IsActionAmong 12 8 action
    eight = among_eight said.stages action (omega (arith, few)) among

    same : place ≡ place_of action → action ≡ action_at 8 place
    same here = action_of_place action eight ∙ ap (λ (p : ℕ). action_at 8 p) (sym here)

-- no action has a reason
pub lines_of_none : (said : SetNotes) (lines : List (List ℕ)) → IsNone said.known → AreLines said lines
lines_of_none said lines none place within is = absurd (clash (has_place said.known place) is (none place within))
  where
    clash : (t : Bool) → t ≡ true → t ≡ false → ⊥
    clash t p q = cc

pub stages_of_none : (stages : ℕ) (set : ActionSet) → IsNone set → AreOfStages stages set
stages_of_none stages set none place within is = absurd (clash (has_place set place) is (none place within))
  where
    clash : (t : Bool) → t ≡ true → t ≡ false → ⊥
    clash t p q = cc

-- ---- line by line
-- the first action of a set is one of so many stages
pub first_among : (stages : ℕ) (set : ActionSet) (action : Action) → AreOfStages stages set → IsFirst set action → IsActionAmong 12 stages action
first_among stages set action stages_are first = let among = first.among in record {
  first = among.first;
  last = among.last;
  stage = subst (λ (s : ℕ). s < stages) (stage_of_place action among.stage) (stages_are (place_of action) (place_below action among) first.member);
}

-- what is left without its first action has a line less
pub fewer : (set rest : ActionSet) (action : Action) → IsFirst set action → ArePlaces rest (λ place. has_place set place && not (place == place_of action)) → length (places_of rest) < length (places_of set)
fewer set rest action first left =
    let same = first_place set rest (place_of action) (place_below action first.among) first.member first.none_before left in
    let count : length (places_of set) ≡ suc (length (places_of rest)) = ap (λ (ps : List ℕ). length ps) same in
    omega (arith, count)

-- a set's first action and what is left without it
pub split : (set rest : ActionSet) (action : Action) (place : ℕ) → IsFirst set action → place ≡ place_of action → ArePlaces rest (λ other. has_place set other && not (other == place_of action)) → IsFirstSplit set place rest
split set rest action place first is left = rw is (record {
  within = place_below action first.among;
  member = first.member;
  none_before = first.none_before;
  without = left;
})

-- what is left has a line less
pub fewer_split : (set rest : ActionSet) (place : ℕ) → IsFirstSplit set place rest → length (places_of rest) < length (places_of set)
fewer_split set rest place s =
    let count : length (places_of set) ≡ suc (length (places_of rest)) = ap (λ (ps : List ℕ). length ps) (first_place set rest place s.within s.member s.none_before s.without) in
    omega (arith, count)

-- one line more
pub block_more : (lines : List (List ℕ)) (set rest : ActionSet) (place : ℕ) (line before after whole : List ℕ) → IsFirstSplit set place rest
    → line ≡ get_or lines place [] → before ++ block_text lines set ≡ whole → after ≡ before ++ line → after ++ block_text lines rest ≡ whole
block_more lines set rest place line before after whole s is told put =
    let all : block_text lines set ≡ get_or lines place [] ++ block_text lines rest =
    ap (λ (ps : List ℕ). flat_map (λ here. get_or lines here []) ps) (first_place set rest place s.within s.member s.none_before s.without) in
    ap (λ (t : List ℕ). t ++ block_text lines rest) (put ∙ ap (λ (t : List ℕ). before ++ t) is)
    ∙ append_assoc before (get_or lines place []) (block_text lines rest)
    ∙ ap (λ (t : List ℕ). before ++ t) (sym all) ∙ told

-- no line is left
pub block_done : (lines : List (List ℕ)) (set : ActionSet) → IsNone set → block_text lines set ≡ []
block_done lines set none = ap (λ (ps : List ℕ). flat_map (λ place. get_or lines place []) ps) (no_places set none)

-- ---- whether all have a reason
pub all_known : (notes known left : ActionSet) → ArePlaces left (λ place. has_place notes place && not (has_place known place)) → IsAmong notes known → IsNone left
all_known notes known left are among place within = are place within ∙ nothing (has_place notes place) (has_place known place) (among place within)
  where
    nothing : (s t : Bool) → (s ≡ true → t ≡ true) → (s && not t) ≡ false
    nothing true t f = ap (λ (b : Bool). true && not b) (f refl)
    nothing false t f = refl
