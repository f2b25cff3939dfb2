-- Sets of noted actions, and the first note whose reason doesn't hold, as notes and rows come.
use Rattle.std.proofs.Common.{◌≡◌, ◌≢◌, inl, inr, ℕ, ◌*◌, ◌^◌, ◌<◌, ◌==◌, ◌&&◌, ◌||◌, Bool, true, false, List, [], ◌∷◌, ◌++◌, length, set, get_or, IsTrue, Option, Some, None, refl, sym, ◌∙◌, ap, subst, arith, length-set}
use Rattle.std.specs.Prelude.{All, Contains, take, drop}
use Rattle.std.proofs.Math.Seq.{drop-length}
use Rattle.std.proofs.lemmas.Bool.{cases_lt}
use Rattle.std.proofs.lemmas.Bool.Decides.{eqb_tells}
use Rattle.std.proofs.lemmas.List.{length_push, append-nil, take_all, get_or_default, get_or_push, get_or_append_left, get_or-set_same, get_or-set_other, append_assoc}
use Rattle.std.proofs.lemmas.List.Elements.{All-append, All-cons, All-nil}
use Rattle.std.proofs.lemmas.List.Folds.{list_any-append, list_any_none, list_any_at, Any-from_list_any}
use Rattle.std.proofs.lemmas.Option.{same_Some}
use Rattle.brake_base.specs.declared.mask.Mask.{Mask}
use Rattle.brake_base.specs.declared.stroke.Action.{Action}
use Rattle.brake_base.specs.declared.reason.Reason.{Reason}
use Rattle.brake_base.specs.Actions.{IsActionAmong, number_of_action}
use Rattle.stage_lanes.specs.declared.actions.ActionSet.{ActionSet}
use Rattle.stage_lanes.specs.ActionSets.{has_place, place_of, ArePlaces, IsNone}
use Rattle.job_setup.specs.Setup.{JobData, bend_count, stage_count}
use Rattle.job_setup.specs.StrokeGroup.{is_lead}
use Rattle.job_setup.specs.ValidJob.{IsJob}
use Rattle.handling_cost.specs.Plan.{IsReasonFor}
use Rattle.handling_cost.proofs.Actions.{few_bends}
use Rattle.cert_lines.specs.declared.row_head.RowHead.{RowHead}
use Rattle.plan_lines.specs.declared.note.Note.{Note}
use Rattle.cert_lines.specs.Lines.{action_at}
use Rattle.plan_cert.specs.RowFaults.{IsNoted, IsUnnoted}
use Rattle.plan_lines.proofs.ActionNumbers.{number_is, number_below, bend_of_number, action_of_number}
use Rattle.cert_check.specs.declared.row_notes.NotePlace.{NotePlace}
use Rattle.cert_check.specs.RowNotes.{is_noted, has_note, note_at, AreNoted, IsSound, IsFirstUnsound, IsActionPut, IsAtRow}

-- ---- a list with one element more
single : {X : Type 0} (P : X → Type 0) (x : X) → P x → All P (x ∷ [])
single P x is = All-cons P x [] is (All-nil P)

-- ---- notes by row and number
-- a note is against the action at the row
abbrev is_at : ℕ → ℕ → Note → Bool
is_at row number note = note.row == row && note.action == number

both : (a b : Bool) → (a && b) ≡ true → (a ≡ true) × (b ≡ true)
both true b is = (refl, is)
both false b is = absurd cc

eq_of : (m n : ℕ) → (m == n) ≡ true → m ≡ n
eq_of m n is = elim (eqb_tells m n) [
  | inl same ↦ same.1
  | inr other ↦ absurd (let no = other.0 in cc)
]

not_eq : (m n : ℕ) → m ≢ n → (m == n) ≡ false
not_eq m n differ = elim (eqb_tells m n) [
  | inl same ↦ absurd (differ same.1)
  | inr other ↦ other.0
]

eq_self : (m : ℕ) → (m == m) ≡ true
eq_self m = elim (eqb_tells m m) [
  | inl same ↦ same.0
  | inr other ↦ absurd (other.1 refl)
]

-- where a test finds a note there is one
pub some_noted : (notes : List Note) (row number : ℕ) → has_note notes row number ≡ true → (reason : Reason) × IsNoted notes row number reason
some_noted notes row number is =
    let found = Any-from_list_any (is_at row number) notes is in
    let note = found.1 in
    let tests = both (note.row == row) (note.action == number) found.4 in
    let rows : note.row ≡ row = eq_of note.row row tests.0 in
    let numbers : note.action ≡ number = eq_of note.action number tests.1 in
    (note.reason, subst (Contains notes) (λ i. record { row = rows i; action = numbers i; reason = note.reason }) (found.0, found.2, found.3))

-- where it finds none there is none
pub none_noted : (notes : List Note) (row number : ℕ) → has_note notes row number ≡ false → IsUnnoted notes row number
none_noted notes row number none reason (k, within, is) =
    let note : Note = note_at row number reason in
    let tests : is_at row number (get_or notes k note) ≡ true = ap (is_at row number) is ∙ (λ i. eq_self row i && eq_self number i) in
    let found = list_any_at (is_at row number) notes k note within tests in
    let clash : true ≡ false = sym found ∙ none in
    cc

-- ---- places of actions
module _ (job : JobData) (is_job : IsJob job) where
  abbrev place : ℕ → ℕ
  place number = place_of (action_at (stage_count job) number)

  pub wide : (number : ℕ) → number < 2 * bend_count job * stage_count job → IsActionAmong 12 8 (action_at (stage_count job) number)
  wide number below =
      let ranged = bend_of_number (bend_count job) (stage_count job) number below in
      let bends = few_bends job is_job in
      let stages = is_job.setup.stages.few_stages in
      let last = ranged.1 in
      let stage = ranged.2 in
      record { first = ranged.0; last = omega (arith, bends, last); stage = omega (arith, stages, stage) }

  pub place_within : (number : ℕ) → number < 2 * bend_count job * stage_count job → place number < 192
  place_within number below =
      let is = wide number below in
      number_below 12 8 (action_at (stage_count job) number) is.first is.last is.stage

  -- actions of one place are of one number
  one_number : (m n : ℕ) → m < 2 * bend_count job * stage_count job → n < 2 * bend_count job * stage_count job → place m ≡ place n → m ≡ n
  one_number m n low below same =
      let a = action_at (stage_count job) m in
      let b = action_at (stage_count job) n in
      let one : a ≡ b = action_of_number 8 a (wide m low) (place_within m low) ∙ (ap (action_at 8) same ∙ sym (action_of_number 8 b (wide n below) (place_within n below))) in
      sym (number_is (stage_count job) m) ∙ (ap (number_of_action (stage_count job)) one ∙ number_is (stage_count job) n)

  place_tells : (m n : ℕ) → m < 2 * bend_count job * stage_count job → n < 2 * bend_count job * stage_count job → (place m == place n) ≡ (n == m)
  place_tells m n low below = elim (eqb_tells n m) [
    | inl same ↦ ap (λ (k : ℕ). place m == place k) same.1 ∙ (eq_self (place m) ∙ sym same.0)
    | inr other ↦ not_eq (place m) (place n) (λ is. other.1 (sym (one_number m n low below is))) ∙ sym other.0
  ]

  -- ---- the sets of rows
  -- before the first row
  pub noted_none : (sets : List ActionSet) → sets ≡ [] → AreNoted job [] [] sets
  noted_none sets none = record {
    count = ap length none;
    within = All-nil (λ (note : Note). note.row < 0);
    each = λ row number d low. absurd (omega (arith, low));
  }

  unnoted_past : (notes : List Note) (row number : ℕ) → All (λ note. note.row < row) notes → has_note notes row number ≡ false
  unnoted_past notes row number within =
      list_any_none (is_at row number) notes (λ k d low. ap (λ (b : Bool). b && (get_or notes k d).action == number) (not_eq (get_or notes k d).row row (let less = within k d low in λ same. omega (arith, less, same))))

  -- a row more
  pub noted_row : (rows : List RowHead) (head : RowHead) (notes : List Note) (sets : List ActionSet) (none : ActionSet) → IsNone none → AreNoted job rows notes sets → AreNoted job (rows ++ head ∷ []) notes (sets ++ none ∷ [])
  noted_row rows head notes sets none empty are =
      let one = length_push rows head in
      let count = are.count in
      record {
        count = let more = length_push sets none in omega (arith, one, more, count);
        within = λ k d low. let within = are.within k d low in omega (arith, within, one);
        each = λ row number d low below. elim (cases_lt row (length rows)) [
          | inl early ↦
              ap (λ (s : ActionSet). is_noted job s number) (get_or_append_left sets (none ∷ []) d row (omega (arith, early, count)))
              ∙ are.each row number d early below
          | inr late ↦
              let here : row ≡ length rows = omega (arith, late, low, one) in
              ap (λ (s : ActionSet). is_noted job s number) (get_or_push sets none d row (omega (arith, here, count)))
              ∙ (empty (place number) (place_within number below)
              ∙ sym (ap (λ (n : ℕ). has_note notes n number) here ∙ unnoted_past notes (length rows) number are.within))
        ];
      }

  module _ (notes : List Note) (action : ℕ) (reason : Reason) (own : ℕ) where
    abbrev more : Note
    more = note_at own action reason

    with_more : (row number : ℕ) → has_note (notes ++ more ∷ []) row number ≡ (has_note notes row number || (is_at row number more || false))
    with_more row number = list_any-append (is_at row number) notes (more ∷ [])

    here_more : (number : ℕ) → (has_note notes own number || (action == number)) ≡ has_note (notes ++ more ∷ []) own number
    here_more number = sym (with_more own number ∙ ap (λ (b : Bool). has_note notes own number || b) (or_false (is_at own number more) ∙ ap (λ (b : Bool). b && action == number) (eq_self own)))
      where
        or_false : (b : Bool) → (b || false) ≡ b
        or_false true = refl
        or_false false = refl

    there_more : (row number : ℕ) → row ≢ own → has_note notes row number ≡ has_note (notes ++ more ∷ []) row number
    there_more row number differ = sym (with_more row number ∙ (ap (λ (b : Bool). has_note notes row number || ((b && action == number) || false)) (not_eq own row (λ same. differ (sym same))) ∙ or_none (has_note notes row number)))
      where
        or_none : (b : Bool) → (b || false) ≡ b
        or_none true = refl
        or_none false = refl

  -- a note more of a row
  pub noted_note : (rows : List RowHead) (notes : List Note) (sets after : List ActionSet) (own action : ℕ) (reason : Reason) → own < length rows → action < 2 * bend_count job * stage_count job
      → IsActionPut job own action sets after → AreNoted job rows notes sets → AreNoted job rows (notes ++ note_at own action reason ∷ []) after
  noted_note rows notes sets after own action reason low below put are =
      let count = are.count in
      let inside : own < length sets = omega (arith, low, count) in
      record {
        count = ap length put.put ∙ (length-set sets own put.set ∙ count);
        within = All-append (λ (note : Note). note.row < length rows) notes (note_at own action reason ∷ []) are.within (single (λ (note : Note). note.row < length rows) (note_at own action reason) low);
        each = λ row number d row_low number_below. elim (eqb_tells row own) [
          | inl same ↦
              let here = same.1 in
              let set_is : get_or after row d ≡ put.set =
              ap (λ (ss : List ActionSet). get_or ss row d) put.put ∙ (ap (λ (n : ℕ). get_or (set sets own put.set) n d) here ∙ get_or-set_same sets own put.set d inside) in
              let old : has_place (get_or sets own d) (place number) ≡ has_note notes own number = are.each own number d low number_below in
              ap (λ (s : ActionSet). is_noted job s number) set_is
              ∙ (put.places d (place number) (place_within number number_below)
              ∙ ((λ i. old i || place_tells number action number_below below i)
              ∙ (here_more notes action reason own number ∙ ap (λ (n : ℕ). has_note (notes ++ note_at own action reason ∷ []) n number) (sym here))))
          | inr other ↦
              ap (λ (ss : List ActionSet). is_noted job (get_or ss row d) number) put.put
              ∙ (ap (λ (s : ActionSet). is_noted job s number) (get_or-set_other sets own row put.set d other.1)
              ∙ (are.each row number d row_low number_below ∙ there_more notes action reason own row number other.1))
        ];
      }

-- the set with the action is put in its place
pub put_places : (job : JobData) (sets : List ActionSet) (row number : ℕ) (action : Action) (after other : ActionSet) → row < length sets → action ≡ action_at (stage_count job) number
    → ArePlaces after (λ place. has_place (get_or sets row other) place || (place == place_of action)) → IsActionPut job row number sets (set sets row after)
put_places job sets row number action after other low is places = record {
  set = after;
  put = refl;
  places = λ d place within. places place within ∙ (λ i. has_place (get_or_default sets row other d low i) place || (place == place_of (is i)));
}

-- a list that is written back where it was has the place of the list before
pub written_back : (n : ℕ) (after before : List ActionSet) → length after ≡ n → length before ≡ n → take n (after ++ drop (length after) before) ≡ after
written_back n after before one two =
    ap (take n) (ap (λ (k : ℕ). after ++ drop k before) (one ∙ sym two) ∙ (ap (λ (l : List ActionSet). after ++ l) (drop-length before) ∙ append-nil after))
    ∙ take_all n after (omega (arith, one))

-- ---- the first unsound note
module _ (job : JobData) (rows : List RowHead) where
  -- a note behind it
  pub unsound_stays : (notes : List Note) (note : Note) (place : NotePlace) → IsFirstUnsound job rows notes (Some place) → IsFirstUnsound job rows (notes ++ note ∷ []) (Some place)
  unsound_stays notes note place (before, reason, behind, is, sound, unsound) =
      (before, reason, behind ++ note ∷ [], ap (λ (ns : List Note). ns ++ note ∷ []) is ∙ append_assoc before (note_at place.row place.action reason ∷ behind) (note ∷ []), sound, unsound)

  pub unsound_on : (notes : List Note) (note : Note) (unsound : Option NotePlace) → (unsound ≡ None → ⊥) → IsFirstUnsound job rows notes unsound → IsFirstUnsound job rows (notes ++ note ∷ []) unsound
  unsound_on notes note None some first = absurd (some refl)
  unsound_on notes note (Some place) some first = unsound_stays notes note place first

  -- the bends of the mask are of the job, and the action's is a lead
  pub mask_within : (mask : Mask) (note : Note) → IsAtRow job rows mask note → mask.0 < 2 ^ bend_count job
  mask_within mask note at = subst (λ (m : Mask). m.0 < 2 ^ bend_count job) at.mask_is (let fits = at.valid.mask in omega (arith, fits))

  pub lead_at : (mask : Mask) (note : Note) → IsAtRow job rows mask note → IsTrue (is_lead job mask (action_at (stage_count job) note.action).bend)
  lead_at mask note at = subst (λ (m : Mask). IsTrue (is_lead job m (action_at (stage_count job) note.action).bend)) at.mask_is (let tried = at.tried.1 in tried.lead)

  module _ (notes : List Note) (mask : Mask) (row action : ℕ) (reason : Reason) (at : IsAtRow job rows mask (note_at row action reason)) (sound : All (IsSound job rows) notes) where
    -- a note whose reason holds
    pub sound_more : IsReasonFor job mask (action_at (stage_count job) action) reason → IsFirstUnsound job rows (notes ++ note_at row action reason ∷ []) None
    sound_more holds =
        All-append (IsSound job rows) notes (note_at row action reason ∷ []) sound
        (single (IsSound job rows) (note_at row action reason) (λ head its.
        subst (λ (h : RowHead). IsReasonFor job h.key.mask (action_at (stage_count job) action) reason) (same_Some at.head head (sym at.at ∙ its))
        (subst (λ (m : Mask). IsReasonFor job m (action_at (stage_count job) action) reason) (sym at.mask_is) holds)))

    -- one whose reason doesn't
    pub unsound_more : (IsReasonFor job mask (action_at (stage_count job) action) reason → ⊥) → IsFirstUnsound job rows (notes ++ note_at row action reason ∷ []) (Some (record { row = row; action = action }))
    unsound_more fails =
        (notes, reason, [], refl, sound, (at.head, at.at, λ holds. fails (subst (λ (m : Mask). IsReasonFor job m (action_at (stage_count job) action) reason) at.mask_is holds)))
