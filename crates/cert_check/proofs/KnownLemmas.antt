-- Known notes that are taken at once: what is made of their answers, their actions in the set of a row, and their reasons.
use Rattle.std.proofs.Common.{Err, IfOk, ◌≡◌, ◌≢◌, inl, inr, ℕ, ◌+◌, ◌-◌, ◌*◌, ◌%◌, ◌^◌, ◌<◌, ◌==◌, ◌&&◌, ◌||◌, Bool, true, false, List, [], ◌∷◌, ◌++◌, length, map, drop, set, get_or, Option, Some, None, Result, Ok, refl, sym, ◌∙◌, ap, subst, arith, length-set}
use Rattle.std.specs.Prelude.{min, is_some, slice_get}
use Rattle.std.specs.List.{list_any}
use Rattle.std.specs.Result.{result_ok}
use Rattle.std.proofs.lemmas.Bool.Decides.{eqb_tells}
use Rattle.std.proofs.lemmas.List.{append_assoc, get_or-set_same, get_or-set_other}
use Rattle.std.proofs.lemmas.List.Elements.{All-append, All-map}
use Rattle.std.proofs.lemmas.List.Folds.{list_any-append, list_any_none}
use Rattle.std.proofs.lemmas.Option.{same_Some, none-some, slice_get_within, slice_get-get_or}
use Rattle.brake_base.specs.declared.mask.Mask.{Mask}
use Rattle.brake_base.specs.declared.reason.Reason.{Reason}
use Rattle.brake_base.specs.declared.reason.Reason.TheVariants.{Cover}
use Rattle.brake_base.specs.Actions.{number_of_action}
use Rattle.stage_lanes.specs.declared.actions.ActionSet.{ActionSet}
use Rattle.stage_lanes.specs.ActionSets.{has_place, place_of, places_of, IsNone}
use Rattle.job_setup.specs.Setup.{JobData, bend_count, stage_count}
use Rattle.job_setup.specs.ValidJob.{IsJob}
use Rattle.handling_cost.specs.Plan.{IsReasonFor}
use Rattle.cert_lines.specs.declared.row_head.RowHead.{RowHead}
use Rattle.plan_lines.specs.declared.note.Note.{Note}
use Rattle.plan_lines.specs.declared.item.Item.{Item}
use Rattle.plan_lines.specs.declared.item.Item.TheVariants as given
use Rattle.plan_lines.specs.declared.item.CertFault.{CertFault}
use Rattle.plan_lines.specs.Reading.{Reading}
use Rattle.plan_cert.specs.Cert.{CertData}
use Rattle.plan_lines.specs.Items.{items}
use Rattle.plan_lines.specs.declared.item.PlanItem.{PlanItem}
use Rattle.plan_lines.specs.PlanItem.{item_of, plan_answer}
use Rattle.plan_cert.specs.CertReading.{cert_of, with_known, answers_left}
use Rattle.plan_lines.specs.NoteLines.{note_by}
use Rattle.plan_cert.proofs.KnownRead.{known_read, known_behind as answer_behind}
use Rattle.cert_lines.specs.Lines.{action_at}
use Rattle.plan_lines.specs.NoteLines.{KnownReasons, IsKnownAt, AreKnownAll, number_at, reason_at, reason_by, or_cover, note_told, notes_told, LearnsFrom}
use Rattle.plan_lines.proofs.ActionNumbers.{number_is, number_below, bend_of_number, action_of_number}
use Rattle.plan_cert.proofs.Conditions.{rows_of}
use Rattle.plan_lines.proofs.NoteSets.{any_place, at_place, no_places, number_of_place, stage_of_place}
use Rattle.plan_cert.proofs.RowOrder.{no_row, few_rows}
use Rattle.cert_check.specs.declared.row_notes.NotePlace.{NotePlace}
use Rattle.cert_check.specs.declared.row_notes.RowNotes.{RowNotes}
use Rattle.cert_check.specs.RowNotes.{is_noted, has_note, note_at, AreNoted, IsSound, IsFirstUnsound, IsUnionPut}
use Rattle.cert_check.specs.KnownNotes.{KnowsSound, KnowsSoundBut}
use Rattle.cert_check.specs.ReadCert.{IsRowFirst, IsUnderway, KeepsNotes}
use Rattle.cert_check.proofs.GrowLemmas.{grows}
use Rattle.cert_check.proofs.ItemLemmas.{some_left}
use Rattle.cert_check.proofs.NoteLemmas.{wide, place_within}

-- ---- the notes that are told
abbrev pub notes_by : ℕ → KnownReasons → ActionSet → List Note
notes_by row known set = map (note_by row known) (places_of set)

-- behind known notes an answer is left
pub known_behind : (r next : Reading) (known : KnownReasons) (places : List ℕ) → 0 < length places → drop r.answered (items r.kind r.text) ≡ map (note_told known) places ++ drop next.answered (items r.kind r.text)
    → next ≡ record r { answered = r.answered + length places } → 0 < length (answers_left next)
known_behind r next known places some told after =
    let here = told ∙ ap (λ (q : Reading). map (note_told known) places ++ drop q.answered (items r.kind r.text)) after in
    subst (λ (q : Reading). 0 < length (answers_left q)) (sym after) (some_left (record r { answered = r.answered + length places }) (answer_behind r known places some here))

-- ---- places and numbers
eq_self : (m : ℕ) → (m == m) ≡ true
eq_self m = elim (eqb_tells m m) [
  | inl same ↦ same.0
  | inr other ↦ absurd (other.1 refl)
]

not_eq : (m n : ℕ) → m ≢ n → (m == n) ≡ false
not_eq m n differ = elim (eqb_tells m n) [
  | inl same ↦ absurd (differ same.1)
  | inr other ↦ other.0
]

-- a place at a stage of the machine is that of the action of its number
place_back : (stages place : ℕ) → place < 192 → place % 8 < stages → place_of (action_at stages (number_at stages place)) ≡ place
place_back stages place within stage =
    let own = action_at 8 place in
    let among = bend_of_number 12 8 place (omega (arith, within)) in
    let place_is : place_of own ≡ place = number_is 8 place in
    let stage_is : own.stage ≡ place % 8 = sym (stage_of_place own among.2) ∙ ap (λ (n : ℕ). n % 8) place_is in
    let small : own.stage < stages = subst (λ (n : ℕ). n < stages) (sym stage_is) stage in
    let number : number_at stages place ≡ number_of_action stages own = ap (number_at stages) (sym place_is) ∙ number_of_place stages own among.2 in
    let below = number_below 12 stages own among.0 among.1 small in
    let back = action_of_number stages own (record { first = among.0; last = among.1; stage = small }) (omega (arith, below)) in
    ap (λ (n : ℕ). place_of (action_at stages n)) number ∙ ap place_of (sym back) ∙ place_is

module _ (job : JobData) (is_job : IsJob job) where
  abbrev place : ℕ → ℕ
  place number = place_of (action_at (stage_count job) number)

  -- the number of a place is one of an action exactly where the place is
  number_tells : (own number : ℕ) → own < 192 → own % 8 < stage_count job → number < 2 * bend_count job * stage_count job → (number_at (stage_count job) own == number) ≡ (own == place number)
  number_tells own number within stage below = elim (eqb_tells (number_at (stage_count job) own) number) [
    | inl same ↦
        let one : place number ≡ own = ap place (sym same.1) ∙ place_back (stage_count job) own within stage in
        same.0 ∙ (sym (eq_self own) ∙ ap (λ (n : ℕ). own == n) (sym one))
    | inr other ↦
        let wide_stage = (wide job is_job number below).stage in
        other.0 ∙ sym (not_eq own (place number) (λ is.
        other.1 (ap (number_at (stage_count job)) is ∙ (number_of_place (stage_count job) (action_at (stage_count job) number) wide_stage ∙ number_is (stage_count job) number))))
  ]

  module _ (known : KnownReasons) (stages : known.stages ≡ stage_count job) (more : ActionSet) (all : AreKnownAll known more) where
    -- whether one of the notes is against an action of their row
    noted_here : (row number : ℕ) → number < 2 * bend_count job * stage_count job → has_note (notes_by row known more) row number ≡ has_place more (place number)
    noted_here row number below =
        any_map (λ (note : Note). note.row == row && note.action == number) (note_by row known) (places_of more)
        ∙ any_place (λ own. row == row && number_at known.stages own == number) more (place number) (place_within job is_job number below) (λ own within is.
        let at = at_place (IsKnownAt known) more all own within is in
        ap (λ (b : Bool). b && number_at known.stages own == number) (eq_self row)
        ∙ (ap (λ (s : ℕ). number_at s own == number) stages ∙ number_tells own number within (subst (λ (s : ℕ). own % 8 < s) stages at.1) below))
      where
        any_map : (test : Note → Bool) (f : ℕ → Note) (xs : List ℕ) → list_any test (map f xs) ≡ list_any (λ x. test (f x)) xs
        any_map test f [] = refl
        any_map test f (x ∷ xs) = ap (λ (b : Bool). test (f x) || b) (any_map test f xs)

    -- none is against one of another row
    noted_there : (own row number : ℕ) → row ≢ own → has_note (notes_by own known more) row number ≡ false
    noted_there own row number differ =
        list_any_none (λ (note : Note). note.row == row && note.action == number) (notes_by own known more)
        (All-map (λ (note : Note). (note.row == row && note.action == number) ≡ false) (note_by own known) (places_of more)
        (λ k d within. ap (λ (b : Bool). b && number_at known.stages (get_or (places_of more) k d) == number) (not_eq own row (λ same. differ (sym same)))))

    module _ (notes : List Note) where
      with_all : (own row number : ℕ) → has_note (notes ++ notes_by own known more) row number ≡ (has_note notes row number || has_note (notes_by own known more) row number)
      with_all own row number = list_any-append (λ (note : Note). note.row == row && note.action == number) notes (notes_by own known more)

      here_all : (own number : ℕ) → number < 2 * bend_count job * stage_count job → (has_note notes own number || has_place more (place number)) ≡ has_note (notes ++ notes_by own known more) own number
      here_all own number below = sym (with_all own own number ∙ ap (λ (b : Bool). has_note notes own number || b) (noted_here own number below))

      there_all : (own row number : ℕ) → row ≢ own → has_note notes row number ≡ has_note (notes ++ notes_by own known more) row number
      there_all own row number differ = sym (with_all own row number ∙ ap (λ (b : Bool). has_note notes row number || b) (noted_there own row number differ) ∙ or_none (has_note notes row number))
        where
          or_none : (b : Bool) → (b || false) ≡ b
          or_none true = refl
          or_none false = refl

    -- the notes of a row in its set
    pub noted_union : (rows : List RowHead) (notes : List Note) (sets after : List ActionSet) (own : ℕ) → own < length rows → IsUnionPut own more sets after → AreNoted job rows notes sets → AreNoted job rows (notes ++ notes_by own known more) after
    noted_union rows notes sets after own low union are =
        let count = are.count in
        let inside : own < length sets = omega (arith, low, count) in
        let put = union inside in
        record {
          count = ap length put.1 ∙ (length-set sets own put.0 ∙ count);
          within = All-append (λ (note : Note). note.row < length rows) notes (notes_by own known more) are.within
              (All-map (λ (note : Note). note.row < length rows) (note_by own known) (places_of more) (λ k d within. low));
          each = λ row number d row_low below. elim (eqb_tells row own) [
            | inl same ↦
                let set_is : get_or after row d ≡ put.0 =
                ap (λ (ss : List ActionSet). get_or ss row d) put.1 ∙ (ap (λ (n : ℕ). get_or (set sets own put.0) n d) same.1 ∙ get_or-set_same sets own put.0 d inside) in
                let old : has_place (get_or sets own d) (place number) ≡ has_note notes own number = are.each own number d low below in
                ap (λ (s : ActionSet). is_noted job s number) set_is
                ∙ (put.2 d (place number) (place_within job is_job number below)
                ∙ (ap (λ (b : Bool). b || has_place more (place number)) old
                ∙ (here_all notes own number below ∙ ap (λ (n : ℕ). has_note (notes ++ notes_by own known more) n number) (sym same.1))))
            | inr other ↦
                ap (λ (ss : List ActionSet). is_noted job (get_or ss row d) number) put.1
                ∙ (ap (λ (s : ActionSet). is_noted job s number) (get_or-set_other sets own row put.0 d other.1)
                ∙ (are.each row number d row_low below ∙ there_all notes own row number other.1))
          ];
        }

-- ---- the first unsound note
some_is : (known : Option Reason) → is_some known ≡ true → known ≡ Some (or_cover known)
some_is None is = absurd cc
some_is (Some reason) is = refl

module _ (job : JobData) (rows : List RowHead) (known : KnownReasons) (more : ActionSet) (all : AreKnownAll known more) (row : ℕ) (head : RowHead) (at : slice_get rows row ≡ Some head) where
  -- known notes behind it, whose reasons hold as long as there is none
  pub unsound_known : (notes : List Note) (unsound : Option NotePlace)
      → (unsound ≡ None → (number : ℕ) (reason : Reason) → reason_by known number ≡ Some reason → IsReasonFor job head.key.mask (action_at (stage_count job) number) reason)
      → IsFirstUnsound job rows notes unsound → IsFirstUnsound job rows (notes ++ notes_by row known more) unsound
  unsound_known notes None sound first =
      All-append (IsSound job rows) notes (notes_by row known more) first (All-map (IsSound job rows) (note_by row known) (places_of more) (λ k d within own its.
      let place = get_or (places_of more) k d in
      subst (λ (h : RowHead). IsReasonFor job h.key.mask (action_at (stage_count job) (number_at known.stages place)) (or_cover (reason_at known place))) (same_Some head own (sym at ∙ its))
      (sound refl (number_at known.stages place) (or_cover (reason_at known place)) (some_is (reason_at known place) (all k d within).0))))
  unsound_known notes (Some place) sound (before, reason, behind, is, holds, fails) =
      (before, reason, behind ++ notes_by row known more, ap (λ (ns : List Note). ns ++ notes_by row known more) is ∙ append_assoc before (note_at place.row place.action reason ∷ behind) (notes_by row known more), holds, fails)

-- ---- a certificate underway
none_first : (known : KnownReasons) (places : List ℕ) (left : List (Result Item CertFault)) → 0 < length places → IsRowFirst (map (note_told known) places ++ left) → ⊥
none_first known [] left some first = omega (arith, some)
none_first known (place ∷ places) left some first = first

module _ (job : JobData) (cert before : CertData) (left : List (Result Item CertFault)) (known : KnownReasons) (more : ActionSet) (old new : RowNotes) (some : 0 < length (places_of more)) (under : IsUnderway job cert before (notes_told known more ++ left) old) where
  abbrev next : CertData
  next = with_known before known (places_of more)

  abbrev own : ℕ
  own = length old.sets.items - 1

  abbrev head : RowHead
  head = get_or before.rows own no_row

  has_row : 0 < length before.rows
  has_row = elim under.row_first [
    | inl there ↦ there
    | inr none ↦ absurd (none_first known (places_of more) left some none)
  ]

  completes : cert_of next left ≡ Ok cert
  completes = sym (known_read known (places_of more) before left) ∙ under.completes

  last_is : length before.rows - 1 ≡ own
  last_is = let count = under.kept.noted.count in omega (arith, count)

  last_within : own < length before.rows
  last_within = let there = has_row in let same = last_is in omega (arith, there, same)

  row_at : slice_get before.rows own ≡ Some head
  row_at = slice_get-get_or before.rows own no_row last_within

  cert_row : slice_get cert.rows own ≡ Some head
  cert_row = (grows left next cert completes).rows own head row_at

  min_is : min (length before.rows - 1) (2 ^ 32 - 1) ≡ own
  min_is =
      let few = few_rows job under.valid cert.rows (rows_of job under.valid cert.rows cert.notes under.form.rows) in
      let within = slice_get_within cert.rows own head cert_row in
      let same = last_is in
      omega (arith, few, within, same)

  mask_is : head.key.mask ≡ old.folded.mask
  mask_is = under.kept.mask head (ap (slice_get before.rows) last_is ∙ row_at)

  -- known notes more
  pub underway_known : KnowsSound job old known → AreKnownAll known more → IsUnionPut own more old.sets.items new.sets.items → new.folded.mask ≡ old.folded.mask → new.unsound ≡ old.unsound
      → IsUnderway job cert next left new
  underway_known knows all union mask unsound = record {
    valid = under.valid;
    form = under.form;
    completes = completes;
    row_first = inl has_row;
    kept = subst (λ (n : ℕ). KeepsNotes job cert.rows before.rows (before.notes ++ map (note_by n known) (places_of more)) new) (sym min_is) (record {
      noted = noted_union job under.valid known knows.stages more all before.rows before.notes old.sets.items new.sets.items own last_within union under.kept.noted;
      first = subst (IsFirstUnsound job cert.rows (before.notes ++ notes_by own known more)) (sym unsound)
          (unsound_known job cert.rows known more all own head cert_row before.notes old.unsound
          (λ none number reason is. subst (λ (m : Mask). IsReasonFor job m (action_at (stage_count job) number) reason) (sym mask_is) (knows.sound none number reason is)) under.kept.first);
      mask = λ last at. under.kept.mask last at ∙ sym mask;
    });
  }

-- ---- what the lines know
-- each reason is known to hold, or is the note's that was read
pub learned_but : (job : JobData) (notes : RowNotes) (item : Item) (old new : KnownReasons) → KnowsSound job notes old → LearnsFrom old (Ok item) new → KnowsSoundBut job notes item new
learned_but job notes item old new knows learns = record {
  stages = learns.0 ∙ knows.stages;
  sound = λ none number reason is. elim (learns.1 number reason is) [
    | inl before ↦ inl (knows.sound none number reason before)
    | inr answer ↦ inr (same_item item (given.Note number reason) answer)
  ];
}
  where
    answer_is : Item → Result Item CertFault
    answer_is it = Ok it

    same_item : (a b : Item) → answer_is a ≡ Ok b → a ≡ b
    same_item a b same = same_Some a b (ap result_ok same)

-- whether it is a note
abbrev pub is_note : Item → Bool
is_note (given.Note number reason) = true
is_note _ = false

-- of an item that is no note nothing is learned
pub learned_none : (job : JobData) (notes : RowNotes) (item : Item) (known : KnownReasons) → is_note item ≡ false → KnowsSoundBut job notes item known → KnowsSound job notes known
learned_none job notes item known other knows = record {
  stages = knows.stages;
  sound = λ none number reason is. elim (knows.sound none number reason is) [
    | inl holds ↦ holds
    | inr same ↦ absurd (let note : is_note item ≡ true = ap is_note same in clash (is_note item) note other)
  ];
}
  where
    clash : (b : Bool) → b ≡ true → b ≡ false → ⊥
    clash b is isnt = absurd cc

abbrev note_number : Item → ℕ
note_number (given.Note number reason) = number
note_number _ = 0

abbrev note_reason : Item → Reason
note_reason (given.Note number reason) = reason
note_reason _ = Cover

-- of a note that is added its reason
pub learned_note : (job : JobData) (old new : RowNotes) (known : KnownReasons) (action : ℕ) (reason : Reason) → KnowsSoundBut job old (given.Note action reason) known → new.folded.mask ≡ old.folded.mask
    → (new.unsound ≡ None → (old.unsound ≡ None) × IsReasonFor job old.folded.mask (action_at (stage_count job) action) reason) → KnowsSound job new known
learned_note job old new known action reason knows mask holds = record {
  stages = knows.stages;
  sound = λ none number own is.
      let before = holds none in
      subst (λ (m : Mask). IsReasonFor job m (action_at (stage_count job) number) own) (sym mask)
      (elim (knows.sound before.0 number own is) [
        | inl there ↦ there
        | inr same ↦
            let numbers : action ≡ number = ap note_number same in
            let reasons : reason ≡ own = ap note_reason same in
            subst (λ (n : ℕ). IsReasonFor job old.folded.mask (action_at (stage_count job) n) own) numbers
            (subst (λ (r : Reason). IsReasonFor job old.folded.mask (action_at (stage_count job) action) r) reasons before.1)
      ]);
}

pub knows_none : (job : JobData) (notes : RowNotes) (known : KnownReasons) → known.stages ≡ stage_count job → ((number : ℕ) → reason_by known number ≡ None) → KnowsSound job notes known
knows_none job notes known stages none = record {
  stages = stages;
  sound = λ unsound number reason is. absurd (none-some reason (sym (none number) ∙ is));
}

-- where no note is taken the reader stands where it stood
pub none_taken : (r next : Reading) (set : ActionSet) → IsNone set → next ≡ record r { answered = r.answered + length (places_of set) } → next ≡ r
none_taken r next set none after =
    let empty = ap (λ (places : List ℕ). length places) (no_places set none) in
    let same : r.answered + length (places_of set) ≡ r.answered = omega (arith, empty) in
    after ∙ ap (λ (n : ℕ). record r { answered = n }) same

-- behind an answer each reason that is known holds there but that of the note that was answered
pub learned_answer : (job : JobData) (notes : RowNotes) (answer : Result PlanItem CertFault) (old new : KnownReasons) → KnowsSound job notes old → LearnsFrom old (plan_answer answer) new → IfOk answer (λ item. KnowsSoundBut job notes (item_of item) new)
learned_answer job notes (Ok item) old new sound learns = learned_but job notes (item_of item) old new sound learns
learned_answer job notes (Err fault) old new sound learns = tt
