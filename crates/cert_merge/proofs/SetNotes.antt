-- The notes of a set's rows: what a writer of rows has of them, and what a table has.
use Rattle.std.proofs.Common.{◌≡◌, inl, inr, ℕ, zero, suc, ◌+◌, ◌-◌, ◌*◌, ◌/◌, ◌%◌, ◌<◌, ◌≤◌, ◌||◌, ◌==◌, Bool, true, false, if◌then◌else◌, List, [], ◌∷◌, ◌++◌, length, map, filter, get_or, Option, Some, None, IsTrue, refl, sym, ◌∙◌, ap, subst, arith}
use Rattle.std.specs.Prelude.{◌⊎◌, ◌^◌, min, slice_get, option_map}
use Rattle.std.proofs.lemmas.Bool.{cases_lt, cases_eq, or_left, or_right, false≢true}
use Rattle.std.proofs.lemmas.Int.{clamps}
use Rattle.std.proofs.lemmas.Grind.{common_steps}
use Rattle.std.proofs.lemmas.List.{append-nil}
use Rattle.std.proofs.lemmas.List.{map-append}
use Rattle.std.proofs.lemmas.Option.{same_Some, none-some}
use Rattle.brake_base.specs.declared.mask.Mask.{Mask}
use Rattle.brake_base.specs.declared.stroke.Half.{Half}
use Rattle.brake_base.specs.declared.stroke.Half.TheVariants.{Back, Front}
use Rattle.brake_base.specs.declared.stroke.Worth.{Worth}
use Rattle.brake_base.specs.declared.stroke.Action.{Action}
use Rattle.brake_base.specs.declared.stroke.Key.{Key}
use Rattle.brake_base.specs.declared.reason.Reason.{Reason}
use Rattle.brake_base.specs.declared.reason.Reason.TheVariants.{Cover, Rest, Frame, Upper, Nose, Lower, SelfHit, NoGauge, Load}
use Rattle.brake_base.specs.Actions.{IsActionAmong, number_of_action}
use Rattle.stage_lanes.specs.declared.actions.ActionSet.{ActionSet}
use Rattle.stage_lanes.specs.ActionSets.{has_place, place_of, places_of, ArePlaces, IsNone, numbers_below}
use Rattle.stage_lanes.specs.Codes.{IsCoded}
use Rattle.job_setup.specs.Setup.{JobData, bend_count, stage_count}
use Rattle.job_setup.specs.ValidJob.{IsJob}
use Rattle.handling_cost.specs.StepCost.{IsKeyOf}
use Rattle.handling_cost.proofs.Actions.{few_bends}
use Rattle.handling_cost.proofs.Keys.{some_stage}
use Rattle.cert_lines.specs.declared.row_head.RowHead.{RowHead}
use Rattle.cert_lines.specs.Lines.{action_at, lines_text}
use Rattle.plan_cert.specs.CertText.{rows_lines}
use Rattle.plan_lines.specs.LinesFit.{IsReasonInRange}
use Rattle.cert_lines.specs.Lines.{IsWorth}
use Rattle.plan_lines.proofs.Actions.{few_actions}
use Rattle.plan_cert.proofs.ReasonRanges.{reason_ranged}
use Rattle.plan_cert.proofs.RowOrder.{few_stages}
use Rattle.plan_lines.specs.NoteLines.{number_at}
use Rattle.row_text.specs.Notes.{SetNotes, IsAmong, reason_at, note_at, notes_of, GoOnAs}
use Rattle.row_text.proofs.ActionPlaces.{same_place}
use Rattle.plan_lines.proofs.NoteSets.{one_more, keep, skip, number_of_place, stage_of_place}
use Rattle.cert_merge.specs.declared.set_writer.SetWriter.{SetWriter}
use Rattle.cert_merge.specs.declared.settled_sets.SettledSet.{SettledSet}
use Rattle.cert_merge.specs.declared.settled_sets.SettledSets.{SettledSets}
use Rattle.cert_merge.specs.MergeSteps.{head_of, noted_as, notes_upto, most_actions, with_row}
use Rattle.cert_merge.specs.Settling.{said_by, said_in, AreSettledBy, HasSets}
use Rattle.cert_merge.specs.SetRows.{AreNotesOf, AreWritable, IsSetOf, CanBeWritten, IsWriterOf, row_of, rows_text, IsRowPut}
use Rattle.cert_merge.proofs.SettledSets.{below_high}
use Rattle.cert_merge.proofs.SettledRows.{noted_holds}
use Rattle.cert_merge.proofs.SettledWorths.{settled_small}

-- ---- reasons that are told one by one
-- of the first so many numbers of actions
pub record AreNotesUpto (reasons : List (Option Reason)) (stages count : ℕ) (said : SetNotes) (notes : ActionSet) : Type 0 where
  pub its_stages : said.stages ≡ stages
  pub noted : (place : ℕ) → place < 192 → IsTrue (has_place notes place)
      → (place % 8 < stages) × (number_at stages place < count) × (get_or reasons (number_at stages place) None ≡ Some (reason_at said (number_at stages place)))
  pub all : (place : ℕ) (reason : Reason) → place < 192 → place % 8 < stages → number_at stages place < count → get_or reasons (number_at stages place) None ≡ Some reason → IsTrue (has_place notes place)
  pub among : IsAmong notes said.known

pub no_notes : (reasons : List (Option Reason)) (stages : ℕ) (said : SetNotes) (notes : ActionSet) → said.stages ≡ stages → IsNone notes → AreNotesUpto reasons stages 0 said notes
no_notes reasons stages said notes same none = record {
  its_stages = same;
  noted = λ place within is. absurd (false≢true (sym (none place within) ∙ is));
  all = λ place reason within stage less e. absurd (omega (arith, less));
  among = λ place within is. absurd (false≢true (sym (none place within) ∙ is));
}

-- no reason at this number
pub notes_same : (reasons : List (Option Reason)) (stages count : ℕ) (said : SetNotes) (notes : ActionSet) → get_or reasons count None ≡ None → AreNotesUpto reasons stages count said notes → AreNotesUpto reasons stages (count + 1) said notes
notes_same reasons stages count said notes none are = record {
  its_stages = are.its_stages;
  noted = λ place within is. let told = are.noted place within is in let less = told.1 in (told.0, omega (arith, less), told.2);
  all = λ place reason within stage less e. elim (cases_eq (number_at stages place) count) [
    | inl here ↦ absurd (none-some reason (sym none ∙ (ap (λ (n : ℕ). get_or reasons n None) (sym here) ∙ e)))
    | inr other ↦ are.all place reason within stage (let no = other in omega (arith, less, no)) e
  ];
  among = are.among;
}

either : (s t : Bool) → (s || t) ≡ true → (s ≡ true) ⊎ (t ≡ true)
either true t e = inl refl
either false t e = inr e

is_same : (m n : ℕ) → (m == n) ≡ true → m ≡ n
is_same m n h = grind arith

tells_same : (m n : ℕ) → m ≡ n → (m == n) ≡ true
tells_same m n h = grind arith

tells_apart : (m n : ℕ) → (m ≡ n → ⊥) → (m == n) ≡ false
tells_apart m n h = grind arith

-- the reason at this number is told
module _ (reasons : List (Option Reason)) (stages count : ℕ) (before after : SetNotes) (notes more : ActionSet) (action : Action) (reason : Reason) (few : stages ≤ 6) (in_stages : IsActionAmong 12 stages action) (is_number : number_of_action stages action ≡ count)
    (has : get_or reasons count None ≡ Some reason) (same_stages : after.stages ≡ before.stages) (known : ArePlaces after.known (λ place. has_place before.known place || place == place_of action))
    (told : (number : ℕ) → reason_at after number ≡ (if number == number_of_action before.stages action then reason else reason_at before number)) (with_action : ArePlaces more (λ place. has_place notes place || place == place_of action)) (are : AreNotesUpto reasons stages count before notes) where
  in_eight : IsActionAmong 12 8 action
  in_eight = let s = in_stages.stage in record { first = in_stages.first; last = in_stages.last; stage = omega (arith, s, few) }

  number_here : number_at stages (place_of action) ≡ count
  number_here = number_of_place stages action in_eight.stage ∙ is_number

  stage_here : place_of action % 8 < stages
  stage_here = subst (λ (n : ℕ). n < stages) (sym (stage_of_place action in_eight.stage)) in_stages.stage

  told_here : (number : ℕ) → number ≡ count → reason_at after number ≡ reason
  told_here number here = told number ∙ ap (λ (b : Bool). if b then reason else reason_at before number) (tells_same number (number_of_action before.stages action) (here ∙ (sym is_number ∙ ap (λ (s : ℕ). number_of_action s action) (sym are.its_stages))))

  told_there : (number : ℕ) → (number ≡ count → ⊥) → reason_at after number ≡ reason_at before number
  told_there number apart =
      told number
      ∙ ap (λ (b : Bool). if b then reason else reason_at before number) (tells_apart number (number_of_action before.stages action) (λ e. apart (e ∙ (ap (λ (s : ℕ). number_of_action s action) are.its_stages ∙ is_number))))

  pub notes_more : AreNotesUpto reasons stages (count + 1) after more
  notes_more = record {
    its_stages = same_stages ∙ are.its_stages;
    noted = λ place within is. elim (either (has_place notes place) (place == place_of action) (sym (with_action place within) ∙ is)) [
      | inl old ↦
          let was = are.noted place within old in
          let less = was.1 in
          (was.0, omega (arith, less), was.2 ∙ ap Some (sym (told_there (number_at stages place) (λ e. omega (arith, less, e)))))
      | inr here ↦
          let same = is_same place (place_of action) here in
          let number : number_at stages place ≡ count = ap (number_at stages) same ∙ number_here in (
            subst (λ (n : ℕ). n % 8 < stages) (sym same) stage_here,
            omega (arith, number),
            ap (λ (n : ℕ). get_or reasons n None) number ∙ (has ∙ ap Some (sym (told_here (number_at stages place) number))),
          )
    ];
    all = λ place found within stage less e. with_action place within ∙ (elim (cases_eq (number_at stages place) count) [
      | inl here ↦ or_right (has_place notes place) (place == place_of action) (tells_same place (place_of action) (same_place stages place (place_of action) stage stage_here (here ∙ sym number_here)))
      | inr other ↦ or_left (has_place notes place) (place == place_of action) (are.all place found within stage (let no = other in omega (arith, less, no)) e)
    ]);
    among = λ place within is. known place within ∙ (elim (either (has_place notes place) (place == place_of action) (sym (with_action place within) ∙ is)) [
      | inl old ↦ or_left (has_place before.known place) (place == place_of action) (are.among place within old)
      | inr here ↦ or_right (has_place before.known place) (place == place_of action) here
    ]);
  }

-- all are told
pub notes_all : (reasons : List (Option Reason)) (stages count : ℕ) (said : SetNotes) (notes : ActionSet) → AreWritable stages reasons → 24 * stages ≤ count → AreNotesUpto reasons stages count said notes → AreNotesOf reasons said notes
notes_all reasons stages count said notes writable all are = record {
  noted = λ place within is. subst (λ (s : ℕ). (place % 8 < s) × (get_or reasons (number_at s place) None ≡ Some (reason_at said (number_at s place)))) (sym are.its_stages) (let told = are.noted place within is in (told.0, told.2));
  all = λ place reason within stage e.
      let at : get_or reasons (number_at stages place) None ≡ Some reason = ap (λ (s : ℕ). get_or reasons (number_at s place) None) (sym are.its_stages) ∙ e in
      let low = (writable (number_at stages place) reason at).0 in
      are.all place reason within (subst (λ (s : ℕ). place % 8 < s) are.its_stages stage) (omega (arith, low, all)) at;
  among = are.among;
}

-- ---- the notes by place and by number
-- how many numbers of actions belong to the first so many places
abbrev numbers_of : ℕ → ℕ → ℕ
numbers_of stages place = place / 8 * stages + min (place % 8) stages

same_side : (place : ℕ) → place % 8 < 7 → (place + 1) / 8 ≡ place / 8
same_side place low = omega (arith, low)

next_side : (place : ℕ) → place % 8 ≡ 7 → (place + 1) / 8 ≡ place / 8 + 1
next_side place last = omega (arith, last)

side_more : (side stages : ℕ) → (side + 1) * stages ≡ side * stages + stages
side_more side stages = grind (arith, common_steps)

-- the next place is one of a stage of the machine
numbers_more : (stages place : ℕ) → stages ≤ 6 → place % 8 < stages → (numbers_of stages place ≡ number_at stages place) × (numbers_of stages (place + 1) ≡ number_at stages place + 1)
numbers_more stages place few stage =
    let side = ap (λ (n : ℕ). n * stages) (same_side place (omega (arith, few, stage))) in
    let rest : (place + 1) % 8 ≡ place % 8 + 1 = omega (arith, few, stage) in
    (omega (arith, clamps, stage), omega (arith, clamps, stage, side, rest))

-- or it isn't
numbers_same : (stages place : ℕ) → stages ≤ 6 → stages ≤ place % 8 → numbers_of stages (place + 1) ≡ numbers_of stages place
numbers_same stages place few past = elim (cases_lt (place % 8) 7) [
  | inl low ↦
      let side = ap (λ (n : ℕ). n * stages) (same_side place low) in
      let rest : (place + 1) % 8 ≡ place % 8 + 1 = omega (arith, low) in
      omega (arith, clamps, past, side, rest)
  | inr last ↦
      let at : place % 8 ≡ 7 = omega (arith, last) in
      let side = ap (λ (n : ℕ). n * stages) (next_side place at) ∙ side_more (place / 8) stages in
      let rest : (place + 1) % 8 ≡ 0 = omega (arith, at) in
      omega (arith, clamps, past, side, rest)
]

module _ (said : SetNotes) (reasons : List (Option Reason)) (notes : ActionSet) (row : ℕ) (few : said.stages ≤ 6) (writable : AreWritable said.stages reasons) (are : AreNotesOf reasons said notes) where
  abbrev reason_by : ℕ → Option Reason
  reason_by action = get_or reasons action None

  -- the note of a place, where the action has a reason
  one_place : (place : ℕ) → place < 192 → place % 8 < said.stages → map (note_at said row) (filter (has_place notes) (place ∷ [])) ≡ noted_as row (number_at said.stages place) (reason_by (number_at said.stages place))
  one_place place within stage = by_has (has_place notes place) refl (reason_by (number_at said.stages place)) refl
    where
      by_has : (b : Bool) → has_place notes place ≡ b → (o : Option Reason) → reason_by (number_at said.stages place) ≡ o → map (note_at said row) (filter (has_place notes) (place ∷ [])) ≡ noted_as row (number_at said.stages place) o
      by_has true is o e =
          ap (map (note_at said row)) (keep (has_place notes) place is) ∙ ap (noted_as row (number_at said.stages place)) (sym (are.noted place within is).1 ∙ e)
      by_has false fails None e = ap (map (note_at said row)) (skip (has_place notes) place fails)
      by_has false fails (Some reason) e = absurd (false≢true (sym fails ∙ are.all place reason within stage e))

  no_place : (place : ℕ) → place < 192 → said.stages ≤ place % 8 → map (note_at said row) (filter (has_place notes) (place ∷ [])) ≡ []
  no_place place within past = by_has (has_place notes place) refl
    where
      by_has : (b : Bool) → has_place notes place ≡ b → map (note_at said row) (filter (has_place notes) (place ∷ [])) ≡ []
      by_has true is = let stage = (are.noted place within is).0 in absurd (omega (arith, stage, past))
      by_has false fails = ap (map (note_at said row)) (skip (has_place notes) place fails)

  upto : (place : ℕ) → place ≤ 192 → map (note_at said row) (filter (has_place notes) (numbers_below place)) ≡ notes_upto row reason_by (numbers_of said.stages place)
  upto zero low = ap (notes_upto row reason_by) none
    where
      none : 0 ≡ numbers_of said.stages 0
      none = omega (arith, clamps)
  upto (suc place) low = elim (cases_lt (place % 8) said.stages) [
    | inl stage ↦
        let count = numbers_more said.stages place few stage in
        let here : numbers_of said.stages (suc place) ≡ suc (number_at said.stages place) = ap (numbers_of said.stages) add ∙ (count.1 ∙ sum) in
        parts
        ∙ ((λ i. (upto place (omega (arith, low)) ∙ ap (notes_upto row reason_by) count.0) i ++ one_place place (omega (arith, low)) stage i)
        ∙ ap (notes_upto row reason_by) (sym here))
    | inr past ↦
        let same : numbers_of said.stages (suc place) ≡ numbers_of said.stages place = ap (numbers_of said.stages) add ∙ numbers_same said.stages place few past in
        parts
        ∙ ((λ i. upto place (omega (arith, low)) i ++ no_place place (omega (arith, low)) past i)
        ∙ (append-nil (notes_upto row reason_by (numbers_of said.stages place)) ∙ ap (notes_upto row reason_by) (sym same)))
  ]
    where
      add : suc place ≡ place + 1
      add = omega arith

      sum : number_at said.stages place + 1 ≡ suc (number_at said.stages place)
      sum = omega arith

      parts : map (note_at said row) (filter (has_place notes) (numbers_below (suc place))) ≡ map (note_at said row) (filter (has_place notes) (numbers_below place)) ++ map (note_at said row) (filter (has_place notes) (place ∷ []))
      parts = ap (map (note_at said row)) (one_more (has_place notes) place) ∙ map-append (note_at said row) (filter (has_place notes) (numbers_below place)) (filter (has_place notes) (place ∷ []))

  -- there is no reason past the last number
  none_past : (number : ℕ) → 24 * said.stages ≤ number → reason_by number ≡ None
  none_past number past = by_reason (reason_by number) refl
    where
      by_reason : (o : Option Reason) → reason_by number ≡ o → reason_by number ≡ None
      by_reason None e = e
      by_reason (Some reason) e = let low = (writable number reason e).0 in absurd (omega (arith, low, past))

  more_numbers : (count more : ℕ) → 24 * said.stages ≤ count → notes_upto row reason_by (more + count) ≡ notes_upto row reason_by count
  more_numbers count zero past = ap (notes_upto row reason_by) sum
    where
      sum : 0 + count ≡ count
      sum = omega arith
  more_numbers count (suc more) past =
      ap (notes_upto row reason_by) sum
      ∙ ((λ i. more_numbers count more past i ++ noted_as row (more + count) (none_past (more + count) (omega (arith, past)) i)) ∙ append-nil (notes_upto row reason_by count))
    where
      sum : suc more + count ≡ suc (more + count)
      sum = omega arith

  -- the notes of the set at a row are those of a table's row
  pub same_notes : notes_of said row notes ≡ notes_upto row reason_by most_actions
  unfolding most_actions places_of
  same_notes =
      let all : numbers_of said.stages 192 ≡ 24 * said.stages = omega (arith, clamps) in
      let rest : (144 - 24 * said.stages) + 24 * said.stages ≡ 144 = omega (arith, few) in
      upto 192 (omega arith) ∙ (ap (notes_upto row reason_by) all ∙ (sym (more_numbers (24 * said.stages) (144 - 24 * said.stages) (omega arith)) ∙ ap (notes_upto row reason_by) rest))

-- ---- the row of a key of a set
-- a row of the set that is written is one that a table has more
pub row_is_put : (settled : SettledSets) (said : SetNotes) (notes : ActionSet) (key : Key) (head : RowHead) (own : SettledSet) (old new : List ℕ) → said.stages ≤ 6 → IsSetOf settled key.mask own → AreWritable said.stages own.reasons → AreNotesOf own.reasons said notes
    → head ≡ head_of (row_of own key) → GoOnAs said head notes old new → IsRowPut said.stages settled key old new
row_is_put settled said notes key head own old new few is_own writable are named goes set is before t all text =
    let same : own ≡ set = same_Some own set (sym is_own ∙ is) in
    subst (λ (s : SettledSet). new ≡ before ++ rows_text said.stages (with_row t (row_of s key))) same
    (goes before t.rows t.notes all text
    ∙ (λ i. before ++ lines_text (rows_lines said.stages (t.rows ++ named i ∷ []) (t.notes ++ same_notes said own.reasons notes (length t.rows) few writable are i))))

-- ---- what is settled may be written
pub coded_is : (job : JobData) (reason : Reason) → stage_count job ≤ 6 → IsReasonInRange job reason → IsCoded reason
coded_is job Cover few is = record { body = omega arith; index = omega arith }
coded_is job (Rest half) few is = half_few half
  where
    half_few : (half : Half) → IsCoded (Rest half)
    half_few Back = record { body = omega arith; index = omega arith }
    half_few Front = record { body = omega arith; index = omega arith }
coded_is job (Frame box) few is = record { body = omega (arith, is); index = omega arith }
coded_is job (Upper box quarter index) few is = let (a, b) = is in record { body = omega (arith, a); index = omega (arith, b) }
coded_is job (Nose box quarter stage) few is = let (a, b) = is in record { body = omega (arith, a); index = omega (arith, b, few) }
coded_is job (Lower box quarter index) few is = let (a, b) = is in record { body = omega (arith, a); index = omega (arith, b) }
coded_is job (SelfHit box quarter other) few is = let (a, b) = is in record { body = omega (arith, a); index = omega (arith, b) }
coded_is job NoGauge few is = record { body = omega arith; index = omega arith }
coded_is job Load few is = record { body = omega arith; index = omega arith }

module _ (job : JobData) (is_job : IsJob job) (low high : ℕ) (settled : SettledSets) (has : HasSets low high settled) (below : high + 1 < 2 ^ bend_count job) (proved : Key → Worth) (are : AreSettledBy job proved settled) where
  pub said_of_set : (key : Key) (set : SettledSet) → key.mask.0 ≤ settled.high → IsSetOf settled key.mask set → said_in settled key ≡ Some (said_by set key)
  said_of_set key set most is = below_high settled key most ∙ ap (λ (o : Option SettledSet). option_map (λ (s : SettledSet). said_by s key) o) is

  reasons_written : (mask : Mask) (set : SettledSet) → mask.0 ≤ settled.high → IsSetOf settled mask set → AreWritable (stage_count job) set.reasons
  reasons_written mask set most is number reason e =
      let key : Key = record { mask = mask; attitude = 0; stage = 0 } in
      let top = has.top in
      let ranged : IsKeyOf job key = record { mask = omega (arith, most, top, below); attitude = omega arith; stage = some_stage job is_job } in
      let of = are key (said_by set key) ranged (said_of_set key set most is) in
      let at = (of.noted number).only reason e in (
        few_actions number (bend_count job) (stage_count job) (few_bends job is_job) at.0,
        coded_is job reason (few_stages job is_job) (reason_ranged job is_job mask (action_at (stage_count job) number) reason (noted_holds job proved key (said_by set key) of number reason e)),
      )

  pub can_be_written : CanBeWritten (stage_count job) settled
  can_be_written = record {
    few = few_stages job is_job;
    reasons = λ mask set is. elim (cases_lt settled.high mask.0) [
      | inl above ↦
          let top : settled.high - mask.0 ≡ settled.high - settled.high = omega (arith, above) in
          reasons_written (record { 0 = settled.high }) set (omega arith) (ap (slice_get settled.sets.items) (sym top) ∙ is)
      | inr most ↦ reasons_written mask set most is
    ];
  }

  pub worth_written : (key : Key) (set : SettledSet) → IsKeyOf job key → key.mask.0 ≤ settled.high → IsSetOf settled key.mask set → IsWorth (said_by set key).worth
  worth_written key set ranged most is =
      let of = are key (said_by set key) ranged (said_of_set key set most is) in
      settled_small job proved key (said_by set key).worth (said_by set key).reasons of

-- ---- writers of sets
pub writer_begun : (settled : SettledSets) (mask : Mask) (own : SettledSet) (stages : ℕ) (w : SetWriter) → w.writer.stages ≡ stages → w.writer.mask ≡ mask → IsSetOf settled mask own → AreNotesOf own.reasons w.writer w.notes → IsWriterOf stages settled w
writer_begun settled mask own stages w in_stages at is_own are = record {
  its_stages = in_stages;
  its_notes = λ set is.
      subst (λ (s : SettledSet). AreNotesOf s.reasons w.writer w.notes) (same_Some own set (sym is_own ∙ subst (λ (m : Mask). IsSetOf settled m set) at is)) are;
}
