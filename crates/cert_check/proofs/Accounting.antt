-- The rows of a certificate one after the other, where what is kept of its notes is given.
use Rattle.std.proofs.Common.{◌≡◌, ◌⊎◌, inl, inr, ℕ, zero, suc, ◌+◌, ◌*◌, ◌<◌, ◌≤◌, IsTrue, Bool, true, false, List, ◌∷◌, ◌++◌, length, get_or, Option, Some, None, Result, Ok, Err, arith, refl, sym, ◌∙◌, ap, subst}
use Rattle.std.specs.Prelude.{AllPairs, Contains, slice_get, if◌then◌else◌}
use Rattle.std.proofs.lemmas.Bool.{cases_lt, lt-ltb, le-ltb}
use Rattle.std.proofs.lemmas.Bool.Decides.{eqb_tells}
use Rattle.std.proofs.lemmas.List.{length-append, get_or-append-add}
use Rattle.std.proofs.lemmas.List.Elements.{All-contains, Contains-append_cases, Contains-append_right}
use Rattle.std.proofs.lemmas.Nat.{mul-le}
use Rattle.std.proofs.lemmas.Option.{same_Some, none-some, slice_get_within, get_or_from_slice_get}
use Rattle.brake_base.specs.declared.reason.Reason.{Reason}
use Rattle.stage_lanes.specs.declared.actions.ActionSet.{ActionSet}
use Rattle.job_setup.specs.Setup.{JobData, bend_count, stage_count}
use Rattle.job_setup.specs.StrokeGroup.{is_lead}
use Rattle.job_setup.specs.ValidJob.{IsJob}
use Rattle.handling_cost.proofs.Actions.{few_bends}
use Rattle.cert_lines.specs.declared.row_head.RowHead.{RowHead}
use Rattle.plan_lines.specs.declared.note.Note.{Note}
use Rattle.cert_lines.specs.Lines.{action_at}
use Rattle.plan_cert.specs.WellFormed.{IsNote, NoteIsBefore}
use Rattle.plan_cert.specs.RowFaults.{HoldsAt, IsNoted, IsTried, IsAccounted, AreAccounted, RowsAreAccounted}
use Rattle.plan_lines.proofs.NumberedActions.{tried_at}
use Rattle.plan_cert.proofs.RowOrder.{few_stages}
use Rattle.cert_check.specs.declared.fault.CheckFault.{CheckFault}
use Rattle.cert_check.specs.declared.fault.CheckFault.TheVariants.{BadReason, NotClosed}
use Rattle.cert_check.specs.declared.row_notes.NotePlace.{NotePlace}
use Rattle.cert_check.specs.declared.row_notes.RowNotes.{RowNotes}
use Rattle.cert_check.specs.RowNotes.{is_noted, has_note, note_at, HasNotes, IsSound, IsFirstUnsound, unsound_at}
use Rattle.cert_check.specs.Rows.{IsMet, IsOpen, AreMet, OpenAnswer, RowsAnswer, first_of, first_fault}
use Rattle.cert_check.proofs.NoteLemmas.{some_noted, none_noted}

-- ---- the order of notes
not_self : (a : Note) → NoteIsBefore a a → ⊥
not_self a (inl less) = omega (arith, less)
not_self a (inr less) = let actions = less.1 in omega (arith, actions)

not_both : (a b : Note) → NoteIsBefore a b → NoteIsBefore b a → ⊥
not_both a b (inl one) (inl two) = omega (arith, one, two)
not_both a b (inl one) (inr two) = let rows = two.0 in omega (arith, one, rows)
not_both a b (inr one) (inl two) = let rows = one.0 in omega (arith, rows, two)
not_both a b (inr one) (inr two) = let first = one.1 in let second = two.1 in omega (arith, first, second)

-- a note that is before one by number stands before it
module _ (before : List Note) (bad : Note) (behind : List Note) (order : AllPairs NoteIsBefore (before ++ bad ∷ behind)) (note : Note) (less : NoteIsBefore note bad) where
  not_late : (k : ℕ) → k < length (bad ∷ behind) → get_or (bad ∷ behind) k note ≡ note → ⊥
  not_late zero low is = not_self note (subst (NoteIsBefore note) is less)
  not_late (suc k) low is =
      let all = length-append before (bad ∷ behind) in
      let pair = order (length before + 0) (length before + suc k) note (omega arith) (omega (arith, all, low)) in
      let first : NoteIsBefore bad (get_or (before ++ bad ∷ behind) (length before + suc k) note) =
      subst (λ (n : Note). NoteIsBefore n (get_or (before ++ bad ∷ behind) (length before + suc k) note)) (get_or-append-add before (bad ∷ behind) 0 note) pair in
      not_both bad note (subst (NoteIsBefore bad) (get_or-append-add before (bad ∷ behind) (suc k) note ∙ is) first) less

  stands_before : Contains (before ++ bad ∷ behind) note → Contains before note
  stands_before member = elim (Contains-append_cases before (bad ∷ behind) note member) [
    | inl early ↦ early
    | inr late ↦ absurd (not_late late.0 late.1 late.2)
  ]

module _ (job : JobData) (rows : List RowHead) (all : List Note) (notes : RowNotes) (has : HasNotes job rows all notes) where
  -- where no note fails each holds
  pub sound_all : notes.unsound ≡ None → (note : Note) → Contains all note → IsSound job rows note
  sound_all none note member = All-contains (IsSound job rows) all note (subst (IsFirstUnsound job rows all) none has.first) member

  -- else each before the first that fails
  pub sound_before : (place : NotePlace) → notes.unsound ≡ Some place → (note : Note) → Contains all note → (note.row < place.row) ⊎ ((note.row ≡ place.row) × (note.action < place.action)) → IsSound job rows note
  sound_before place is note member less =
      let first = subst (IsFirstUnsound job rows all) is has.first in
      All-contains (IsSound job rows) first.0 note first.4
      (stands_before first.0 (note_at place.row place.action first.1) first.2 (subst (AllPairs NoteIsBefore) first.3 has.form.note_order) note less (subst (λ (ns : List Note). Contains ns note) first.3 member))

  -- so all notes of a row at which the first that fails isn't
  sound_at : (row : ℕ) (unsound : Option NotePlace) → notes.unsound ≡ unsound → ((place : NotePlace) → unsound ≡ Some place → row < place.row) → (number : ℕ) (reason : Reason) → IsNoted all row number reason → IsSound job rows (note_at row number reason)
  sound_at row None is later number reason noted = sound_all is (note_at row number reason) noted
  sound_at row (Some place) is later number reason noted = sound_before place is (note_at row number reason) noted (inl (later place refl))

  module _ (row : ℕ) (head : RowHead) (at : slice_get rows row ≡ Some head) (noted : ActionSet) (set_is : noted ≡ get_or notes.sets.items row noted) (rest : RowsAreAccounted job rows all row) where
    bit : (number : ℕ) → number < 2 * bend_count job * stage_count job → is_noted job noted number ≡ has_note all row number
    bit number below = ap (λ (s : ActionSet). is_noted job s number) set_is ∙ has.noted.each row number noted (slice_get_within rows row head at) below

    by_note : (number : ℕ) → ((reason : Reason) → IsNoted all row number reason → IsSound job rows (note_at row number reason)) → has_note all row number ≡ true → IsAccounted job rows all row head number
    by_note number sound is = let found = some_noted all row number is in inl (found.0, found.1, sound found.0 found.1 head at)

    met_accounted : (number : ℕ) (has_one : Bool) → IsTried job head number → ((reason : Reason) → IsNoted all row number reason → IsSound job rows (note_at row number reason)) → has_note all row number ≡ has_one → IsMet job rows head noted number
        → IsAccounted job rows all row head number
    met_accounted number true tried sound is met = by_note number sound is
    met_accounted number false tried sound is (inl on) = absurd (let one : false ≡ true = sym is ∙ (sym (bit number tried.0) ∙ on) in cc)
    met_accounted number false tried sound is (inr shut) = inr (none_noted all row number is, shut)

    accounted : (count : ℕ) → AreMet job rows head noted count → ((number : ℕ) (reason : Reason) → number < count → IsNoted all row number reason → IsSound job rows (note_at row number reason)) → AreAccounted job rows all row head count
    accounted count met sound number less tried = met_accounted number (has_note all row number) tried (λ reason. sound number reason less) refl (met number less tried)

    -- an open action, before which each note of the row holds
    open_first : (number : ℕ) → IsOpen job rows head noted number → AreMet job rows head noted number → ((other : ℕ) (reason : Reason) → other < number → IsNoted all row other reason → IsSound job rows (note_at row other reason))
        → RowsAnswer job rows all (Err (NotClosed row number))
    open_first number is met sound = record {
      head = head;
      at = at;
      tried = is.tried;
      rows = rest;
      actions = accounted number met sound;
      cause = (none_noted all row number (let tried = is.tried in sym (bit number tried.0) ∙ is.unnoted), is.unclosed);
    }

    -- a note of the row that fails, before which each action is met
    bad_first : (place : NotePlace) → notes.unsound ≡ Some place → place.row ≡ row → AreMet job rows head noted place.action → RowsAnswer job rows all (Err (BadReason row place.action))
    bad_first place is here met =
        let first = subst (IsFirstUnsound job rows all) is has.first in
        let reason = first.1 in
        let member : IsNoted all row place.action reason =
        subst (λ (n : ℕ). IsNoted all n place.action reason) here
        (subst (λ (ns : List Note). Contains ns (note_at place.row place.action reason)) (sym first.3)
        (Contains-append_right first.0 (note_at place.row place.action reason ∷ first.2) (note_at place.row place.action reason) (0, omega arith, refl))) in
        let note = subst (IsNote job rows) member.2 (has.form.each_note member.0 (note_at row place.action reason) member.1) in
        let its = get_or_from_slice_get rows row head head at in
        let unsound = first.5 in
        let same : unsound.0 ≡ head = same_Some unsound.0 head (sym unsound.1 ∙ (ap (slice_get rows) here ∙ at)) in
        record {
          head = head;
          at = at;
          tried = (note.action, tried_at job head.key place.action note.action (subst (λ (h : RowHead). IsTrue (is_lead job h.key.mask (action_at (stage_count job) place.action).bend)) its (note.lead head)));
          rows = rest;
          actions = accounted place.action met (λ number other less noted. sound_before place is (note_at row number other) noted (inr (sym here, less)));
          cause = (reason, member, λ holds. unsound.2 (subst (λ (h : RowHead). HoldsAt job h place.action reason) (sym same) holds));
        }

    -- what a row comes to
    abbrev pub Outcome : Result (Unit {0}) CheckFault → Type 0
    Outcome (Ok _) = AreAccounted job rows all row head (2 * bend_count job * stage_count job) × ((place : NotePlace) → notes.unsound ≡ Some place → row + 1 ≤ place.row)
    Outcome (Err fault) = RowsAnswer job rows all (Err fault)

    outcome_sound : (found : Option ℕ) → OpenAnswer job rows head noted found → ((place : NotePlace) → notes.unsound ≡ Some place → row < place.row) → Outcome (first_fault row found None)
    outcome_sound None met later = (
      accounted (2 * bend_count job * stage_count job) met (λ number reason less. sound_at row notes.unsound refl later number reason),
      λ place is. let more = later place is in omega (arith, more),
    )
    outcome_sound (Some number) is later = open_first number is.0 is.1 (λ other reason less. sound_at row notes.unsound refl later other reason)

    outcome_bad : (found : Option ℕ) (place : NotePlace) → OpenAnswer job rows head noted found → notes.unsound ≡ Some place → place.row ≡ row → place.action < 2 * bend_count job * stage_count job → Outcome (Err (first_of row found place.action))
    outcome_bad None place met is here low = bad_first place is here (λ number less. met number (omega (arith, less, low)))
    outcome_bad (Some number) place first is here low = elim (cases_lt number place.action) [
      | inl less ↦
          subst (λ (b : Bool). RowsAnswer job rows all (Err (if b then NotClosed row number else BadReason row place.action))) (sym (lt-ltb number place.action less))
          (open_first number first.0 first.1 (λ other reason lower noted. sound_before place is (note_at row other reason) noted (inr (sym here, omega (arith, lower, less)))))
      | inr more ↦
          subst (λ (b : Bool). RowsAnswer job rows all (Err (if b then NotClosed row number else BadReason row place.action))) (sym (le-ltb number place.action more))
          (bad_first place is here (λ other less. first.1 other (omega (arith, less, more))))
    ]

    place_low : (place : NotePlace) → notes.unsound ≡ Some place → place.action < 2 * bend_count job * stage_count job
    place_low place is =
        let first = subst (IsFirstUnsound job rows all) is has.first in
        let bad = note_at place.row place.action first.1 in
        let member : Contains all bad = subst (λ (ns : List Note). Contains ns bad) (sym first.3) (Contains-append_right first.0 (bad ∷ first.2) bad (0, omega arith, refl)) in
        (subst (IsNote job rows) member.2 (has.form.each_note member.0 bad member.1)).action

    by_place : (found : Option ℕ) (unsound : Option NotePlace) → OpenAnswer job rows head noted found → notes.unsound ≡ unsound → ((place : NotePlace) → notes.unsound ≡ Some place → row ≤ place.row) → Outcome (first_fault row found (unsound_at row unsound))
    by_place found None open_is is ahead = outcome_sound found open_is (λ place its. absurd (none-some place (sym is ∙ its)))
    by_place found (Some place) open_is is ahead = elim (eqb_tells place.row row) [
      | inl same ↦
          subst (λ (b : Bool). Outcome (first_fault row found (if b then Some place.action else None))) (sym same.0)
          (outcome_bad found place open_is is same.1 (place_low place is))
      | inr other ↦
          subst (λ (b : Bool). Outcome (first_fault row found (if b then Some place.action else None))) (sym other.0)
          (outcome_sound found open_is (λ own its.
          let same : place ≡ own = same_Some place own (sym is ∙ its) in
          subst (λ (p : NotePlace). row < p.row) same (let more = ahead place is in let no = other.1 in omega (arith, more, no))))
    ]

    pub outcome : (found : Option ℕ) → OpenAnswer job rows head noted found → ((place : NotePlace) → notes.unsound ≡ Some place → row ≤ place.row) → Outcome (first_fault row found (unsound_at row notes.unsound))
    outcome found open_is ahead = by_place found notes.unsound open_is refl ahead

    -- a row more
    pub rows_on : AreAccounted job rows all row head (2 * bend_count job * stage_count job) → RowsAreAccounted job rows all (row + 1)
    rows_on met other its less its_at = elim (eqb_tells other row) [
      | inl same ↦
          let heads : head ≡ its = same_Some head its (sym at ∙ (ap (slice_get rows) (sym same.1) ∙ its_at)) in
          subst (λ (k : ℕ). AreAccounted job rows all k its (2 * bend_count job * stage_count job)) (sym same.1)
          (subst (λ (h : RowHead). AreAccounted job rows all row h (2 * bend_count job * stage_count job)) heads met)
      | inr before ↦ rest other its (let no = before.1 in omega (arith, less, no)) its_at
    ]

-- a job has at most 144 actions
pub most_actions : (job : JobData) → IsJob job → 2 * bend_count job * stage_count job ≤ 144
most_actions job is_job =
    let bends = few_bends job is_job in
    mul-le (2 * bend_count job) (stage_count job) 24 6 (omega (arith, bends)) (few_stages job is_job)
