-- The condition on rows, row by row and number by number.
use Rattle.std.proofs.Common.{◌≡◌, inl, inr, ℕ, ◌<◌, ◌≤◌, List, length, map, get_or, Some, arith, refl, sym, ◌∙◌, ap, subst}
use Rattle.std.specs.Prelude.{slice_get, option_map}
use Rattle.std.proofs.lemmas.Bool.{cases_lt}
use Rattle.std.proofs.lemmas.List.{length-map, get_or_default}
use Rattle.std.proofs.lemmas.Option.{same_Some, slice_get_within, get_or_from_slice_get, slice_get-get_or, slice_get-map}
use Rattle.brake_base.specs.declared.stroke.Key.{Key}
use Rattle.brake_base.specs.declared.stroke.Action.{Action}
use Rattle.brake_base.specs.declared.stroke.Worth.{Worth}
use Rattle.brake_base.specs.declared.reason.Reason.{Reason}
use Rattle.brake_base.specs.declared.reason.Reason.TheVariants.{Cover}
use Rattle.brake_base.specs.Actions.{number_of_action}
use Rattle.job_setup.specs.Setup.{JobData, bend_count, stage_count}
use Rattle.job_setup.specs.ValidJob.{IsJob}
use Rattle.handling_cost.specs.StepCost.{IsActionAt, IsFull}
use Rattle.handling_cost.specs.Plan.{IsReasonFor}
use Rattle.handling_cost.specs.Good.{IsClosed, MeetsCondition}
use Rattle.handling_cost.proofs.Actions.{few_bends}
use Rattle.handling_cost.proofs.Keys.{number_of_full}
use Rattle.cert_lines.specs.declared.row_head.RowHead.{RowHead}
use Rattle.plan_lines.specs.declared.note.Note.{Note}
use Rattle.plan_lines.specs.LinesFit.{IsRow}
use Rattle.cert_lines.specs.Lines.{action_at}
use Rattle.plan_cert.specs.WellFormed.{NoteIsBefore, AreRowsOf, AreRows}
use Rattle.plan_cert.specs.KeyPlaces.{key_place}
use Rattle.plan_cert.specs.GoodCert.{worths_in, HaveRow, HaveNote}
use Rattle.plan_cert.specs.RowFaults.{IsNoted, IsTried, IsAccounted, RowsAreAccounted}
use Rattle.plan_cert.proofs.RowOrder.{no_row, row_at, row_of, same_row}
use Rattle.plan_lines.proofs.ActionNumbers.{number_is, number_below, action_of_number}

-- a note where there is none
no_note : Note
no_note = record { row = 0; action = 0; reason = Cover }

module _ (job : JobData) (is_job : IsJob job) (heads : List RowHead) (notes : List Note) (are : AreRows job heads notes) where
  pub rows_of : AreRowsOf job heads
  rows_of = record { each = are.each_row; order = are.row_order }

  abbrev shown : Note → ℕ × (Action × Reason)
  shown note = (note.row, (action_at (stage_count job) note.action, note.reason))

  -- a row of a key stands at one place
  one_place : (key : Key) (worth : Worth) (i j : ℕ) (head : RowHead) → slice_get heads i ≡ Some head → head.key ≡ key → slice_get (worths_in heads) j ≡ Some (key, worth) → j ≡ i
  one_place key worth i j head at is row =
      let found = row_at job is_job heads rows_of key worth j row in
      let within = slice_get_within heads i head at in
      let here = get_or_from_slice_get heads i head no_row at in
      same_row job is_job heads rows_of j i no_row found.0 within
      (ap (λ (row : RowHead). key_place row.key) (found.1 no_row) ∙ (ap key_place (sym is) ∙ ap (λ (row : RowHead). key_place row.key) (sym here)))

  -- a note against the action of a number at a row is one against the action at the row's key
  pub noted : (i number : ℕ) (head : RowHead) (reason : Reason) → slice_get heads i ≡ Some head → IsNoted notes i number reason
      → HaveNote job heads notes head.key (action_at (stage_count job) number) reason
  noted i number head reason at (k, within, is) =
      let note : Note = record { row = i; action = number; reason = reason } in (
        i,
        head.worth,
        k,
        slice_get-map (λ (row : RowHead). (row.key, row.worth)) heads i ∙ rw at refl,
        slice_get-map shown notes k ∙ (ap (option_map shown) (slice_get-get_or notes k note within) ∙ ap (λ (n : Note). Some (shown n)) is),
      )

  -- and the other way round
  pub noted_back : (i number : ℕ) (head : RowHead) (reason : Reason) → slice_get heads i ≡ Some head
      → HaveNote job heads notes head.key (action_at (stage_count job) number) reason → IsNoted notes i number reason
  noted_back i number head reason at (row, worth, k, row_at, note_at) =
      let inside : k < length (map shown notes) = slice_get_within (map shown notes) k _ note_at in
      let within : k < length notes = rw (length-map notes shown) at inside in
      let read : Some (shown (get_or notes k no_note)) ≡ Some (row, (action_at (stage_count job) number, reason)) =
      sym (slice_get-map shown notes k ∙ ap (option_map shown) (slice_get-get_or notes k no_note within)) ∙ note_at in
      let parts = same_Some (shown (get_or notes k no_note)) (row, (action_at (stage_count job) number, reason)) read in
      let place : row ≡ i = one_place head.key worth i row head at refl row_at in
      let its_row : (get_or notes k no_note).row ≡ i = ap (λ (p : ℕ × (Action × Reason)). p.0) parts ∙ place in
      let its_number : (get_or notes k no_note).action ≡ number =
      sym (number_is (stage_count job) (get_or notes k no_note).action)
      ∙ (ap (λ (p : ℕ × (Action × Reason)). number_of_action (stage_count job) p.1.0) parts ∙ number_is (stage_count job) number) in
      let its_reason : (get_or notes k no_note).reason ≡ reason = ap (λ (p : ℕ × (Action × Reason)). p.1.1) parts in
      let note : Note = record { row = i; action = number; reason = reason } in
      (k, within, get_or_default notes k note no_note within ∙ (λ j. record { row = its_row j; action = its_number j; reason = its_reason j }))

  -- an action at a row's key is the one of a number
  numbered : (head : RowHead) (action : Action) → IsActionAt job head.key action →
      (number : ℕ) × (action ≡ action_at (stage_count job) number) × IsTried job head number
  numbered head action at =
      let last : action.bend ≤ 12 = omega (arith, few_bends job is_job, at.last) in
      let wide = number_below 12 (stage_count job) action at.first last at.stage in
      let is = action_of_number (stage_count job) action (record { first = at.first; last = last; stage = at.stage }) (omega (arith, wide)) in
      (number_of_action (stage_count job) action, is, (number_below (bend_count job) (stage_count job) action at.first at.last at.stage, subst (IsActionAt job head.key) is at))

  -- where each action at each row is accounted for, the rows meet their condition
  pub condition_met : RowsAreAccounted job heads notes (length heads) → MeetsCondition job (HaveRow heads) (HaveNote job heads notes)
  condition_met rows key worth row action at =
      let of = row_of job is_job heads rows_of key worth row in
      let head : RowHead = record { key = key; worth = worth } in
      let here : slice_get heads of.0 ≡ Some head = slice_get-get_or heads of.0 no_row of.1 ∙ ap Some (of.2 no_row) in
      let its = numbered head action at in
      elim (rows of.0 head of.1 here its.0 its.2.0 its.2) [
        | inl note ↦ inl (
          note.0,
          subst (λ (a : Action). HaveNote job heads notes key a note.0) (sym its.1) (noted of.0 its.0 head note.0 here note.1),
          subst (λ (a : Action). IsReasonFor job key.mask a note.0) (sym its.1) note.2,
        )
        | inr free ↦ inr (
          (λ reason note. free.0 reason (noted_back of.0 its.0 head reason here (subst (λ (a : Action). HaveNote job heads notes key a reason) its.1 note))),
          subst (λ (a : Action). IsClosed job (HaveRow heads) key a worth) (sym its.1) free.1,
        )
      ]

  -- two notes of one row and one action are one
  pub one_note : (row number : ℕ) (a b : Reason) → IsNoted notes row number a → IsNoted notes row number b → a ≡ b
  one_note row number a b (k, k_within, k_is) (l, l_within, l_is) =
      let first : Note = record { row = row; action = number; reason = a } in
      let second : Note = record { row = row; action = number; reason = b } in
      elim (cases_lt k l) [
        | inl before ↦ absurd (apart k l first second before l_within k_is l_is refl refl)
        | inr after ↦ elim (cases_lt l k) [
          | inl before ↦ absurd (apart l k second first before k_within l_is k_is refl refl)
          | inr again ↦
              let same : k ≡ l = omega (arith, after, again) in
              ap (λ (n : Note). n.reason) (sym k_is ∙ (ap (λ (n : ℕ). get_or notes n first) same ∙ (get_or_default notes l first second l_within ∙ l_is)))
        ]
      ]
    where
      in_order : (x y : Note) → x.row ≡ y.row → x.action ≡ y.action → NoteIsBefore x y → ⊥
      in_order x y rows actions (inl less) = omega (arith, rows, less)
      in_order x y rows actions (inr less) = omega (arith, actions, less.1)

      apart : (i j : ℕ) (x y : Note) → i < j → j < length notes → get_or notes i x ≡ x → get_or notes j y ≡ y → x.row ≡ y.row → x.action ≡ y.action → ⊥
      apart i j x y before within one two rows actions =
          in_order x y rows actions (subst (λ (n : Note). NoteIsBefore n y) one (subst (NoteIsBefore (get_or notes i x)) (get_or_default notes j x y within ∙ two) (are.note_order i j x before within)))

  -- where the rows meet their condition, each action at each row is accounted for
  pub accounted : MeetsCondition job (HaveRow heads) (HaveNote job heads notes) → (i number : ℕ) (head : RowHead) → slice_get heads i ≡ Some head → IsTried job head number → IsAccounted job heads notes i head number
  accounted rows i number head at tried =
      let row : HaveRow heads head.key head.worth = (i, slice_get-map (λ (row : RowHead). (row.key, row.worth)) heads i ∙ rw at refl) in
      elim (rows head.key head.worth row (action_at (stage_count job) number) tried.1) [
        | inl note ↦ inl (note.0, noted_back i number head note.0 at note.1, note.2)
        | inr free ↦ inr ((λ reason is. free.0 reason (noted i number head reason at is)), free.1)
      ]

  -- at a row's key a bend is unfolded
  pub no_full : (key : Key) (worth : Worth) → HaveRow heads key worth → IsFull job key → ⊥
  no_full key worth row full =
      let of = row_of job is_job heads rows_of key worth row in
      let its : IsRow job (record { key = key; worth = worth }) = subst (IsRow job) (of.2 no_row) (are.each_row of.0 no_row of.1) in
      let number = number_of_full job is_job key (record { mask = omega (arith, its.mask); attitude = its.attitude; stage = its.stage }) full in
      omega (arith, its.mask, number)
