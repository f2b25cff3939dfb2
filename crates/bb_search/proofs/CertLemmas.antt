-- The rows and notes that are taken from a pool say what those of the pool say.
use Rattle.std.proofs.Common.{◌≡◌, inl, inr, ℕ, ◌<◌, List, map, length, get_or, Option, Some, arith, refl, sym, ◌∙◌, ap, subst}
use Rattle.std.specs.Prelude.{slice_get, option_map, option_and_then, IsSome, AllPairs}
use Rattle.std.proofs.lemmas.List.{length-map}
use Rattle.std.proofs.lemmas.Option.{slice_get_within, slice_get-map, slice_get_cases, slice_get-get_or, slice_get_read, get_or_from_slice_get, same_Some, none-some}
use Rattle.brake_base.specs.declared.stroke.Key.{Key}
use Rattle.brake_base.specs.declared.stroke.Action.{Action}
use Rattle.brake_base.specs.declared.stroke.Step.{Step}
use Rattle.brake_base.specs.declared.stroke.Worth.{Worth}
use Rattle.brake_base.specs.declared.reason.Reason.{Reason}
use Rattle.brake_base.specs.Actions.{number_of_action}
use Rattle.job_setup.specs.Setup.{JobData, stage_count}
use Rattle.job_setup.specs.ValidJob.{IsJob}
use Rattle.handling_cost.specs.StepCost.{IsActionAt}
use Rattle.handling_cost.specs.Good.{MeetsCondition}
use Rattle.handling_cost.specs.Thrifty.{AreThrifty}
use Rattle.handling_cost.proofs.Tables.{closed_moved}
use Rattle.row_pool.specs.Rows.{Pool, PoolRow, reason_at}
use Rattle.cert_lines.specs.declared.row_head.RowHead.{RowHead}
use Rattle.plan_lines.specs.declared.note.Note.{Note}
use Rattle.cert_lines.specs.Lines.{action_at}
use Rattle.plan_cert.specs.GoodCert.{worths_in, HasNote as HasCertNote}
use Rattle.plan_lines.proofs.Actions.{action_is}
use Rattle.bb_search.specs.Table.{HasRow, HasNote, reason_for, IsNoted, AreNoted}
use Rattle.bb_search.specs.CertRows.{row_order, row_of_order, AreSortedRows, IsHeadOf, AreHeads, reason_in, note_order, IsNoteOf, AreNotes}
use Rattle.bb_search.proofs.OrderLemmas.{is_action, number_in, number_below}
use Rattle.bb_search.proofs.RowOrders.{row_of_row_order}

-- ---- tables that say the same of all actions at their keys
module _ (job : JobData) (R S : Key → Worth → Type 0) (N M : Key → Action → Reason → Type 0) (rows : (key : Key) (worth : Worth) → R key worth → S key worth) (back : (key : Key) (worth : Worth) → S key worth → R key worth)
    (back_notes : (key : Key) (action : Action) (reason : Reason) → M key action reason → N key action reason) where
  pub condition_carried : ((key : Key) (action : Action) (reason : Reason) → IsActionAt job key action → N key action reason → M key action reason) → MeetsCondition job R N → MeetsCondition job S M
  condition_carried notes good key worth row action at = elim (good key worth (back key worth row) action at) [
    | inl note ↦ inl (note.0, notes key action note.0 at note.1, note.2)
    | inr free ↦ inr ((λ reason note. free.0 reason (back_notes key action reason note)), closed_moved job R S rows key action worth free.1)
  ]

  pub thrifty_carried : AreThrifty job R N → AreThrifty job S M
  thrifty_carried thrifty key worth row = elim (thrifty key worth (back key worth row)) [
    | inl first ↦ inl first
    | inr source ↦ inr (
      source.0,
      source.1,
      source.2,
      rows source.0 source.1 source.3,
      source.4,
      (λ reason note. source.5 reason (back_notes source.0 source.2 reason note)),
      source.6,
      source.7,
    )
  ]

-- what stands in a list's map
pub mapped : {X Y : Type 0} (f : X → Y) (xs : List X) (i : ℕ) (x : X) → slice_get xs i ≡ Some x → slice_get (map f xs) i ≡ Some (f x)
mapped f xs i x at = slice_get-map f xs i ∙ ap (option_map f) at

-- the element that stands where one of the map does
pub unmapped : {X Y : Type 0} (f : X → Y) (xs : List X) (i : ℕ) (y : Y) → slice_get (map f xs) i ≡ Some y → (x : X) × (slice_get xs i ≡ Some x) × (f x ≡ y)
unmapped f xs i y at = elim (slice_get_cases xs i).1 [
  | inl here ↦ (here.0, here.2, same_Some (f here.0) y (sym (mapped f xs i here.0 here.2) ∙ at))
  | inr past ↦ absurd (none-some y (sym (slice_get-map f xs i ∙ ap (option_map f) past.1) ∙ at))
]

-- what holds of the elements at any two places holds of those of the map
pub map_pairs : {X Y : Type 0} (R : Y → Y → Type 0) (f : X → Y) (xs : List X) → ((i j : ℕ) (x y : X) → i < j → slice_get xs i ≡ Some x → slice_get xs j ≡ Some y → R (f x) (f y)) → AllPairs R (map f xs)
map_pairs R f xs each i j d before within =
    let low : j < length xs = omega (arith, within, length-map xs f) in
    let a = unmapped f xs i (get_or (map f xs) i d) (slice_get-get_or (map f xs) i d (omega (arith, before, within))) in
    let b = unmapped f xs j (get_or (map f xs) j d) (slice_get-get_or (map f xs) j d within) in
    subst (λ y. R y (get_or (map f xs) j d)) a.2 (subst (R (f a.0)) b.2 (each i j a.0 b.0 before a.1 b.1))

-- what a row's reasons say of the pool
pub reason_of_row : (pool : Pool) (k action : ℕ) (row : PoolRow) → slice_get pool.rows k ≡ Some row → reason_at pool k action ≡ reason_for action row
unfolding reason_for
reason_of_row pool k action row at = ap (option_and_then (λ (r : PoolRow). option_and_then (λ (reason : Option Reason). reason) (slice_get r.reasons action))) at

some_of : (worth : Option Worth) (w : Worth) → worth ≡ Some w → IsSome worth
some_of worth w is = rw is refl

module _ (pool : Pool) (orders : List ℕ) (are : AreSortedRows pool.rows orders) (heads : List RowHead) (taken : AreHeads pool.rows orders (length orders) heads) where
  -- where a row stands in the order of keys
  pub place_of_row : (k : ℕ) (row : PoolRow) → slice_get pool.rows k ≡ Some row → (i : ℕ) × (order : ℕ) × (slice_get orders i ≡ Some order) × (row_of_order order ≡ k)
  place_of_row k row at =
      let found = are.each k row at in
      let order = row_order row.key k in
      let low = slice_get_within pool.rows k row at in
      (found.0, order, slice_get_read orders (length orders) found.0 order refl found.1 (sym found.2), row_of_row_order row.key k (omega (arith, low, are.few)))

  pub head_at : (i order : ℕ) → slice_get orders i ≡ Some order → (head : RowHead) × (slice_get heads i ≡ Some head) × IsHeadOf pool.rows (row_of_order order) head
  head_at i order at = elim (slice_get_cases heads i).1 [
    | inl here ↦ (here.0, here.2, taken.each i order here.0 at here.2)
    | inr past ↦ let low = slice_get_within orders i order at in absurd (omega (arith, low, past.0, taken.all))
  ]

  pub row_of_head : (i : ℕ) (head : RowHead) → slice_get heads i ≡ Some head → (order : ℕ) × (slice_get orders i ≡ Some order) × IsHeadOf pool.rows (row_of_order order) head
  row_of_head i head at = elim (slice_get_cases orders i).1 [
    | inl here ↦ (here.0, here.2, taken.each i here.0 head here.2 at)
    | inr past ↦ let low = slice_get_within heads i head at in absurd (omega (arith, low, past.0, taken.all))
  ]

  -- a row and its head are of one key and worth
  same_head : (k order : ℕ) (row : PoolRow) (head : RowHead) → slice_get pool.rows k ≡ Some row → row_of_order order ≡ k → (of : IsHeadOf pool.rows (row_of_order order) head) → of.0 ≡ row
  same_head k order row head at number of = same_Some of.0 row (sym of.1 ∙ (ap (slice_get pool.rows) number ∙ at))

  pub row_there : (key : Key) (worth : Worth) → HasRow pool.rows key worth → (i : ℕ) × (slice_get (worths_in heads) i ≡ Some (key, worth))
  row_there key worth (k, row, at, of_key, of_worth) =
      let place = place_of_row k row at in
      let head = head_at place.0 place.1 place.2 in
      let same = same_head k place.1 row head.0 at place.3 head.2 in
      let its_key : head.0.key ≡ key = sym head.2.2 ∙ (ap (λ (r : PoolRow). r.key) same ∙ of_key) in
      let its_worth : head.0.worth ≡ worth = same_Some head.0.worth worth (sym head.2.3 ∙ (ap (λ (r : PoolRow). r.worth) same ∙ of_worth)) in
      (place.0, mapped (λ (h : RowHead). (h.key, h.worth)) heads place.0 head.0 head.1 ∙ ap Some (λ i. (its_key i, its_worth i)))

  pub row_back : (key : Key) (worth : Worth) → (i : ℕ) × (slice_get (worths_in heads) i ≡ Some (key, worth)) → HasRow pool.rows key worth
  row_back key worth (i, at) =
      let head = unmapped (λ (h : RowHead). (h.key, h.worth)) heads i (key, worth) at in
      let row = row_of_head i head.0 head.1 in
      (row_of_order row.0, row.2.0, row.2.1, row.2.2 ∙ ap (λ (p : Key × Worth). p.0) head.2, row.2.3 ∙ ap (λ (p : Key × Worth). Some p.1) head.2)

  module _ (job : JobData) (is_job : IsJob job) (noted : (i : ℕ) (row : PoolRow) → slice_get pool.rows i ≡ Some row → AreNoted job row) (notes : List Note) (listed : AreNotes pool orders (note_order (length orders) 0) notes) where
    -- the reason at a place of the order
    reason_there : (i order action : ℕ) (row : PoolRow) → slice_get orders i ≡ Some order → slice_get pool.rows (row_of_order order) ≡ Some row → reason_in pool orders i action ≡ reason_for action row
    reason_there i order action row at at_row = ap (λ (o : ℕ). reason_at pool (row_of_order o) action) (get_or_from_slice_get orders i order 0 at) ∙ reason_of_row pool (row_of_order order) action row at_row

    pub note_there : (claim : Worth) (steps : List Step) (key : Key) (action : Action) (reason : Reason) → IsActionAt job key action → HasNote job pool.rows key action reason →
        HasCertNote job (record { claim = claim; steps = steps; rows = heads; notes = notes }) key action reason
    note_there claim steps key action reason at (k, row, at_row, of_key, has_worth, is) =
        let place = place_of_row k row at_row in
        let head = head_at place.0 place.1 place.2 in
        let same = same_head k place.1 row head.0 at_row place.3 head.2 in
        let its_key : head.0.key ≡ key = sym head.2.2 ∙ (ap (λ (r : PoolRow). r.key) same ∙ of_key) in
        let number = number_of_action (stage_count job) action in
        let note : Note = record { row = place.0; action = number; reason = reason } in
        let below = number_below job is_job key action at in
        let low = slice_get_within orders place.0 place.1 place.2 in
        let found = listed.each place.0 number reason below (omega (arith, below, low)) (reason_there place.0 place.1 number row place.2 (ap (slice_get pool.rows) place.3 ∙ at_row) ∙ is) in
        let numbered : action ≡ action_at (stage_count job) number = action_is (stage_count job) number action (number_in job is_job key action at) (is_action job is_job key action at) refl in (
          place.0,
          head.0.worth,
          found.0,
          mapped (λ (h : RowHead). (h.key, h.worth)) heads place.0 head.0 head.1 ∙ ap (λ (k : Key). Some (k, head.0.worth)) its_key,
          mapped (λ (n : Note). (n.row, (action_at (stage_count job) n.action, n.reason))) notes found.0 note (slice_get_read notes (length notes) found.0 note refl found.1 (sym found.2))
              ∙ ap (λ (a : Action). Some (place.0, (a, reason))) (sym numbered),
        )

    -- what a note of the certificate stands for: the row at its place, and an action there
    pub record IsNoteAt (note : Note) (head : RowHead) (row : PoolRow) (action : Action) (k : ℕ) : Type 0 where
      pub at : slice_get heads note.row ≡ Some head
      pub at_row : slice_get pool.rows k ≡ Some row
      pub key : row.key ≡ head.key
      pub worth : row.worth ≡ Some head.worth
      pub is_action : IsActionAt job row.key action
      pub number : number_of_action (stage_count job) action ≡ note.action
      pub numbered : action ≡ action_at (stage_count job) note.action
      pub holds : IsNoted job row.key note.action note.reason
      pub reason : reason_for note.action row ≡ Some note.reason

    pub note_at : (note : Note) → IsNoteOf pool orders (note_order (length orders) 0) note → (head : RowHead) × (row : PoolRow) × (action : Action) × (k : ℕ) × IsNoteAt note head row action k
    note_at note is = elim (slice_get_cases orders note.row).1 [
      | inl here ↦
          let head = head_at note.row here.0 here.2 in
          let row = head.2.0 in
          let reason : reason_for note.action row ≡ Some note.reason = sym (reason_there note.row here.0 note.action row here.2 head.2.1) ∙ is.reason in
          let found = noted (row_of_order here.0) row head.2.1 note.action note.reason reason in
          let below = number_in job is_job row.key found.0 found.1 in (
            head.0,
            row,
            found.0,
            row_of_order here.0,
            record {
              at = head.1;
              at_row = head.2.1;
              key = head.2.2;
              worth = head.2.3;
              is_action = found.1;
              number = found.2;
              numbered = action_is (stage_count job) note.action found.0 (omega (arith, below, found.2)) (is_action job is_job row.key found.0 found.1) found.2;
              holds = found;
              reason = reason;
            },
          )
      | inr past ↦ let early = is.early in absurd (omega (arith, early, past.0))
    ]

    pub note_back : (claim : Worth) (steps : List Step) (key : Key) (action : Action) (reason : Reason) →
        HasCertNote job (record { claim = claim; steps = steps; rows = heads; notes = notes }) key action reason → HasNote job pool.rows key action reason
    note_back claim steps key action reason (i, worth, j, at_head, at_note) =
        let note = unmapped (λ (n : Note). (n.row, (action_at (stage_count job) n.action, n.reason))) notes j (i, (action, reason)) at_note in
        let head = unmapped (λ (h : RowHead). (h.key, h.worth)) heads i (key, worth) at_head in
        let within = slice_get_within notes j note.0 note.1 in
        let is = subst (IsNoteOf pool orders (note_order (length orders) 0)) (get_or_from_slice_get notes j note.0 note.0 note.1) (listed.only j note.0 within) in
        let found = note_at note.0 is in
        let row = found.1 in
        let at = found.4 in
        let place : note.0.row ≡ i = ap (λ (p : ℕ × (Action × Reason)). p.0) note.2 in
        let same : found.0 ≡ head.0 = same_Some found.0 head.0 (sym at.at ∙ (ap (slice_get heads) place ∙ head.1)) in
        let act : found.2 ≡ action = at.numbered ∙ ap (λ (p : ℕ × (Action × Reason)). p.1.0) note.2 in
        let number : number_of_action (stage_count job) action ≡ note.0.action = ap (number_of_action (stage_count job)) (sym act) ∙ at.number in (
          found.3,
          row,
          at.at_row,
          at.key ∙ (ap (λ (h : RowHead). h.key) same ∙ ap (λ (p : Key × Worth). p.0) head.2),
          some_of row.worth found.0.worth at.worth,
          ap (λ (n : ℕ). reason_for n row) number ∙ (at.reason ∙ ap (λ (p : ℕ × (Action × Reason)). Some p.1.1) note.2),
        )
