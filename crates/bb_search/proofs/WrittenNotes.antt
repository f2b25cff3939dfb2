-- The notes of one row more, by the places of its actions.
use Rattle.std.proofs.Common.{◌≡◌, inl, inr, ℕ, zero, suc, ◌+◌, ◌*◌, ◌/◌, ◌%◌, ◌<◌, ◌≤◌, ◌&&◌, nat_lt, Bool, true, false, Option, List, [], ◌∷◌, ◌++◌, map, filter, Some, None, arith, refl, sym, ◌∙◌, ap, subst, append_assoc}
use Rattle.std.proofs.lemmas.Bool.{cases_lt, cases_Bool}
use Rattle.std.proofs.lemmas.List.{append-nil, map-append}
use Rattle.std.specs.Prelude.{is_some}
use Rattle.brake_base.specs.declared.reason.Reason.{Reason}
use Rattle.stage_lanes.specs.ActionSets.{numbers_below}
use Rattle.row_pool.specs.Rows.{Pool, IsPool, reason_at}
use Rattle.plan_lines.specs.declared.note.Note.{Note}
use Rattle.plan_lines.specs.NoteLines.{number_at}
use Rattle.row_text.proofs.ActionPlaces.{number_at_below}
use Rattle.plan_lines.proofs.NoteSets.{one_more, skip, keep}
use Rattle.std.proofs.lemmas.Bool.{and_parts}
use Rattle.bb_search.specs.CertRows.{reason_in, note_order, AreNotes}
use Rattle.bb_search.specs.WrittenRows.{is_noted, noted_places, known, row_note, row_notes}
use Rattle.bb_search.proofs.NoteLists.{notes_up_to, notes_more, notes_of_row}

-- the end of the numbers below a place, before the next place: at a stage of the machine the number
-- is taken, and past the machine's stages there is none
next_inside : (stages n m : ℕ) → n % 8 < stages → stages ≤ 6 → (suc n % 8 ≤ stages → m ≡ suc n / 8 * stages + suc n % 8) → m ≡ number_at stages n + 1
next_inside stages n m inside few low =
    let side : suc n / 8 ≡ n / 8 = omega (arith, inside, few) in
    let stage : suc n % 8 ≡ n % 8 + 1 = omega (arith, inside, few) in
    low (omega (arith, stage, inside)) ∙ (λ i. side i * stages + stage i) ∙ later (n / 8 * stages) (n % 8)
  where
    later : (a b : ℕ) → a + (b + 1) ≡ a + b + 1
    later a b = omega arith

module _ (stages n m : ℕ) (outside : stages ≤ n % 8) (low : suc n % 8 ≤ stages → m ≡ suc n / 8 * stages + suc n % 8) (high : stages ≤ suc n % 8 → m ≡ suc n / 8 * stages + stages) where
  next_outside : m ≡ n / 8 * stages + stages
  next_outside = elim (cases_lt (n % 8) 7) [
    | inl within ↦
        let side : suc n / 8 ≡ n / 8 = omega (arith, within) in
        high (omega (arith, within, outside)) ∙ ap (λ (q : ℕ). q * stages + stages) side
    | inr last ↦
        let side : suc n / 8 ≡ n / 8 + 1 = omega (arith, last) in
        let stage : suc n % 8 ≡ 0 = omega (arith, last) in
        low (omega (arith, stage)) ∙ (λ i. side i * stages + stage i) ∙ more (n / 8) stages
  ]
    where
      more : (a b : ℕ) → (a + 1) * b + 0 ≡ a * b + b
      more a b = grind arith

  next_below : n % 8 ≤ stages → m ≡ n / 8 * stages + n % 8
  next_below below = next_outside ∙ ap (λ (s : ℕ). n / 8 * stages + s) (omega (arith, below, outside))

-- ---- what a test of a place tells
below : (m n : ℕ) → nat_lt m n ≡ true → m < n
below m n h = grind arith

is_below : (m n : ℕ) → m < n → nat_lt m n ≡ true
is_below m n h = grind arith

-- a reason that is there is the known one
there : (x : Option Reason) → is_some x ≡ true → x ≡ Some (known x)
there None some = absurd cc
there (Some reason) some = refl

none_there : (s t : Bool) (x : Option Reason) → (s && is_some x) ≡ t → t ≡ false → s ≡ true → x ≡ None
none_there s t None is fail pass = refl
none_there true t (Some reason) is fail pass = absurd cc
none_there false t (Some reason) is fail pass = absurd cc

module _ (pool : Pool) (stages row n : ℕ) where
  noted_stage : is_noted pool stages row n ≡ true → n % 8 < stages
  noted_stage is = below (n % 8) stages (and_parts (nat_lt (n % 8) stages) (is_some (reason_at pool row (number_at stages n))) is).0

  pub noted_reason : is_noted pool stages row n ≡ true → reason_at pool row (number_at stages n) ≡ Some (known (reason_at pool row (number_at stages n)))
  noted_reason is = there (reason_at pool row (number_at stages n)) (and_parts (nat_lt (n % 8) stages) (is_some (reason_at pool row (number_at stages n))) is).1

  noted_none : n % 8 < stages → is_noted pool stages row n ≡ false → reason_at pool row (number_at stages n) ≡ None
  noted_none inside out = none_there (nat_lt (n % 8) stages) false (reason_at pool row (number_at stages n)) out refl (is_below (n % 8) stages inside)

module _ (pool : Pool) (orders : List ℕ) (place row : ℕ) (here : (number : ℕ) → reason_in pool orders place number ≡ reason_at pool row number) (stages : ℕ) (few : stages ≤ 6) (notes : List Note) (before : AreNotes pool orders (note_order place 0) notes) where
  abbrev test : ℕ → Bool
  test n = is_noted pool stages row n

  abbrev so_far : ℕ → List Note
  so_far n = notes ++ map (row_note pool stages row place) (filter test (numbers_below n))

  one_note : (n : ℕ) → test n ≡ true → so_far (suc n) ≡ so_far n ++ row_note pool stages row place n ∷ []
  one_note n member =
      ap (λ (ks : List ℕ). notes ++ map (row_note pool stages row place) ks) (one_more test n ∙ ap (λ (ks : List ℕ). filter test (numbers_below n) ++ ks) (keep test n member))
      ∙ ap (λ (ns : List Note). notes ++ ns) (map-append (row_note pool stages row place) (filter test (numbers_below n)) (n ∷ []))
      ∙ sym (append_assoc notes (map (row_note pool stages row place) (filter test (numbers_below n))) (row_note pool stages row place n ∷ []))

  no_note : (n : ℕ) → test n ≡ false → so_far (suc n) ≡ so_far n
  no_note n out =
      ap (λ (ks : List ℕ). notes ++ map (row_note pool stages row place) ks)
      (one_more test n ∙ ap (λ (ks : List ℕ). filter test (numbers_below n) ++ ks) (skip test n out) ∙ append-nil (filter test (numbers_below n)))

  nothing : (s : ℕ) → 0 * s + 0 ≡ 0
  nothing s = omega arith

  notes_to : (n : ℕ) → n ≤ 192 → (m : ℕ) → (n % 8 ≤ stages → m ≡ n / 8 * stages + n % 8) → (stages ≤ n % 8 → m ≡ n / 8 * stages + stages) → AreNotes pool orders (note_order place m) (so_far n)
  notes_to zero within m low high =
      subst (λ (k : ℕ). AreNotes pool orders (note_order place k) (notes ++ [])) (sym (low (omega arith) ∙ nothing stages)) (subst (AreNotes pool orders (note_order place 0)) (sym (append-nil notes)) before)
  notes_to (suc n) within m low high = elim (cases_lt (n % 8) stages) [
    | inl inside ↦
        let number = number_at stages n in
        let next : m ≡ number + 1 = next_inside stages n m inside few low in
        let bounded = number_at_below stages n (omega (arith, within)) inside in
        let small : number < 256 = omega (arith, bounded, few) in
        let earlier = notes_to n (omega (arith, within)) number (λ _. refl) (λ over. absurd (omega (arith, over, inside))) in
        subst (λ (k : ℕ). AreNotes pool orders (note_order place k) (so_far (suc n))) (sym next)
        (elim (cases_Bool (test n)) [
          | inl member ↦
              subst (AreNotes pool orders (note_order place (number + 1))) (sym (one_note n member))
              (notes_more pool orders place number small (so_far n) earlier (known (reason_at pool row number)) (here number ∙ noted_reason pool stages row n member))
          | inr out ↦
              subst (AreNotes pool orders (note_order place (number + 1))) (sym (no_note n out))
              (notes_up_to pool orders place number (number + 1) (so_far n) (omega arith) (omega (arith, small))
              (λ other late early.
              let same : number ≡ other = omega (arith, late, early) in
              subst (λ (k : ℕ). reason_in pool orders place k ≡ None) same (here number ∙ noted_none pool stages row n inside out))
              earlier)
        ])
    | inr outside ↦
        let out : test n ≡ false = elim (cases_Bool (test n)) [
          | inl member ↦ let inside = noted_stage pool stages row n member in absurd (omega (arith, inside, outside))
          | inr out ↦ out
        ] in
        subst (AreNotes pool orders (note_order place m)) (sym (no_note n out))
        (notes_to n (omega (arith, within)) m (next_below stages n m outside low high) (λ _. next_outside stages n m outside low high))
  ]

  pub row_noted : IsPool pool → pool.actions ≡ 24 * stages → AreNotes pool orders (note_order (place + 1) 0) (notes ++ row_notes pool stages row place)
  unfolding noted_places
  row_noted is_pool all =
      notes_of_row pool orders is_pool place (so_far 192) (omega (arith, all, few))
      (notes_to 192 (omega arith) pool.actions (λ _. all ∙ plain stages) (λ none. all ∙ no_stages stages none))
    where
      plain : (s : ℕ) → 24 * s ≡ 24 * s + 0
      plain s = omega arith

      no_stages : (s : ℕ) → s ≤ 0 → 24 * s ≡ 24 * s + s
      no_stages s none = omega (arith, none)
