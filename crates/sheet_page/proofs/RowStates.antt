-- The states of a certificate's rows, row by row.
use Rattle.std.proofs.Common.{◌≡◌, ◌≢◌, ◌∙◌, ℕ, suc, ◌+◌, ◌-◌, ◌<◌, ◌≤◌, inl, inr, Bool, true, false, List, [], ◌∷◌, ◌++◌, All, length, get_or, take, drop, filter, append_assoc, append-nil, refl, ap, sym, subst, arith}
use Rattle.std.specs.Prelude.{◌==◌, cond, Option, Some, AllPairs, if◌then◌else◌}
use Rattle.std.specs.List.{AllWithin}
use Rattle.std.proofs.lemmas.Bool.{eq-eqb, ne_eqb, cases_lt}
use Rattle.std.proofs.lemmas.List.{drop_more, get_or-take, get_or-drop, length-take, length-drop, take-append-drop}
use Rattle.std.proofs.lemmas.List.Elements.{filter-append}
use Rattle.brake_base.specs.declared.mask.Mask.{Mask}
use Rattle.plan_lines.specs.declared.note.Note.{Note}
use Rattle.cert_lines.specs.declared.row_head.RowHead.{RowHead}
use Rattle.plan_cert.specs.WellFormed.{NoteIsBefore}
use Rattle.sheet_page.specs.Kept.{StateData, notes_at_row, notes_between, is_mask_before, state_begun, last_states}

-- one row
module _ (notes : List Note) (row : ℕ) (before : Option Mask) (mask : Mask) where
  pub begun_new : is_mask_before before mask ≡ false → state_begun notes row before mask ≡ record { mask = mask; notes = notes_at_row notes row } ∷ []
  unfolding state_begun
  begun_new new = ap (λ (b : Bool). if b then [] else record { mask = mask; notes = notes_at_row notes row } ∷ []) new

  pub begun_old : is_mask_before before mask ≡ true → state_begun notes row before mask ≡ []
  unfolding state_begun
  begun_old old = ap (λ (b : Bool). if b then [] else record { mask = mask; notes = notes_at_row notes row } ∷ []) old

pub states_more : (notes : List Note) (rows : List RowHead) (i : ℕ) (d : RowHead) (before : Option Mask) (so_far all : List StateData) → i < length rows → so_far ++ last_states notes i before (drop i rows) ≡ all
    → (so_far ++ state_begun notes i before (get_or rows i d).key.mask) ++ last_states notes (i + 1) (Some (get_or rows i d).key.mask) (drop (i + 1) rows) ≡ all
states_more notes rows i d before so_far all within rest =
    append_assoc so_far (state_begun notes i before (get_or rows i d).key.mask) (last_states notes (i + 1) (Some (get_or rows i d).key.mask) (drop (i + 1) rows))
    ∙ ap (λ (t : List RowHead). so_far ++ last_states notes i before t) (sym (drop_more rows i d within)) ∙ rest

-- the states with those of one more row: where it begins a state, and where it doesn't
module _ (notes : List Note) (rows : List RowHead) (i : ℕ) (row : RowHead) (before next : Option Mask) (so_far all : List StateData) (within : i < length rows)
    (is : row ≡ get_or rows i row) (next_is : next ≡ Some row.key.mask) (rest : so_far ++ last_states notes i before (drop i rows) ≡ all) where
  at_row : (so_far ++ state_begun notes i before row.key.mask) ++ last_states notes (i + 1) next (drop (i + 1) rows) ≡ all
  at_row =
      subst (λ (b : Option Mask). (so_far ++ state_begun notes i before row.key.mask) ++ last_states notes (i + 1) b (drop (i + 1) rows) ≡ all) (sym next_is)
      (subst (λ (r : RowHead). (so_far ++ state_begun notes i before r.key.mask) ++ last_states notes (i + 1) (Some r.key.mask) (drop (i + 1) rows) ≡ all) (sym is)
      (states_more notes rows i row before so_far all within rest))

  pub next_new : (begin end : ℕ) → is_mask_before before row.key.mask ≡ false → notes_at_row notes i ≡ notes_between notes begin end → (so_far ++ record { mask = row.key.mask; notes = notes_between notes begin end } ∷ []) ++ last_states notes (i + 1) next (drop (i + 1) rows) ≡ all
  next_new begin end new between =
      subst (λ (t : List StateData). (so_far ++ t) ++ last_states notes (i + 1) next (drop (i + 1) rows) ≡ all)
      (begun_new notes i before row.key.mask new ∙ ap (λ (ns : List Note). record { mask = row.key.mask; notes = ns } ∷ []) between) at_row

  pub next_old : is_mask_before before row.key.mask ≡ true → so_far ++ last_states notes (i + 1) next (drop (i + 1) rows) ≡ all
  next_old old =
      subst (λ (t : List StateData). t ++ last_states notes (i + 1) next (drop (i + 1) rows) ≡ all)
      (ap (λ (t : List StateData). so_far ++ t) (begun_old notes i before row.key.mask old) ∙ append-nil so_far) at_row

-- what passes a test
module _ {A : Type 0} (test : A → Bool) where
  none_pass : (xs : List A) → All (λ x. test x ≡ false) xs → filter test xs ≡ []
  none_pass [] are = refl
  none_pass (x ∷ xs) are =
      ap (λ (b : Bool). cond b (x ∷ filter test xs) (filter test xs)) (are 0 x (omega arith)) ∙ none_pass xs (λ k d within. are (suc k) d (omega (arith, within)))

  all_pass : (xs : List A) → All (λ x. test x ≡ true) xs → filter test xs ≡ xs
  all_pass [] are = refl
  all_pass (x ∷ xs) are =
      ap (λ (b : Bool). cond b (x ∷ filter test xs) (filter test xs)) (are 0 x (omega arith)) ∙ ap (λ (t : List A). x ∷ t) (all_pass xs (λ k d within. are (suc k) d (omega (arith, within))))

-- the notes of a row stand between two places, where those before are of lesser rows
module _ (notes : List Note) (row begin end : ℕ) (order : begin ≤ end) (within : end ≤ length notes)
    (sorted : AllPairs NoteIsBefore notes)
    (lesser : (k : ℕ) (d : Note) → k < begin → (get_or notes k d).row < row)
    (from : (k : ℕ) (d : Note) → begin ≤ k → k < length notes → row ≤ (get_or notes k d).row)
    (of : AllWithin (λ note. note.row ≡ row) notes begin end)
    (other : (d : Note) → end < length notes → (get_or notes end d).row ≢ row) where
  -- those behind are of later rows
  pub later : (k : ℕ) (d : Note) → end ≤ k → k < length notes → row + 1 ≤ (get_or notes k d).row
  later k d past inside =
      let first = from end d order (omega (arith, past, inside)) in
      let differs = other d (omega (arith, past, inside)) in
      elim (cases_lt end k) [
        | inl less ↦ elim (sorted end k d less inside) [
          | inl above ↦ omega (arith, first, above)
          | inr same ↦ let here = same.0 in omega (arith, first, differs, here)
        ]
        | inr high ↦ let is : k ≡ end = omega (arith, high, past) in
            let there : (get_or notes k d).row ≡ (get_or notes end d).row = ap (λ (n : ℕ). (get_or notes n d).row) is in omega (arith, first, differs, there)
      ]

  pub lesser_now : (k : ℕ) (d : Note) → k < end → (get_or notes k d).row < row + 1
  lesser_now k d inside = elim (cases_lt k begin) [
    | inl low ↦ let less = lesser k d low in omega (arith, less)
    | inr high ↦ let is = of k d high inside in omega (arith, is)
  ]

  pub between_is : notes_at_row notes row ≡ notes_between notes begin end
  between_is =
      let test = λ (note : Note). note.row == row in
      let front = take begin notes in
      let rest = drop begin notes in
      let middle = take (end - begin) rest in
      let behind = drop (end - begin) rest in
      let length_front = length-take begin notes in
      let length_rest = length-drop begin notes in
      let length_middle = length-take (end - begin) rest in
      let length_behind = length-drop (end - begin) rest in
      let no_front : filter test front ≡ [] = none_pass test front (λ k d inside.
      let low : k < begin = omega (arith, inside, length_front) in
      let less = lesser k d low in
      ap (λ (n : Note). n.row == row) (get_or-take begin notes k d low) ∙ ne_eqb (get_or notes k d).row row (λ same. absurd (omega (arith, less, same)))) in
      let in_middle : filter test middle ≡ middle = all_pass test middle (λ k d inside.
      let low : k < end - begin = omega (arith, inside, length_middle) in
      let is = of (begin + k) d (omega arith) (omega (arith, low, order)) in
      ap (λ (n : Note). n.row == row) (get_or-take (end - begin) rest k d low ∙ get_or-drop begin notes k d) ∙ eq-eqb (get_or notes (begin + k) d).row row is) in
      let no_behind : filter test behind ≡ [] = none_pass test behind (λ k d inside.
      let place = begin + ((end - begin) + k) in
      let past : end ≤ place = omega (arith, order) in
      let short : place < length notes = omega (arith, inside, length_behind, length_rest, order, within) in
      let high = later place d past short in
      ap (λ (n : Note). n.row == row) (get_or-drop (end - begin) rest k d ∙ get_or-drop begin notes ((end - begin) + k) d) ∙ ne_eqb (get_or notes place d).row row (λ same. absurd (omega (arith, high, same)))) in
      let rest_is : filter test rest ≡ middle =
      ap (filter test) (sym (take-append-drop (end - begin) rest)) ∙ filter-append test middle behind
      ∙ ap (λ (t : List Note). t ++ filter test behind) in_middle ∙ ap (λ (t : List Note). middle ++ t) no_behind ∙ append-nil middle in
      ap (filter test) (sym (take-append-drop begin notes)) ∙ filter-append test front rest ∙ ap (λ (t : List Note). t ++ filter test rest) no_front ∙ rest_is
