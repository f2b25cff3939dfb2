-- The loops over the faces that a fold moves, and that are moved back.
use Rattle.std.proofs.Common.{◌≡◌, ℕ, zero, suc, ◌+◌, ◌<◌, ◌≤◌, Bool, true, false, cond, List, [], ◌∷◌, ◌++◌, length, take, get_or, slice_get, slice_set, slice_index_or, inl, inr, Option, Some, sym, ◌∙◌, ap, subst, arith}
use Rattle.std.proofs.lemmas.List.{get_or_push, get_or_append_left, get_or-set_same, get_or-set_other, length-set, length_push, take_all, take-append-le}
use Rattle.std.specs.Prelude.{unwrap_or, ◌-◌}
use Rattle.std.proofs.Math.Nat.{eq-or-lt_of_le}
use Rattle.brake_base.specs.declared.space.Place.{Place}
use Rattle.brake_base.specs.declared.mask.Mask.{Mask}
use Rattle.brake_base.specs.Masks.{has, union}
use Rattle.fold_boxes.specs.Shapes.{ShapeData, IsShape}
use Rattle.fold_boxes.specs.Places.{IsPlaceOf, ArePlaces}
use Rattle.fold_boxes.proofs.Beyond.{beyond-root}
use Rattle.bend_state.specs.State.{moves, moved_before, AreKept}
use Rattle.bend_state.proofs.Moved.{stays_placed, comes_back, moved_next, moved_first, moved_few, moved_more}

-- the faces up to one are moved, and what they left stands on the trail
pub record IsMoving (shape : ShapeData) (before group : Mask) (mark face : ℕ) (start places records : List Place) : Type 0 where
  pub count : length places ≡ length shape.part.faces
  pub done : (f : ℕ) (other : Place) → f < face → f < length shape.part.faces → IsPlaceOf shape (union before group) f (slice_index_or places f other)
  pub rest : (f : ℕ) (other : Place) → face ≤ f → f < length shape.part.faces → IsPlaceOf shape before f (slice_index_or places f other)
  pub first : take mark records ≡ start
  pub long : length records ≡ mark + moved_before shape group face
  pub kept : (f : ℕ) (other : Place) → 0 < f → f < face → f < length shape.part.faces → moves shape group f ≡ true → IsPlaceOf shape before f (slice_index_or records (mark + moved_before shape group f) other)

pub begins : (shape : ShapeData) → IsShape shape → (before group : Mask) (places records : List Place) → length places ≡ length shape.part.faces → ArePlaces shape before places → IsMoving shape before group (length records) 1 records places records
begins shape rules before group places records count are = record {
  count = count;
  done = λ f other low inside.
      let root : f ≡ 0 = omega (arith, low) in
      let still : moves shape group f ≡ false = ap (moves shape group) root ∙ beyond-root shape.part.faces (has group) in
      stays_placed shape rules before group f (slice_index_or places f other) inside still (are f other (omega (arith, inside, count)));
  rest = λ f other low inside. are f other (omega (arith, inside, count));
  first = take_all (length records) records (omega arith);
  long = omega (arith, moved_first shape group);
  kept = λ f other some low inside moved. absurd (omega (arith, some, low));
}

-- a face that is moved
pub moves_one : (shape : ShapeData) → IsShape shape → (before group : Mask) (mark face : ℕ) (start places records next longer : List Place) (old child : Place) → 0 < face → face < length shape.part.faces → mark ≤ length records → moves shape group face ≡ true
    → IsPlaceOf shape before face old → IsPlaceOf shape (union before group) face child → next ≡ slice_set places face child → longer ≡ records ++ old ∷ []
    → IsMoving shape before group mark face start places records → IsMoving shape before group mark (face + 1) start next longer
moves_one shape rules before group mark face start places records next longer old child some inside low moved old_is child_is next_is longer_is now =
    let more : moved_before shape group (face + 1) ≡ moved_before shape group face + 1 = moved_next shape group face some ∙ ap (λ (t : Bool). moved_before shape group face + cond t 1 0) moved in
    let pushed : length longer ≡ length records + 1 = ap length longer_is ∙ length_push records old in
    record {
      count = ap length next_is ∙ length-set places face child ∙ now.count;
      done = λ f other before_next within. elim (eq-or-lt_of_le (at_most f before_next)) [
        | inl same ↦ subst (λ (n : ℕ). IsPlaceOf shape (union before group) n (slice_index_or next n other)) (sym same) (subst (IsPlaceOf shape (union before group) face) (sym (ap (λ xs. get_or xs face other) next_is ∙ get_or-set_same places face child other (omega (arith, inside, now.count)))) child_is)
        | inr earlier ↦ subst (IsPlaceOf shape (union before group) f) (sym (ap (λ xs. get_or xs f other) next_is ∙ get_or-set_other places face f child other (λ e. omega (arith, e, earlier)))) (now.done f other earlier within)
      ];
      rest = λ f other later within. subst (IsPlaceOf shape before f) (sym (ap (λ xs. get_or xs f other) next_is ∙ get_or-set_other places face f child other (λ e. omega (arith, e, later)))) (now.rest f other (omega (arith, later)) within);
      first = ap (take mark) longer_is ∙ take-append-le mark records (old ∷ []) low ∙ now.first;
      long = omega (arith, pushed, now.long, more);
      kept = λ f other first before_next within moved_too. elim (eq-or-lt_of_le (at_most f before_next)) [
        | inl same ↦ subst (λ (n : ℕ). IsPlaceOf shape before n (slice_index_or longer (mark + moved_before shape group n) other)) (sym same) (subst (IsPlaceOf shape before face) (sym (ap (λ xs. get_or xs (mark + moved_before shape group face) other) longer_is ∙ get_or_push records old other (mark + moved_before shape group face) now.long)) old_is)
        | inr earlier ↦ subst (IsPlaceOf shape before f) (sym (ap (λ xs. get_or xs (mark + moved_before shape group f) other) longer_is ∙ get_or_append_left records (old ∷ []) other (mark + moved_before shape group f) (below f first earlier moved_too))) (now.kept f other first earlier within moved_too)
      ];
    }
  where
    at_most : (f : ℕ) → f < face + 1 → f ≤ face
    at_most f h = omega (arith, h)

    below : (f : ℕ) → 0 < f → f < face → moves shape group f ≡ true → mark + moved_before shape group f < length records
    below f first earlier moved_too =
        let next = moved_next shape group f first ∙ ap (λ (t : Bool). moved_before shape group f + cond t 1 0) moved_too in
        let same : (f + 1) + (face - (f + 1)) ≡ face = omega (arith, earlier) in
        let up = moved_more shape group (f + 1) (face - (f + 1)) (omega arith) in
        let there = ap (moved_before shape group) same in
        omega (arith, now.long, next, up, there)

-- a face that stays
pub stays_one : (shape : ShapeData) → IsShape shape → (before group : Mask) (mark face : ℕ) (start places records : List Place) → 0 < face → face < length shape.part.faces → moves shape group face ≡ false
    → IsMoving shape before group mark face start places records → IsMoving shape before group mark (face + 1) start places records
stays_one shape rules before group mark face start places records some inside still now =
    let same : moved_before shape group (face + 1) ≡ moved_before shape group face + 0 = moved_next shape group face some ∙ ap (λ (t : Bool). moved_before shape group face + cond t 1 0) still in
    record {
      count = now.count;
      done = λ f other before_next within. elim (eq-or-lt_of_le (at_most f before_next)) [
        | inl here ↦ subst (λ (n : ℕ). IsPlaceOf shape (union before group) n (slice_index_or places n other)) (sym here) (stays_placed shape rules before group face (slice_index_or places face other) inside still (now.rest face other (omega arith) inside))
        | inr earlier ↦ now.done f other earlier within
      ];
      rest = λ f other later within. now.rest f other (omega (arith, later)) within;
      first = now.first;
      long = omega (arith, now.long, same);
      kept = λ f other first before_next within moved_too. elim (eq-or-lt_of_le (at_most f before_next)) [
        | inl here ↦ absurd (let clash = sym still ∙ ap (moves shape group) (sym here) ∙ moved_too in cc)
        | inr earlier ↦ now.kept f other first earlier within moved_too
      ];
    }
  where
    at_most : (f : ℕ) → f < face + 1 → f ≤ face
    at_most f h = omega (arith, h)

-- the trail has room for the place of one more face
pub some_room : (shape : ShapeData) (before group : Mask) (mark face : ℕ) (start places records : List Place) (room all : ℕ) → 0 < face → face < length shape.part.faces → length shape.part.faces ≤ 13 → 13 ≤ all
    → IsMoving shape before group mark face start places records → room + length records ≡ all + mark → 0 < room
some_room shape before group mark face start places records room all some inside limit enough now sum =
    let next : suc (face - 1) ≡ face = omega (arith, some) in
    let same = ap (moved_before shape group) next in
    let few = moved_few shape group (face - 1) in
    omega (arith, sum, now.long, same, few, next, inside, limit, enough)

-- the faces up to one are moved back, and so many records are left for the others
pub record IsRestoring (shape : ShapeData) (before group : Mask) (mark face left : ℕ) (places records : List Place) : Type 0 where
  pub count : length places ≡ length shape.part.faces
  pub done : (f : ℕ) (other : Place) → f < face → f < length shape.part.faces → IsPlaceOf shape before f (slice_index_or places f other)
  pub rest : (f : ℕ) (other : Place) → face ≤ f → f < length shape.part.faces → IsPlaceOf shape (union before group) f (slice_index_or places f other)
  pub index : left + (mark + moved_before shape group face) ≡ length records

pub begins_back : (shape : ShapeData) → IsShape shape → (before group : Mask) (mark : ℕ) (places records : List Place) → length places ≡ length shape.part.faces → ArePlaces shape (union before group) places → mark ≤ length records
    → IsRestoring shape before group mark 1 (length records - mark) places records
begins_back shape rules before group mark places records count are low = record {
  count = count;
  done = λ f other low inside.
      let root : f ≡ 0 = omega (arith, low) in
      let still : moves shape group f ≡ false = ap (moves shape group) root ∙ beyond-root shape.part.faces (has group) in
      comes_back shape rules before group f (slice_index_or places f other) inside still (are f other (omega (arith, inside, count)));
  rest = λ f other low inside. are f other (omega (arith, inside, count));
  index = omega (arith, moved_first shape group, low);
}

pub within_records : (shape : ShapeData) (mask group : Mask) (mark face : ℕ) (records : List Place) → 0 < face → face < length shape.part.faces → moves shape group face ≡ true → AreKept shape mask group mark records → mark + moved_before shape group face < length records
within_records shape mask group mark face records some inside moved kept =
    let n = length shape.part.faces in
    let next = moved_next shape group face some ∙ ap (λ (t : Bool). moved_before shape group face + cond t 1 0) moved in
    let same : (face + 1) + (n - (face + 1)) ≡ n = omega (arith, inside) in
    let up = moved_more shape group (face + 1) (n - (face + 1)) (omega arith) in
    let there = ap (moved_before shape group) same in
    omega (arith, kept.count, next, up, there)

pub restores_one : (shape : ShapeData) (before group : Mask) (mark face left : ℕ) (places after records : List Place) (place : Place) → 0 < face → face < length shape.part.faces → moves shape group face ≡ true
    → AreKept shape before group mark records → slice_get records (length records - left) ≡ Some place → after ≡ slice_set places face place
    → IsRestoring shape before group mark face left places records → IsRestoring shape before group mark (face + 1) (left - 1) after records
restores_one shape before group mark face left places after records place some inside moved kept read after_is now =
    let more : moved_before shape group (face + 1) ≡ moved_before shape group face + 1 = moved_next shape group face some ∙ ap (λ (t : Bool). moved_before shape group face + cond t 1 0) moved in
    let next : mark + moved_before shape group face ≡ length records - left = omega (arith, now.index) in
    let below = within_records shape before group mark face records some inside moved kept in
    let here : get_or records (length records - left) place ≡ place = read_is records (length records - left) place place read in
    let is : IsPlaceOf shape before face place = subst (IsPlaceOf shape before face) (ap (λ n. get_or records n place) next ∙ here) (kept.each face place some inside moved) in
    record {
      count = ap length after_is ∙ length-set places face place ∙ now.count;
      done = λ f other before_next within. elim (eq-or-lt_of_le (at_most f before_next)) [
        | inl same ↦ subst (λ (n : ℕ). IsPlaceOf shape before n (slice_index_or after n other)) (sym same) (subst (IsPlaceOf shape before face) (sym (ap (λ xs. get_or xs face other) after_is ∙ get_or-set_same places face place other (omega (arith, inside, now.count)))) is)
        | inr earlier ↦ subst (IsPlaceOf shape before f) (sym (ap (λ xs. get_or xs f other) after_is ∙ get_or-set_other places face f place other (λ e. omega (arith, e, earlier)))) (now.done f other earlier within)
      ];
      rest = λ f other later within. subst (IsPlaceOf shape (union before group) f) (sym (ap (λ xs. get_or xs f other) after_is ∙ get_or-set_other places face f place other (λ e. omega (arith, e, later)))) (now.rest f other (omega (arith, later)) within);
      index = omega (arith, now.index, more, below);
    }
  where
    at_most : (f : ℕ) → f < face + 1 → f ≤ face
    at_most f h = omega (arith, h)

    read_is : (xs : List Place) (i : ℕ) (d y : Place) → slice_get xs i ≡ Some y → get_or xs i d ≡ y
    read_is [] i d y e = absurd (cc)
    read_is (x ∷ xs) zero d y e = ap (λ (o : Option Place). unwrap_or o x) e
    read_is (x ∷ xs) (suc i) d y e = read_is xs i d y e

pub stays_back : (shape : ShapeData) → IsShape shape → (before group : Mask) (mark face left : ℕ) (places records : List Place) → 0 < face → face < length shape.part.faces → moves shape group face ≡ false
    → IsRestoring shape before group mark face left places records → IsRestoring shape before group mark (face + 1) left places records
stays_back shape rules before group mark face left places records some inside still now =
    let same : moved_before shape group (face + 1) ≡ moved_before shape group face + 0 = moved_next shape group face some ∙ ap (λ (t : Bool). moved_before shape group face + cond t 1 0) still in
    record {
      count = now.count;
      done = λ f other before_next within. elim (eq-or-lt_of_le (at_most f before_next)) [
        | inl here ↦ subst (λ (n : ℕ). IsPlaceOf shape before n (slice_index_or places n other)) (sym here) (comes_back shape rules before group face (slice_index_or places face other) inside still (now.rest face other (omega arith) inside))
        | inr earlier ↦ now.done f other earlier within
      ];
      rest = λ f other later within. now.rest f other (omega (arith, later)) within;
      index = omega (arith, now.index, same);
    }
  where
    at_most : (f : ℕ) → f < face + 1 → f ≤ face
    at_most f h = omega (arith, h)
