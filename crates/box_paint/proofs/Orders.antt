-- How an order of painting grows.
use Rattle.std.proofs.Common.{◌≡◌, ◌≢◌, ℕ, zero, suc, ◌+◌, ◌<◌, ◌≤◌, Bool, true, false, List, [], ◌∷◌, ◌++◌, length, take, get_or, refl, sym, ap, ◌∙◌, subst, arith, length-append, get_or-set_other, get_or-set_same, inl, inr, ◌⊎◌}
use Rattle.std.proofs.Math.ListN.{set, length-set}
use Rattle.std.proofs.Math.Seq.{get_or-append_seam, take-append_seam, take-length}
use Rattle.std.proofs.lemmas.List.{get_or_append_left, get_or-take, get_or_default, take-append-le, length-take-le}
use Rattle.brake_base.specs.declared.space.Box3.{Box3}
use Rattle.brake_base.specs.Vectors.{origin}
use Rattle.box_paint.specs.Painting.{Hides, MustPrecede, IsFree, IsNext, IsOrder, IsLeft, IsUnmarked, HidesNone}
use Rattle.box_paint.proofs.Hiding.{must_follow}

-- how many are marked
abbrev pub marks : List Bool → ℕ
marks [] = 0
marks (true ∷ taken) = suc (marks taken)
marks (false ∷ taken) = marks taken

-- one more is marked
marks_more : (taken : List Bool) (i : ℕ) → i < length taken → get_or taken i true ≡ false → marks (set taken i true) ≡ suc (marks taken)
marks_more [] i some is = absurd (omega arith)
marks_more (true ∷ taken) zero some is = cc
marks_more (false ∷ taken) zero some is = refl
marks_more (true ∷ taken) (suc i) some is = ap suc (marks_more taken i (omega arith) is)
marks_more (false ∷ taken) (suc i) some is = marks_more taken i (omega arith) is

-- where the first ones are all marked, as many are
marks_all : (taken : List Bool) (n : ℕ) → n ≤ length taken → ((i : ℕ) → i < n → get_or taken i true ≡ false → ⊥) → n ≤ marks taken
marks_all [] n few all = omega arith
marks_all (b ∷ taken) zero few all = omega arith
marks_all (true ∷ taken) (suc n) few all = let rest = marks_all taken n (omega arith) (λ i h. all (suc i) (omega arith)) in omega arith
marks_all (false ∷ taken) (suc n) few all = absurd (all zero (omega arith) refl)

-- a box, where any will do
pub nowhere : Box3
nowhere = record { lo = origin; hi = origin }

-- which of two must go first, whatever stands in for a box that isn't there
pub awaited : (boxes : List Box3) (i j : ℕ) (d e f g : Box3) → i < length boxes → j < length boxes → MustPrecede (get_or boxes i f) (get_or boxes j g) → MustPrecede (get_or boxes i d) (get_or boxes j e)
awaited boxes i j d e f g first second h = rw (get_or_default boxes i d f first, get_or_default boxes j e g second) h

-- what holds while the order grows: it has the boxes that are marked, and each was the next
pub record Painted (boxes : List Box3) (taken : List Bool) (order : List ℕ) (step : ℕ) : Type 0 where
  pub size : length taken ≡ 25
  pub count : marks taken ≡ step
  pub painted : length order ≡ step
  pub left : (j : ℕ) → IsUnmarked boxes taken j → IsLeft boxes order j
  pub unmarked : (j : ℕ) → IsLeft boxes order j → IsUnmarked boxes taken j
  pub next : (i : ℕ) → i < length order → IsNext boxes (IsLeft boxes (take i order)) (get_or order i 0)

-- a box is free of those that are left, in whatever words these are given
free_of : (boxes : List Box3) (L M : ℕ → Type 0) (i : ℕ) → ((j : ℕ) → M j → L j) → IsFree boxes L i → IsFree boxes M i
free_of boxes L M i to h j m d = h j (to j m) d

next_of : (boxes : List Box3) (L M : ℕ → Type 0) (next : ℕ) → ((j : ℕ) → L j → M j) → ((j : ℕ) → M j → L j) → IsNext boxes L next → IsNext boxes M next
next_of boxes L M next to back h = record {
  left = to next h.left;
  first_free = λ j m free. let first = h.first_free j (back j m) (free_of boxes M L j to free) in (free_of boxes L M next back first.0, first.1);
  first_left = λ j m bound. h.first_left j (back j m) (λ free. bound (free_of boxes L M next back free));
}

-- an earlier place of an order that has grown
earlier : (boxes : List Box3) (order : List ℕ) (at i : ℕ) → i < length order → IsNext boxes (IsLeft boxes (take i order)) (get_or order i 0) → IsNext boxes (IsLeft boxes (take i (order ++ at ∷ []))) (get_or (order ++ at ∷ []) i 0)
earlier boxes order at i some h =
    let within : i ≤ length order = omega arith in
    rw (take-append-le i order (at ∷ []) within, get_or_append_left order (at ∷ []) 0 i some) h

last_place : (boxes : List Box3) (order : List ℕ) (at i : ℕ) → i ≡ length order → IsNext boxes (IsLeft boxes order) at → IsNext boxes (IsLeft boxes (take i (order ++ at ∷ []))) (get_or (order ++ at ∷ []) i 0)
last_place boxes order at i is h = rw (is, take-append_seam order (at ∷ []), get_or-append_seam order at [] 0) h

below_or_last : (i n : ℕ) → i < n + 1 → (i < n) ⊎ (i ≡ n)
below_or_last i n h = grind arith

-- the numbers of the longer order, each other than one that isn't taken yet
apart_more : (order : List ℕ) (at j : ℕ) → ((k : ℕ) → k < length order → get_or order k j ≢ j) → at ≢ j → (k : ℕ) → k < length (order ++ at ∷ []) → get_or (order ++ at ∷ []) k j ≢ j
apart_more order at j before ne k some = by_place (below_or_last k (length order) (omega (arith, length-append order (at ∷ []))))
  where
    by_place : (k < length order) ⊎ (k ≡ length order) → get_or (order ++ at ∷ []) k j ≢ j
    by_place (inl h) same = before k h (sym (get_or_append_left order (at ∷ []) j k h) ∙ same)
    by_place (inr h) same = ne (sym (get_or-append_seam order at [] j) ∙ ap (λ m. get_or (order ++ at ∷ []) m j) (sym h) ∙ same)

apart_fewer : (order : List ℕ) (at j : ℕ) → ((k : ℕ) → k < length (order ++ at ∷ []) → get_or (order ++ at ∷ []) k j ≢ j) → (at ≢ j) × ((k : ℕ) → k < length order → get_or order k j ≢ j)
apart_fewer order at j h = (
  λ same. h (length order) (omega (arith, length-append order (at ∷ []))) (get_or-append_seam order at [] j ∙ same),
  λ k some same. h k (omega (arith, length-append order (at ∷ []))) (get_or_append_left order (at ∷ []) j k some ∙ same),
)

same_or_not : (i j : ℕ) → (i ≡ j) ⊎ (i ≢ j)
same_or_not i j = grind arith

-- a mark that was set later
unmarked_before : (taken : List Bool) (at j : ℕ) → at < length taken → get_or (set taken at true) j true ≡ false → (at ≢ j) × (get_or taken j true ≡ false)
unmarked_before taken at j some is = by_place (same_or_not j at)
  where
    by_place : (j ≡ at) ⊎ (j ≢ at) → (at ≢ j) × (get_or taken j true ≡ false)
    by_place (inl same) = let set_here = get_or-set_same taken at true true some in absurd (let clash : true ≡ false = sym set_here ∙ ap (λ m. get_or (set taken at true) m true) (sym same) ∙ is in cc)
    by_place (inr other) = (λ same. other (sym same), sym (get_or-set_other taken at j true true other) ∙ is)

pub painted_more : (boxes : List Box3) (taken : List Bool) (order : List ℕ) (step at : ℕ) → length boxes ≤ 25 → Painted boxes taken order step → IsNext boxes (IsUnmarked boxes taken) at → Painted boxes (set taken at true) (order ++ at ∷ []) (step + 1)
painted_more boxes taken order step at few h next = record {
  size = length-set taken at true ∙ h.size;
  count = let more = marks_more taken at in_range next.left.1 in let count = h.count in omega arith;
  painted = let painted = h.painted in omega (arith, length-append order (at ∷ []));
  left = λ j m. let before = unmarked_before taken at j in_range m.1 in (m.0, apart_more order at j (h.left j (m.0, before.1)).1 before.0);
  unmarked = λ j m.
      let before = apart_fewer order at j m.1 in
      (m.0, get_or-set_other taken at j true true (λ same. before.0 (sym same)) ∙ (h.unmarked j (m.0, before.1)).1);
  next = λ i some. by_place i (below_or_last i (length order) (omega (arith, length-append order (at ∷ []))));
}
  where
    in_range : at < length taken
    in_range = let is = next.left.0 in let size = h.size in omega arith

    by_place : (i : ℕ) → (i < length order) ⊎ (i ≡ length order) → IsNext boxes (IsLeft boxes (take i (order ++ at ∷ []))) (get_or (order ++ at ∷ []) i 0)
    by_place i (inl before) = earlier boxes order at i before (h.next i before)
    by_place i (inr last) = last_place boxes order at i last (next_of boxes (IsUnmarked boxes taken) (IsLeft boxes order) at h.left h.unmarked next)

-- as long as not all are painted, one isn't marked
pub some_left : (boxes : List Box3) (taken : List Bool) (order : List ℕ) (step : ℕ) → length boxes ≤ 25 → Painted boxes taken order step → step < length boxes → ((i : ℕ) → IsUnmarked boxes taken i → ⊥) → ⊥
some_left boxes taken order step few h more none =
    let size = h.size in
    let count = h.count in
    let all = marks_all taken (length boxes) (omega arith) (λ i some is. none i (some, is)) in
    omega arith

pub painted_all : (boxes : List Box3) (taken : List Bool) (order : List ℕ) (step : ℕ) → Painted boxes taken order step → step ≡ length boxes → IsOrder boxes order
painted_all boxes taken order step h all = record { whole = h.painted ∙ all; next = h.next }

-- ---- the law
-- the number of a later place is left at an earlier one
later_left : (boxes : List Box3) (order : List ℕ) (i j : ℕ) → i < j → j < length order → IsLeft boxes (take j order) (get_or order j 0) → IsLeft boxes (take i order) (get_or order j 0)
later_left boxes order i j ij some h = (h.0, apart)
  where
    apart : (k : ℕ) → k < length (take i order) → get_or (take i order) k (get_or order j 0) ≢ get_or order j 0
    apart k here same =
        let first : k < i = let size = length-take-le i order (omega arith) in omega arith in
        let there : k < length (take j order) = let size = length-take-le j order (omega arith) in omega arith in
        h.1 k there (get_or-take j order k (get_or order j 0) (omega arith) ∙ sym (get_or-take i order k (get_or order j 0) first) ∙ same)

pub hides_none : (boxes : List Box3) (order : List ℕ) → IsOrder boxes order → HidesNone boxes order
hides_none boxes order h i j d ij some free apart hides =
    free (get_or order j 0) (later_left boxes order i j ij some (h.next j some).left) d (must_follow _ _ apart hides)
