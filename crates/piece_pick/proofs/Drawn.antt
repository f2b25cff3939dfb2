-- Pieces that are drawn from a supply, and how many of a length there are.
use Rattle.std.proofs.Common.{◌≡◌, ◌⊎◌, inl, inr, ℕ, zero, suc, ◌+◌, ◌-◌, ◌<◌, ◌≤◌, ℤ, pos, ◌+ℤ◌, ◌-ℤ◌, ◌≤ℤ◌, ◌<ℤ◌, Bool, true, false, cond, List, [], ◌∷◌, ◌++◌, length, get_or, take, drop, drop-cons, length-drop, add-one, take-suc, refl, sym, ◌∙◌, ap, subst, arith}
use Rattle.std.specs.Prelude.{All, AllPairs}
use Rattle.std.specs.Ordering.{int_eq}
use Rattle.std.proofs.lemmas.Int.{ints}
use Rattle.std.proofs.lemmas.Bool.Decides.{Decides-int_eq}
use Rattle.std.proofs.lemmas.List.{take_all}
use Rattle.std.proofs.lemmas.List.Elements.{All-nil, All-cons}
use Rattle.std.proofs.lemmas.List.Kept.{AllPairs-cons}
use Rattle.std.proofs.lemmas.List.Sums.{sum_by-append}
use Rattle.tool_library.specs.Stock.{count_of}
use Rattle.piece_pick.specs.Choice.{total}
use Rattle.piece_pick.specs.Search.{IsSupply, IsDrawn, HasNoFill, shorter}

-- a property of each piece, and that none is longer than one before it, piece by piece
abbrev pub Each : (ℤ → Type 0) → List ℤ → Type 0
Each P [] = Unit {0}
Each P (x ∷ xs) = P x × Each P xs

abbrev pub Falls : List ℤ → Type 0
Falls [] = Unit {0}
Falls (x ∷ xs) = Each (λ y. y ≤ℤ x) xs × Falls xs

pub each_from : (P : ℤ → Type 0) (xs : List ℤ) → All P xs → Each P xs
each_from P [] all = tt
each_from P (x ∷ xs) all = (all 0 x (omega arith), each_from P xs (λ k d within. all (suc k) d (omega arith)))

pub each_to : (P : ℤ → Type 0) (xs : List ℤ) → Each P xs → All P xs
each_to P [] each = All-nil P
each_to P (x ∷ xs) each = All-cons P x xs each.0 (each_to P xs each.1)

pub falls_from : (xs : List ℤ) → AllPairs (λ a b. b ≤ℤ a) xs → Falls xs
falls_from [] pairs = tt
falls_from (x ∷ xs) pairs = (
  each_from (λ y. y ≤ℤ x) xs (λ k d within. pairs 0 (suc k) d (omega arith) (omega arith)),
  falls_from xs (λ i j d later within. pairs (suc i) (suc j) d (omega arith) (omega arith)),
)

pub falls_to : (xs : List ℤ) → Falls xs → AllPairs (λ a b. b ≤ℤ a) xs
falls_to [] falls = λ i j d later within. absurd (omega arith)
falls_to (x ∷ xs) falls = AllPairs-cons (λ a b. b ≤ℤ a) x xs (each_to (λ y. y ≤ℤ x) xs falls.0) (falls_to xs falls.1)

pub each_mapped : (P Q : ℤ → Type 0) → ((x : ℤ) → P x → Q x) → (xs : List ℤ) → Each P xs → Each Q xs
each_mapped P Q f [] each = tt
each_mapped P Q f (x ∷ xs) each = (f x each.0, each_mapped P Q f xs each.1)

same_or_less : (a b : ℤ) → a ≤ℤ b → (a ≡ b) ⊎ (a <ℤ b)
same_or_less a b le = by_test (int_eq a b) refl
  where
    by_test : (t : Bool) → int_eq a b ≡ t → (a ≡ b) ⊎ (a <ℤ b)
    by_test true e = inl ((Decides-int_eq a b).0 e)
    by_test false e = inr (grind (arith, ints))

-- how many of a length a piece stands for
abbrev one : ℤ → ℤ → ℕ
one p x = cond (int_eq x p) 1 0

pub counted : (p x : ℤ) (xs : List ℤ) → count_of p (x ∷ xs) ≡ one p x + count_of p xs
counted p x xs = omega (arith, sum_by-append (one p) (x ∷ []) xs)

one_is : (p x : ℤ) (t : Bool) → int_eq x p ≡ t → one p x ≡ cond t 1 0
one_is p x t e = ap (λ (b : Bool). cond b 1 0) e

pub same_or_not : (x y : ℤ) → (x ≡ y) ⊎ (¬ (x ≡ y))
same_or_not x y = by_test (int_eq x y) refl
  where
    by_test : (t : Bool) → int_eq x y ≡ t → (x ≡ y) ⊎ (¬ (x ≡ y))
    by_test true e = inl ((Decides-int_eq x y).0 e)
    by_test false e = inr (λ same. absurd (let yes = (Decides-int_eq x y).1 same in cc))

pub one_same : (p x : ℤ) → x ≡ p → one p x ≡ 1
one_same p x same = one_is p x true ((Decides-int_eq x p).1 same)

pub one_other : (p x : ℤ) → ¬ (x ≡ p) → one p x ≡ 0
one_other p x other = by_test (int_eq x p) refl
  where
    by_test : (t : Bool) → int_eq x p ≡ t → one p x ≡ 0
    by_test true e = absurd (other ((Decides-int_eq x p).0 e))
    by_test false e = one_is p x false e

-- no piece is longer than the longest
pub count_none : (p a : ℤ) (xs : List ℤ) → Each (λ y. y ≤ℤ a) xs → a <ℤ p → count_of p xs ≡ 0
count_none p a [] below longer = refl
count_none p a (x ∷ xs) below longer =
    let other : ¬ (x ≡ p) = λ same. let x_below = below.0 in absurd (omega (arith, ints)) in
    let here : one p x ≡ 0 = one_other p x other in
    let later : count_of p xs ≡ 0 = count_none p a xs below.1 longer in
    counted p x xs ∙ (omega (arith, here, later))

pub count_some : (p a : ℤ) (xs : List ℤ) → Each (λ y. y ≤ℤ a) xs → 1 ≤ count_of p xs → p ≤ℤ a
count_some p a [] below some = absurd (omega arith)
count_some p a (x ∷ xs) below some = by_case (same_or_not x p) (count_some p a xs below.1)
  where
    by_case : (x ≡ p) ⊎ (¬ (x ≡ p)) → (1 ≤ count_of p xs → p ≤ℤ a) → p ≤ℤ a
    by_case (inl same) later = let x_below = below.0 in omega (arith, ints)
    by_case (inr other) later = let none = one_other p x other in later (omega (arith, none, counted p x xs))

-- drawn pieces are no more than the supply's
pub drawn_counts : (pieces supply : List ℤ) → IsDrawn pieces supply → (p : ℤ) → count_of p pieces ≤ count_of p supply
drawn_counts [] supply drawn p = omega arith
drawn_counts (x ∷ pieces) [] drawn p = absurd drawn
drawn_counts (x ∷ pieces) (y ∷ supply) (inl (same, drawn)) p =
    let later = drawn_counts pieces supply drawn p in
    let here : one p x ≡ one p y = ap (one p) same in
    omega (arith, counted p x pieces, counted p y supply, here, later)
drawn_counts (x ∷ pieces) (y ∷ supply) (inr drawn) p =
    let later = drawn_counts (x ∷ pieces) supply drawn p in
    omega (arith, counted p y supply, later)

at_most : (a : ℤ) → a ≤ℤ a
at_most a = omega (arith, ints)

less_of : (a b : ℤ) → a ≤ℤ b → ¬ (a ≡ b) → a <ℤ b
less_of a b le ne = by_order (same_or_less a b le)
  where
    by_order : (a ≡ b) ⊎ (a <ℤ b) → a <ℤ b
    by_order (inl same) = absurd (ne same)
    by_order (inr less) = less

-- where the first piece isn't the supply's first, all are among the others
few_left : (x y : ℤ) (pieces supply : List ℤ) → Each (λ z. z ≤ℤ x) pieces → Each (λ z. z ≤ℤ y) supply → ¬ (x ≡ y)
    → ((p : ℤ) → count_of p (x ∷ pieces) ≤ count_of p (y ∷ supply)) → (p : ℤ) → count_of p (x ∷ pieces) ≤ count_of p supply
few_left x y pieces supply falls down other few p = by_length (same_or_not y p)
  where
    less : x <ℤ y
    less =
        let here = one_same x x refl in
        let not_first = one_other x y (λ same. other (sym same)) in
        let within : 1 ≤ count_of x supply = omega (arith, few x, counted x x pieces, counted x y supply, here, not_first) in
        less_of x y (count_some x y supply down within) other

    by_length : (y ≡ p) ⊎ (¬ (y ≡ p)) → count_of p (x ∷ pieces) ≤ count_of p supply
    by_length (inl same) =
        let short : x <ℤ y = less in
        let longer : x <ℤ p = subst (λ z. x <ℤ z) same short in
        let none = count_none p x (x ∷ pieces) (at_most x, falls) longer in omega (arith, none)
    by_length (inr ne) = let none = one_other p y ne in omega (arith, few p, counted p y supply, none)

-- falling pieces that are no more than the supply's are drawn from it
pub counts_drawn : (pieces supply : List ℤ) → Falls pieces → Falls supply → ((p : ℤ) → count_of p pieces ≤ count_of p supply) → IsDrawn pieces supply
counts_drawn [] supply falls down few = tt
counts_drawn (x ∷ pieces) [] falls down few =
    absurd (let here = one_same x x refl in omega (arith, few x, counted x x pieces, here))
counts_drawn (x ∷ pieces) (y ∷ supply) falls down few =
    by_case (same_or_not x y) (counts_drawn pieces supply falls.1 down.1) (counts_drawn (x ∷ pieces) supply falls down.1)
  where
    few_later : x ≡ y → (p : ℤ) → count_of p pieces ≤ count_of p supply
    few_later same p =
        let here : one p x ≡ one p y = ap (one p) same in
        omega (arith, few p, counted p x pieces, counted p y supply, here)

    by_case : (x ≡ y) ⊎ (¬ (x ≡ y)) → (((p : ℤ) → count_of p pieces ≤ count_of p supply) → IsDrawn pieces supply)
        → (((p : ℤ) → count_of p (x ∷ pieces) ≤ count_of p supply) → IsDrawn (x ∷ pieces) supply) → IsDrawn (x ∷ pieces) (y ∷ supply)
    by_case (inl same) taken left = inl (same, taken (few_later same))
    by_case (inr other) taken left =
        inr (left (few_left x y pieces supply falls.0 down.0 other few))

-- what holds of each piece of the supply holds of each that is drawn
pub drawn_each : (P : ℤ → Type 0) (pieces supply : List ℤ) → IsDrawn pieces supply → Each P supply → Each P pieces
drawn_each P [] supply drawn each = tt
drawn_each P (x ∷ pieces) [] drawn each = absurd drawn
drawn_each P (x ∷ pieces) (y ∷ supply) (inl (same, drawn)) each =
    (subst P (sym same) each.0, drawn_each P pieces supply drawn each.1)
drawn_each P (x ∷ pieces) (y ∷ supply) (inr drawn) each = drawn_each P (x ∷ pieces) supply drawn each.1

pub drawn_falls : (pieces supply : List ℤ) → IsDrawn pieces supply → Falls supply → Falls pieces
drawn_falls [] supply drawn falls = tt
drawn_falls (x ∷ pieces) [] drawn falls = absurd drawn
drawn_falls (x ∷ pieces) (y ∷ supply) (inl (same, drawn)) falls =
    let below = drawn_each (λ z. z ≤ℤ y) pieces supply drawn falls.0 in
    (subst (λ w. Each (λ z. z ≤ℤ w) pieces) (sym same) below, drawn_falls pieces supply drawn falls.1)
drawn_falls (x ∷ pieces) (y ∷ supply) (inr drawn) falls = drawn_falls (x ∷ pieces) supply drawn falls.1

-- ---- sums
pub total_append : (xs ys : List ℤ) → total (xs ++ ys) ≡ (total xs +ℤ total ys)
total_append [] ys = omega (arith, ints)
total_append (x ∷ xs) ys = let later = total_append xs ys in omega (arith, ints, later)

pub total_least : (xs : List ℤ) → Each (λ x. pos 1 ≤ℤ x) xs → pos 0 ≤ℤ total xs
total_least [] long = omega (arith, ints)
total_least (x ∷ xs) long =
    let later = total_least xs long.1 in let here = long.0 in omega (arith, ints)

pub total_some : (x : ℤ) (xs : List ℤ) → Each (λ x. pos 1 ≤ℤ x) (x ∷ xs) → x ≤ℤ total (x ∷ xs)
total_some x xs long = let later = total_least xs long.1 in omega (arith, ints)

pub total_none : (xs : List ℤ) → Each (λ x. pos 1 ≤ℤ x) xs → total xs ≡ pos 0 → xs ≡ []
total_none [] long none = refl
total_none (x ∷ xs) long none =
    let later = total_some x xs long in let here = long.0 in absurd (omega (arith, ints))

-- the first pieces of a supply are the longest
front_grows : (y : ℤ) (supply : List ℤ) (room : ℕ) → Each (λ z. z ≤ℤ y) supply → Falls supply → pos 0 ≤ℤ y
    → total (take (suc room) supply) ≤ℤ (y +ℤ total (take room supply))
front_grows y [] zero below falls least = omega (arith, ints)
front_grows y [] (suc room) below falls least = omega (arith, ints)
front_grows y (x ∷ supply) zero below falls least = let here = below.0 in omega (arith, ints)
front_grows y (x ∷ supply) (suc room) below falls least =
    let later = front_grows y supply room below.1 falls.1 least in omega (arith, ints)

pub front_is_longest : (pieces supply : List ℤ) (room : ℕ) → IsDrawn pieces supply → Falls supply → Each (λ x. pos 1 ≤ℤ x) supply
    → length pieces ≤ room → total pieces ≤ℤ total (take room supply)
front_is_longest [] supply room drawn falls long few = total_least (take room supply) (each_take (λ x. pos 1 ≤ℤ x) supply room long)
  where
    each_take : (P : ℤ → Type 0) (xs : List ℤ) (n : ℕ) → Each P xs → Each P (take n xs)
    each_take P [] zero each = tt
    each_take P [] (suc n) each = tt
    each_take P (x ∷ xs) zero each = tt
    each_take P (x ∷ xs) (suc n) each = (each.0, each_take P xs n each.1)
front_is_longest (x ∷ pieces) [] room drawn falls long few = absurd drawn
front_is_longest (x ∷ pieces) (y ∷ supply) zero drawn falls long few = absurd (omega arith)
front_is_longest (x ∷ pieces) (y ∷ supply) (suc room) (inl (same, drawn)) falls long few =
    let later = front_is_longest pieces supply room drawn falls.1 long.1 (omega arith) in omega (arith, ints)
front_is_longest (x ∷ pieces) (y ∷ supply) (suc room) (inr drawn) falls long few =
    let later = front_is_longest (x ∷ pieces) supply (suc room) drawn falls.1 long.1 few in
    let grown = front_grows y supply room falls.0 falls.1 (let here = long.0 in omega (arith, ints)) in
    omega (arith, ints)

-- ---- the pieces that are shorter than the first
pub drawn_shorter : (x y : ℤ) (pieces supply : List ℤ) → ¬ (x ≡ y) → IsDrawn (x ∷ pieces) supply → IsDrawn (x ∷ pieces) (shorter y supply)
drawn_shorter x y pieces [] other drawn = absurd drawn
drawn_shorter x y pieces (z ∷ supply) other drawn = by_test (int_eq z y) refl drawn (drawn_shorter x y pieces supply other)
  where
    by_test : (t : Bool) → int_eq z y ≡ t → IsDrawn (x ∷ pieces) (z ∷ supply) → (IsDrawn (x ∷ pieces) supply → IsDrawn (x ∷ pieces) (shorter y supply))
        → IsDrawn (x ∷ pieces) (cond t (shorter y supply) (z ∷ supply))
    by_test true same (inl (is, drawn)) later = absurd (other (is ∙ (Decides-int_eq z y).0 same))
    by_test true same (inr drawn) later = later drawn
    by_test false ne drawn later = drawn

pub shorter_below : (y : ℤ) (supply : List ℤ) → Each (λ z. z ≤ℤ y) supply → Falls supply → Each (λ z. z <ℤ y) (shorter y supply)
shorter_below y [] below falls = tt
shorter_below y (z ∷ supply) below falls = by_test (int_eq z y) refl (shorter_below y supply below.1 falls.1)
  where
    by_test : (t : Bool) → int_eq z y ≡ t → Each (λ w. w <ℤ y) (shorter y supply) → Each (λ w. w <ℤ y) (cond t (shorter y supply) (z ∷ supply))
    by_test true same later = later
    by_test false ne later =
        let less = less_of z y below.0 (λ same. absurd (let yes = (Decides-int_eq z y).1 same in cc)) in
        (less, each_mapped (λ w. w ≤ℤ z) (λ w. w <ℤ y) (λ w le. omega (arith, ints)) supply falls.0)

-- ---- what is drawn from a supply with one more piece at its front
pub none_drawn : (supply : List ℤ) → IsDrawn [] supply
none_drawn [] = tt
none_drawn (x ∷ supply) = tt

pub drawn_behind : (pieces supply : List ℤ) (x : ℤ) → IsDrawn pieces supply → IsDrawn pieces (x ∷ supply)
drawn_behind [] supply x drawn = tt
drawn_behind (y ∷ pieces) supply x drawn = inr drawn

pub tail_drawn : (y : ℤ) (pieces supply : List ℤ) → IsDrawn (y ∷ pieces) supply → IsDrawn pieces supply
tail_drawn y pieces [] drawn = absurd drawn
tail_drawn y pieces (z ∷ supply) (inl (same, drawn)) = drawn_behind pieces supply z drawn
tail_drawn y pieces (z ∷ supply) (inr drawn) = drawn_behind pieces supply z (tail_drawn y pieces supply drawn)

-- it takes that piece, or none of its length
pub take_or_leave : (y x : ℤ) (pieces supply : List ℤ) → IsDrawn (y ∷ pieces) (x ∷ supply)
    → ((y ≡ x) × IsDrawn pieces supply) ⊎ IsDrawn (y ∷ pieces) (shorter x supply)
take_or_leave y x pieces supply (inl taken) = inl taken
take_or_leave y x pieces supply (inr drawn) = by_piece (same_or_not y x)
  where
    by_piece : (y ≡ x) ⊎ (¬ (y ≡ x)) → ((y ≡ x) × IsDrawn pieces supply) ⊎ IsDrawn (y ∷ pieces) (shorter x supply)
    by_piece (inl same) = inl (same, tail_drawn y pieces supply drawn)
    by_piece (inr other) = inr (drawn_shorter y x pieces supply other drawn)

pub shorter_drawn : (y : ℤ) (pieces supply : List ℤ) → IsDrawn pieces (shorter y supply) → IsDrawn pieces supply
shorter_drawn y [] supply drawn = none_drawn supply
shorter_drawn y (x ∷ pieces) [] drawn = drawn
shorter_drawn y (x ∷ pieces) (z ∷ supply) drawn = by_test (int_eq z y) drawn (shorter_drawn y (x ∷ pieces) supply)
  where
    by_test : (t : Bool) → IsDrawn (x ∷ pieces) (cond t (shorter y supply) (z ∷ supply))
        → (IsDrawn (x ∷ pieces) (shorter y supply) → IsDrawn (x ∷ pieces) supply) → IsDrawn (x ∷ pieces) (z ∷ supply)
    by_test true drawn later = inr (later drawn)
    by_test false drawn later = drawn

-- ---- no pieces make up a rest
pub out_of_reach : (supply : List ℤ) (rest : ℤ) (room : ℕ) → Falls supply → Each (λ x. pos 1 ≤ℤ x) supply
    → total (take room supply) <ℤ rest → HasNoFill supply rest room
out_of_reach supply rest room falls long short pieces fill =
    let most = front_is_longest pieces supply room fill.drawn falls long fill.few in
    let sum = fill.sum in
    absurd (omega (arith, ints))

-- none with the first piece, nor without its length
pub no_way_on : (x rest : ℤ) (supply : List ℤ) (room : ℕ) → Each (λ x. pos 1 ≤ℤ x) supply → pos 0 <ℤ rest
    → (rest <ℤ x) ⊎ HasNoFill supply (rest -ℤ x) (room - 1) → HasNoFill (shorter x supply) rest room → HasNoFill (x ∷ supply) rest room
no_way_on x rest supply room long some taking leaving pieces fill = by_pieces pieces fill.drawn fill.sum fill.few
  where
    rest_of : (a b r : ℤ) → (a +ℤ b) ≡ r → b ≡ (r -ℤ a)
    rest_of a b r sum = omega (arith, ints)

    taken : (more : List ℤ) → IsDrawn more supply → (x +ℤ total more) ≡ rest → length more + 1 ≤ room → ⊥
    taken more drawn sum few = by_case taking
      where
        by_case : (rest <ℤ x) ⊎ HasNoFill supply (rest -ℤ x) (room - 1) → ⊥
        by_case (inl long_piece) =
            let least = total_least more (drawn_each (λ x. pos 1 ≤ℤ x) more supply drawn long) in absurd (omega (arith, ints))
        by_case (inr none) = none more (record { drawn = drawn; sum = rest_of x (total more) rest sum; few = omega arith })

    by_pieces : (ps : List ℤ) → IsDrawn ps (x ∷ supply) → total ps ≡ rest → length ps ≤ room → ⊥
    by_pieces [] drawn sum few = absurd (omega (arith, ints))
    by_pieces (y ∷ more) drawn sum few = by_piece (take_or_leave y x more supply drawn)
      where
        by_piece : ((y ≡ x) × IsDrawn more supply) ⊎ IsDrawn (y ∷ more) (shorter x supply) → ⊥
        by_piece (inl (same, here)) = taken more here (ap (λ z. z +ℤ total more) (sym same) ∙ sum) (omega arith)
        by_piece (inr there) = leaving (y ∷ more) (record { drawn = there; sum = sum; few = few })

-- ---- a supply from a place on
pub falls_drop : (xs : List ℤ) (n : ℕ) → Falls xs → Falls (drop n xs)
falls_drop [] zero falls = tt
falls_drop [] (suc n) falls = tt
falls_drop (x ∷ xs) zero falls = falls
falls_drop (x ∷ xs) (suc n) falls = falls_drop xs n falls.1

pub each_drop : (P : ℤ → Type 0) (xs : List ℤ) (n : ℕ) → Each P xs → Each P (drop n xs)
each_drop P [] zero each = tt
each_drop P [] (suc n) each = tt
each_drop P (x ∷ xs) zero each = each
each_drop P (x ∷ xs) (suc n) each = each_drop P xs n each.1

pub from_on : (supply : List ℤ) (from : ℕ) (d : ℤ) → from < length supply → drop from supply ≡ get_or supply from d ∷ drop (from + 1) supply
from_on supply from d within = drop-cons supply from d within ∙ ap (λ n. get_or supply from d ∷ drop n supply) (sym (add-one from))

pub none_within : (supply : List ℤ) (from room : ℕ) (x rest : ℤ) → IsSupply supply → from < length supply → get_or supply from x ≡ x → pos 0 <ℤ rest
    → (rest <ℤ x) ⊎ HasNoFill (drop (from + 1) supply) (rest -ℤ x) (room - 1) → HasNoFill (shorter x (drop (from + 1) supply)) rest room
    → HasNoFill (drop from supply) rest room
none_within supply from room x rest is within here some taking leaving =
    subst (λ (s : List ℤ). HasNoFill s rest room) (sym (from_on supply from x within ∙ ap (λ z. z ∷ drop (from + 1) supply) here))
    (no_way_on x rest (drop (from + 1) supply) room (each_drop (λ x. pos 1 ≤ℤ x) supply (from + 1) (each_from (λ x. pos 1 ≤ℤ x) supply is.long)) some taking leaving)

pub none_in_reach : (supply : List ℤ) (from room : ℕ) (rest : ℤ) → IsSupply supply
    → total (take room (drop from supply)) <ℤ rest → HasNoFill (drop from supply) rest room
none_in_reach supply from room rest is short =
    out_of_reach (drop from supply) rest room (falls_drop supply from (falls_from supply is.falling))
    (each_drop (λ x. pos 1 ≤ℤ x) supply from (each_from (λ x. pos 1 ≤ℤ x) supply is.long)) short

-- the same of a part of a slice
pub none_in_slice : (supply slice : List ℤ) (from room : ℕ) (rest : ℤ) → IsSupply supply → slice ≡ supply
    → total (take room (take (length slice - from) (drop from slice))) <ℤ rest → HasNoFill (drop from supply) rest room
none_in_slice supply slice from room rest is same short =
    none_in_reach supply from room rest is
    (subst (λ (s : List ℤ). total (take room (drop from s)) <ℤ rest) same
    (subst (λ (s : List ℤ). total (take room s) <ℤ rest) (take_all (length slice - from) (drop from slice) (omega (arith, length-drop from slice))) short))

pub none_after : (supply slice : List ℤ) (from next room : ℕ) (x rest : ℤ) → slice ≡ supply
    → (get_or slice from x ≡ x → drop next slice ≡ shorter x (drop (from + 1) slice)) → get_or supply from x ≡ x
    → HasNoFill (drop next slice) rest room → HasNoFill (shorter x (drop (from + 1) supply)) rest room
none_after supply slice from next room x rest same skips here none =
    let skip : drop next supply ≡ shorter x (drop (from + 1) supply)
    = subst (λ (s : List ℤ). get_or s from x ≡ x → drop next s ≡ shorter x (drop (from + 1) s)) same skips here in
    subst (λ (s : List ℤ). HasNoFill s rest room) skip (subst (λ (s : List ℤ). HasNoFill (drop next s) rest room) same none)

-- ---- the sum of a supply's first pieces
pub total_more : (supply : List ℤ) (i : ℕ) (d : ℤ) → i < length supply → total (take (i + 1) supply) ≡ (total (take i supply) +ℤ get_or supply i d)
total_more supply i d within =
    ap (λ n. total (take n supply)) (add-one i) ∙ ap total (take-suc supply i d within)
    ∙ total_append (take i supply) (get_or supply i d ∷ []) ∙ one_more (total (take i supply)) (get_or supply i d)
  where
    one_more : (a x : ℤ) → (a +ℤ (x +ℤ pos 0)) ≡ (a +ℤ x)
    one_more a x = omega (arith, ints)

pub sum_moves : (a x b l m r : ℤ) → (a +ℤ l) ≡ r → b ≡ (a +ℤ x) → m ≡ (l -ℤ x) → (b +ℤ m) ≡ r
sum_moves a x b l m r sum more less = omega (arith, ints)
