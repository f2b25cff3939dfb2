-- What the 24 turns are as changes of attitude.
use Rattle.std.proofs.Common.{◌≡◌, ◌⊎◌, inl, inr, ℕ, ◌<◌, ◌≤◌, Bool, true, false, not, ◌&&◌, ◌||◌, T, nat_lt, cond, pos, negsuc, arith, refl}
use Rattle.std.specs.Ordering.{int_eq}
use Rattle.std.proofs.lemmas.Bool.{le-ltb, lt-ltb, not-true}
use Rattle.brake_base.specs.Turns.{turn_of, multiply, apply}
use Rattle.brake_base.proofs.Tables.{all_below, below_all}
use Rattle.handling_cost.specs.declared.attitudes.Change.{Change}
use Rattle.handling_cost.specs.declared.attitudes.Change.TheVariants.{Same, Quarter, Half, Flip, Roll}
use Rattle.handling_cost.specs.StepCost.{kind_of_change}

-- what points up comes up, or down
abbrev stays_up : ℕ → Bool
stays_up n = int_eq (turn_of n).z.z (pos 1)

abbrev comes_down : ℕ → Bool
comes_down n = int_eq (turn_of n).z.z (negsuc 0)

-- past the turns 0 to 3 nothing stays up; 4 to 7 bring it down, and the others don't
abbrev is_sorted : ℕ → Bool
is_sorted n = nat_lt n 4 || (not (stays_up n) && cond (nat_lt n 8) (comes_down n) (not (comes_down n)))

sorted : T (all_below 24 is_sorted)
unfolding turn_of multiply apply
sorted = tt

from_test : (t : Bool) → T t → t ≡ true
from_test true h = refl
from_test false h = absurd h

read_flip : (low mid up down : Bool) → (low || (not up && cond mid down (not down))) ≡ true → low ≡ false → mid ≡ true → (up ≡ false) × (down ≡ true)
read_flip true mid up down e l m = absurd cc
read_flip false false up down e l m = absurd cc
read_flip false true true down e l m = absurd cc
read_flip false true false down e l m = (refl, e)

read_roll : (low mid up down : Bool) → (low || (not up && cond mid down (not down))) ≡ true → low ≡ false → mid ≡ false → (up ≡ false) × (down ≡ false)
read_roll true mid up down e l m = absurd cc
read_roll false true up down e l m = absurd cc
read_roll false false true down e l m = absurd cc
read_roll false false false down e l m = (refl, not-true down e)

sorted_at : (n : ℕ) → n < 24 → is_sorted n ≡ true
sorted_at n below = from_test (is_sorted n) (below_all 24 is_sorted n below sorted)

picked_flip : (up down : Bool) (kept : Change) → up ≡ false → down ≡ true → Flip ≡ cond up kept (cond down Flip Roll)
picked_flip true down kept u d = absurd cc
picked_flip false true kept u d = refl
picked_flip false false kept u d = absurd cc

picked_roll : (up down : Bool) (kept : Change) → up ≡ false → down ≡ false → Roll ≡ cond up kept (cond down Flip Roll)
picked_roll true down kept u d = absurd cc
picked_roll false true kept u d = absurd cc
picked_roll false false kept u d = refl

-- how the part is held where what points up stays up
abbrev kept : ℕ → Change
kept n = cond (int_eq (turn_of n).x.x (pos 1)) Same (cond (int_eq (turn_of n).x.x (negsuc 0)) Half Quarter)

pub is_same : (n : ℕ) → n ≡ 0 → Same ≡ kind_of_change (turn_of n)
unfolding turn_of multiply apply
is_same n is = rw is refl

pub is_half : (n : ℕ) → n ≡ 2 → Half ≡ kind_of_change (turn_of n)
unfolding turn_of multiply apply
is_half n is = rw is refl

pub is_quarter : (n : ℕ) → (n ≡ 1) ⊎ (n ≡ 3) → Quarter ≡ kind_of_change (turn_of n)
unfolding turn_of multiply apply
is_quarter n (inl is) = rw is refl
is_quarter n (inr is) = rw is refl

pub is_flip : (n : ℕ) → n < 24 → 4 ≤ n → n ≤ 7 → Flip ≡ kind_of_change (turn_of n)
is_flip n below first last =
    let read = read_flip (nat_lt n 4) (nat_lt n 8) (stays_up n) (comes_down n) (sorted_at n below) (le-ltb n 4 first) (lt-ltb n 8 (omega arith)) in
    picked_flip (stays_up n) (comes_down n) (kept n) read.0 read.1

pub is_roll : (n : ℕ) → n < 24 → 8 ≤ n → Roll ≡ kind_of_change (turn_of n)
is_roll n below first =
    let read = read_roll (nat_lt n 4) (nat_lt n 8) (stays_up n) (comes_down n) (sorted_at n below) (le-ltb n 4 (omega arith)) (le-ltb n 8 first) in
    picked_roll (stays_up n) (comes_down n) (kept n) read.0 read.1
