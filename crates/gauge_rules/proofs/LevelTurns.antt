-- The turns that take z to z or to -z are those of the numbers below 8.
use Rattle.std.proofs.Common.{◌≡◌, ◌⊎◌, inl, inr, ℕ, ◌<◌, ℤ, pos, negsuc, Bool, true, false, ◌&&◌, ◌||◌, T, ltb, ap, arith}
use Rattle.std.proofs.lemmas.Int.{ints}
use Rattle.std.proofs.Math.Facts.{ltb_yes}
use Rattle.brake_base.specs.declared.space.V3.{V3}
use Rattle.brake_base.specs.Vectors.{vector}
use Rattle.brake_base.specs.Turns.{Matrix, turn_of, multiply, apply}
use Rattle.brake_base.proofs.Tables.{both, all_below, below_all, same_int, same_int_is}
use Rattle.brake_base.proofs.Vectors.{same_point}
use Rattle.job_setup.specs.LegalGauge.{IsLevel}

either : (a b : Bool) → T (a || b) → T a ⊎ T b
either true b h = inl tt
either false b h = inr h

abbrev is_along_z : V3 → ℤ → Bool
is_along_z v s = same_int v.x (pos 0) && (same_int v.y (pos 0) && same_int v.z s)

along_z : (v : V3) (s : ℤ) → T (is_along_z v s) → v ≡ vector (pos 0) (pos 0) s
along_z v s h =
    let first = both (same_int v.x (pos 0)) (same_int v.y (pos 0) && same_int v.z s) h in
    let rest = both (same_int v.y (pos 0)) (same_int v.z s) first.1 in
    same_point v (vector (pos 0) (pos 0) s) (same_int_is v.x (pos 0) first.0) (same_int_is v.y (pos 0) rest.0) (same_int_is v.z s rest.1)

abbrev is_upright : ℕ → Bool
is_upright n = is_along_z (turn_of n).z (pos 1) || is_along_z (turn_of n).z (negsuc 0)

uprights : T (all_below 8 is_upright)
unfolding turn_of multiply apply
uprights = tt

abbrev is_low_or_tilted : ℕ → Bool
is_low_or_tilted n = ltb n 8 || same_int (turn_of n).z.z (pos 0)

others : T (all_below 24 is_low_or_tilted)
unfolding turn_of multiply apply
others = tt

not_tilted : (m : Matrix) → m.z.z ≡ pos 0 → IsLevel m → ⊥
not_tilted m flat level = elim level [ inl h ↦ omega (arith, ints, flat, ap (λ (v : V3). v.z) h) | inr h ↦ omega (arith, ints, flat, ap (λ (v : V3). v.z) h) ]

pub level_below : (n : ℕ) → n < 8 → IsLevel (turn_of n)
level_below n low = elim (either (is_along_z (turn_of n).z (pos 1)) (is_along_z (turn_of n).z (negsuc 0)) (below_all 8 is_upright n low uprights)) [ inl h ↦ inl (along_z _ _ h) | inr h ↦ inr (along_z _ _ h) ]

pub below_level : (n : ℕ) → n < 24 → IsLevel (turn_of n) → n < 8
below_level n low level = elim (either (ltb n 8) (same_int (turn_of n).z.z (pos 0)) (below_all 24 is_low_or_tilted n low others)) [ inl h ↦ ltb_yes h | inr h ↦ absurd (not_tilted (turn_of n) (same_int_is _ _ h) level) ]
