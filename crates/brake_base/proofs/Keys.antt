-- Keys that are one.
use Rattle.std.proofs.Common.{◌≡◌, true, ◌&&◌, ◌==◌, eq-eqb, refl}
use Rattle.std.proofs.lemmas.Bool.{and_parts, eqb-true}
use Rattle.brake_base.specs.declared.stroke.Key.{Key}
use Rattle.brake_base.specs.Keys.{is_key}

-- keys that pass the test are one
pub key_is : (a b : Key) → is_key a b ≡ true → a ≡ b
key_is a b test =
    let parts = and_parts (a.mask.0 == b.mask.0) (a.attitude == b.attitude && a.stage == b.stage) test in
    let others = and_parts (a.attitude == b.attitude) (a.stage == b.stage) parts.1 in
    let mask = eqb-true a.mask.0 b.mask.0 parts.0 in
    let attitude = eqb-true a.attitude b.attitude others.0 in
    let stage = eqb-true a.stage b.stage others.1 in
    λ i. record { mask = record { 0 = mask i }; attitude = attitude i; stage = stage i }

-- a key passes the test with itself
pub key_is_itself : (a : Key) → is_key a a ≡ true
key_is_itself a = rw (eq-eqb a.mask.0 a.mask.0 refl, eq-eqb a.attitude a.attitude refl, eq-eqb a.stage a.stage refl) refl
