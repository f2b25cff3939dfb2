-- What a definition that gives a value says of its steps.
use Rattle.std.proofs.Common.{◌≡◌, ◌&&◌, ℕ, ℤ, Bool, true, false, List, Option, Some, None, Result, Ok, Err, ok_or, if◌then◌else◌, option_and_then, refl, subst, inr, arith}
use Rattle.std.specs.Prelude.{int_le, IfOk}
use Rattle.std.proofs.lemmas.Int.{ints}
use Rattle.toml_fields.specs.Fields.{is_name, checked_name, checked_integer}
use Rattle.toml_fields.specs.Ranges.{IsWithin}
use Rattle.toml_fields.specs.Results.{◌>>=◌, Gives, GivesOr, refuse_if, refuse_found}

pub ok_same : {A E : Type 0} (a b : A) → ◌≡◌ {A = Result A E} (Ok a) (Ok b) → a ≡ b
ok_same a b given = cc

-- where two readings one after the other give a value, so does the first
pub bind_ok : {A B E : Type 0} (r : Result A E) (f : A → Result B E) (b : B) → (r >>= f) ≡ Ok b → (a : A) × (r ≡ Ok a) × (f a ≡ Ok b)
bind_ok (Ok a) f b given = (a, refl, given)
bind_ok (Err e) f b given = absurd (cc)

pub ok_or_ok : {A E : Type 0} (o : Option A) (e : E) (a : A) → ok_or o e ≡ Ok a → o ≡ Some a
ok_or_ok (Some b) e a given = let same : b ≡ a = cc in cc
ok_or_ok None e a given = absurd (cc)

pub refused_not : {E : Type 0} (test : Bool) (e : E) (u : Unit {0}) → refuse_if test e ≡ Ok u → test ≡ false
refused_not true e u given = absurd (cc)
refused_not false e u given = refl

pub found_not : {A E : Type 0} (o : Option A) (fault : A → E) (u : Unit {0}) → refuse_found o fault ≡ Ok u → o ≡ None
found_not None fault u given = refl
found_not (Some n) fault u given = absurd (cc)

-- a name that is read is a name
pub checked_is_name : (o : Option (List ℕ)) (name : List ℕ) → option_and_then checked_name o ≡ Some name → is_name name ≡ true
checked_is_name None name given = absurd (cc)
checked_is_name (Some text) name given = by_test (is_name text) refl given
  where
    by_test : (b : Bool) → is_name text ≡ b → (if b then Some text else None) ≡ Some name → is_name name ≡ true
    by_test true is here = let same : text ≡ name = cc in subst (λ (t : List ℕ). is_name t ≡ true) same is
    by_test false is here = absurd (cc)

-- an integer that is read is within the ends
pub checked_is_within : (low high : ℤ) (o : Option ℤ) (n : ℤ) → option_and_then (checked_integer low high) o ≡ Some n → IsWithin low high n
checked_is_within low high None n given = absurd (cc)
checked_is_within low high (Some m) n given = by_tests (int_le low m) (int_le m high) refl refl given
  where
    by_tests : (a b : Bool) → int_le low m ≡ a → int_le m high ≡ b → (if a && b then Some m else None) ≡ Some n → IsWithin low high n
    by_tests true true above below is =
        let same : m ≡ n = cc in
        subst (λ (k : ℤ). IsWithin low high k) same (record { bottom = omega (arith, ints, above); top = omega (arith, ints, below) })
    by_tests true false above below is = absurd (cc)
    by_tests false b above below is = absurd (cc)

-- what holds of each value of the definition holds of what was returned
pub gives_ok : {X Y E : Type 0} (view : X → Y) (result : Result X E) (defined : Result Y E) (P : Y → Type 0) → Gives view result defined → ((y : Y) → defined ≡ Ok y → P y) → IfOk result (λ x. P (view x))
gives_ok view (Ok x) defined P given all = all (view x) given
gives_ok view (Err e) defined P given all = tt
