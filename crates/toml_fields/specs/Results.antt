-- What a result is against its definition, and how definitions go on after a step that may refuse.
use Rattle.std.specs.Prelude.{◌≡◌, ◌⊎◌, ℕ, ◌+◌, List, [], ◌∷◌, Bool, if◌then◌else◌, Option, Some}
use Rattle.std.specs.Prelude.{None, find, Result, Ok, Err}
use Rattle.std.specs.List.{range_with_len}

-- go on with the value, or keep the refusal
infixl 10 ◌>>=◌
abbrev pub ◌>>=◌ : {A B E : Type 0} → Result A E → (A → Result B E) → Result B E
(Ok x) >>= f = f x
(Err e) >>= f = Err e

-- what was returned, seen by the view, is what the definition says
abbrev pub Gives : {X Y E : Type 0} → (X → Y) → Result X E → Result Y E → Type 0
Gives view (Ok x) defined = defined ≡ Ok (view x)
Gives view (Err e) defined = defined ≡ Err e

-- the same, or the refusal for want of memory
abbrev pub GivesOr : {X Y E : Type 0} → E → (X → Y) → Result X E → Result Y E → Type 0
GivesOr no_memory view (Ok x) defined = defined ≡ Ok (view x)
GivesOr no_memory view (Err e) defined = (e ≡ no_memory) ⊎ (defined ≡ Err e)

-- what each item gives, read with its number in turn, or the first refusal
unfoldable pub each_from : {A B E : Type 0} → (ℕ → A → Result B E) → ℕ → List A → Result (List B) E
each_from read number [] = Ok []
each_from read number (x ∷ xs) = do
  y ← read number x
  ys ← each_from read (number + 1) xs
  Ok (y ∷ ys)

-- a refusal where the test holds
abbrev pub refuse_if : {E : Type 0} → Bool → E → Result (Unit {0}) E
refuse_if test fault = if test then Err fault else Ok tt

-- the least number below a bound for which the test holds
abbrev pub first_below : (ℕ → Bool) → ℕ → Option ℕ
first_below test bound = find test (range_with_len 0 bound)

-- a refusal of what was found, where something was
abbrev pub refuse_found : {A E : Type 0} → Option A → (A → E) → Result (Unit {0}) E
refuse_found None fault = Ok tt
refuse_found (Some found) fault = Err (fault found)

-- a refusal of the least number below a bound for which the test holds
abbrev pub refuse_first : {E : Type 0} → (ℕ → Bool) → ℕ → (ℕ → E) → Result (Unit {0}) E
refuse_first test bound fault = refuse_found (first_below test bound) fault
