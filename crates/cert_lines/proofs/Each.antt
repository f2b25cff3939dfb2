-- What holds of what is there, if anything.
use Rattle.std.proofs.Common.{◌≡◌, ℕ, Bool, true, false, List, [], ◌∷◌, Option, Some, None, refl}
use Rattle.std.specs.Prelude.{if◌then◌else◌}
use Rattle.cert_words.specs.LineWords.{◌>>=◌, at_end}
use Rattle.cert_lines.specs.LineReading.{only_if}

-- what is there, if anything, meets a rule
abbrev pub Each : {A : Type 0} → (A → Type 0) → Option A → Type 0
Each P None = Unit {0}
Each P (Some x) = P x

abbrev pub Any : {A : Type 0} → A → Type 0
Any x = Unit {0}

pub each_any : {A : Type 0} (x : Option A) → Each Any x
each_any None = tt
each_any (Some x) = tt

pub each_then : {A B : Type 0} (P : A → Type 0) (Q : B → Type 0) (x : Option A) (f : A → Option B) → Each P x → ((a : A) → P a → Each Q (f a)) → Each Q (x >>= f)
each_then P Q None f is on = tt
each_then P Q (Some a) f is on = on a is

pub each_weaker : {A : Type 0} (P Q : A → Type 0) (x : Option A) → ((a : A) → P a → Q a) → Each P x → Each Q x
each_weaker P Q None f is = tt
each_weaker P Q (Some a) f is = f a is

pub each_if : {A : Type 0} (P : A → Type 0) (b : Bool) (x y : Option A) → (b ≡ true → Each P x) → (b ≡ false → Each P y) → Each P (if b then x else y)
each_if P true x y one other = one refl
each_if P false x y one other = other refl

pub each_only : {A : Type 0} (P : A → Type 0) (b : Bool) (x : Option A) → (b ≡ true → Each P x) → Each P (only_if b x)
each_only P true x is = is refl
each_only P false x is = tt

pub each_end : {A : Type 0} (P : A → Type 0) (x : A) (text : List ℕ) → (text ≡ [] → P x) → Each P (at_end x text)
each_end P x [] is = is refl
each_end P x (byte ∷ text) is = tt
