-- Lemmas about lists that grow at their end.
use Rattle.std.proofs.Common.{◌≡◌, ℕ, zero, suc, List, [], ◌∷◌, ◌++◌, get_or, refl}

-- a value at the end is read as before where it stands for none
pub get_or-push : {X : Type 0} (xs : List X) (x : X) (k : ℕ) → get_or (xs ++ x ∷ []) k x ≡ get_or xs k x
get_or-push [] x zero = refl
get_or-push [] x (suc k) = refl
get_or-push (y ∷ xs) x zero = refl
get_or-push (y ∷ xs) x (suc k) = get_or-push xs x k

pub ruleset fill_lemmas = (get_or-push)
