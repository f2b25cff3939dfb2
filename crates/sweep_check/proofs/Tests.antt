-- What tests answer.
use Rattle.std.proofs.Common.{◌≡◌, ◌∙◌, ◌↔◌, sym, subst, refl, Bool, true, false, not, T, IsTrue}

pub clash : (r : Bool) → r ≡ false → r ≡ true → ⊥
clash r is_false is_true = subst T (sym is_true ∙ is_false) tt

-- a test that failed, and what it says
pub refused : (r : Bool) (S : Type 0) → IsTrue r ↔ S → IsTrue (not r) → S → ⊥
refused true S h never = absurd (clash false refl never)
refused false S h is = λ holds. clash false refl (h.1 holds)

pub passed : (r : Bool) (S : Type 0) → IsTrue r ↔ S → (S → ⊥) → IsTrue (not r)
passed true S h free = absurd (free (h.0 refl))
passed false S h free = refl
