-- Small facts of pairs of numbers and of answers.
use Rattle.std.proofs.Common.{◌≡◌, ◌∙◌, ◌↔◌, sym, subst, refl, ℤ, ◌≤ℤ◌, Bool, true, false, not, T, IsTrue, rules, tests}
use lib.Signed.{le_z}
use Rattle.brake_base.specs.declared.space.Box3.{Box3}
use Rattle.fold_boxes.specs.Pose.{PoseData}
use Rattle.job_setup.specs.LegalGauge.{IsFingerFree}

pub same_pair : (a b c d : ℤ) → a ≡ c → b ≡ d → ◌≡◌ {A = ℤ × ℤ} (a, b) (c, d)
same_pair a b c d first second = λ i. (first i, second i)

pub clash : (r : Bool) → r ≡ false → r ≡ true → ⊥
clash r is_false is_true = subst T (sym is_true ∙ is_false) tt

pub not_iff : (r : Bool) (S : Type 0) → IsTrue r ↔ S → IsTrue (not r) ↔ (S → ⊥)
not_iff true S h = (λ apart shared. clash false refl apart, λ apart. absurd (apart (h.0 refl)))
not_iff false S h = (λ apart shared. clash false refl (h.1 shared), λ apart. refl)

le_from : (a b : ℤ) → IsTrue (le_z a b) → a ≤ℤ b
le_from a b h = search (rules, tests)

le_to : (a b : ℤ) → a ≤ℤ b → IsTrue (le_z a b)
le_to a b h = search (rules, tests)

-- a test of two numbers that are the same as two others
pub same_test : (a b c d : ℤ) → a ≡ c → b ≡ d → IsTrue (le_z a b) ↔ (c ≤ℤ d)
same_test a b c d first second = subst (λ (x : ℤ). IsTrue (le_z a b) ↔ (x ≤ℤ d)) first (subst (λ (y : ℤ). IsTrue (le_z a b) ↔ (a ≤ℤ y)) second (le_from a b, le_to a b))

pub same_free : (pose : PoseData) (r : Bool) (box other : Box3) → box ≡ other → IsTrue r ↔ IsFingerFree pose box → IsTrue r ↔ IsFingerFree pose other
same_free pose r box other same h = subst (λ (b : Box3). IsTrue r ↔ IsFingerFree pose b) same h
