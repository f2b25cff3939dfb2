-- The leads among the bends so far.
use Rattle.std.proofs.Common.{◌≡◌, inl, inr, ℕ, ◌+◌, ◌<◌, ◌≤◌, ◌==◌, Bool, true, false, ◌||◌, arith, refl, sym, ◌∙◌, ap}
use Rattle.std.proofs.lemmas.Bool.Decides.{eqb_tells}
use Rattle.brake_base.specs.declared.mask.Mask.{Mask}
use Rattle.brake_base.specs.Masks.{has, IsEmpty}
use Rattle.job_setup.specs.Setup.{JobData}
use Rattle.job_setup.specs.StrokeGroup.{is_lead}

-- the mask has the leads below a bend, and no other bend
pub record HasLeadsBelow (job : JobData) (mask : Mask) (bend : ℕ) (leads : Mask) : Type 0 where
  pub below : (b : ℕ) → 1 ≤ b → b < bend → has leads b ≡ is_lead job mask b
  pub above : (b : ℕ) → bend ≤ b → has leads b ≡ false

pub leads_start : (job : JobData) (mask leads : Mask) → IsEmpty leads → HasLeadsBelow job mask 1 leads
leads_start job mask leads empty = record { below = λ b first last. absurd (omega (arith, first, last)); above = λ b above. empty b }

none_of : (s t : Bool) → s ≡ false → t ≡ false → (s || t) ≡ false
none_of s t first second = rw (first, second) refl

either_of : (s t : Bool) → t ≡ true → (s || t) ≡ true
either_of true t second = refl
either_of false t second = second

one_of : (s t : Bool) → t ≡ false → (s || t) ≡ s
one_of true t second = refl
one_of false t second = second

pub leads_more : (job : JobData) (mask leads next : Mask) (bend : ℕ) → HasLeadsBelow job mask bend leads → is_lead job mask bend ≡ true → ((other : ℕ) → has next other ≡ (has leads other || (other == bend)))
    → HasLeadsBelow job mask (bend + 1) next
leads_more job mask leads next bend has_leads lead is = record { below = below; above = above }
  where
    below : (b : ℕ) → 1 ≤ b → b < bend + 1 → has next b ≡ is_lead job mask b
    below b first last = elim (eqb_tells b bend) [
      | inl here ↦ is b ∙ (either_of (has leads b) (b == bend) here.0 ∙ (sym lead ∙ ap (is_lead job mask) (sym here.1)))
      | inr there ↦ is b ∙ (one_of (has leads b) (b == bend) there.0 ∙ has_leads.below b first (let no = there.1 in omega (arith, last, no)))
    ]

    above : (b : ℕ) → bend + 1 ≤ b → has next b ≡ false
    above b past = elim (eqb_tells b bend) [
      | inl here ↦ absurd (let same = here.1 in omega (arith, past, same))
      | inr there ↦ is b ∙ none_of (has leads b) (b == bend) (has_leads.above b (omega (arith, past))) there.0
    ]

pub leads_less : (job : JobData) (mask leads : Mask) (bend : ℕ) → HasLeadsBelow job mask bend leads → is_lead job mask bend ≡ false → HasLeadsBelow job mask (bend + 1) leads
leads_less job mask leads bend has_leads none = record {
  below = λ b first last. elim (eqb_tells b bend) [
    | inl here ↦ has_leads.above b (let same = here.1 in omega (arith, same)) ∙ (sym none ∙ ap (is_lead job mask) (sym here.1))
    | inr there ↦ has_leads.below b first (let no = there.1 in omega (arith, last, no))
  ];
  above = λ b past. has_leads.above b (omega (arith, past));
}
