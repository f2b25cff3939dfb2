-- What belongs to the actions where the bends of a set are folded.
use Rattle.std.proofs.Common.{◌≡◌, inl, inr, ℕ, ◌+◌, ◌<◌, List, length, set, get_or, Option, None, arith, sym, ◌∙◌, ap, subst}
use Rattle.std.proofs.lemmas.Bool.Decides.{eqb_tells}
use Rattle.std.proofs.lemmas.List.{get_or-set_same, get_or-set_other}
use Rattle.brake_base.specs.declared.mask.Mask.{Mask}
use Rattle.brake_base.specs.declared.stroke.Key.{Key}
use Rattle.brake_base.specs.declared.stroke.Action.{Action}
use Rattle.job_setup.specs.Setup.{JobData, stage_count}
use Rattle.handling_cost.specs.StepCost.{key_after}
use Rattle.set_facts.specs.Facts.{AreLeads}
use Rattle.cert_lines.specs.Lines.{action_at}
use Rattle.cert_check.specs.declared.set_actions.NextKey.{NextKey}
use Rattle.cert_check.specs.SetActions.{IsNext, IsNextOf}

-- where the actions below a number lead
abbrev pub AreNextBelow : JobData → Mask → ℕ → List (Option NextKey) → Type 0
AreNextBelow job mask count nexts = (number : ℕ) → number < count → IsNextOf job mask (action_at (stage_count job) number) (get_or nexts number None)

pub next_on : (job : JobData) (mask : Mask) (count : ℕ) (nexts : List (Option NextKey)) (found : Option NextKey) → count < length nexts → IsNextOf job mask (action_at (stage_count job) count) found → AreNextBelow job mask count nexts
    → AreNextBelow job mask (count + 1) (set nexts count found)
next_on job mask count nexts found within is below number less = elim (eqb_tells number count) [
  | inl here ↦
      subst (λ (o : Option NextKey). IsNextOf job mask (action_at (stage_count job) number) o)
      (sym (ap (λ (n : ℕ). get_or (set nexts count found) n None) here.1 ∙ get_or-set_same nexts count found None within))
      (subst (λ (n : ℕ). IsNextOf job mask (action_at (stage_count job) n) found) (sym here.1) is)
  | inr there ↦
      subst (λ (o : Option NextKey). IsNextOf job mask (action_at (stage_count job) number) o) (sym (get_or-set_other nexts count number found None there.1))
      (below number (let no = there.1 in omega (arith, less, no)))
]

-- the key to which an action leads is that of the definition
pub next_key_is : (job : JobData) (key : Key) (action : Action) (next : NextKey) → IsNext job key.mask action next → next.key ≡ key_after job key action
unfolding key_after
next_key_is job key action next is = λ i. record { mask = is.mask i; attitude = is.attitude i; stage = is.stage i }

-- the leads of the same job
pub leads_at : (facts job : JobData) (mask leads : Mask) → facts ≡ job → AreLeads facts mask leads → AreLeads job mask leads
leads_at facts job mask leads same are = subst (λ (j : JobData). AreLeads j mask leads) same are
