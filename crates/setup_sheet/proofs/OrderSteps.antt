-- The steps of a plan one after the other, as the order sheet's loop meets them.
use Rattle.std.proofs.Common.{◌≡◌, ℕ, suc, ◌+◌, ◌<◌, ◌≤◌, List, [], ◌∷◌, ◌++◌, length, get_or, drop, drop-cons, drop_of_length-le, add-one, append_assoc, append-nil, sym, ◌∙◌, ap, subst}
use Rattle.brake_base.specs.declared.stroke.Key.{Key}
use Rattle.brake_base.specs.declared.stroke.Step.{Step}
use Rattle.job_setup.specs.Setup.{JobData}
use Rattle.handling_cost.specs.StepCost.{key_after}
use Rattle.handling_cost.specs.Plan.{AreActions}
use Rattle.setup_sheet.specs.OrderSheet.{IsStepAt, AreSteps, step_line, step_lines}

-- steps that the sheet can tell are actions
pub steps_act : (job : JobData) (key : Key) (steps : List Step) → AreSteps job key steps → AreActions job key steps
steps_act job key [] are = tt
steps_act job key (step ∷ steps) are = (are.0.action, steps_act job (key_after job key step.action) steps are.1)

module _ (job : JobData) (key : Key) (steps : List Step) (i : ℕ) (d : Step) (within : i < length steps) where
  pub first_step : AreSteps job key (drop i steps) → IsStepAt job key (get_or steps i d)
  first_step are = (subst (AreSteps job key) (drop-cons steps i d within) are).0

  pub next_steps : AreSteps job key (drop i steps) → (next : Key) → next ≡ key_after job key (get_or steps i d).action → AreSteps job next (drop (i + 1) steps)
  next_steps are next is =
      let here = subst (AreSteps job key) (drop-cons steps i d within) are in
      subst (λ (n : ℕ). AreSteps job next (drop n steps)) (sym (add-one i)) (subst (λ (k : Key). AreSteps job k (drop (suc i) steps)) (sym is) here.1)

  pub with_step : IsStepAt job key (get_or steps i d) → (next : Key) → next ≡ key_after job key (get_or steps i d).action → AreSteps job next (drop (i + 1) steps) → AreSteps job key (drop i steps)
  with_step here next is later =
      let there = subst (λ (n : ℕ). AreSteps job next (drop n steps)) (add-one i) later in
      subst (AreSteps job key) (sym (drop-cons steps i d within)) (here, subst (λ (k : Key). AreSteps job k (drop (suc i) steps)) is there)

-- no step left is told from any key
pub none_left : (job : JobData) (key : Key) (steps : List Step) (n : ℕ) → length steps ≤ n → AreSteps job key (drop n steps)
none_left job key steps n past =
    let none : drop n steps ≡ [] = drop_of_length-le steps {i = n} past in
    rw none tt
