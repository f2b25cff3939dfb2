-- The steps of a plan one after the other, as a loop meets them.
use Rattle.std.proofs.Common.{◌≡◌, ℕ, suc, ◌+◌, ◌<◌, List, length, get_or, drop, drop-cons, add-one, sym, ◌∙◌, ap, subst}
use Rattle.brake_base.specs.declared.stroke.Key.{Key}
use Rattle.brake_base.specs.declared.stroke.Step.{Step}
use Rattle.brake_base.specs.declared.stroke.Back.TheVariants.{Parent}
use Rattle.job_setup.specs.Setup.{JobData}
use Rattle.handling_cost.specs.StepCost.{IsActionAt, key_after, cost_of}
use Rattle.handling_cost.specs.Plan.{AreActions, total}

-- a step where there is none
pub no_step : Step
no_step = record { action = record { bend = 0; back = Parent; stage = 0 }; gauge = record { left_face = 0; right_face = 0 } }

module _ (job : JobData) (key : Key) (steps : List Step) (i : ℕ) (d : Step) (within : i < length steps) where
  pub first_action : AreActions job key (drop i steps) → IsActionAt job key (get_or steps i d).action
  first_action actions = (subst (AreActions job key) (drop-cons steps i d within) actions).0

  pub next_actions : AreActions job key (drop i steps) → (next : Key) → next ≡ key_after job key (get_or steps i d).action → AreActions job next (drop (i + 1) steps)
  next_actions actions next is =
      let here = subst (AreActions job key) (drop-cons steps i d within) actions in
      subst (λ (n : ℕ). AreActions job next (drop n steps)) (sym (add-one i)) (subst (λ (k : Key). AreActions job k (drop (suc i) steps)) (sym is) here.1)

  pub next_total : (next : Key) → next ≡ key_after job key (get_or steps i d).action → total job key (drop i steps) ≡ cost_of job key (get_or steps i d).action + total job next (drop (i + 1) steps)
  next_total next is =
      let cost = cost_of job key (get_or steps i d).action in
      ap (total job key) (drop-cons steps i d within)
      ∙ ap (λ (k : Key). cost + total job k (drop (suc i) steps)) (sym is)
      ∙ ap (λ (n : ℕ). cost + total job next (drop n steps)) (sym (add-one i))
