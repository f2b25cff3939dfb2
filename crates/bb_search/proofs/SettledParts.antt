-- What of a done row stands on its own: the reasons of its list, and a step from it.
use Rattle.std.proofs.Common.{◌≡◌, ◌⊎◌, inl, inr, ℕ, zero, suc, ◌+◌, ◌<◌, ◌≤◌, Bool}
use Rattle.std.proofs.Common.{true, false, ◌&&◌, List, ◌∷◌, map, Option, None, arith, refl}
use Rattle.std.proofs.Common.{◌∙◌, ap}
use Rattle.std.specs.Prelude.{slice_get, option_and_then}
use Rattle.std.specs.List.{range_with_len}
use Rattle.brake_base.specs.declared.stroke.Key.{Key}
use Rattle.brake_base.specs.declared.stroke.Action.{Action}
use Rattle.brake_base.specs.declared.stroke.Step.{Step}
use Rattle.brake_base.specs.declared.stroke.Worth.{Worth}
use Rattle.brake_base.specs.declared.stroke.Worth.TheVariants.{Cost, Blocked}
use Rattle.brake_base.specs.declared.reason.Reason.{Reason}
use Rattle.brake_base.specs.Worths.{plus}
use Rattle.job_setup.specs.Setup.{JobData}
use Rattle.job_setup.specs.ValidJob.{IsJob}
use Rattle.handling_cost.specs.StepCost.{IsKeyOf, IsActionAt, key_after, cost_of}
use Rattle.handling_cost.specs.Plan.{IsLegal}
use Rattle.handling_cost.specs.Bound.{sum_of}
use Rattle.handling_cost.proofs.Actions.{few_left}
use Rattle.handling_cost.proofs.Keys.{next_in_range}
use Rattle.handling_cost.proofs.Small.{cost_small, bound_small, total_small}
use Rattle.row_pool.specs.Rows.{PoolRow}
use Rattle.bb_search.specs.Settling.{IsAttained, IsKnown, LeadsOn}

-- the value of the number of a place in a list by numbers
pub noted_within :
    (f : ℕ → Option Reason) (a n k : ℕ) → k < n
    → option_and_then (λ (r : Option Reason). r) (slice_get (map f (range_with_len a n)) k) ≡ f (a + k)
noted_within f a zero k within = absurd (omega (arith, within))
noted_within f a (suc n) zero within = ap f (omega arith)
noted_within f a (suc n) (suc k) within =
    noted_within f (a + 1) n k (omega (arith, within)) ∙ ap f (omega arith)

pub noted_past :
    (f : ℕ → Option Reason) (a n k : ℕ) → n ≤ k
    → option_and_then (λ (r : Option Reason). r) (slice_get (map f (range_with_len a n)) k) ≡ None
noted_past f a zero k past = refl
noted_past f a (suc n) zero past = absurd (omega (arith, past))
noted_past f a (suc n) (suc k) past = noted_past f (a + 1) n k (omega (arith, past))

pub both_true : (a b : Bool) → (a && b) ≡ true → (a ≡ true) × (b ≡ true)
both_true true true is = (refl, refl)
both_true true false is = absurd cc
both_true false b is = absurd cc

pub true_both : (a b : Bool) → a ≡ true → b ≡ true → (a && b) ≡ true
true_both a b first second = rw (first, second) refl

pub one_false : (a b : Bool) → b ≡ false → (a && b) ≡ false
one_false true b is = is
one_false false b is = refl

pub by_bool : {P : Type 0} (b : Bool) → (b ≡ true → P) → (b ≡ false → P) → P
by_bool b first second = elim (bool_cases b) [ inl is ↦ first is | inr is ↦ second is ]
  where
    bool_cases : (t : Bool) → (t ≡ true) ⊎ (t ≡ false)
    bool_cases true = inl refl
    bool_cases false = inr refl

-- a legal step and what is attained after it
pub attained_by : (job : JobData) (key : Key) (step : Step) (worth : Worth) → IsLegal job key step → IsAttained job (key_after job key step.action) worth → IsAttained job key (plus (cost_of job key step.action) worth)
attained_by job key step (Cost n) legal attained = (step ∷ attained.0, (legal, attained.1), ap (λ (m : ℕ). cost_of job key step.action + m) attained.2)
attained_by job key step Blocked legal attained = tt

pub leads_by : (job : JobData) (rows : List PoolRow) (key : Key) (step : Step) (worth : Worth) → IsLegal job key step → IsKnown job rows (key_after job key step.action) worth → LeadsOn job rows key (plus (cost_of job key step.action) worth)
leads_by job rows key step (Cost n) legal known = (step, n, legal, known, refl)
leads_by job rows key step Blocked legal known = tt

module _ (job : JobData) (is_job : IsJob job) (key : Key) (in_range : IsKeyOf job key) where
  -- sums are far below what no way on costs
  pub sum_small : (action : Action) → IsActionAt job key action → sum_of job key action ≤ 26000000
  sum_small action at =
      let cost = cost_small job is_job key action in_range at in
      let bound = bound_small job is_job (key_after job key action) (next_in_range job is_job key action in_range at) in
      omega (arith, cost, bound)

  -- and so are the costs of rests
  pub rest_small : (action : Action) (n : ℕ) → IsActionAt job key action → IsAttained job (key_after job key action) (Cost n) → n ≤ 96000000
  rest_small action n at attained =
      let next = key_after job key action in
      let most = total_small job is_job next attained.0 (next_in_range job is_job key action in_range at) attained.1 in
      let few = few_left job is_job next in
      omega (arith, attained.2, most, few)
