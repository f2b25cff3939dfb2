-- The kept plan: what the worths of the rows lead to.
use Rattle.std.proofs.Common.{◌≡◌, inl, inr, ℕ, ◌+◌, ◌<◌, ◌≤◌, List, [], ◌∷◌, ◌++◌, length, get_or, Some, arith, sym, ◌∙◌, ap, subst, append_assoc, append-nil}
use Rattle.std.specs.Prelude.{slice_get, option_and_then}
use Rattle.std.proofs.lemmas.Option.{same_Some}
use Rattle.std.proofs.lemmas.Bool.{cases_lt}
use Rattle.brake_base.specs.declared.stroke.Key.{Key}
use Rattle.brake_base.specs.declared.stroke.Action.{Action}
use Rattle.brake_base.specs.declared.stroke.Step.{Step}
use Rattle.brake_base.specs.declared.stroke.Worth.{Worth}
use Rattle.brake_base.specs.declared.stroke.Worth.TheVariants.{Cost}
use Rattle.job_setup.specs.Setup.{JobData}
use Rattle.job_setup.specs.ValidJob.{IsJob}
use Rattle.handling_cost.specs.StepCost.{IsKeyOf, IsActionAt, IsFull, key_after, cost_of}
use Rattle.handling_cost.specs.Plan.{IsLegal, IsRest, IsPlan, total, start}
use Rattle.row_pool.specs.Rows.{Pool, PoolRow, keys, worth_at, IsPool}
use Rattle.bb_search.specs.Tested.{IsFirstGauge}
use Rattle.bb_search.specs.Onward.{IsOnward}
use Rattle.bb_search.specs.Orders.{order_of, AreOrders}
use Rattle.bb_search.specs.Outcomes.{HaveFirstGauges}
use Rattle.bb_search.specs.Table.{HasRow}
use Rattle.bb_search.specs.Settling.{IsKnown, IsSound}
use Rattle.bb_search.proofs.OrderLemmas.{same_order}
use Rattle.bb_search.proofs.TableLemmas.{known_attained}
use Rattle.bb_search.proofs.CallLemmas.{row_at, small_worth, cost_most}
use Rattle.bb_search.proofs.OutcomeLemmas.{one_row}

same_cost : (a b : ℕ) → Cost a ≡ Cost b → a ≡ b
same_cost a b e = cc

module _ (job : JobData) (pool : Pool) (sound : IsSound job pool.rows) (key : Key) where
  pub known_there : (i : ℕ) (cost : ℕ) → slice_get (keys pool) i ≡ Some key → worth_at pool i ≡ Some (Cost cost) → IsKnown job pool.rows key (Cost cost)
  known_there i cost at is = let row = row_at job pool sound key i at in inr (i, row.0, row.1, row.2, sym (ap (option_and_then (λ (r : PoolRow). r.worth)) row.1) ∙ is)

  pub known_only : IsPool pool → (i : ℕ) (cost : ℕ) → slice_get (keys pool) i ≡ Some key → (IsFull job key → ⊥) → IsKnown job pool.rows key (Cost cost) → worth_at pool i ≡ Some (Cost cost)
  known_only is_pool i cost at more (inl full) = absurd (more full.0)
  known_only is_pool i cost at more (inr row) =
      let here = row_at job pool sound key i at in
      let same : here.0 ≡ row.1 = one_row pool is_pool i row.0 here.0 row.1 here.1 row.2 (here.2 ∙ sym row.3) in
      ap (option_and_then (λ (r : PoolRow). r.worth)) here.1 ∙ (ap (λ (r : PoolRow). r.worth) same ∙ row.4)

  pub full_only : IsFull job key → (cost : ℕ) → IsKnown job pool.rows key (Cost cost) → cost ≡ 0
  full_only full cost (inl its) = same_cost cost 0 its.1
  full_only full cost (inr row) = absurd ((sound.nodes row.0 row.1 row.2).not_full (rw row.3 full))

  -- a key that isn't full is known by its row
  pub known_row : (IsFull job key → ⊥) → (worth : Worth) → IsKnown job pool.rows key worth → HasRow pool.rows key worth
  known_row more worth (inl full) = absurd (more full.0)
  known_row more worth (inr row) = row

  pub known_small : IsJob job → IsKeyOf job key → (cost : ℕ) → IsKnown job pool.rows key (Cost cost) → cost ≤ 1000000000
  known_small is_job is_key cost known = cost_most cost (small_worth job is_job key is_key (Cost cost) (known_attained job pool.rows key (Cost cost) sound known))

  -- some step leads on
  pub some_onward : (worth : ℕ) → HasRow pool.rows key (Cost worth) → (step : Step) × (rest : ℕ) × IsOnward job pool.rows key worth step rest
  some_onward worth row =
      let on = rw row.3 at (sound.settled row.0 row.1 (Cost worth) row.2 row.4).leads_on in
      (on.0, on.1, record { legal = on.2; known = on.3; sum = on.4 })

  -- so not every order is one by which no step leads on
  pub none_at_all : IsJob job → (worth : ℕ) (orders : List ℕ) → AreOrders job key orders → HasRow pool.rows key (Cost worth) →
      ((k d : ℕ) → k < length orders → (step : Step) (rest : ℕ) → order_of job key step.action ≡ get_or orders k d → IsOnward job pool.rows key worth step rest → ⊥) → ⊥
  none_at_all is_job worth orders are row none =
      let on = some_onward worth row in
      let member = are.each on.0.action on.2.legal.action in
      none member.0 (order_of job key on.0.action) member.1 on.0 on.1 (sym member.2) on.2

-- no step leads on by one order more
pub none_more : (job : JobData) → IsJob job → (rows : List PoolRow) (key : Key) (worth : ℕ) (orders : List ℕ) (n : ℕ) (action : Action) → IsActionAt job key action → ((d : ℕ) → get_or orders n d ≡ order_of job key action) →
    ((k d : ℕ) → k < n → (step : Step) (rest : ℕ) → order_of job key step.action ≡ get_or orders k d → IsOnward job rows key worth step rest → ⊥) →
    ((step : Step) (rest : ℕ) → step.action ≡ action → IsOnward job rows key worth step rest → ⊥) →
    (k d : ℕ) → k < n + 1 → (step : Step) (rest : ℕ) → order_of job key step.action ≡ get_or orders k d → IsOnward job rows key worth step rest → ⊥
none_more job is_job rows key worth orders n action at here before not_here k d below step rest order on =
    elim (cases_lt k n) [
      | inl early ↦ before k d early step rest order on
      | inr late ↦
          let e : k ≡ n = omega (arith, below, late) in
          not_here step rest (same_order job is_job key step.action action on.legal.action at (order ∙ (ap (λ (i : ℕ). get_or orders i d) e ∙ here d))) on
    ]

-- the steps so far, and whatever comes after them
pub record IsPrefix (job : JobData) (steps : List Step) (key : Key) (spent : ℕ) : Type 0 where
  pub plan : (others : List Step) → IsRest job key others → IsPlan job (steps ++ others)
  pub sum : (others : List Step) → total job start (steps ++ others) ≡ spent + total job key others
  pub gauges : (others : List Step) → HaveFirstGauges job key others → HaveFirstGauges job start (steps ++ others)

-- the same of the step with this action
pub onward_known : (job : JobData) (rows : List PoolRow) (key next : Key) (worth : ℕ) (step : Step) (rest : ℕ) (action : Action) → step.action ≡ action → next ≡ key_after job key action → IsOnward job rows key worth step rest → IsKnown job rows next (Cost rest)
onward_known job rows key next worth step rest action same after on =
    subst (λ (k : Key). IsKnown job rows k (Cost rest)) (sym after) (subst (λ (a : Action). IsKnown job rows (key_after job key a) (Cost rest)) same on.known)

pub onward_sum : (job : JobData) (rows : List PoolRow) (key : Key) (worth : ℕ) (step : Step) (rest found cost : ℕ) (action : Action) → step.action ≡ action → IsOnward job rows key worth step rest → Some found ≡ Some rest → cost ≡ cost_of job key action → cost + found ≡ worth
onward_sum job rows key worth step rest found cost action same on found_is cost_is =
    let e : found ≡ rest = same_Some found rest found_is in
    let f : cost_of job key step.action ≡ cost_of job key action = ap (cost_of job key) same in
    omega (arith, on.sum, e, f, cost_is)

pub prefix_starts : (job : JobData) → IsPrefix job [] start 0
prefix_starts job = record { plan = λ others rest. rest; sum = λ others. omega arith; gauges = λ others first. first }

pub prefix_more : (job : JobData) (steps : List Step) (key : Key) (spent : ℕ) (step : Step) → IsLegal job key step → IsFirstGauge job key.mask step.action step.gauge → IsPrefix job steps key spent →
    IsPrefix job (steps ++ step ∷ []) (key_after job key step.action) (spent + cost_of job key step.action)
prefix_more job steps key spent step legal gauge prefix =
    record {
      plan = λ others rest. rw append_assoc (prefix.plan (step ∷ others) (legal, rest));
      sum = λ others. rw append_assoc (let sum = prefix.sum (step ∷ others) in omega (arith, sum));
      gauges = λ others first. rw append_assoc (prefix.gauges (step ∷ others) (gauge, first));
    }

module _ (job : JobData) (pool : Pool) (sound : IsSound job pool.rows) (steps : List Step) (key : Key) (worth cost : ℕ) (known : IsKnown job pool.rows key (Cost worth)) (prefix : (spent : ℕ) × (spent + worth ≡ cost) × IsPrefix job steps key spent) (is_full : IsFull job key) where
  pub plan_ends : IsPlan job steps
  plan_ends = rw append-nil at (prefix.2.plan [] is_full)

  pub gauges_end : HaveFirstGauges job start steps
  gauges_end = rw append-nil at (prefix.2.gauges [] tt)

  pub plan_costs : total job start steps ≡ cost
  plan_costs =
      let none = full_only job pool sound key is_full worth known in
      let sum = rw append-nil at (prefix.2.sum []) in
      omega (arith, prefix.1, none, sum)
