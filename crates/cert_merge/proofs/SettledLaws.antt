-- What is settled over a closed base is closed, and of all keys it proves the least cost of a plan.
use Rattle.std.proofs.Common.{◌≡◌, ℕ, zero, suc, ◌+◌, ◌-◌, ◌^◌, ◌<◌, ◌≤◌, List, [], ◌∷◌, Option, Some, None, inl, inr, refl, sym, ◌∙◌, ap, subst, arith}
use Rattle.std.specs.Prelude.{min, max}
use Rattle.std.proofs.lemmas.Bool.{cases_eq}
use Rattle.std.proofs.lemmas.Int.{clamps}
use Rattle.std.proofs.lemmas.Option.{same_Some}
use Rattle.brake_base.specs.declared.stroke.Key.{Key}
use Rattle.brake_base.specs.declared.stroke.Action.{Action}
use Rattle.brake_base.specs.declared.stroke.Gauge.{Gauge}
use Rattle.brake_base.specs.declared.stroke.Step.{Step}
use Rattle.brake_base.specs.declared.stroke.Worth.{Worth}
use Rattle.brake_base.specs.declared.stroke.Worth.TheVariants.{Cost, Blocked}
use Rattle.brake_base.specs.declared.reason.Reason.{Reason}
use Rattle.brake_base.specs.Worths.{IsAtMost, plus, greater}
use Rattle.brake_base.proofs.Worths.{at_most_through}
use Rattle.job_setup.specs.Setup.{JobData, bend_count, stage_count}
use Rattle.job_setup.specs.ValidJob.{IsJob}
use Rattle.handling_cost.specs.StepCost.{IsKeyOf, IsActionAt, IsFull, cost_of, key_after, left}
use Rattle.handling_cost.specs.Plan.{IsReasonFor, IsLegal, IsRest, total, start}
use Rattle.handling_cost.specs.Bound.{bound_of}
use Rattle.handling_cost.specs.Claim.{IsTrueClaim}
use Rattle.handling_cost.proofs.Actions.{few_bends, few_left, fewer_left}
use Rattle.handling_cost.proofs.Admissible.{bound_is_admissible, full_has_no_bound}
use Rattle.handling_cost.proofs.Keys.{start_in_range, next_in_range, full_from_number, number_of_full, below_full}
use Rattle.handling_cost.proofs.Least.{claim_is_true}
use Rattle.handling_cost.proofs.Legal.{legal_of_none}
use Rattle.handling_cost.proofs.Proved.{proved_is}
use Rattle.handling_cost.proofs.Small.{total_small}
use Rattle.handling_cost.proofs.Tables.{closed_by_greatest}
use Rattle.cert_lines.specs.declared.row_head.RowHead.{RowHead}
use Rattle.cert_lines.specs.Lines.{action_at}
use Rattle.plan_cert.specs.GoodCert.{worths_in, HaveRow}
use Rattle.plan_cert.proofs.Conditions.{no_full}
use Rattle.cert_merge.specs.Entries.{Settled, merged_at}
use Rattle.cert_merge.specs.Merged.{settled_at}
use Rattle.cert_merge.specs.Table.{TableData, IsTable, IsClosedTable}
use Rattle.cert_merge.specs.TableTexts.{empty_table}
use Rattle.cert_merge.specs.TableChecks.{CostsAtLeast, proved_by}
use Rattle.cert_merge.specs.Settled.{IsNumberAt, IsFirstFor, worth_by, capped, IsSettledBy, IsSettled, IsWhole, StaysClosed, ProvesLeast}
use Rattle.cert_merge.proofs.MergedClosed.{IsMet, AreMet, merged_closed_over, said_have}
use Rattle.cert_merge.proofs.ProvedWorths.{bound_proved, row_proved}
use Rattle.cert_merge.proofs.TableChecking.{table_rows, closed_is_true}

capped_most : (worth : Worth) → IsAtMost (capped worth) worth
capped_most (Cost cost) = omega (arith, clamps)
capped_most Blocked = tt

-- the actions at a row that is settled over rows are met over them
module _ (job : JobData) (rows : List RowHead) (key : Key) (said : Settled) (of : IsSettledBy job (proved_by job rows) key said) where
  number_met : (number : ℕ) → IsNumberAt job key number → (noted : Option Reason) → said.reasons number ≡ noted → IsMet job (HaveRow rows) key said.worth number noted
  unfolding IsReasonFor
  number_met number at (Some reason) e = (subst (IsFirstFor job key.mask (action_at (stage_count job) number)) e ((of.noted number).here at)).holds
  number_met number at None e =
      let action = action_at (stage_count job) number in
      let next = key_after job key action in
      let enough = at_most_through said.worth of.least (worth_by job (proved_by job rows) key action) (subst (λ (w : Worth). IsAtMost w of.least) (sym of.worth) (capped_most of.least))
      (of.is_least.least (worth_by job (proved_by job rows) key action) (number, at, e, refl)) in
      (closed_by_greatest job (HaveRow rows) key action said.worth (proved_by job rows next) (proved_is job (worths_in rows) next)).1 enough

  pub settled_met : AreMet job (HaveRow rows) key said
  settled_met number less at = number_met number (less, at) (said.reasons number) refl

module _ (job : JobData) (base t : TableData) (low high : ℕ) (is_base : IsTable job base) (is_t : IsTable job t) (is : IsSettled job base low high t) where
  new_met : (key : Key) (said : Settled) → settled_at is.new key ≡ Some said → AreMet job (HaveRow t.rows) key said
  new_met key said e =
      let one = is.new_rows.each key (is.new_rows.only key said e) in
      subst (AreMet job (HaveRow t.rows) key) (same_Some one.0 said (sym one.1 ∙ e)) (settled_met job t.rows key one.0 one.2)

  pub settled_closed : StaysClosed job base t
  settled_closed closed = merged_closed_over job base is.new t is_base is.new_rows.form is_t is.merged closed new_met

-- a table without rows is closed
pub empty_closed : (job : JobData) → IsClosedTable job empty_table
empty_closed job key worth (i, at) action here = absurd cc

-- every key at which a bend is unfolded is settled over the table itself
abbrev AllSettled : JobData → TableData → Type 0
AllSettled job t =
    (key : Key) → IsKeyOf job key → (IsFull job key → ⊥) → (said : Settled) × (settled_at t key ≡ Some said) × IsSettledBy job (proved_by job t.rows) key said

-- where no reason holds against an action some step of it is legal
free_legal : (job : JobData) (key : Key) (action : Action) → IsActionAt job key action → IsFirstFor job key.mask action None → (gauge : Gauge) × IsLegal job key (record { action = action; gauge = gauge })
unfolding IsReasonFor
free_legal job key action at none = legal_of_none job key action at none

-- a rest of this cost
abbrev HasRest : JobData → Key → ℕ → Type 0
HasRest job key cost = (steps : List Step) × IsRest job key steps × (total job key steps ≡ cost)

same_cost : (m n : ℕ) → Cost m ≡ Cost n → m ≡ n
same_cost m n e = ap number e
  where
    number : Worth → ℕ
    number (Cost k) = k
    number Blocked = 0

never_blocked : (n : ℕ) → Blocked ≡ Cost n → ⊥
never_blocked n e = absurd cc

-- the cap isn't met by a number that a rest costs, and the bound isn't above it
greater_is : (bound cost : ℕ) → bound ≤ cost → cost ≤ 1000000000 → greater (Cost bound) (capped (Cost cost)) ≡ Cost cost
greater_is bound cost low small = let same : max bound (min cost 1000000000) ≡ cost = omega (arith, clamps, low, small) in ap Cost same

module _ (job : JobData) (t : TableData) (is_t : IsTable job t) (all : AllSettled job t) where
  is_job : IsJob job
  is_job = is_t.valid

  full_rest : (key : Key) (cost : ℕ) → IsFull job key → proved_by job t.rows key ≡ Cost cost → HasRest job key cost
  full_rest key cost full is =
      let bound = bound_proved job is_job t.rows (table_rows job t is_t) key (λ worth row. no_full job is_job t.rows t.notes is_t.rows key worth row full) in
      let none = full_has_no_bound job is_job key full in
      ([], full, sym none ∙ same_cost (bound_of job key) cost (bound ∙ is))

  -- what the row of a key says is proved
  its_worth : (key : Key) (said : Settled) (cost : ℕ) → settled_at t key ≡ Some said → proved_by job t.rows key ≡ Cost cost → greater (Cost (bound_of job key)) said.worth ≡ Cost cost
  its_worth key said cost e is = row_proved job is_job t.rows (table_rows job t is_t) key said.worth (said_have job t is_t key said e) ∙ is

  step_on : (key : Key) (action : Action) (gauge : Gauge) (cost further : ℕ) → IsKeyOf job key → IsLegal job key (record { action = action; gauge = gauge }) → HasRest job (key_after job key action) further
      → greater (Cost (bound_of job key)) (capped (Cost (cost_of job key action + further))) ≡ Cost cost → HasRest job key cost
  step_on key action gauge cost further ranged legal rest is =
      let step : Step = record { action = action; gauge = gauge } in
      let steps = step ∷ rest.0 in
      let whole : IsRest job key steps = (legal, rest.1) in
      let sum : total job key steps ≡ cost_of job key action + further = ap (λ (n : ℕ). cost_of job key action + n) rest.2 in
      let low = bound_is_admissible job is_job key steps whole in
      let most = total_small job is_job key steps ranged whole in
      let few = few_left job is_job key in
      let is_cost = greater_is (bound_of job key) (cost_of job key action + further) (subst (λ (n : ℕ). bound_of job key ≤ n) sum low) (omega (arith, sum, most, few)) in
      (steps, whole, sum ∙ same_cost (cost_of job key action + further) cost (sym is_cost ∙ is))

  -- where a number is proved of a key of so few bends left a rest costs it
  abbrev Costed : ℕ → Type 0
  Costed fuel = (key : Key) (cost : ℕ) → IsKeyOf job key → left job key < fuel → proved_by job t.rows key ≡ Cost cost → HasRest job key cost

  module _ (fuel : ℕ) (more : Costed fuel) (key : Key) (cost : ℕ) (ranged : IsKeyOf job key) (less : left job key < suc fuel) (is : proved_by job t.rows key ≡ Cost cost)
      (said : Settled) (e : settled_at t key ≡ Some said) (of : IsSettledBy job (proved_by job t.rows) key said) where
    by_next : (number : ℕ) → IsNumberAt job key number → (gauge : Gauge) → IsLegal job key (record { action = action_at (stage_count job) number; gauge = gauge })
        → (next : Worth) → proved_by job t.rows (key_after job key (action_at (stage_count job) number)) ≡ next
        → said.worth ≡ capped (plus (cost_of job key (action_at (stage_count job) number)) next) → HasRest job key cost
    by_next number at gauge legal Blocked next worth = absurd (never_blocked cost (ap (greater (Cost (bound_of job key))) (sym worth) ∙ its_worth key said cost e is))
    by_next number at gauge legal (Cost further) next worth =
        let action = action_at (stage_count job) number in
        let fewer = fewer_left job (few_bends job is_job) key action at.1 in
        let rest = more (key_after job key action) further (next_in_range job is_job key action ranged at.1) (omega (arith, fewer, less)) next in
        step_on key action gauge cost further ranged legal rest (ap (greater (Cost (bound_of job key))) (sym worth) ∙ its_worth key said cost e is)

    by_least : HasRest job key cost
    by_least = elim of.is_least.one [
      | inl blocked ↦ absurd (never_blocked cost (ap (greater (Cost (bound_of job key))) (sym (of.worth ∙ ap capped blocked)) ∙ its_worth key said cost e is))
      | inr one ↦
          let none : IsFirstFor job key.mask (action_at (stage_count job) one.0) None = subst (IsFirstFor job key.mask (action_at (stage_count job) one.0)) one.2 ((of.noted one.0).here one.1) in
          let free = free_legal job key (action_at (stage_count job) one.0) one.1.1 none in
          by_next one.0 one.1 free.0 free.1 (proved_by job t.rows (key_after job key (action_at (stage_count job) one.0))) refl (of.worth ∙ ap capped one.3)
    ]

  rest_at : (fuel : ℕ) → Costed fuel
  rest_at zero key cost ranged less is = absurd (omega (arith, less))
  rest_at (suc fuel) key cost ranged less is = elim (cases_eq key.mask.0 (2 ^ bend_count job - 1)) [
    | inl last ↦ full_rest key cost (full_from_number job is_job key last) is
    | inr other ↦
        let found = all key ranged (λ full. other (number_of_full job is_job key ranged full)) in
        by_least fuel (rest_at fuel) key cost ranged less is found.0 found.1 found.2
  ]

  -- so what is proved of the start is the least cost of a plan, or there is none
  pub proves_least : CostsAtLeast job (proved_by job t.rows start) → IsTrueClaim job (proved_by job t.rows start)
  proves_least least = by_worth (proved_by job t.rows start) refl least
    where
      by_worth : (worth : Worth) → proved_by job t.rows start ≡ worth → CostsAtLeast job worth → IsTrueClaim job worth
      by_worth Blocked is no_less = claim_is_true job Blocked [] tt no_less
      by_worth (Cost cost) is no_less =
          let ranged = start_in_range job is_job in
          let rest = rest_at (suc (left job start)) start cost ranged (omega arith) is in
          claim_is_true job (Cost cost) rest.0 (rest.1, rest.2) no_less

module _ (job : JobData) (base t : TableData) (low high : ℕ) (is_base : IsTable job base) (is_t : IsTable job t) (is : IsSettled job base low high t) where
  all_settled : IsWhole job base low high → AllSettled job t
  all_settled whole key ranged not_full =
      let below = below_full job is_t.valid key ranged not_full in
      let first = whole.first in
      let last = whole.last in
      let one = is.new_rows.each key (record { of_job = ranged; first = omega (arith, first); last = omega (arith, below, last) }) in
      let none : settled_at base key ≡ None = ap (λ (b : TableData). settled_at b key) whole.empty in
      (one.0, is.merged key ∙ ((λ i. merged_at (none i) (settled_at is.new key)) ∙ one.1), one.2)

  pub settled_least : ProvesLeast job base low high t
  settled_least whole =
      let closed = settled_closed job base t low high is_base is_t is (subst (IsClosedTable job) (sym whole.empty) (empty_closed job)) in
      proves_least job t is_t (all_settled whole) (closed_is_true job t is_t closed)
