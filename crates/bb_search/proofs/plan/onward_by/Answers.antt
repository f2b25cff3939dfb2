use Rattle.std.proofs.Common.{◌+◌, ℕ, sym, ◌∙◌, ap, subst}
use Rattle.std.proofs.lemmas.Option.{none-some}
use Rattle.brake_base.specs.declared.stroke.Key.{Key}
use Rattle.brake_base.specs.declared.stroke.Worth.TheVariants.{Cost}
use Rattle.handling_cost.specs.StepCost.{IsKeyOf, cost_to}
use Rattle.handling_cost.proofs.Keys.{next_in_range}
use Rattle.bb_search.specs.Settling.{IsKnown}
use Rattle.bb_search.proofs.CallLemmas.{next_is}
use Rattle.bb_search.proofs.PlanLemmas.{onward_known, onward_sum}
use Rattle.bb_search.proofs.plan.onward_by.Goals as goal

pub known_cost-requires-clause-key : goal.known_cost-requires-clause-key
known_cost-requires-clause-key c =
    let next = next_is c.args.job.now c.args.key.now c.args.action c.key_with-next.result c.group.result c.args.attitude c.key_with-next.ensures.mask c.group.ensures.value c.key_with-next.ensures.attitude c.requires.attitude c.key_with-next.ensures.stage in
    subst (λ (k : Key). IsKeyOf c.args.job.now k) (sym next) (next_in_range c.args.job.now c.requires.job c.args.key.now c.args.action c.requires.key c.requires.action)

pub returns-in_err-rest-clause-none : goal.returns-in_err-rest-clause-none
returns-in_err-rest-clause-none c =
    let next = next_is c.args.job.now c.args.key.now c.args.action c.key_with-next.result c.group.result c.args.attitude c.key_with-next.ensures.mask c.group.ensures.value c.key_with-next.ensures.attitude c.requires.attitude c.key_with-next.ensures.stage in
    rw c.from_residual.ensures (λ step rest same on. none-some rest (c.in_err-rest.ensures.only rest
    (onward_known c.args.job.now c.args.pool.now.rows c.args.key.now c.key_with-next.result c.args.worth step rest c.args.action same next on)))

pub returns-then-cost_to-rest-clause-none : goal.returns-then-cost_to-rest-clause-none
returns-then-cost_to-rest-clause-none c =
    let next = next_is c.args.job.now c.args.key.now c.args.action c.key_with-next.result c.group.result c.args.attitude c.key_with-next.ensures.mask c.group.ensures.value c.key_with-next.ensures.attitude c.requires.attitude c.key_with-next.ensures.stage in
    let cost = c.cost_to.ensures.value ∙ ap (λ (a : ℕ). cost_to c.args.job.now c.args.key.now a c.args.action.stage) c.requires.attitude in
    λ step rest same on.
    let found = c.in_ok-rest.ensures.only rest (onward_known c.args.job.now c.args.pool.now.rows c.args.key.now c.key_with-next.result c.args.worth step rest c.args.action same next on) in
    c.if-cost_to-rest.true (onward_sum c.args.job.now c.args.pool.now.rows c.args.key.now c.args.worth step rest c.in_ok-rest.rest c.cost_to.result c.args.action same on found cost)

pub returns-clause-onward : goal.returns-clause-onward
returns-clause-onward c =
    let next = next_is c.args.job.now c.args.key.now c.args.action c.key_with-next.result c.group.result c.args.attitude c.key_with-next.ensures.mask c.group.ensures.value c.key_with-next.ensures.attitude c.requires.attitude c.key_with-next.ensures.stage in
    let cost = c.cost_to.ensures.value ∙ ap (λ (a : ℕ). cost_to c.args.job.now c.args.key.now a c.args.action.stage) c.requires.attitude in
    record {
      legal = c.requires.legal;
      known = subst (λ (k : Key). IsKnown c.args.job.now c.args.pool.now.rows k (Cost c.in_ok-rest.rest)) next c.in_ok-rest.ensures.known;
      sum = ap (λ (n : ℕ). n + c.in_ok-rest.rest) (sym cost) ∙ c.if-cost_to-rest.false;
    }

pub returns-clause-next : goal.returns-clause-next
returns-clause-next c = next_is c.args.job.now c.args.key.now c.args.action c.key_with-next.result c.group.result c.args.attitude c.key_with-next.ensures.mask c.group.ensures.value c.key_with-next.ensures.attitude c.requires.attitude c.key_with-next.ensures.stage
