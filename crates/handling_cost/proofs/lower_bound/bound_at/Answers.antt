use Rattle.std.proofs.Common.{◌∙◌, ℕ, ◌≤◌, sym, subst, arith}
use Rattle.handling_cost.specs.Plan.{total}
use Rattle.handling_cost.specs.Bound.{bound_with, bound_of}
use Rattle.handling_cost.proofs.Admissible.{bound_is_admissible}
use Rattle.handling_cost.proofs.Small.{bound_small}
use Rattle.handling_cost.proofs.lower_bound.bound_at.Goals as goal

pub returns-clause-value : goal.returns-clause-value
unfolding bound_of
returns-clause-value c = c.bound_with.ensures.value ∙ (λ i. bound_with c.args.job.now c.args.key.now.mask (c.leads_left-leads.ensures.value i) (c.farthest-way.ensures.value i))

pub returns-clause-admissible : goal.returns-clause-admissible
returns-clause-admissible c = λ steps rest.
    subst (λ (n : ℕ). n ≤ total c.args.job.now c.args.key.now steps) (sym (returns-clause-value c)) (bound_is_admissible c.args.job.now c.bound_with.ensures.valid c.args.key.now steps rest)

pub returns-clause-small : goal.returns-clause-small
returns-clause-small c =
    let value = returns-clause-value c in
    let small = bound_small c.args.job.now c.bound_with.ensures.valid c.args.key.now c.requires.key in
    omega (arith, value, small)
