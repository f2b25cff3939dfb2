use Rattle.std.proofs.Common.{◌∙◌, arith, sym, ap, subst}
use Rattle.brake_base.specs.declared.stroke.Action.{Action}
use Rattle.job_setup.specs.StrokeGroup.{is_lead}
use Rattle.handling_cost.proofs.Actions.{few_bends}
use Rattle.cert_check.specs.SetActions.{IsNext}
use Rattle.cert_check.proofs.ActionLemmas.{leads_at}
use Rattle.cert_check.proofs.set_actions.next_of.Goals as goal

pub contains-requires-clause-last : goal.contains-requires-clause-last
contains-requires-clause-last c = let few = few_bends c.args.job.now c.recall_valid.ensures in let last = c.action_at-action.ensures.last in omega (arith, few, last)

pub next_after-requires-clause-lead : goal.next_after-requires-clause-lead
next_after-requires-clause-lead c =
    let action = c.action_at-action.ensures in
    sym (leads_at c.args.facts.now c.args.job.now c.args.mask c.leads.result c.requires.facts c.leads.ensures.leads c.action_at-action.result.bend action.first action.last) ∙ (sym c.contains.ensures ∙ c.if-contains.true)

pub returns-then-contains : goal.returns-then-contains
returns-then-contains c =
    subst (λ (a : Action). IsNext c.args.job.now c.args.mask a c.next_after.result) c.action_at-action.ensures.value c.next_after.ensures

pub returns-else-contains : goal.returns-else-contains
returns-else-contains c =
    let action = c.action_at-action.ensures in
    ap (λ (a : Action). is_lead c.args.job.now c.args.mask a.bend) (sym action.value)
    ∙ (sym (leads_at c.args.facts.now c.args.job.now c.args.mask c.leads.result c.requires.facts c.leads.ensures.leads c.action_at-action.result.bend action.first action.last) ∙ (sym c.contains.ensures ∙ c.if-contains.false))
