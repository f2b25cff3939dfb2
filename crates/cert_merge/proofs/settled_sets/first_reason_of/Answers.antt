use Rattle.std.proofs.Common.{◌∙◌, arith, sym, ap}
use Rattle.brake_base.specs.declared.stroke.Action.{Action}
use Rattle.job_setup.specs.Setup.{bend_count, stage_count}
use Rattle.handling_cost.proofs.Actions.{few_bends, lead_is}
use Rattle.plan_lines.proofs.ActionNumbers.{bend_of_number}
use Rattle.cert_merge.proofs.SettledWorths.{first_found, none_found}
use Rattle.cert_merge.proofs.settled_sets.first_reason_of.Goals as goal

pub is_lead-requires-clause-few : goal.is_lead-requires-clause-few
is_lead-requires-clause-few c =
    let job = c.args.job.now in
    let few = few_bends job c.recall_valid.ensures in
    let last = (bend_of_number (bend_count job) (stage_count job) c.args.number c.requires.number).1 in
    let bend = ap (λ (a : Action). a.bend) c.action_at-action.ensures in
    omega (arith, few, last, bend)

pub is_lead-requires-clause-bend : goal.is_lead-requires-clause-bend
is_lead-requires-clause-bend c =
    let job = c.args.job.now in
    let both = bend_of_number (bend_count job) (stage_count job) c.args.number c.requires.number in
    let first = both.0 in
    let last = both.1 in
    let bend = ap (λ (a : Action). a.bend) c.action_at-action.ensures in
    omega (arith, first, last, bend)

pub reason_at-requires-clause-last : goal.reason_at-requires-clause-last
reason_at-requires-clause-last c =
    let job = c.args.job.now in
    let both = bend_of_number (bend_count job) (stage_count job) c.args.number c.requires.number in
    let first = both.0 in
    let last = both.1 in
    let bend = ap (λ (a : Action). a.bend) c.action_at-action.ensures in
    omega (arith, first, last, bend)

pub reason_at-requires-clause-flat : goal.reason_at-requires-clause-flat
reason_at-requires-clause-flat c = (lead_is c.args.job.now c.args.mask c.action_at-action.result.bend (sym c.is_lead.ensures ∙ c.if-is_lead.true)).flat

pub returns-then-is_lead-clause-reason : goal.returns-then-is_lead-clause-reason
returns-then-is_lead-clause-reason c =
    first_found c.args.job.now c.args.mask c.args.number c.action_at-action.result c.reason_at.result c.requires.number c.action_at-action.ensures (sym c.is_lead.ensures ∙ c.if-is_lead.true) c.reason_at.ensures.reason

pub returns-else-is_lead-clause-reason : goal.returns-else-is_lead-clause-reason
returns-else-is_lead-clause-reason c = none_found c.args.job.now c.args.mask c.args.number c.action_at-action.result c.action_at-action.ensures (sym c.is_lead.ensures ∙ c.if-is_lead.false)
