use Rattle.std.proofs.Common.{◌∙◌, arith, sym, ap, subst}
use Rattle.brake_base.specs.declared.stroke.Action.{Action}
use Rattle.job_setup.specs.Setup.{bend_count, stage_count}
use Rattle.handling_cost.specs.StepCost.{IsActionAt}
use Rattle.handling_cost.proofs.Actions.{few_bends}
use Rattle.plan_lines.proofs.ActionNumbers.{bend_of_number}
use Rattle.cert_merge.specs.Settling.{proved_over}
use Rattle.cert_merge.proofs.SettledWorths.{lead_tried, never_tried, next_found}
use Rattle.cert_merge.proofs.settled_sets.next_of.Goals as goal

pub is_lead-requires-clause-few : goal.is_lead-requires-clause-few
is_lead-requires-clause-few c =
    let job = c.args.job.now in
    let few = few_bends job c.recall_valid.ensures in
    let last = (bend_of_number (bend_count job) (stage_count job) c.args.number c.requires.number).1 in
    let bend = ap (λ (a : Action). a.bend) c.action_at-action.ensures in
    omega (arith, few, last, bend)

pub is_lead-requires-clause-bend : goal.is_lead-requires-clause-bend
is_lead-requires-clause-bend c =
    let job = c.args.job.now in
    let both = bend_of_number (bend_count job) (stage_count job) c.args.number c.requires.number in
    let first = both.0 in
    let last = both.1 in
    let bend = ap (λ (a : Action). a.bend) c.action_at-action.ensures in
    omega (arith, first, last, bend)

pub key_behind-key-requires-clause-action : goal.key_behind-key-requires-clause-action
key_behind-key-requires-clause-action c = λ key same.
    subst (IsActionAt c.args.job.now key) (sym c.action_at-action.ensures)
    (lead_tried c.args.job.now c.args.mask c.args.number c.action_at-action.result c.requires.number c.action_at-action.ensures (sym c.is_lead.ensures ∙ c.if-is_lead.true) key same)

pub returns-then-is_lead-clause-next : goal.returns-then-is_lead-clause-next
returns-then-is_lead-clause-next c = λ key reasons same none.
    next_found c.args.job.now (proved_over c.args.job.now c.args.base.now c.args.settled.now) c.args.mask reasons c.args.number c.action_at-action.result key c.key_behind-key.result c.proved_over-proved.result
    c.requires.number c.action_at-action.ensures (sym c.is_lead.ensures ∙ c.if-is_lead.true) same (c.key_behind-key.ensures.key key same) c.proved_over-proved.ensures.value key reasons same none

pub returns-else-is_lead-clause-next : goal.returns-else-is_lead-clause-next
returns-else-is_lead-clause-next c = λ key reasons same none at again.
    never_tried c.args.job.now c.args.mask c.args.number c.action_at-action.result c.action_at-action.ensures (sym c.is_lead.ensures ∙ c.if-is_lead.false) key same at
