use Rattle.std.proofs.Common.{◌<◌, ◌^◌, ◌∙◌, arith, sym, ap, subst}
use Rattle.brake_base.specs.declared.mask.Mask.{Mask}
use Rattle.brake_base.specs.declared.stroke.Back.TheVariants.{Parent, Child}
use Rattle.brake_base.specs.Masks.{union}
use Rattle.job_setup.specs.Setup.{JobData, bend_count}
use Rattle.handling_cost.specs.StepCost.{attitude_at}
use Rattle.handling_cost.proofs.Actions.{few_bends}
use Rattle.cert_check.proofs.ProvedLemmas.{after_in_range, lanes_behind, bend_put}
use Rattle.cert_check.proofs.proved_costs.put_lead.Goals as goal

pub costs_at-parent-requires-clause-mask : goal.costs_at-parent-requires-clause-mask
costs_at-parent-requires-clause-mask c =
    let job = c.args.job.now in
    let mask = c.union-after.ensures.value ∙ ap (union c.args.mask) c.group.ensures.value in
    subst (λ (m : Mask). m.0 < 2 ^ bend_count job) (sym mask) (after_in_range job c.recall_valid.ensures c.args.mask c.requires.mask c.args.bend c.requires.first c.requires.last c.requires.lead)

pub costs_at-child-requires-clause-mask : goal.costs_at-child-requires-clause-mask
costs_at-child-requires-clause-mask c =
    let job = c.args.job.now in
    let mask = c.union-after.ensures.value ∙ ap (union c.args.mask) c.group.ensures.value in
    subst (λ (m : Mask). m.0 < 2 ^ bend_count job) (sym mask) (after_in_range job c.recall_valid.ensures c.args.mask c.requires.mask c.args.bend c.requires.first c.requires.last c.requires.lead)

pub returns : goal.returns
returns c =
    let job = c.args.job.now in
    let rows = c.args.rows.now.rows in
    let bend = c.args.bend in
    let mask = c.union-after.ensures.value ∙ ap (union c.args.mask) c.group.ensures.value in
    let few = few_bends job c.recall_valid.ensures in
    let stages = c.recall_valid.ensures.setup.stages.few_stages in
    let last = c.requires.last in
    bend_put job rows c.args.mask bend c.requires.first (omega (arith, few, last)) (omega (arith, stages))
    c.args.costs.now c.set_side.new.self c.set_side-2.new.self c.costs_at-parent.result.0 c.costs_at-child.result.0
    (lanes_behind job rows c.args.mask c.union-after.result c.attitude-held.result bend Parent c.costs_at-parent.result.0 mask
    (λ stage. c.attitude-held.ensures stage ∙ ap (λ (j : JobData). attitude_at j c.args.mask (record { bend = bend; back = Parent; stage = stage })) c.requires.facts) c.costs_at-parent.ensures)
    (lanes_behind job rows c.args.mask c.union-after.result c.attitude-held-2.result bend Child c.costs_at-child.result.0 mask
    (λ stage. c.attitude-held-2.ensures stage ∙ ap (λ (j : JobData). attitude_at j c.args.mask (record { bend = bend; back = Child; stage = stage })) c.requires.facts) c.costs_at-child.ensures)
    c.costs_at-parent.ensures.small c.costs_at-child.ensures.small c.set_side.ensures.costs c.set_side-2.ensures.costs
