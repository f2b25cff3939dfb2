use Rattle.std.proofs.Common.{◌∙◌, sym, arith}
use Rattle.handling_cost.proofs.Actions.{few_bends}
use Rattle.cert_check.proofs.ProvedLemmas.{none_put, bend_on, bend_passed}
use Rattle.cert_check.proofs.proved_costs.costs_behind.Goals as goal
use Rattle.cert_check.proofs.proved_costs.costs_behind.Goals.{then-contains, else-contains}

pub loop-bend-init : goal.loop-bend-init
loop-bend-init c = record { first = omega arith; below = none_put c.args.job.now c.args.rows.now.rows c.args.mask c.all-costs.result c.all-costs.ensures.costs }

pub loop-bend-preserved : goal.loop-bend-preserved
loop-bend-preserved c =
    let job = c.args.job.now in
    let rows = c.args.rows.now.rows in
    let bend = c.loop-bend.bend in
    let first = c.loop-bend.invariant.first in
    let test = c.loop-bend-test.true in
    let end = c.bends-bend-end.ensures.value in
    let valid = c.bends-bend-end.ensures.valid in
    let few = few_bends job valid in
    let stages = valid.setup.stages.few_stages in
    record {
      first = omega (arith, first);
      below = elim c.if-contains.branch [
        | then-contains w ↦ rw w.costs-is
            (bend_on job rows c.args.mask bend c.loop-bend.costs w.put_lead.new.costs (omega (arith, test, end, few)) (omega (arith, stages)) c.loop-bend.invariant.below w.put_lead.ensures)
        | else-contains w ↦ rw w.costs-is
            (bend_passed job rows c.args.mask bend c.loop-bend.costs c.loop-bend.invariant.below
            (sym (c.requires.leads bend first (omega (arith, test, end))) ∙ (sym c.contains.ensures ∙ w.if-contains.false)))
      ];
    }

pub returns : goal.returns
returns c = record {
  each = λ lead first low is. c.loop-bend.invariant.below.each lead first (let test = c.loop-bend-test.false in let end = c.bends-bend-end.ensures.value in omega (arith, low, test, end)) is;
  small = c.loop-bend.invariant.below.small;
}
