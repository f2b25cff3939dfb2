use Rattle.std.proofs.Common.{arith}
use Rattle.brake_base.specs.Masks.{union}
use Rattle.job_setup.specs.StrokeGroup.{group_of}
use Rattle.handling_cost.proofs.Actions.{few_bends, few_leads}
use Rattle.set_facts.proofs.SetLaneSteps.{leads_before, none_beyond_before, count_joined, farthest_joined}
use Rattle.set_facts.proofs.set_lanes.SetLanes.before.Goals as goal

pub with-requires-clause-last : goal.with-requires-clause-last
with-requires-clause-last c =
    let few = few_bends c.args.job.now c.requires.valid in
    let last = c.requires.bend.last in
    omega (arith, few, last)

pub overflow_add-count : goal.overflow_add-count
overflow_add-count c =
    let job = c.args.job.now in
    let few = few_leads job c.requires.valid (union c.args.mask (group_of job c.args.mask c.args.bend)) in
    omega (arith, c.requires.after.count, few)

pub bounds_from-requires-clause-leads : goal.bounds_from-requires-clause-leads
bounds_from-requires-clause-leads c =
    count_joined c.args.job.now c.requires.valid c.args.mask c.args.bend c.requires.bend c.args.after.now.count c.requires.after.count

pub bounds_from-requires-clause-farthest : goal.bounds_from-requires-clause-farthest
bounds_from-requires-clause-farthest c =
    farthest_joined c.args.job.now c.requires.valid c.args.mask c.args.bend c.requires.bend
    c.args.ways.now c.args.after.now.farthest c.farther-farthest.result c.requires.ways c.requires.after.farthest c.farther-farthest.ensures

pub returns : goal.returns
returns c =
    let job = c.args.job.now in
    let mask = c.args.mask in
    let bend = c.args.bend in
    let left = c.requires.bend in
    let valid = c.requires.valid in
    let after = c.args.after.now in
    let is = c.requires.after in
    record {
      leads = leads_before job valid mask bend left after.leads c.with.result is.leads c.with.ensures;
      only = none_beyond_before job valid mask bend left after.leads c.with.result is.only c.with.ensures;
      count = count_joined job valid mask bend left after.count is.count;
      farthest = farthest_joined job valid mask bend left c.args.ways.now after.farthest c.farther-farthest.result c.requires.ways is.farthest c.farther-farthest.ensures;
      bounds = c.bounds_from.ensures;
      held = c.requires.held;
    }
