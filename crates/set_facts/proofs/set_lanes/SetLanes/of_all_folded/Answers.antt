use Rattle.std.proofs.Common.{◌∙◌, sym, arith}
use Rattle.std.proofs.lemmas.List.{get_or-replicate}
use Rattle.set_facts.proofs.SetLaneSteps.{count_full, farthest_full, no_lead_left}
use Rattle.set_facts.proofs.set_lanes.SetLanes.of_all_folded.Goals as goal

pub bounds_from-requires-clause-leads : goal.bounds_from-requires-clause-leads
bounds_from-requires-clause-leads c = sym (count_full c.args.job.now c.args.mask c.requires.full)

pub bounds_from-requires-clause-farthest : goal.bounds_from-requires-clause-farthest
bounds_from-requires-clause-farthest c = λ stage d below.
    let few = c.requires.valid.setup.stages.few_stages in
    get_or-replicate 6 stage 0 d (omega (arith, below, few)) ∙ sym (farthest_full c.args.job.now c.args.mask c.requires.full stage)

pub returns : goal.returns
returns c =
    let job = c.args.job.now in
    record {
      leads = no_lead_left job c.args.mask c.requires.full c.empty.result c.empty.ensures.value;
      only = λ bend past. c.empty.ensures.value bend;
      count = sym (count_full job c.args.mask c.requires.full);
      farthest = λ stage d below.
          let few = c.requires.valid.setup.stages.few_stages in
          get_or-replicate 6 stage 0 d (omega (arith, below, few)) ∙ sym (farthest_full job c.args.mask c.requires.full stage);
      bounds = c.bounds_from.ensures;
      held = c.attitudes_of.ensures;
    }
