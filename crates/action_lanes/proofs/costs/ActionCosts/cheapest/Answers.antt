use Rattle.action_lanes.proofs.CheapestLemmas.{cheapest_are, none_cheapest}
use Rattle.action_lanes.proofs.costs.ActionCosts.cheapest.Goals as goal

pub returns : goal.returns
returns c =
    let is = cheapest_are c.args.self.now c.args.bends c.args.set c.equal.result c.intersection.result c.least.result c.requires.bends c.requires.small c.least.ensures.least c.equal.ensures.places c.intersection.ensures.places in
    record {
      cheapest = is;
      none = none_cheapest c.args.self.now c.args.bends c.args.set c.equal.result c.intersection.result c.least.result c.requires.bends c.requires.small c.least.ensures.least c.equal.ensures.places c.intersection.ensures.places c.requires.others;
    }
