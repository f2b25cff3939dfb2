use Rattle.std.proofs.Common.{refl}
use Rattle.bb_search.proofs.ToldLemmas.{with_here, with_there, cost_here, cost_there}
use Rattle.bb_search.proofs.known.KnownActions.learn.Goals as goal

pub returns : goal.returns
returns c =
    let action = c.args.action in
    let old = c.args.self.now in
    let known = c.with-self.ensures.places in
    let costs = c.set_cost.ensures.costs in record {
      told = record {
        here = with_here old.known c.with-self.result action c.requires.action known;
        known = with_there old.known c.with-self.result action known;
        refused = λ place within differ. refl;
        slack = cost_there old.slack c.set_cost.new.self action c.args.slack costs;
      };
      refused = refl;
      slack = cost_here old.slack c.set_cost.new.self action c.args.slack c.requires.action costs;
    }
