use Rattle.std.proofs.Common.{refl}
use Rattle.bb_search.proofs.ToldLemmas.{with_here, with_there}
use Rattle.bb_search.proofs.known.KnownActions.refuse.Goals as goal

pub returns : goal.returns
returns c =
    let action = c.args.action in
    let old = c.args.self.now in
    let known = c.with-self.ensures.places in
    let refused = c.with-self-2.ensures.places in record {
      told = record {
        here = with_here old.known c.with-self.result action c.requires.action known;
        known = with_there old.known c.with-self.result action known;
        refused = with_there old.refused c.with-self-2.result action refused;
        slack = λ place within differ. refl;
      };
      refused = with_here old.refused c.with-self-2.result action c.requires.action refused;
      slack = refl;
    }
