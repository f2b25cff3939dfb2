use Rattle.std.proofs.Common.{rules}
use Rattle.action_lanes.proofs.TestedLemmas.{up_to_the_first}
use Rattle.action_lanes.proofs.tested.tested_until.Goals as goal

pub returns-in-Some : goal.returns-in-Some
returns-in-Some c = λ known bound least equal.
    up_to_the_first c.args.leads c.args.sums.now known c.args.best bound least
    c.below-below.result c.below-below.ensures.places c.args.giving equal c.intersection.result c.intersection.ensures.places
    (search rules) (search rules) c.in-Some.first c.in-Some.ensures.some c.equal.result c.equal.ensures.places c.before-in-Some.result c.with-until.result
    c.before-in-Some.ensures.places c.with-until.ensures.places c.intersection-in-Some.result c.intersection-in-Some.ensures.places c.union.result c.union.ensures.places
