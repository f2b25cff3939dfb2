use Rattle.stage_lanes.specs.ActionSets.{side_of}
use Rattle.bb_search.proofs.TotalLemmas.{side_low, not_both, none_at_side}
use Rattle.bb_search.proofs.totals.is_given_at.Goals as goal

pub returns : goal.returns
returns c = λ given none.
    not_both c.is_empty.result given
    (c.is_empty.ensures.1
    (none_at_side c.args.sums.now c.args.slack.now c.args.best (side_of c.args.bend c.args.back)
    c.side_totals.result.0 c.side.result.0 c.equal-giving.result c.below-below.result c.intersection.result
    (side_low c.args.bend c.args.back c.requires.first c.requires.last)
    c.side_totals.ensures c.side.ensures.lanes c.equal-giving.ensures.stages c.below-below.ensures.stages
    c.intersection.ensures.stages none))
