use Rattle.std.proofs.Common.{◌+◌, ◌*◌, arith}
use Rattle.stage_lanes.specs.ActionSets.{side_of}
use Rattle.action_lanes.proofs.SumLemmas.{lanes_summed}
use Rattle.bb_search.proofs.TotalLemmas.{side_low}
use Rattle.bb_search.proofs.totals.side_totals.Goals as goal

pub plus-requires : goal.plus-requires
plus-requires c = record {
  room = λ stage wide.
      let own = c.side.ensures.lanes stage wide in
      let above = c.side-2.ensures.lanes stage wide in
      let low = side_low c.args.bend c.args.back c.requires.first c.requires.last in
      let room = c.requires.room (8 * side_of c.args.bend c.args.back + stage) (omega (arith, low, wide)) in
      omega (arith, own, above, room);
}

pub returns : goal.returns
returns c =
    lanes_summed c.args.sums.now c.args.slack.now (side_of c.args.bend c.args.back) c.side.result.0 c.side-2.result.0 c.plus.result.0
    (side_low c.args.bend c.args.back c.requires.first c.requires.last) c.side.ensures.lanes c.side-2.ensures.lanes c.plus.ensures.lanes
