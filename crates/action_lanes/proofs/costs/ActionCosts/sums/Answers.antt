use Rattle.std.proofs.Common.{arith}
use Rattle.action_lanes.proofs.SumLemmas.{lanes_summed}
use Rattle.action_lanes.proofs.costs.ActionCosts.sums.Goals as goal

pub plus-requires : goal.plus-requires
plus-requires c = record {
  room = λ stage low.
      let e = c.lanes.ensures.lanes stage low in
      let f = c.lanes-2.ensures.lanes stage low in
      let g = c.requires.room stage low in
      omega (arith, e, f, g);
}

pub returns : goal.returns
returns c = record {
  lanes = lanes_summed c.args.self.now c.args.other.now c.args.side c.lanes.result.0 c.lanes-2.result.0 c.plus.result.0
      c.requires.side c.lanes.ensures.lanes c.lanes-2.ensures.lanes c.plus.ensures.lanes;
}
