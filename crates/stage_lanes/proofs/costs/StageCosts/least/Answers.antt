use Rattle.std.proofs.Common.{min, slice_index, ap, ◌∙◌}
use Rattle.stage_lanes.proofs.LaneLemmas.{least_lane}
use Rattle.stage_lanes.proofs.costs.StageCosts.least.Goals as goal

pub returns : goal.returns
returns c =
    let fours = c.lesser-fours.result.0 in
    record {
      least = rw c.min.ensures (least_lane c.args.self.0 fours c.lesser-pairs.result.0
          (λ stage h. c.lesser-fours.ensures.lanes stage h ∙ ap (min (slice_index c.args.self.0 stage)) (c.turned_by_four.ensures.lanes stage h))
          (λ stage h. c.lesser-pairs.ensures.lanes stage h ∙ ap (min (slice_index fours stage)) (c.turned_by_two.ensures.lanes stage h)));
    }
