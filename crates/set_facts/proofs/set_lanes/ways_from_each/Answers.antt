use Rattle.std.proofs.Common.{◌≡◌, ◌∙◌, ◌<◌, length, length-set, arith}
use Rattle.handling_cost.specs.Bound.{nearest, meeting_stages}
use Rattle.set_facts.proofs.LaneTables.{set_more}
use Rattle.set_facts.proofs.SetLaneSteps.{nearest_marked}
use Rattle.set_facts.proofs.set_lanes.ways_from_each.Goals as goal

pub loop-stage-preserved : goal.loop-stage-preserved
loop-stage-preserved c =
    let job = c.args.job.now in
    let mask = c.args.mask in
    let bend = c.args.bend in
    let at = c.loop-stage.stage in
    let ways = c.loop-stage.ways in
    let few = c.stages-stages.ensures.few in
    let inside : at < length ways = omega (arith, c.loop-stage.invariant.count, c.loop-stage-test.true, few) in
    let near : c.nearest.result ≡ nearest at (meeting_stages job mask bend) =
    c.nearest.ensures ∙ nearest_marked job mask bend c.meeting_of-meeting.result at c.stages-stages.result c.stages-stages.ensures.value c.meeting_of-meeting.ensures in
    record {
      count = length-set ways c.from.result c.nearest.result ∙ c.loop-stage.invariant.count;
      each = λ stage d below. rw c.from.ensures (set_more (λ stage. nearest stage (meeting_stages job mask bend)) ways at c.nearest.result d inside near (λ k low. c.loop-stage.invariant.each k d low) stage below);
    }
