use Rattle.std.proofs.Common.{◌≡◌, ◌-◌, ◌*◌, ◌≤◌, arith}
use Rattle.set_facts.proofs.Attitudes.{held_more}
use Rattle.set_facts.proofs.set_lanes.attitudes_before.Goals as goal

pub loop-bend-preserved : goal.loop-bend-preserved
loop-bend-preserved c =
    let bend = c.loop-bend.bend in
    let first : 1 ≤ bend = omega (arith, c.loop-bend.auto.bend) in
    let last : bend ≤ 12 = omega (arith, c.loop-bend-test.true, c.bends-bend-end.ensures.few) in
    let place : c.side_place-at.result ≡ (bend - 1) * 2 = omega (arith, c.side_place-at.ensures.value) in
    rw place (held_more c.args.job.now c.args.mask bend c.loop-bend.attitudes c.attitudes_at.result.0 c.attitudes_at.result.1 first last
    c.attitudes_at.ensures.parent c.attitudes_at.ensures.child c.loop-bend.invariant)
