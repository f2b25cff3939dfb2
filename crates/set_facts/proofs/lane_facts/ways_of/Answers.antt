use Rattle.std.proofs.Common.{◌≤◌, ℕ, subst, arith}
use Rattle.job_setup.specs.Setup.{stage_count}
use Rattle.set_facts.proofs.LaneTables.{HasWaysAt, ways_more, ways_all}
use Rattle.set_facts.proofs.lane_facts.ways_of.Goals as goal

pub loop-from-preserved : goal.loop-from-preserved
loop-from-preserved c =
    let job = c.args.job.now in
    let from = c.loop-from.from in
    let row = c.ways_from-row.result in
    let is : HasWaysAt job job.setup.cost.stage from row.0 = subst (λ (n : ℕ). HasWaysAt job n from row.0) c.way_price-price.ensures.value c.ways_from-row.ensures in
    rw c.from.ensures (ways_more job from c.loop-from.ways row (omega (arith, c.loop-from-test.true, c.stages-from-end.ensures.few)) is c.loop-from.invariant)

pub returns : goal.returns
returns c =
    let job = c.args.job.now in
    let from = c.loop-from.from in
    let few : from ≤ 6 = omega (arith, c.loop-from.auto.from-end, c.stages-from-end.ensures.few) in
    let all : stage_count job ≤ from = omega (arith, c.loop-from-test.false, c.stages-from-end.ensures.value) in
    ways_all job from c.loop-from.ways c.ways_from-start.result few all c.ways_from-start.ensures c.loop-from.invariant
