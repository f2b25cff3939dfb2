use Rattle.std.proofs.Common.{◌≡◌, ◌∙◌, ◌*◌, ◌<◌, ℕ, length, length-set, ap, arith}
use Rattle.std.proofs.lemmas.List.{get_or-set_other}
use Rattle.job_setup.specs.Setup.{stage_count}
use Rattle.handling_cost.specs.StepCost.{distance}
use Rattle.set_facts.proofs.LaneTables.{set_more, lanes_by_stage}
use Rattle.set_facts.proofs.lane_facts.ways_from.Goals as goal

pub loop-to-preserved : goal.loop-to-preserved
loop-to-preserved c =
    let price : ℕ → ℕ = λ to. c.args.cost * distance c.args.from to in
    let ways = c.loop-to.ways in
    let at = c.loop-to.to in
    let way = c.args.cost * c.from.result in
    let inside : at < length ways = omega (arith, c.loop-to.invariant.count, c.loop-to-test.true, c.stages-to-end.ensures.few) in
    let value : way ≡ price at = ap (λ (n : ℕ). c.args.cost * n) (c.from.ensures ∙ c.abs_diff.ensures) in
    record {
      count = length-set ways c.from-in-loop-to.result way ∙ c.loop-to.invariant.count;
      each = λ to d below. rw c.from-in-loop-to.ensures (set_more price ways at way d inside value (λ k low. c.loop-to.invariant.each k d low) to below);
      past = λ to d high low.
          rw c.from-in-loop-to.ensures (get_or-set_other ways at to way d (λ same. omega (arith, high, same)) ∙ c.loop-to.invariant.past to d (omega (arith, high)) low);
    }

pub returns : goal.returns
returns c =
    let price : ℕ → ℕ = λ to. c.args.cost * distance c.args.from to in
    let all : c.loop-to.to ≡ stage_count c.args.job.now = omega (arith, c.loop-to-test.false, c.loop-to.auto.to-end, c.stages-to-end.ensures.value) in
    lanes_by_stage c.args.job.now price c.loop-to.ways c.loop-to.to all c.loop-to.invariant.each c.loop-to.invariant.past
