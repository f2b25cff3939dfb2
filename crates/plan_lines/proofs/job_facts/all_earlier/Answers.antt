use Rattle.std.proofs.Common.{arith, ◌≤◌, ◌∙◌}
use Rattle.std.proofs.lemmas.List.{length-set}
use Rattle.plan_lines.proofs.FactsKept.{one_more}
use Rattle.plan_lines.proofs.job_facts.all_earlier.Goals as goal

pub loop-bend-preserved : goal.loop-bend-preserved
loop-bend-preserved c =
    let bend = c.loop-bend.bend in
    let few : bend ≤ 12 = omega (arith, c.loop-bend-test.true, c.bends-bend-end.ensures.few) in
    let some : 1 ≤ bend = omega (arith, c.loop-bend.auto.bend) in
    record {
      count = length-set c.loop-bend.earlier c.from.result c.earlier_of.result ∙ c.loop-bend.invariant.count;
      each = one_more c.args.job.now c.loop-bend.earlier bend c.from.result c.earlier_of.result c.loop-bend.invariant.count few some c.from.ensures c.earlier_of.ensures c.loop-bend.invariant.each;
    }
