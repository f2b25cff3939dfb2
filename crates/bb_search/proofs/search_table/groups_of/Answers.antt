use Rattle.std.proofs.Common.{◌∙◌, arith}
use Rattle.std.proofs.lemmas.List.{length-set}
use Rattle.bb_search.proofs.GroupLemmas.{one_more}
use Rattle.bb_search.proofs.search_table.groups_of.Goals as goal

pub loop-bend-preserved : goal.loop-bend-preserved
loop-bend-preserved c =
    let its = c.loop-bend.invariant in
    let last = c.loop-bend-test.true in
    let few = c.bends-bend-end.ensures.few in
    let long = its.long in
    record {
      first = omega arith;
      long = length-set c.loop-bend.groups c.from.result c.group.result ∙ its.long;
      below = rw c.from.ensures
          (one_more c.args.job.now c.loop-bend.groups c.loop-bend.bend c.empty.result c.group.result its.first (omega (arith, last, few, long))
          c.empty.ensures.value c.group.ensures.value its.below);
    }

pub returns-clause-groups : goal.returns-clause-groups
returns-clause-groups c =
    let past = c.loop-bend-test.false in
    let count = c.bends-bend-end.ensures.value in
    λ bend some low. c.loop-bend.invariant.below bend some (omega (arith, low, past, count))
