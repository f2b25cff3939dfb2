use Rattle.std.proofs.Common.{◌∙◌, sym, arith}
use Rattle.bb_search.proofs.BendSumLemmas.{bend_summed, bend_skipped}
use Rattle.bb_search.proofs.search_table.SearchTable.put_all_sums.Goals as goal
use Rattle.bb_search.proofs.search_table.SearchTable.put_all_sums.Goals.{then-contains, else-contains}

pub loop-bend-preserved : goal.loop-bend-preserved
loop-bend-preserved c =
    let job = c.args.job.now in
    let key = c.args.key.now in
    let bend = c.loop-bend.bend in
    let first = c.loop-bend.invariant.first in
    record {
      first = omega (arith, first);
      below = elim c.if-contains.branch [
        | then-contains w ↦ rw w.sums-is
            (bend_summed job key bend c.loop-bend.sums w.put_sums.new.sums c.loop-bend.invariant.below w.put_sums.ensures c.requires.valid)
        | else-contains w ↦
            let last = c.loop-bend-test.true in
            let few = c.bends-bend-end.ensures.value in
            rw w.sums-is
            (bend_skipped job key bend c.loop-bend.sums c.loop-bend.invariant.below
            (sym (c.requires.leads bend first (omega (arith, last, few))) ∙ (sym c.contains.ensures ∙ w.if-contains.false)))
      ];
    }
