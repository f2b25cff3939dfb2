use Rattle.bb_search.proofs.BendSumLemmas.{bend_sums}
use Rattle.bb_search.proofs.search_table.SearchTable.put_sums.Goals as goal

pub returns : goal.returns
returns c =
    bend_sums c.args.job.now c.requires.valid c.args.key.now c.args.bend c.requires.first
    c.args.sums.now c.set_side.new.self c.set_side-2.new.self c.turned-parent.result.0 c.turned-child.result.0
    c.turned-parent.ensures c.turned-child.ensures c.set_side.ensures.costs c.set_side-2.ensures.costs
