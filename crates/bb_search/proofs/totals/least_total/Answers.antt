use Rattle.std.proofs.Common.{sym, ◌∙◌, arith}
use Rattle.action_lanes.specs.Costs.{sum_costs}
use Rattle.bb_search.proofs.TotalLemmas.{bend_taken, bend_passed}
use Rattle.bb_search.proofs.totals.least_total.Goals as goal
use Rattle.bb_search.proofs.totals.least_total.Goals.{then-contains, else-contains}

pub loop-bend-preserved : goal.loop-bend-preserved
loop-bend-preserved c =
    let costs = sum_costs c.args.sums.now c.args.slack.now in
    let bends = c.args.bends in
    let bend = c.loop-bend.bend in
    let low = c.loop-bend.low in
    let its = c.loop-bend.invariant in
    let last = c.loop-bend-test.true in
    record {
      first = omega arith;
      low = elim c.if-contains.branch [
        | then-contains w ↦
            rw w.low-is
            (bend_taken bends costs bend low.0 w.side_totals-parent.result.0 w.lesser.result.0 w.side_totals-child.result.0 w.lesser-low.result.0
            its.first (omega (arith, last)) (sym c.contains.ensures ∙ w.if-contains.true)
            w.side_totals-parent.ensures w.lesser.ensures.lanes w.side_totals-child.ensures w.lesser-low.ensures.lanes its.low)
        | else-contains w ↦ rw w.low-is (bend_passed bends costs bend low.0 its.first (sym c.contains.ensures ∙ w.if-contains.false) its.low)
      ];
    }
