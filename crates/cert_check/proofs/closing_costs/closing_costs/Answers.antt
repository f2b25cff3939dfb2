use Rattle.std.proofs.Common.{arith, sym, ◌∙◌}
use Rattle.cert_check.proofs.ClosingLemmas.{bend_closed, bend_passed_over}
use Rattle.cert_check.proofs.closing_costs.closing_costs.Goals as goal
use Rattle.cert_check.proofs.closing_costs.closing_costs.Goals.{then-contains, else-contains}

pub loop-bend-preserved : goal.loop-bend-preserved
loop-bend-preserved c =
    let job = c.args.job.now in
    let proved = c.args.proved.now in
    let rows = c.args.rows.now in
    let bend = c.loop-bend.bend in
    let first = c.loop-bend.invariant.first in
    let below = c.loop-bend.invariant.below in
    let test = c.loop-bend-test.true in
    let end = c.bends-bend-end.ensures.value in
    let few = c.bends-bend-end.ensures.valid.setup.stages.few_stages in
    record {
      first = omega (arith, first);
      below = elim c.if-contains.branch [
        | then-contains w ↦ rw w.least-is
            (bend_closed job proved rows.noted rows.attitude (omega (arith, few)) bend c.loop-bend.least.0 w.bend_costs.result.0 w.lesser-least.result.0 w.lesser-least.ensures.lanes below w.bend_costs.ensures.closes)
        | else-contains w ↦ rw w.least-is
            (bend_passed_over job proved rows.noted rows.attitude bend c.loop-bend.least.0
            (λ is. let own = sym (c.requires.proved.leads bend first (omega (arith, test, end))) ∙ (sym c.contains.ensures ∙ w.if-contains.false) in cc) below)
      ];
      small = elim c.if-contains.branch [
        | then-contains w ↦ rw w.least-is (λ stage wide. let lanes = w.lesser-least.ensures.lanes stage wide in let small = c.loop-bend.invariant.small stage wide in omega (arith, lanes, small))
        | else-contains w ↦ rw w.least-is c.loop-bend.invariant.small
      ];
    }

pub returns : goal.returns
returns c = record {
  each = λ lead first low is. c.loop-bend.invariant.below lead first (let test = c.loop-bend-test.false in let end = c.bends-bend-end.ensures.value in omega (arith, low, test, end)) is;
  small = c.loop-bend.invariant.small;
}
