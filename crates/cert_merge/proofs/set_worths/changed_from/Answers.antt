use Rattle.std.proofs.Common.{◌∙◌, ap, arith}
use Rattle.std.specs.Prelude.{min, slice_index}
use Rattle.std.proofs.lemmas.Int.{clamps}
use Rattle.cert_merge.specs.SetWorths.{cost_of_change, lane_at}
use Rattle.cert_merge.proofs.Floors.{sum_none, sum_more}
use Rattle.cert_merge.proofs.set_worths.changed_from.Goals as goal

pub loop-to-init : goal.loop-to-init
loop-to-init c = record {
  sums = λ stage low. sum_none _ _ _ (let top = c.all-least.ensures.lanes stage low in omega (arith, top));
  small = λ stage low. let top = c.all-least.ensures.lanes stage low in omega (arith, top);
}

pub loop-to-preserved : goal.loop-to-preserved
loop-to-preserved c =
    let facts = c.args.facts.now in
    let proved = c.args.proved.now in
    let to = c.loop-to.to in
    let so_far = c.loop-to.invariant in
    record {
      sums = λ stage low.
          sum_more to (cost_of_change facts c.args.from) (λ k. lane_at proved k stage) (slice_index c.loop-to.least.0 stage) (slice_index c.lesser-least.result.0 stage)
          (c.lesser-least.ensures.lanes stage low ∙ ap (min (slice_index c.loop-to.least.0 stage)) (c.costs_after-costs.ensures stage low)) (so_far.sums stage low);
      small = λ stage low.
          let value = c.lesser-least.ensures.lanes stage low in
          let old = so_far.small stage low in
          omega (arith, clamps, value, old);
    }
