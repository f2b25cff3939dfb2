use Rattle.std.proofs.Common.{◌∙◌, length, ap, sym, arith}
use Rattle.job_setup.specs.Setup.{stage_data}
use Rattle.sheet_views.specs.Stations.{is_along}
use Rattle.sheet_views.proofs.Kept.{kept_more, left_out}
use Rattle.sheet_views.proofs.stations.along.Goals.{then-is_along, else-is_along}
use Rattle.sheet_views.proofs.stations.along.Goals as goal

pub loop-tool-preserved : goal.loop-tool-preserved
loop-tool-preserved c =
    let tools = c.args.tools.now in
    let p = is_along (stage_data c.args.stage.now) in
    let before = c.loop-tool.kept.items in
    let after = c.if-is_along.kept.items in
    elim c.if-is_along.branch [
      | then-is_along w ↦
          let items = ap (λ k. k.items) w.kept-is in
          let pushed = items ∙ w.push.ensures.items in
          let long = ap length items in
          record {
            count = omega (arith, w.push.ensures.len, c.loop-tool.invariant.count, long);
            value = kept_more p tools c.loop-tool.tool-index _ before after c.loop-tool-test.true (sym c.is_along.ensures ∙ w.if-is_along.true) c.loop-tool.invariant.value pushed;
          }
      | else-is_along w ↦
          let same = ap (λ k. k.items) w.kept-is in
          let long = ap length same in
          record {
            count = omega (arith, c.loop-tool.invariant.count, long);
            value = left_out p tools c.loop-tool.tool-index _ before after c.loop-tool-test.true (sym c.is_along.ensures ∙ w.if-is_along.false) c.loop-tool.invariant.value same;
          }
    ]
