use Rattle.std.proofs.Common.{◌≡◌, ◌∙◌, to_z, of_z, w64, arith}
use Rattle.std.proofs.lemmas.Int.{ints}
use Rattle.fold_boxes.specs.Pose.{pose_data}
use Rattle.sheet_views.proofs.Lines.{line_is}
use Rattle.sheet_views.proofs.drawing.bend_line.Goals as goal

pub returns-clause-value : goal.returns-clause-value
returns-clause-value c =
    let range = c.stage_range-x0.result in
    let lines = c.span-lines.result in
    let low = c.stage_range-x0.ensures.near_from in
    let high = c.stage_range-x0.ensures.near_to in
    let near = c.span-lines.ensures.near in
    let start = c.start_of_span-from.ensures.near in
    let x0 : to_z w64 (of_z w64 range.0) ≡ range.0 = omega (arith, ints, low.low, low.high) in
    let x1 : to_z w64 (of_z w64 range.1) ≡ range.1 = omega (arith, ints, high.low, high.high) in
    line_is c.args.job.now c.args.key.now.mask c.args.action (pose_data c.args.pose.now) c.shape.result.now lines _ _ _ _ c.requires.pose c.shape.ensures.value c.span-lines.ensures.value
    (x0 ∙ c.stage_range-x0.ensures.from) (x1 ∙ c.stage_range-x0.ensures.to) (omega (arith, ints, start.low, start.high, c.start_of_span-from.ensures.value))
    (omega (arith, ints, start.low, start.high, near.from.low, near.from.high, near.to.low, near.to.high))

pub returns-clause-from : goal.returns-clause-from
returns-clause-from c = let start = c.start_of_span-from.ensures.near in omega (arith, ints, start.low, start.high)

pub returns-clause-to : goal.returns-clause-to
returns-clause-to c =
    let start = c.start_of_span-from.ensures.near in
    let near = c.span-lines.ensures.near in
    omega (arith, ints, start.low, start.high, near.from.low, near.from.high, near.to.low, near.to.high)
