use Rattle.std.proofs.Common.{◌≡◌, ◌∙◌, ap, arith, pos, ◌+ℤ◌, ◌-ℤ◌, ◌*ℤ◌, int_lt, to_z, of_z, w64}
use Rattle.std.proofs.lemmas.Int.{ints}
use Rattle.brake_base.specs.Masks.{has}
use Rattle.fold_boxes.specs.Groups.{span}
use Rattle.job_setup.specs.Setup.{SetupData, shape_of}
use Rattle.job_setup.proofs.strokes.is_uncovered.Goals as goal

pub overflow_sub-result : goal.overflow_sub-result
overflow_sub-result c =
    let near = c.requires in
    omega (arith, ints, near.x0.0, near.x0.1, near.x1.0, near.x1.1)

pub overflow_add-result : goal.overflow_add-result
overflow_add-result c =
    let near = c.requires in
    let few = c.setup.ensures.valid.setup.rules.uncovered in
    let uncovered = ap (λ (s : SetupData). s.uncovered) c.setup.ensures.value in
    omega (arith, ints, near.x0.0, near.x0.1, near.x1.0, near.x1.1, uncovered, few.bottom, few.top)

pub overflow_sub-result-2 : goal.overflow_sub-result-2
overflow_sub-result-2 c =
    let from = c.span-from.ensures.near.from in
    let to = c.span-from.ensures.near.to in
    omega (arith, ints, from.low, from.high, to.low, to.high)

pub returns : goal.returns
returns c =
    let near = c.requires in
    let stage = c.args.stage.now in
    let job = c.args.job.now in
    let few = c.setup.ensures.valid.setup.rules.uncovered in
    let uncovered = ap (λ (s : SetupData). s.uncovered) c.setup.ensures.value in
    let from = c.span-from.ensures.near.from in
    let to = c.span-from.ensures.near.to in
    let range = c.span-from.result in
    let span_is : range ≡ span (shape_of job) (has c.args.group) = c.span-from.ensures.value ∙ (λ i. span (c.shape.ensures.value i) (has c.args.group)) in
    let room : to_z w64 (of_z w64 (to_z w64 (of_z w64 (to_z w64 (of_z w64 stage.x1) -ℤ to_z w64 (of_z w64 stage.x0))) +ℤ to_z w64 (of_z w64 (pos 2 *ℤ to_z w64 (of_z w64 c.setup.result.now.uncovered)))))
    ≡ ((stage.x1 -ℤ stage.x0) +ℤ pos 2 *ℤ job.setup.uncovered)
    = omega (arith, ints, near.x0.0, near.x0.1, near.x1.0, near.x1.1, uncovered, few.bottom, few.top) in
    let long : to_z w64 (of_z w64 (to_z w64 (of_z w64 range.1) -ℤ to_z w64 (of_z w64 range.0))) ≡ (range.1 -ℤ range.0) = omega (arith, ints, from.low, from.high, to.low, to.high) in
    λ i. int_lt (room i) ((long ∙ (λ j. (span_is j).1 -ℤ (span_is j).0)) i)
