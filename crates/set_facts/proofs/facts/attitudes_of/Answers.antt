use Rattle.std.proofs.Common.{◌≤◌, ◌∙◌, ap, arith}
use Rattle.brake_base.specs.declared.stroke.Back.TheVariants.{Parent, Child}
use Rattle.fold_boxes.specs.Shapes.{ShapeData}
use Rattle.fold_boxes.specs.Pose.{attitude_of}
use Rattle.set_facts.proofs.Attitudes.{held_more}
use Rattle.set_facts.proofs.facts.attitudes_of.Goals as goal

pub loop-bend-preserved : goal.loop-bend-preserved
loop-bend-preserved c =
    let bend = c.loop-bend.bend in
    let first : 1 ≤ bend = omega (arith, c.loop-bend.auto.bend) in
    let last : bend ≤ 12 = omega (arith, c.loop-bend-test.true, c.faces-bend-end.ensures.few) in
    rw c.from-at.ensures (held_more c.args.job.now c.args.mask bend c.loop-bend.attitudes c.attitude_from.result c.attitude_from-in-loop-bend.result first last
    (c.attitude_from.ensures.value ∙ ap (λ (s : ShapeData). attitude_of s c.args.mask bend Parent) c.shape-shape.ensures.value)
    (c.attitude_from-in-loop-bend.ensures.value ∙ ap (λ (s : ShapeData). attitude_of s c.args.mask bend Child) c.shape-shape.ensures.value)
    c.loop-bend.invariant)
