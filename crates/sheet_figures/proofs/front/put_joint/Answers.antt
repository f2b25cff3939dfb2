use Rattle.std.proofs.Common.{◌≡◌, ◌∙◌, ◌++◌, ℤ, pos, neg_ℤ, FitsSigned, to_z-of_z, w64, ap, sym, subst, arith}
use Rattle.std.specs.Prelude.{codes}
use Rattle.std.proofs.lemmas.Int.{ints}
use Rattle.sheet_paper.specs.declared.shapes.Dashes.TheVariants.{Whole}
use Rattle.sheet_paper.specs.FigureLines.{line_between}
use Rattle.sheet_figures.proofs.Joints.{height_fits, depth_fits}
use Rattle.sheet_figures.proofs.front.put_joint.Goals as goal

pub downwards-requires : goal.downwards-requires
downwards-requires c = omega (arith, ints, c.requires.stage.die.sizes.height.bottom, c.requires.stage.die.sizes.height.top)

pub returns : goal.returns
returns c =
    let window = c.args.window.now in
    let stage = c.args.stage.now in
    let joint = c.args.joint in
    let die = c.requires.stage.die.sizes.height in
    let punch = c.requires.stage.punch.sizes.height in
    let down = c.downwards.result in
    let is : down ≡ neg_ℤ stage.die.height = simp (to_z-of_z (height_fits stage.die.height die)) at c.downwards.ensures in
    let fits : FitsSigned w64 down = subst (λ (z : ℤ). FitsSigned w64 z) (sym is) (depth_fits stage.die.height die) in
    let text : c.put_line_between.new.out.items ≡ c.args.out.now.items ++ line_between window (codes "thin") (pos 1) Whole (joint, down) (joint, stage.punch.height) = simp (to_z-of_z c.ranges.joint, to_z-of_z fits, to_z-of_z (height_fits stage.punch.height punch)) at c.in_ok-put_line_between.ensures in
    text ∙ ap (λ (z : ℤ). c.args.out.now.items ++ line_between window (codes "thin") (pos 1) Whole (joint, z) (joint, stage.punch.height)) is
