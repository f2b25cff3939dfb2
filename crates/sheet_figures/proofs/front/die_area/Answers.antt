use Rattle.std.proofs.Common.{◌≡◌, ℤ, pos, neg_ℤ, FitsSigned, to_z-of_z, w64, ap, sym, subst, rules, arith}
use Rattle.std.proofs.lemmas.Int.{ints}
use Rattle.sheet_paper.specs.declared.window.Area.{Area}
use Rattle.sheet_figures.proofs.Joints.{height_fits, depth_fits}
use Rattle.sheet_figures.proofs.front.die_area.Goals as goal

pub downwards-requires : goal.downwards-requires
downwards-requires c = omega (arith, ints, c.requires.die.sizes.height.bottom, c.requires.die.sizes.height.top)

pub returns : goal.returns
returns c =
    let stage = c.args.stage.now in
    let height = c.requires.die.sizes.height in
    let down = c.downwards.result in
    let is : down ≡ neg_ℤ stage.die.height = simp (to_z-of_z (height_fits stage.die.height height)) at c.downwards.ensures in
    let fits : FitsSigned w64 down = subst (λ (z : ℤ). FitsSigned w64 z) (sym is) (depth_fits stage.die.height height) in
    let area : ℤ → Area = λ (z : ℤ). record { x0 = stage.x0; x1 = stage.x1; y0 = z; y1 = pos 0 } in
    let fits_x0 : FitsSigned w64 stage.x0 = search rules in
    let fits_x1 : FitsSigned w64 stage.x1 = search rules in
    simp (to_z-of_z fits_x0, to_z-of_z fits_x1, to_z-of_z fits) (ap area is)
