use Rattle.std.proofs.Common.{◌≤◌, ◌+◌, ◌^◌, pos, ◌+ℤ◌, unsigned_abs, FitsSigned, to_z-of_z, w64, arith}
use Rattle.std.proofs.lemmas.Result.{on_ok_weaker}
use Rattle.algebra.proofs.Widths.{abs-add, fits_64}
use Rattle.sheet_views.specs.Drawing.{drawing_data}
use Rattle.sheet_figures.specs.Bodies.{AreBodies}
use Rattle.sheet_figures.specs.Strokes.{IsAboveView}
use Rattle.sheet_page.proofs.stroke_block.put_others.Goals as goal

pub returns : goal.returns
returns c =
    let figure = c.args.figure in
    let drawing = drawing_data c.args.stroke.now.drawing in
    let middle = c.put_above.new.out.items in
    let near : unsigned_abs figure ≤ 2 ^ 20 = omega (arith, c.requires.figure) in
    let fits : FitsSigned w64 figure = c.ranges.figure in
    let fits_next : FitsSigned w64 (figure +ℤ pos 1) = fits_64 _ (2 ^ 20 + 1) (abs-add figure (pos 1) (2 ^ 20) 1 near (omega arith)) (omega arith) in
    let above : IsAboveView c.args.job.now c.args.stroke.now.step.action.stage drawing c.args.stroke.now.fingers figure c.args.out.now.items middle = simp to_z-of_z at c.in_ok-put_above.ensures.value in
    let bodies = simp to_z-of_z at c.put_bodies.ensures.value in
    on_ok_weaker _ (λ (part : AreBodies drawing (figure +ℤ pos 1) middle c.put_bodies.new.out.items). (middle, above, part)) bodies
