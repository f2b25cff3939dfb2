use Rattle.std.proofs.Common.{◌≡◌, ◌+◌, ◌^◌, pos, ◌+ℤ◌, subst, FitsSigned, to_z-of_z, w64, arith}
use Rattle.algebra.proofs.Widths.{abs-add, fits_64}
use Rattle.sheet_paper.specs.declared.window.Paper.{Paper}
use Rattle.sheet_figures.specs.SideViews.{side_paper}
use Rattle.sheet_figures.specs.Strokes.{IsWindowFor}
use Rattle.sheet_figures.proofs.sides.both_windows.Goals as goal

pub returns-clause-first : goal.returns-clause-first
returns-clause-first c =
    let number = c.args.number in
    let fits_width : FitsSigned w64 c.args.width = c.ranges.width in
    let fits_number : FitsSigned w64 number = c.ranges.number in
    let paper : c.side_paper.result ≡ side_paper c.args.width = simp to_z-of_z at c.side_paper.ensures.value in
    let is : IsWindowFor c.side_paper.result c.args.area.now number c.window_for-first.result = simp to_z-of_z at c.window_for-first.ensures.value in
    subst (λ (p : Paper). IsWindowFor p c.args.area.now number c.window_for-first.result) paper is

pub returns-clause-second : goal.returns-clause-second
returns-clause-second c =
    let number = c.args.number in
    let fits_width : FitsSigned w64 c.args.width = c.ranges.width in
    let fits_number : FitsSigned w64 number = c.ranges.number in
    let fits_next : FitsSigned w64 (number +ℤ pos 1) = fits_64 _ (2 ^ 20 + 1) (abs-add number (pos 1) (2 ^ 20) 1 c.requires.number (omega arith)) (omega arith) in
    let paper : c.side_paper-2.result ≡ side_paper c.args.width = simp to_z-of_z at c.side_paper-2.ensures.value in
    let is : IsWindowFor c.side_paper-2.result c.args.area.now (number +ℤ pos 1) c.window_for-second.result = simp to_z-of_z at c.window_for-second.ensures.value in
    subst (λ (p : Paper). IsWindowFor p c.args.area.now (number +ℤ pos 1) c.window_for-second.result) paper is
