use Rattle.std.proofs.Common.{◌+◌, ◌^◌, ℤ, pos, ◌+ℤ◌, subst, FitsSigned, to_z-of_z, w64, arith}
use Rattle.std.specs.Prelude.{IfOk}
use Rattle.std.proofs.lemmas.Int.{ints}
use Rattle.std.proofs.lemmas.Result.{IfOk-weaker, on_ok_weaker}
use Rattle.algebra.proofs.Widths.{abs-add, fits_64}
use Rattle.sheet_views.specs.Drawing.{drawing_data}
use Rattle.sheet_figures.specs.Extending.{Extends}
use Rattle.sheet_figures.specs.SideViews.{side_paper}
use Rattle.sheet_figures.specs.Strokes.{IsWindowFor, IsOpeningShown, IsRest, AreSideViews}
use Rattle.sheet_figures.proofs.Growing.{grown, grows_on}
use Rattle.sheet_figures.proofs.StrokeViews.{views_are}
use Rattle.sheet_figures.proofs.sides.put_sides.Goals as goal

pub returns-clause-value : goal.returns-clause-value
returns-clause-value c =
    let job = c.args.job.now in
    let action = c.args.action in
    let drawing = drawing_data c.args.drawing.now in
    let fingers = c.args.fingers.now in
    let number = c.args.number in
    let area = c.sides_area-area.result in
    let shows = c.shows_opening-shows.result in
    let v = c.opening.result in
    let width = c.side_width.result in
    let first = c.both_windows-windows.result.0 in
    let second = c.both_windows-windows.result.1 in
    let before = c.args.out.now.items in
    let both = c.put_before_and_after.new.out.items in
    let after = c.put_rest.new.out.items in
    let fits_number : FitsSigned w64 number = c.ranges.number in
    let fits_third : FitsSigned w64 (number +ℤ pos 2) = fits_64 _ (2 ^ 20 + 2) (abs-add number (pos 2) (2 ^ 20) 2 c.requires.number (omega arith)) (omega arith) in
    let fits_v : FitsSigned w64 v = fits_64 _ (2 ^ 20) (omega (arith, ints, c.opening.ensures.some, c.opening.ensures.few)) (omega arith) in
    let fits_width : FitsSigned w64 width = fits_64 _ (2 ^ 10) c.side_width.ensures.near (omega arith) in
    let shown : IsOpeningShown v area shows = simp to_z-of_z at c.shows_opening-shows.ensures in
    let opening = subst (λ (length : ℤ). IsOpeningShown length area shows) c.opening.ensures.value shown in
    let one : IsWindowFor (side_paper width) area number first = simp to_z-of_z at c.both_windows-windows.ensures.first in
    let two : IsWindowFor (side_paper width) area (number +ℤ pos 1) second = simp to_z-of_z at c.both_windows-windows.ensures.second in
    let rest : IfOk c.put_rest.result (λ (count : ℤ). IsRest job action drawing.before shows (number +ℤ pos 2) count both after) = simp to_z-of_z at c.put_rest.ensures.value in
    IfOk-weaker c.put_rest.result (λ (count : ℤ). IsRest job action drawing.before shows (number +ℤ pos 2) count both after) (λ (count : ℤ). AreSideViews job action drawing fingers number count before after)
    (λ (count : ℤ) is. views_are job action drawing fingers number count width area shows first second before both after c.sides_area-area.ensures.value opening c.side_width.ensures.value one two c.in_ok-put_before_and_after.ensures is)
    rest

pub returns-clause-grows : goal.returns-clause-grows
returns-clause-grows c = on_ok_weaker c.put_rest.result (λ (rest : Extends c.put_before_and_after.new.out.items c.put_rest.new.out.items). grows_on _ (grown _ _ c.in_ok-put_before_and_after.ensures) rest) c.put_rest.ensures.grows
