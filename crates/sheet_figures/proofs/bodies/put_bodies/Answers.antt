use Rattle.std.proofs.Common.{◌≡◌, ◌∙◌, ap, ◌+◌, ◌^◌, pos, ◌+ℤ◌, Some, None, FitsSigned, to_z-of_z, w64, subst, arith}
use Rattle.std.proofs.lemmas.Int.{ints}
use Rattle.algebra.proofs.Widths.{abs-add, fits_64}
use Rattle.sheet_paper.specs.declared.window.Area.{Area}
use Rattle.sheet_paper.specs.declared.window.Window.{Window}
use Rattle.sheet_figures.specs.declared.titles.TheConstants.{PART_BEFORE, PART_BEFORE_SENTENCE, PART_AFTER, PART_AFTER_SENTENCE}
use Rattle.sheet_figures.specs.Bodies.{IsPartView, IsBodyScale, body_window}
use Rattle.sheet_figures.specs.ShownAreas.{bodies_area}
use Rattle.sheet_figures.proofs.Growing.{grows_on, view_grows}
use Rattle.sheet_figures.proofs.bodies.put_bodies.Goals as goal

pub returns-clause-value : goal.returns-clause-value
returns-clause-value c =
    let drawing = c.args.drawing.now in
    let area = c.bodies_area-area.result in
    let scale = c.body_scale-scale.result in
    let number = c.args.number in
    let between = c.put_part_before.new.out.items in
    let valid = c.body_scale-scale.ensures.valid in
    let fits_scale : FitsSigned w64 scale = fits_64 _ (2 ^ 24) (omega (arith, ints, valid.some, valid.near)) (omega arith) in
    let fits_number : FitsSigned w64 number = c.ranges.number in
    let fits_next : FitsSigned w64 (number +ℤ pos 1) = fits_64 _ (2 ^ 20 + 1) (abs-add number (pos 1) (2 ^ 20) 1 c.requires.number (omega arith)) (omega arith) in
    let area_is : area ≡ bodies_area drawing.before.items drawing.after.items = c.bodies_area-area.ensures.value ∙ (λ i. bodies_area (c.as_slice.ensures.value i) (c.as_slice-2.ensures.value i)) in
    let shown = bodies_area drawing.before.items drawing.after.items in
    let first : c.body_window.result ≡ body_window scale area number = simp to_z-of_z at c.body_window.ensures.value in
    let second : c.body_window-2.result ≡ body_window scale area (number +ℤ pos 1) = simp to_z-of_z at c.body_window-2.ensures.value in
    let first_is : c.body_window.result ≡ body_window scale shown number = first ∙ ap (λ (a : Area). body_window scale a number) area_is in
    let second_is : c.body_window-2.result ≡ body_window scale shown (number +ℤ pos 1) = second ∙ ap (λ (a : Area). body_window scale a (number +ℤ pos 1)) area_is in
    record {
      scale = scale;
      least = subst (λ (a : Area). IsBodyScale a scale) area_is c.body_scale-scale.ensures.least;
      between = between;
      part_before = subst (λ (window : Window). IsPartView window PART_BEFORE.now PART_BEFORE_SENTENCE.now drawing.before.items (Some drawing.line) c.args.out.now.items between) first_is c.in_ok-put_part_before.ensures;
      part_after = subst (λ (window : Window). IsPartView window PART_AFTER.now PART_AFTER_SENTENCE.now drawing.after.items None between c.put_part_after.new.out.items) second_is c.in_ok-put_part_after.ensures;
    }

pub returns-clause-grows : goal.returns-clause-grows
returns-clause-grows c = grows_on _ (view_grows c.in_ok-put_part_before.ensures) (view_grows c.in_ok-put_part_after.ensures)
