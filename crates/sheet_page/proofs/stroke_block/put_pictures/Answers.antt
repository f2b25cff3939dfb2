use Rattle.std.proofs.Common.{◌^◌, ◌∙◌, ◌++◌, [], ℕ, List, ◌+ℤ◌, FitsSigned, to_z-of_z, w64, ap, subst, arith}
use Rattle.std.proofs.lemmas.Int.{ints}
use Rattle.algebra.proofs.Widths.{fits_64}
use Rattle.svg_text.specs.Forms.{line_of}
use Rattle.sheet_figures.specs.Strokes.{AreSideViews}
use Rattle.sheet_page.specs.declared.forms.TheConstants.{ROW}
use Rattle.sheet_page.specs.Blocks.{AreOthers}
use Rattle.sheet_page.specs.Strokes.{stroke_data}
use Rattle.sheet_page.proofs.stroke_block.put_pictures.Goals as goal

pub returns-clause-rows : goal.returns-clause-rows
returns-clause-rows c =
    let job = c.args.job.now in
    let stroke = stroke_data c.args.stroke.now in
    let figure = c.args.figure in
    let views = c.in_ok-sides.sides in
    let few = c.in_ok-sides.ensures.count in
    let fits : FitsSigned w64 figure = c.ranges.figure in
    let fits_views : FitsSigned w64 views = fits_64 _ (2 ^ 20) (omega (arith, ints, few.0, few.1)) (omega arith) in
    let fits_next : FitsSigned w64 (figure +ℤ views) = fits_64 _ (2 ^ 20) (omega (arith, ints, few.0, few.1, c.requires.figure)) (omega arith) in
    let sides : AreSideViews job stroke.step.action stroke.drawing stroke.fingers figure views c.put_line.new.out.items c.put_sides.new.out.items = simp to_z-of_z at c.in_ok-sides.ensures.value in
    let others : AreOthers job stroke (figure +ℤ views) c.put_line-3.new.out.items c.put_others.new.out.items = simp to_z-of_z at c.in_ok-put_others.ensures in
    let rows = c.in_ok-put_line-3.ensures ∙ ap (λ (t : List ℕ). t ++ line_of ROW.now []) c.in_ok-put_line-2.ensures in
    let placed = subst (λ (t : List ℕ). AreOthers job stroke (figure +ℤ views) t c.put_others.new.out.items) rows others in
    simp to_z-of_z (record {
      sides = c.put_sides.new.out.items;
      side_views = subst (λ (t : List ℕ). AreSideViews job stroke.step.action stroke.drawing stroke.fingers figure views t c.put_sides.new.out.items) c.in_ok-put_line.ensures sides;
      bodies = c.put_others.new.out.items;
      others = placed;
      text = c.in_ok-put_line-4.ensures;
    })
