use Rattle.std.proofs.Common.{ℕ, List, ◌^◌, FitsSigned, to_z-of_z, w64, subst, arith}
use Rattle.std.proofs.lemmas.Int.{ints}
use Rattle.algebra.proofs.Widths.{fits_64}
use Rattle.sheet_page.specs.Blocks.{ArePictures}
use Rattle.sheet_page.specs.Strokes.{stroke_data}
use Rattle.sheet_page.proofs.stroke_block.put_stroke.Goals as goal

pub returns-clause-block : goal.returns-clause-block
returns-clause-block c =
    let job = c.args.job.now in
    let stroke = stroke_data c.args.stroke.now in
    let figure = c.args.figure in
    let views = c.in_ok-sides.sides in
    let fits : FitsSigned w64 figure = c.ranges.figure in
    let few = c.in_ok-sides.ensures.sides in
    let fits_views : FitsSigned w64 views = fits_64 _ (2 ^ 20) (omega (arith, ints, few.0, few.1)) (omega arith) in
    let pictures : ArePictures job stroke figure views c.put_words.new.out.items c.put_pictures.new.out.items = simp to_z-of_z at c.in_ok-sides.ensures.rows in
    simp to_z-of_z (record {
      pictured = c.put_pictures.new.out.items;
      pictures = subst (λ (t : List ℕ). ArePictures job stroke figure views t c.put_pictures.new.out.items) c.in_ok-put_words.ensures pictures;
      text = c.in_ok-put_line.ensures;
    })
