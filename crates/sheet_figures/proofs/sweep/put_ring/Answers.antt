use Rattle.std.proofs.Common.{◌≡◌, ◌∙◌, ◌^◌, ℕ, pos, neg_ℤ, unsigned_abs, List, [], ◌∷◌, ◌++◌, ap, subst, rules, OnOk, FitsSigned, to_z, of_z, to_z-of_z, w64, arith}
use Rattle.std.specs.Fmt.{signed_decimal}
use Rattle.algebra.proofs.Widths.{abs-neg, fits_64}
use Rattle.svg_text.specs.Forms.{hole_text, line_of}
use Rattle.svg_text.specs.declared.form.Hole.TheVariants.{Number}
use Rattle.sheet_paper.specs.FigureLines.{length_text, width_text}
use Rattle.sheet_paper.proofs.Texts.{number_hole}
use Rattle.sheet_figures.specs.declared.forms.TheConstants.{RING}
use Rattle.sheet_figures.specs.SweptShapes.{ring_texts}
use Rattle.sheet_figures.proofs.sweep.put_ring.Goals as goal

pub returns : goal.returns
returns c =
    let window = c.args.window.now in
    let fits_near : FitsSigned w64 c.args.near = c.ranges.near in
    let fits_far : FitsSigned w64 c.args.far = c.ranges.far in
    let minus_far_is : c.downwards.result ≡ neg_ℤ c.args.far = simp to_z-of_z at c.downwards.ensures in
    let minus_near_is : c.downwards-2.result ≡ neg_ℤ c.args.near = simp to_z-of_z at c.downwards-2.ensures in
    let fits_minus_far : FitsSigned w64 c.downwards.result = fits_64 _ (2 ^ 40) (omega (arith, ap unsigned_abs minus_far_is, abs-neg c.args.far, c.requires.far)) (omega arith) in
    let fits_minus_near : FitsSigned w64 c.downwards-2.result = fits_64 _ (2 ^ 40) (omega (arith, ap unsigned_abs minus_near_is, abs-neg c.args.near, c.requires.near)) (omega arith) in
    let fits_number : FitsSigned w64 window.number = search rules in
    let width : hole_text c.width.result ≡ width_text window (pos 2) = c.width.ensures.text in
    let number : hole_text (Number (to_z w64 (of_z w64 window.number))) ≡ signed_decimal window.number = number_hole (to_z w64 (of_z w64 window.number)) ∙ ap signed_decimal (to_z-of_z fits_number) in
    let far : hole_text c.length-far.result ≡ length_text window c.args.far = simp to_z-of_z at c.length-far.ensures.text in
    let near : hole_text c.length-near.result ≡ length_text window c.args.near = simp to_z-of_z at c.length-near.ensures.text in
    let far_back : hole_text c.length-minus_far.result ≡ length_text window c.downwards.result = simp to_z-of_z at c.length-minus_far.ensures.text in
    let near_back : hole_text c.length-minus_near.result ≡ length_text window c.downwards-2.result = simp to_z-of_z at c.length-minus_near.ensures.text in
    let minus_far = far_back ∙ ap (length_text window) minus_far_is in
    let minus_near = near_back ∙ ap (length_text window) minus_near_is in
    subst (λ (texts : List (List ℕ)). OnOk c.put_line.result (c.put_line.new.out.items ≡ c.args.out.now.items ++ line_of RING.now texts))
    {y = ring_texts window c.args.near c.args.far}
    (λ i. width i ∷ number i ∷ minus_far i ∷ far i ∷ far i ∷ far i ∷ far i ∷ far i ∷ minus_far i ∷ minus_near i ∷ near i ∷ near i ∷ near i ∷ near i ∷ near i ∷ minus_near i ∷ [])
    c.put_line.ensures
