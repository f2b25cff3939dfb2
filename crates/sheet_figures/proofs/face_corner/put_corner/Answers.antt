use Rattle.std.proofs.Common.{◌≡◌, ◌∙◌, ℕ, List, ◌++◌, ap, subst, OnOk, FitsSigned, to_z-of_z, w64, rules}
use Rattle.brake_base.specs.Turns.{Map}
use Rattle.sheet_figures.specs.FaceCorner.{rise, side_of, side_lines}
use Rattle.sheet_figures.proofs.face_corner.put_corner.Goals as goal

pub returns : goal.returns
returns c =
    let window = c.args.window.now in
    let is = c.face_0-place.ensures.value in
    let fits_rise : FitsSigned w64 c.rise.result = search rules in
    let told : c.side_of.result ≡ side_of c.rise.result = simp to_z-of_z at c.side_of.ensures in
    let side = told ∙ ap side_of (c.rise.ensures ∙ ap (λ (place : Map). rise place) is) in
    subst (λ (text : List ℕ). OnOk c.put_side.result (c.put_side.new.out.items ≡ c.args.out.now.items ++ text)) (λ i. side_lines (side i) window (is i) (c.first_core-core.ensures.value i)) c.put_side.ensures
