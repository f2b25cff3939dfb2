use Rattle.std.proofs.Common.{◌≡◌, ◌∙◌, ℤ, pos, ◌+ℤ◌, ◌-ℤ◌, ◌*ℤ◌, ap, to_z, of_z, w64, arith}
use Rattle.std.specs.Int.{int_div_euclid}
use Rattle.std.proofs.lemmas.Int.{ints}
use Rattle.sheet_views.proofs.LeastRects.{same_place}
use Rattle.sheet_views.proofs.side_view.turned_back.Goals as goal

pub returns : goal.returns
returns c =
    let p = c.args.p.now in
    let y = c.requires.near.y in
    let z = c.requires.near.z in
    let by_y : to_z w64 (of_z w64 (to_z w64 (of_z w64 p.y) -ℤ to_z w64 (of_z w64 p.z))) ≡ p.y -ℤ p.z = omega (arith, ints, y.0, y.1, z.0, z.1) in
    let by_z : to_z w64 (of_z w64 (to_z w64 (of_z w64 p.y) +ℤ to_z w64 (of_z w64 p.z))) ≡ p.y +ℤ p.z = omega (arith, ints, y.0, y.1, z.0, z.1) in
    let first : c.five_sevenths.result ≡ int_div_euclid (pos 5 *ℤ (p.y -ℤ p.z)) (pos 7) = c.five_sevenths.ensures ∙ ap (λ (n : ℤ). int_div_euclid (pos 5 *ℤ n) (pos 7)) by_y in
    let second : c.five_sevenths-2.result ≡ int_div_euclid (pos 5 *ℤ (p.y +ℤ p.z)) (pos 7) = c.five_sevenths-2.ensures ∙ ap (λ (n : ℤ). int_div_euclid (pos 5 *ℤ n) (pos 7)) by_z in
    same_place _ _ _ _ (omega (arith, ints, first)) (omega (arith, ints, second))
