use Rattle.std.proofs.Common.{◌≡◌, ◌∙◌, ap, rules, arith, refl, pos, ◌-ℤ◌, ◌*ℤ◌, neg_ℤ, to_z, of_z, w64, SFits}
use Rattle.std.proofs.lemmas.Int.{ints, to_z-of_z}
use Rattle.brake_base.specs.Vectors.{vector, plus, times}
use Rattle.brake_base.specs.Boxes.{box_of}
use Rattle.part_file.specs.Part.{outward}
use Rattle.unfolder.specs.Design.{fold_sign}
use Rattle.fold_boxes.proofs.Columns.{raised, box_near}
use Rattle.fold_boxes.proofs.hinge.corner.Goals as goal

pub returns-clause-value : goal.returns-clause-value
returns-clause-value c =
    let line = c.args.line.now in
    let s = fold_sign line.dir in
    let tau = c.args.tau in
    let q = c.args.q in
    let q_fits = c.ranges.q in
    let tau_fits = c.ranges.tau in
    let from_x : SFits w64 line.from.0 = search rules in
    let from_y : SFits w64 line.from.1 = search rules in
    let x_fits : SFits w64 c.point_beyond-x.result.0 = search rules in
    let y_fits : SFits w64 c.point_beyond-x.result.1 = search rules in
    let low_fits : SFits w64 c.along_normal.result = search rules in
    let high_fits : SFits w64 c.along_normal-2.result = search rules in
    let down : to_z w64 (of_z w64 (pos 0 -ℤ to_z w64 (of_z w64 tau))) ≡ neg_ℤ tau = omega (arith, ints) in
    let up : to_z w64 (of_z w64 (to_z w64 (of_z w64 q) -ℤ to_z w64 (of_z w64 tau))) ≡ q -ℤ tau = omega (arith, ints) in
    let low : to_z w64 (of_z w64 c.along_normal.result) ≡ s *ℤ neg_ℤ tau = to_z-of_z w64 _ low_fits ∙ c.along_normal.ensures.value ∙ ap (λ x. s *ℤ x) down in
    let high : to_z w64 (of_z w64 c.along_normal-2.result) ≡ s *ℤ (q -ℤ tau) = to_z-of_z w64 _ high_fits ∙ c.along_normal-2.ensures.value ∙ ap (λ x. s *ℤ x) up in
    let beyond : vector c.point_beyond-x.result.0 c.point_beyond-x.result.1 (pos 0) ≡ plus (vector line.to.0 line.to.1 (pos 0)) (times q (outward c.args.side)) = simp to_z-of_z at c.point_beyond-x.ensures.value in
    let near_x = to_z-of_z w64 line.from.0 from_x in
    let near_y = to_z-of_z w64 line.from.1 from_y in
    let far_x = to_z-of_z w64 c.point_beyond-x.result.0 x_fits in
    let far_y = to_z-of_z w64 c.point_beyond-x.result.1 y_fits in
    let near_edge = (λ i. vector (near_x i) (near_y i) (low i)) ∙ raised line.from.0 line.from.1 (s *ℤ neg_ℤ tau) _ refl in
    let far_edge = (λ i. vector (far_x i) (far_y i) (high i)) ∙ raised c.point_beyond-x.result.0 c.point_beyond-x.result.1 (s *ℤ (q -ℤ tau)) _ beyond in
    c.box_of.ensures.value ∙ (λ i. box_of (near_edge i) (far_edge i))

pub returns-clause-near : goal.returns-clause-near
returns-clause-near c =
    let from_x = c.requires.near.from_x in
    let from_y = c.requires.near.from_y in
    let low = c.along_normal.ensures.near in
    let high = c.along_normal-2.ensures.near in
    let to_x = c.point_beyond-x.ensures.near_x in
    let to_y = c.point_beyond-x.ensures.near_y in
    box_near 22000000
    (vector (to_z w64 (of_z w64 c.args.line.now.from.0)) (to_z w64 (of_z w64 c.args.line.now.from.1)) (to_z w64 (of_z w64 c.along_normal.result)))
    (vector (to_z w64 (of_z w64 c.point_beyond-x.result.0)) (to_z w64 (of_z w64 c.point_beyond-x.result.1)) (to_z w64 (of_z w64 c.along_normal-2.result)))
    c.box_of.result c.box_of.ensures.value
    (record { x = omega (arith, ints, from_x.low, from_x.high); y = omega (arith, ints, from_y.low, from_y.high); z = omega (arith, ints, low.low, low.high) })
    (record { x = omega (arith, ints, to_x.low, to_x.high); y = omega (arith, ints, to_y.low, to_y.high); z = omega (arith, ints, high.low, high.high) })
