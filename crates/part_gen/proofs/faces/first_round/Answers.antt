use Rattle.std.proofs.Common.{◌≡◌, pos, ◌-ℤ◌, w64, SFits, ◌∙◌, arith}
use Rattle.std.proofs.lemmas.Int.{ints, to_z-of_z}
use Rattle.part_file.specs.declared.part.Side.TheVariants.{N, E, S, W}
use Rattle.part_file.specs.Part.{face_data}
use Rattle.part_gen.specs.Draws.{state_after}
use Rattle.part_gen.specs.Generator.{root_face}
use Rattle.part_gen.specs.Steps.{first_from}
use Rattle.part_gen.proofs.Drawn.{five_added}
use Rattle.part_gen.proofs.faces.first_round.Goals as goal

pub returns-clause-faces : goal.returns-clause-faces
returns-clause-faces c =
    let x = c.args.draws.now.x in
    let north_width = c.args.width -ℤ pos 4000 in
    let east_width = c.args.length -ℤ pos 4000 in
    let width_fits : SFits w64 c.args.width = c.ranges.width in
    let length_fits : SFits w64 c.args.length = c.ranges.length in
    let north_fits : SFits w64 (c.args.width -ℤ pos 4000) = omega (arith, ints) in
    let east_fits : SFits w64 (c.args.length -ℤ pos 4000) = omega (arith, ints) in
    let two : c.first_flange.new.draws.x ≡ state_after 2 x = c.first_flange.ensures.state in
    let four : c.first_flange-2.new.draws.x ≡ state_after 4 x = c.first_flange-2.ensures.state ∙ (λ i. state_after 2 (two i)) in
    let six : c.first_flange-3.new.draws.x ≡ state_after 6 x = c.first_flange-3.ensures.state ∙ (λ i. state_after 2 (four i)) in
    let root : face_data c.root_face.result ≡ root_face c.args.width c.args.length = simp to_z-of_z at c.root_face.ensures in
    let north : face_data c.first_flange.result ≡ first_from x N north_width = simp to_z-of_z at c.first_flange.ensures.value in
    let east : face_data c.first_flange-2.result ≡ first_from c.first_flange.new.draws.x E east_width = simp to_z-of_z at c.first_flange-2.ensures.value in
    let south : face_data c.first_flange-3.result ≡ first_from c.first_flange-2.new.draws.x S north_width = simp to_z-of_z at c.first_flange-3.ensures.value in
    let west : face_data c.first_flange-4.result ≡ first_from c.first_flange-3.new.draws.x W east_width = simp to_z-of_z at c.first_flange-4.ensures.value in
    five_added c.root_face.result c.first_flange.result c.first_flange-2.result c.first_flange-3.result c.first_flange-4.result c.new-faces.result.items c.push.new.self.items c.push-2.new.self.items c.push-3.new.self.items c.push-4.new.self.items c.push-5.new.self.items
    (root_face c.args.width c.args.length) (first_from x N north_width) (first_from (state_after 2 x) E east_width) (first_from (state_after 4 x) S north_width) (first_from (state_after 6 x) W east_width)
    c.new-faces.ensures c.push.ensures.items c.push-2.ensures.items c.push-3.ensures.items c.push-4.ensures.items c.push-5.ensures.items
    root north (east ∙ (λ i. first_from (two i) E east_width)) (south ∙ (λ i. first_from (four i) S north_width)) (west ∙ (λ i. first_from (six i) W east_width))
