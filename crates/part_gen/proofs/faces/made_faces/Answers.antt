use Rattle.std.proofs.Common.{◌≡◌, ◌==◌, ℤ, pos, ◌-ℤ◌, w64, SFits, map, if◌then◌else◌, ◌∙◌, ap, refl, arith}
use Rattle.std.proofs.lemmas.Int.{ints, to_z-of_z}
use Rattle.part_file.specs.declared.part.Side.TheVariants.{N, E, S, W}
use Rattle.part_file.specs.Part.{face_data}
use Rattle.part_gen.specs.Draws.{next, answer, state_after, state, drawn}
use Rattle.part_gen.specs.Generator.{drawn_length}
use Rattle.part_gen.specs.Steps.{length_from, first_faces}
use Rattle.part_gen.proofs.Drawn.{north_width, east_width, added, added_by_choice, with_north, with_east, with_south, with_west, south_state, east_test, west_test, all_faces}
use Rattle.part_gen.proofs.faces.made_faces.Goals as goal

pub returns : goal.returns
unfolding drawn state
returns c =
    let n = c.args.n in
    let width_drawn = c.drawn_length-width.ensures in
    let length_drawn = c.drawn_length-length.ensures in
    let width_fits : SFits w64 c.drawn_length-width.result = omega (arith, ints, width_drawn.low, width_drawn.high) in
    let length_fits : SFits w64 c.drawn_length-length.result = omega (arith, ints, length_drawn.low, length_drawn.high) in
    let north_fits : SFits w64 (c.drawn_length-width.result -ℤ pos 4000) = omega (arith, ints, width_drawn.low, width_drawn.high) in
    let east_fits : SFits w64 (c.drawn_length-length.result -ℤ pos 4000) = omega (arith, ints, length_drawn.low, length_drawn.high) in
    let at_0 : c.new-draws.result.x ≡ state n 0 = c.new-draws.ensures in
    let at_1 : c.drawn_length-width.new.draws.x ≡ state n 1 = width_drawn.state ∙ (λ i. next (at_0 i)) in
    let at_2 : c.drawn_length-length.new.draws.x ≡ state n 2 = length_drawn.state ∙ (λ i. next (at_1 i)) in
    let at_10 : c.first_round-faces.new.draws.x ≡ state n 10 = c.first_round-faces.ensures.state ∙ (λ i. state_after 8 (at_2 i)) in
    let at_12 : c.push_second.new.draws.x ≡ state n 12 = c.push_second.ensures.state ∙ (λ i. state_after 2 (at_10 i)) in
    let east = east_test n in
    let at_south : c.push_second_by_choice.new.draws.x ≡ south_state n east = c.push_second_by_choice.ensures.state ∙ (λ i. if answer (at_12 i) 2 == 1 then state_after 3 (at_12 i) else next (at_12 i)) in
    let at_west : c.push_second-2.new.draws.x ≡ state_after 2 (south_state n east) = c.push_second-2.ensures.state ∙ (λ i. state_after 2 (at_south i)) in
    let west = west_test n east in
    let width : c.drawn_length-width.result ≡ drawn_length 100000 n 0 51 = width_drawn.value ∙ (λ i. length_from (at_0 i) 100000 51) in
    let long : c.drawn_length-length.result ≡ drawn_length 80000 n 1 41 = length_drawn.value ∙ (λ i. length_from (at_1 i) 80000 41) in
    let is_north_width : c.drawn_length-width.result -ℤ pos 4000 ≡ north_width n = ap (λ (z : ℤ). z -ℤ pos 4000) width in
    let is_east_width : c.drawn_length-length.result -ℤ pos 4000 ≡ east_width n = ap (λ (z : ℤ). z -ℤ pos 4000) long in
    let first : map face_data c.first_round-faces.result.items ≡ first_faces (state n 2) (drawn_length 100000 n 0 51) (drawn_length 80000 n 1 41) = (simp to_z-of_z at c.first_round-faces.ensures.faces) ∙ (λ i. first_faces (at_2 i) (width i) (long i)) in
    let north : map face_data c.push_second.new.faces.items ≡ with_north n = added N c.first_round-faces.result.items c.push_second.new.faces.items _ c.first_round-faces.new.draws.x (state n 10) (c.drawn_length-width.result -ℤ pos 4000) (north_width n) first at_10 is_north_width (simp to_z-of_z at c.push_second.ensures.faces) in
    let eastern : map face_data c.push_second_by_choice.new.faces.items ≡ with_east n east = added_by_choice E c.push_second.new.faces.items c.push_second_by_choice.new.faces.items (with_north n) c.push_second.new.draws.x (state n 12) (c.drawn_length-length.result -ℤ pos 4000) (east_width n) north at_12 is_east_width (simp to_z-of_z at c.push_second_by_choice.ensures.faces) in
    let southern : map face_data c.push_second-2.new.faces.items ≡ with_south n east = added S c.push_second_by_choice.new.faces.items c.push_second-2.new.faces.items (with_east n east) c.push_second_by_choice.new.draws.x (south_state n east) (c.drawn_length-width.result -ℤ pos 4000) (north_width n) eastern at_south is_north_width (simp to_z-of_z at c.push_second-2.ensures.faces) in
    let western : map face_data c.push_second_by_choice-2.new.faces.items ≡ with_west n east west = added_by_choice W c.push_second-2.new.faces.items c.push_second_by_choice-2.new.faces.items (with_south n east) c.push_second-2.new.draws.x (state_after 2 (south_state n east)) (c.drawn_length-length.result -ℤ pos 4000) (east_width n) southern at_west is_east_width (simp to_z-of_z at c.push_second_by_choice-2.ensures.faces) in
    western ∙ all_faces n east west refl refl
