-- The turns of children, by their numbers.
use Rattle.std.proofs.Common.{◌≡◌, ℕ, refl, ◌∙◌, ap}
use Rattle.brake_base.specs.Turns.{identity, turn_of, multiply, apply}
use Rattle.part_file.specs.declared.part.Side.{Side}
use Rattle.part_file.specs.declared.part.Side.TheVariants.{N, E, S, W}
use Rattle.part_file.specs.declared.part.Dir.{Dir}
use Rattle.part_file.specs.declared.part.Dir.TheVariants.{Up, Down}
use Rattle.unfolder.specs.Blank.{side_matrix}
use Rattle.fold_boxes.specs.Hinges.{folded_matrix}

pub north : turn_of 0 ≡ side_matrix N
unfolding turn_of multiply apply
north = refl

pub east : turn_of 3 ≡ side_matrix E
unfolding turn_of multiply apply
east = refl

pub south : turn_of 2 ≡ side_matrix S
unfolding turn_of multiply apply
south = refl

pub west : turn_of 1 ≡ side_matrix W
unfolding turn_of multiply apply
west = refl

pub zero_turn : turn_of 0 ≡ identity
unfolding turn_of multiply apply
zero_turn = refl

pub root_turn : (n : ℕ) → n ≡ 0 → turn_of n ≡ identity
root_turn n e = ap turn_of e ∙ zero_turn

pub upright_up : turn_of 20 ≡ folded_matrix N Up
unfolding turn_of multiply apply
upright_up = refl

pub upright_down : turn_of 16 ≡ folded_matrix N Down
unfolding turn_of multiply apply
upright_down = refl

-- a child that is folded at a side is folded at N and turned to the side
pub to_side : (side : Side) (dir : Dir) → multiply (side_matrix side) (folded_matrix N dir) ≡ folded_matrix side dir
unfolding multiply apply
to_side N Up = refl
to_side N Down = refl
to_side E Up = refl
to_side E Down = refl
to_side S Up = refl
to_side S Down = refl
to_side W Up = refl
to_side W Down = refl
