-- Turns that have a number, and maps that are undone.
use Rattle.std.proofs.Common.{◌≡◌, ℕ, ◌<◌, negsuc, refl, sym, ◌∙◌, ap, subst, arith, T, eqb, eqb→eq}
use Rattle.std.proofs.lemmas.Int.{ints}
use Rattle.brake_base.specs.declared.space.V3.{V3}
use Rattle.brake_base.specs.Vectors.{plus, times, origin}
use Rattle.brake_base.specs.Turns.{Matrix, Map, IsTurn, turn_of, multiply, transpose, identity, apply, mapped, after, stay}
use Rattle.brake_base.proofs.Vectors.{same_point}
use Rattle.brake_base.proofs.Maps.{apply-times, apply-multiply, apply-identity, same_map, after-turn, after-shift, after_assoc, after-stay, stay-after}
use Rattle.brake_base.proofs.Tables.{all_below, below_all}
use Rattle.brake_base.proofs.TurnTable.{product, inverse, product_turn, product_below, inverse_turn, inverse_below, inverse-turn, turn-inverse, turn_of_is_turn}
use Rattle.part_file.specs.declared.part.Side.{Side}
use Rattle.part_file.specs.declared.part.Side.TheVariants.{N, E, S, W}
use Rattle.part_file.specs.declared.part.Dir.{Dir}
use Rattle.part_file.specs.declared.part.Dir.TheVariants.{Up, Down}
use Rattle.brake_base.specs.declared.stroke.Back.{Back}
use Rattle.brake_base.specs.declared.stroke.Back.TheVariants.{Parent, Child}
use Rattle.unfolder.specs.Blank.{side_matrix}
use Rattle.fold_boxes.specs.Hinges.{folded_matrix}
use Rattle.fold_boxes.specs.Pose.{inverse_of, frame_turn, turn_number}
use Rattle.fold_boxes.proofs.Turned.{north, east, south, west, zero_turn, upright_up, upright_down, to_side}

pub record IsNumbered (m : Matrix) : Type 0 where
  pub number : ℕ
  pub below : number < 24
  pub is : turn_of number ≡ m

pub numbered_is_turn : (m : Matrix) → IsNumbered m → IsTurn m
numbered_is_turn m h = subst IsTurn h.is (turn_of_is_turn h.number h.below)

pub numbered_product : (f g : Matrix) → IsNumbered f → IsNumbered g → IsNumbered (multiply f g)
numbered_product f g p q = record {
  number = product q.number p.number;
  below = product_below q.number p.number q.below p.below;
  is = product_turn q.number p.number q.below p.below ∙ (λ i. multiply (p.is i) (q.is i));
}

pub numbered_transpose : (m : Matrix) → IsNumbered m → IsNumbered (transpose m)
numbered_transpose m h = record {
  number = inverse h.number;
  below = inverse_below h.number h.below;
  is = inverse_turn h.number h.below ∙ ap transpose h.is;
}

pub transpose_first : (m : Matrix) → IsNumbered m → multiply (transpose m) m ≡ identity
transpose_first m h =
    subst (λ (t : Matrix). multiply (transpose t) t ≡ identity) h.is
    (ap (λ (t : Matrix). multiply t (turn_of h.number)) (sym (inverse_turn h.number h.below)) ∙ inverse-turn h.number h.below)

pub transpose_last : (m : Matrix) → IsNumbered m → multiply m (transpose m) ≡ identity
transpose_last m h =
    subst (λ (t : Matrix). multiply t (transpose t) ≡ identity) h.is
    (ap (multiply (turn_of h.number)) (sym (inverse_turn h.number h.below)) ∙ turn-inverse h.number h.below)

-- what is opposite cancels
opposite : (v : V3) → plus v (times (negsuc 0) v) ≡ origin
opposite v = same_point _ _ (omega (arith, ints)) (omega (arith, ints)) (omega (arith, ints))

opposite_first : (v : V3) → plus (times (negsuc 0) v) v ≡ origin
opposite_first v = same_point _ _ (omega (arith, ints)) (omega (arith, ints)) (omega (arith, ints))

pub mapped_is : (m : Map) (v : V3) → mapped m v ≡ plus (apply m.turn v) m.shift
unfolding mapped
mapped_is m v = refl

-- a map, and then the way back
pub inverse-after : (m : Map) → multiply (transpose m.turn) m.turn ≡ identity → after (inverse_of m) m ≡ stay
inverse-after m undone =
    same_map _ _ (after-turn (inverse_of m) m ∙ undone)
    (after-shift (inverse_of m) m ∙ mapped_is (inverse_of m) m.shift ∙ opposite (apply (transpose m.turn) m.shift))

pub after-inverse : (m : Map) → IsNumbered m.turn → after m (inverse_of m) ≡ stay
after-inverse m h =
    let s = m.shift in
    let back = apply (transpose m.turn) s in
    let there : apply m.turn back ≡ s = sym (apply-multiply m.turn (transpose m.turn) s) ∙ ap (λ (t : Matrix). apply t s) (transpose_last m.turn h) ∙ apply-identity s in
    same_map _ _ (after-turn m (inverse_of m) ∙ transpose_last m.turn h)
    (after-shift m (inverse_of m) ∙ mapped_is m (times (negsuc 0) back)
    ∙ ap (λ (v : V3). plus v s) (apply-times m.turn (negsuc 0) back ∙ ap (times (negsuc 0)) there) ∙ opposite_first s)

-- the way back of one map after another
pub inverse_of-after : (f g : Map) → IsNumbered f.turn → IsNumbered g.turn → inverse_of (after f g) ≡ after (inverse_of g) (inverse_of f)
inverse_of-after f g p q =
    let both = after f g in
    let back = after (inverse_of g) (inverse_of f) in
    let both_numbered : IsNumbered both.turn = subst IsNumbered (sym (after-turn f g)) (numbered_product f.turn g.turn p q) in
    let inner : after g back ≡ inverse_of f = sym (after_assoc g (inverse_of g) (inverse_of f)) ∙ ap (λ (m : Map). after m (inverse_of f)) (after-inverse g q) ∙ stay-after (inverse_of f) in
    let undone : after both back ≡ stay = after_assoc f g back ∙ ap (after f) inner ∙ after-inverse f p in
    sym (after-stay (inverse_of both)) ∙ ap (after (inverse_of both)) (sym undone) ∙ sym (after_assoc (inverse_of both) both back)
    ∙ ap (λ (m : Map). after m back) (inverse-after both (transpose_first both.turn both_numbered)) ∙ stay-after back

pub numbered_identity : IsNumbered identity
numbered_identity = record { number = 0; below = omega arith; is = zero_turn }

pub numbered_side : (side : Side) → IsNumbered (side_matrix side)
numbered_side N = record { number = 0; below = omega arith; is = north }
numbered_side E = record { number = 3; below = omega arith; is = east }
numbered_side S = record { number = 2; below = omega arith; is = south }
numbered_side W = record { number = 1; below = omega arith; is = west }

numbered_upright : (dir : Dir) → IsNumbered (folded_matrix N dir)
numbered_upright Up = record { number = 20; below = omega arith; is = upright_up }
numbered_upright Down = record { number = 16; below = omega arith; is = upright_down }

pub numbered_folded : (side : Side) (dir : Dir) → IsNumbered (folded_matrix side dir)
numbered_folded side dir = subst IsNumbered (to_side side dir) (numbered_product (side_matrix side) (folded_matrix N dir) (numbered_side side) (numbered_upright dir))

-- the four rows of the turns of a pose
pub child_up : turn_of 0 ≡ frame_turn N Up Child
unfolding turn_of multiply apply
child_up = refl

pub child_down : turn_of 6 ≡ frame_turn N Down Child
unfolding turn_of multiply apply
child_down = refl

pub parent_up : turn_of 2 ≡ frame_turn N Up Parent
unfolding turn_of multiply apply
parent_up = refl

pub parent_down : turn_of 4 ≡ frame_turn N Down Parent
unfolding turn_of multiply apply
parent_down = refl

-- at another side it is turned to N first
pub from_side : (side : Side) (dir : Dir) (back : Back) → multiply (frame_turn N dir back) (transpose (side_matrix side)) ≡ frame_turn side dir back
unfolding multiply apply
from_side N Up Child = refl
from_side N Up Parent = refl
from_side N Down Child = refl
from_side N Down Parent = refl
from_side E Up Child = refl
from_side E Up Parent = refl
from_side E Down Child = refl
from_side E Down Parent = refl
from_side S Up Child = refl
from_side S Up Parent = refl
from_side S Down Child = refl
from_side S Down Parent = refl
from_side W Up Child = refl
from_side W Up Parent = refl
from_side W Down Child = refl
from_side W Down Parent = refl

numbered_north : (dir : Dir) (back : Back) → IsNumbered (frame_turn N dir back)
numbered_north Up Child = record { number = 0; below = omega arith; is = child_up }
numbered_north Down Child = record { number = 6; below = omega arith; is = child_down }
numbered_north Up Parent = record { number = 2; below = omega arith; is = parent_up }
numbered_north Down Parent = record { number = 4; below = omega arith; is = parent_down }

pub numbered_frame : (side : Side) (dir : Dir) (back : Back) → IsNumbered (frame_turn side dir back)
numbered_frame side dir back =
    subst IsNumbered (from_side side dir back)
    (numbered_product (frame_turn N dir back) (transpose (side_matrix side)) (numbered_north dir back) (numbered_transpose (side_matrix side) (numbered_side side)))

-- each number is found again from its turn
found : T (all_below 24 (λ n. eqb (turn_number (turn_of n)) n))
unfolding turn_number turn_of multiply apply
found = tt

pub turn_number_is : (n : ℕ) (m : Matrix) → n < 24 → turn_of n ≡ m → n ≡ turn_number m
turn_number_is n m low e = sym (eqb→eq (turn_number (turn_of n)) n (below_all 24 (λ k. eqb (turn_number (turn_of k)) k) n low found)) ∙ ap turn_number e
