-- A pose has one map, and face 0 is turned in it as the attitude says.
use Rattle.std.proofs.Common.{◌≡◌, ℕ, zero, suc, ◌+◌, ◌<◌, ℤ, pos, negsuc, ◌+ℤ◌, neg_ℤ, Bool, true, false, ◌&&◌, ◌||◌, not, IsTrue, T, ltb, List, [], ◌∷◌, get_or, unsigned_abs, refl, sym, ◌∙◌, ap, subst, arith}
use Rattle.std.proofs.lemmas.Int.{ints, clamps}
use Rattle.std.proofs.Math.Facts.{ltb_yes}
use Rattle.std.specs.Int.{int_min}
use Rattle.brake_base.specs.declared.space.V3.{V3}
use Rattle.brake_base.specs.declared.mask.Mask.{Mask}
use Rattle.brake_base.specs.declared.stroke.Back.{Back}
use Rattle.brake_base.specs.declared.stroke.Back.TheVariants.{Parent, Child}
use Rattle.brake_base.specs.Vectors.{vector, plus, times, origin}
use Rattle.brake_base.specs.Turns.{Matrix, Map, IsTurn, IsAlongAxis, determinant, turn_of, multiply, transpose, apply, mapped, after, stay}
use Rattle.brake_base.specs.Masks.{has}
use Rattle.brake_base.proofs.Vectors.{same_point}
use Rattle.brake_base.proofs.Maps.{apply-multiply, multiply_assoc, multiply-identity, same_map, after-turn, after-stay}
use Rattle.brake_base.proofs.Tables.{both, all_below, below_all, same_int, same_matrix, same_matrix_is, same_matrix_holds}
use Rattle.part_file.specs.declared.part.Side.{Side}
use Rattle.part_file.specs.declared.part.Side.TheVariants.{N, E, S, W}
use Rattle.part_file.specs.declared.part.Dir.{Dir}
use Rattle.part_file.specs.declared.part.Dir.TheVariants.{Up, Down}
use Rattle.part_file.specs.declared.part.Joint.{Joint}
use Rattle.part_file.specs.Part.{outward, half_thickness}
use Rattle.unfolder.specs.Cores.{joint_of, z_axis, line_start}
use Rattle.unfolder.specs.Design.{fold_sign}
use Rattle.unfolder.proofs.ChainLemmas.{joint_of_part}
use Rattle.unfolder.proofs.PlaceLaws.{place-root}
use Rattle.fold_boxes.specs.Shapes.{ShapeData, IsShape, mould_distance}
use Rattle.fold_boxes.specs.Folded.{place_of}
use Rattle.fold_boxes.specs.Groups.{is_mate, span}
use Rattle.fold_boxes.specs.Pose.{lead_of, IsGroup, y_axis, back_sign, span_start, parent_place, span_end, IsPoseMap, frame_turn, posed_frame, inverse_of, pose_map, posed_place, attitude_turn, turn_number}
use Rattle.fold_boxes.proofs.Numbered.{IsNumbered, numbered_product, transpose_last, mapped_is}
use Rattle.fold_boxes.proofs.Leads.{lead_is}
use Rattle.fold_boxes.proofs.PoseEffect.{numbered_place, pose_effect}
use Rattle.fold_boxes.proofs.SharedSides.{same_place, same_dir}

-- ---- each turn has a number
abbrev axes : List V3
axes =
    vector (pos 1) (pos 0) (pos 0) ∷ vector (negsuc 0) (pos 0) (pos 0) ∷ vector (pos 0) (pos 1) (pos 0) ∷ vector (pos 0) (negsuc 0) (pos 0)
    ∷ vector (pos 0) (pos 0) (pos 1) ∷ vector (pos 0) (pos 0) (negsuc 0) ∷ []

abbrev axis : ℕ → V3
axis k = get_or axes k origin

record IsAxis (v : V3) : Type 0 where
  number : ℕ
  below : number < 6
  is : axis number ≡ v

-- a coordinate of a vector along an axis is 0, 1 or -1
data Small : ℤ → Type 0 where
  none : Small (pos 0)
  one : Small (pos 1)
  opposed : Small (negsuc 0)

small : (a : ℤ) → unsigned_abs a < 2 → Small a
small (pos zero) low = none
small (pos (suc zero)) low = one
small (pos (suc (suc n))) low = absurd (omega arith)
small (negsuc zero) low = opposed
small (negsuc (suc n)) low = absurd (omega arith)

axis_of : (x y z : ℤ) → Small x → Small y → Small z → unsigned_abs x + unsigned_abs y + unsigned_abs z ≡ 1 → IsAxis (vector x y z)
axis_of x y z one none none e = record { number = 0; below = omega arith; is = refl }
axis_of x y z opposed none none e = record { number = 1; below = omega arith; is = refl }
axis_of x y z none one none e = record { number = 2; below = omega arith; is = refl }
axis_of x y z none opposed none e = record { number = 3; below = omega arith; is = refl }
axis_of x y z none none one e = record { number = 4; below = omega arith; is = refl }
axis_of x y z none none opposed e = record { number = 5; below = omega arith; is = refl }
axis_of x y z none none none e = absurd (omega arith)
axis_of x y z one one c e = absurd (omega arith)
axis_of x y z one opposed c e = absurd (omega arith)
axis_of x y z opposed one c e = absurd (omega arith)
axis_of x y z opposed opposed c e = absurd (omega arith)
axis_of x y z one none one e = absurd (omega arith)
axis_of x y z one none opposed e = absurd (omega arith)
axis_of x y z opposed none one e = absurd (omega arith)
axis_of x y z opposed none opposed e = absurd (omega arith)
axis_of x y z none one one e = absurd (omega arith)
axis_of x y z none one opposed e = absurd (omega arith)
axis_of x y z none opposed one e = absurd (omega arith)
axis_of x y z none opposed opposed e = absurd (omega arith)

along_is : (v : V3) → IsAlongAxis v → IsAxis v
along_is v e = axis_of v.x v.y v.z (small v.x (omega (arith, e))) (small v.y (omega (arith, e))) (small v.z (omega (arith, e))) e

abbrev with_axes : ℕ → ℕ → ℕ → Matrix
with_axes i j k = record { x = axis i; y = axis j; z = axis k }

-- its determinant isn't 1, or it has a number
abbrev is_numbered : Matrix → Bool
is_numbered m = not (same_int (determinant m) (pos 1)) || (ltb (turn_number m) 24 && same_matrix (turn_of (turn_number m)) m)

abbrev by_third : ℕ → ℕ → ℕ → Bool
by_third i j k = is_numbered (with_axes i j k)

abbrev by_second : ℕ → ℕ → Bool
by_second i j = all_below 6 (by_third i j)

abbrev by_first : ℕ → Bool
by_first i = all_below 6 (by_second i)

numbers : T (all_below 6 by_first)
unfolding turn_number turn_of multiply apply
numbers = tt

implied : (a b : Bool) → a ≡ true → T (not a || b) → T b
implied true b is h = h
implied false b is h = absurd cc

pub turn_is_numbered : (m : Matrix) → IsTurn m → IsNumbered m
turn_is_numbered m turn =
    let x = along_is m.x turn.x in
    let y = along_is m.y turn.y in
    let z = along_is m.z turn.z in
    let same : with_axes x.number y.number z.number ≡ m = λ i. record { x = x.is i; y = y.is i; z = z.is i } in
    let told = below_all 6 (by_third x.number y.number) z.number z.below (below_all 6 (by_second x.number) y.number y.below (below_all 6 by_first x.number x.below numbers)) in
    let here = subst (λ (n : Matrix). T (is_numbered n)) same told in
    let keeps : same_int (determinant m) (pos 1) ≡ true = rw turn.keeps_hand refl in
    let parts = both (ltb (turn_number m) 24) _ (implied (same_int (determinant m) (pos 1)) _ keeps here) in
    record { number = turn_number m; below = ltb_yes parts.0; is = same_matrix_is _ _ parts.1 }

-- ---- a turn of the frame of a face is known by what it does up and out of the side
abbrev effect : Matrix → Side → Dir → Matrix
effect t side dir = record { x = apply t (times (fold_sign dir) z_axis); y = apply t (outward side); z = origin }

abbrev wanted : Back → Matrix
wanted back = record { x = z_axis; y = times (back_sign back) y_axis; z = origin }

abbrev fits : Side → Dir → Back → ℕ → Bool
fits side dir back n = not (same_matrix (effect (turn_of n) side dir) (wanted back)) || same_matrix (turn_of n) (frame_turn side dir back)

all_fit : (side : Side) (dir : Dir) (back : Back) → T (all_below 24 (fits side dir back))
unfolding turn_of multiply apply
all_fit N Up Child = tt
all_fit N Up Parent = tt
all_fit N Down Child = tt
all_fit N Down Parent = tt
all_fit E Up Child = tt
all_fit E Up Parent = tt
all_fit E Down Child = tt
all_fit E Down Parent = tt
all_fit S Up Child = tt
all_fit S Up Parent = tt
all_fit S Down Child = tt
all_fit S Down Parent = tt
all_fit W Up Child = tt
all_fit W Up Parent = tt
all_fit W Down Child = tt
all_fit W Down Parent = tt

from_test : (b : Bool) → T b → b ≡ true
from_test true h = refl
from_test false h = absurd h

frame_known : (m : Matrix) → IsNumbered m → (side : Side) (dir : Dir) (back : Back) → apply m (times (fold_sign dir) z_axis) ≡ z_axis → apply m (outward side) ≡ times (back_sign back) y_axis → m ≡ frame_turn side dir back
frame_known m numbered side dir back up out =
    let n = numbered.number in
    let at_number : effect (turn_of n) side dir ≡ wanted back =
    ap (λ (t : Matrix). effect t side dir) numbered.is ∙ (λ i. record { x = up i; y = out i; z = origin }) in
    let test = from_test (same_matrix (effect (turn_of n) side dir) (wanted back)) (same_matrix_holds _ _ at_number) in
    sym numbered.is ∙ same_matrix_is _ _ (implied _ _ test (below_all 24 (fits side dir back) n numbered.below (all_fit side dir back)))

-- ---- the shift is known by what the map does to a few points
same_sum : (a s t c : ℤ) → a +ℤ s ≡ c → a +ℤ t ≡ c → s ≡ t
same_sum a s t c h k = omega (arith, ints)

same_least : (a b s t c : ℤ) → int_min (a +ℤ s) (b +ℤ s) ≡ c → int_min (a +ℤ t) (b +ℤ t) ≡ c → s ≡ t
same_least a b s t c h k = omega (arith, ints, clamps)

module _ (shape : ShapeData) (rules : IsShape shape) (mask group : Mask) (is_group : IsGroup shape mask group) (back : Back) (x0 x1 : ℤ) where
  abbrev place : Map
  place = parent_place shape mask (lead_of shape group)

  abbrev joint : Joint
  joint = joint_of shape.part.faces (lead_of shape group)

  parent_numbered : IsNumbered place.turn
  parent_numbered =
      let lead = lead_is shape group is_group.some in
      let earlier : joint.on < lead_of shape group = (joint_of_part shape.part rules.part).on (lead_of shape group) lead.some lead.inside in
      numbered_place shape rules mask joint.on (omega (arith, earlier, lead.inside))

  module _ (m : Map) (h : IsPoseMap shape mask group back x0 x1 m) where
    -- the turn is that of the frame after the way back from the parent's place
    turn_known : m.turn ≡ multiply (frame_turn joint.side joint.dir back) (transpose place.turn)
    turn_known =
        let product = numbered_product m.turn place.turn (turn_is_numbered m.turn h.turn) parent_numbered in
        let up = apply-multiply m.turn place.turn (times (fold_sign joint.dir) z_axis) ∙ h.upwards in
        let out = apply-multiply m.turn place.turn (outward joint.side) ∙ h.backwards in
        sym (multiply-identity m.turn) ∙ ap (multiply m.turn) (sym (transpose_last place.turn parent_numbered))
        ∙ sym (multiply_assoc m.turn place.turn (transpose place.turn))
        ∙ ap (λ (t : Matrix). multiply t (transpose place.turn)) (frame_known (multiply m.turn place.turn) product joint.side joint.dir back up out)

  module _ (m n : Map) (h : IsPoseMap shape mask group back x0 x1 m) (k : IsPoseMap shape mask group back x0 x1 n) where
    same_turns : m.turn ≡ n.turn
    same_turns = turn_known m h ∙ sym (turn_known n k)

    seen : (v : V3) → mapped m v ≡ plus (apply n.turn v) m.shift
    seen v = mapped_is m v ∙ ap (λ (t : Matrix). plus (apply t v) m.shift) same_turns

    same_shifts : m.shift ≡ n.shift
    same_shifts =
        let b = lead_of shape group in
        let line = mapped place (line_start shape.part.faces shape.q b) in
        let low = mapped place (span_end shape group (span shape (has group)).0) in
        let high = mapped place (span_end shape group (span shape (has group)).1) in
        let centre = mapped place origin in
        same_point m.shift n.shift
        (same_least (apply n.turn low).x (apply n.turn high).x m.shift.x n.shift.x (span_start shape group x0 x1)
        ((λ i. int_min (sym (seen low) i).x (sym (seen high) i).x) ∙ h.left)
        ((λ i. int_min (sym (mapped_is n low) i).x (sym (mapped_is n high) i).x) ∙ k.left))
        (same_sum (apply n.turn line).y m.shift.y n.shift.y (pos 0)
        (ap (λ (v : V3). v.y) (sym (seen line)) ∙ h.line_starts b is_group.some)
        (ap (λ (v : V3). v.y) (sym (mapped_is n line)) ∙ k.line_starts b is_group.some))
        (same_sum (apply n.turn centre).z m.shift.z n.shift.z (neg_ℤ (half_thickness shape.part))
        (ap (λ (v : V3). v.z) (sym (seen centre)) ∙ h.level origin refl)
        (ap (λ (v : V3). v.z) (sym (mapped_is n centre)) ∙ k.level origin refl))

    same_maps : m ≡ n
    same_maps = same_map m n same_turns same_shifts

  -- the map of the definition is the only one with its effect
  pub sole_map : (m : Map) → IsPoseMap shape mask group back x0 x1 m → m ≡ pose_map shape mask group back x0 x1
  sole_map m h = same_maps m (pose_map shape mask group back x0 x1) h (pose_effect shape rules mask group is_group back x0 x1)

-- ---- the attitude
attitude_shared : (shape : ShapeData) (mask : Mask) (back : Back) (b c : ℕ) → IsTrue (is_mate shape b c) → attitude_turn shape mask c back ≡ attitude_turn shape mask b back
unfolding attitude_turn
attitude_shared shape mask back b c mate =
    let same = same_place shape b c mate in
    let dir = same_dir shape b c mate in
    λ i. multiply (frame_turn (same.0 i) (dir i) back) (transpose (place_of shape mask (same.1 i)).turn)

-- in the pose of a group face 0 is turned as the attitude of each of its bends says
pub held_as : (shape : ShapeData) (mask group : Mask) → IsGroup shape mask group → (back : Back) (x0 x1 : ℤ) (b : ℕ) → IsTrue (has group b)
    → (posed_place shape mask group back x0 x1 0).turn ≡ attitude_turn shape mask b back
unfolding pose_map attitude_turn
held_as shape mask group is_group back x0 x1 b member =
    let frame = posed_frame shape group back x0 x1 in
    let way_back = inverse_of (parent_place shape mask (lead_of shape group)) in
    let root : place_of shape mask 0 ≡ stay = place-root shape.part.faces shape.q (mould_distance shape) (has mask) in
    ap (λ (m : Map). m.turn) (ap (after (after frame way_back)) root ∙ after-stay (after frame way_back)) ∙ after-turn frame way_back
    ∙ sym (attitude_shared shape mask back (lead_of shape group) b (is_group.mates b member))
