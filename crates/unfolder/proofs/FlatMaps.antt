-- Where the faces lie flat: maps of the sheet onto itself, and the directions of sides that they keep.
use Rattle.std.proofs.Common.{◌≡◌, ℕ, zero, suc, ◌+◌, ◌<◌, ◌≤◌, ◌%◌, ℤ, pos, ◌*ℤ◌, length, List, refl, sym, ◌∙◌, subst, arith}
use Rattle.std.proofs.lemmas.Int.{ints}
use Rattle.brake_base.specs.declared.space.V3.{V3}
use Rattle.brake_base.specs.Turns.{Matrix, apply, multiply, quarter_turns, Map, mapped, after}
use Rattle.part_file.specs.declared.part.Side.{Side}
use Rattle.part_file.specs.declared.part.Side.TheVariants.{N, E, S, W}
use Rattle.part_file.specs.Part.{PartData, FaceData, IsPart, face_at, along, outward}
use Rattle.unfolder.specs.Cores.{z_axis, joint_of, side_point}
use Rattle.unfolder.specs.Blank.{side_matrix, flat_step, flat}
use Rattle.unfolder.proofs.Quarters.{by_four, multiply-quarter_turns}
use Rattle.unfolder.proofs.ChainLemmas.{joint_of_part, to_root-root, to_root-bend}
use Rattle.unfolder.proofs.HingeLaws.{IsHeading}
use Rattle.unfolder.proofs.HingeLaws.IsHeading.{east, north, west, south}

-- ---- maps of the sheet onto itself
pub record IsFlatMap (m : Map) : Type 0 where
  pub turns : ℕ
  pub few : turns < 4
  pub turn : m.turn ≡ quarter_turns turns
  pub level : m.shift.z ≡ pos 0

pub side_level : (side : Side) (face : FaceData) (distance depth : ℤ) → (side_point side face distance depth).z ≡ pos 0
side_level N face distance depth = omega (arith, ints)
side_level E face distance depth = omega (arith, ints)
side_level S face distance depth = omega (arith, ints)
side_level W face distance depth = omega (arith, ints)

turned_level : (r : ℕ) → r < 4 → (v : V3) → v.z ≡ pos 0 → (apply (quarter_turns r) v).z ≡ pos 0
unfolding apply multiply
turned_level = by_four (λ r. (v : V3) → v.z ≡ pos 0 → (apply (quarter_turns r) v).z ≡ pos 0)
    (λ v level. omega (arith, ints)) (λ v level. omega (arith, ints)) (λ v level. omega (arith, ints)) (λ v level. omega (arith, ints))

pub mapped_level : (m : Map) → IsFlatMap m → (v : V3) → v.z ≡ pos 0 → (mapped m v).z ≡ pos 0
unfolding mapped
mapped_level m flat v level =
    let turned : (apply m.turn v).z ≡ pos 0 = subst (λ (t : Matrix). (apply t v).z ≡ pos 0) (sym flat.turn) (turned_level flat.turns flat.few v level) in
    let low = flat.level in
    omega (arith, ints)

side_turns : Side → ℕ
side_turns N = 0
side_turns E = 3
side_turns S = 2
side_turns W = 1

side_matrix_is : (side : Side) → (side_matrix side ≡ quarter_turns (side_turns side)) × (side_turns side < 4)
unfolding side_turns apply multiply
side_matrix_is N = (refl, omega arith)
side_matrix_is E = (refl, omega arith)
side_matrix_is S = (refl, omega arith)
side_matrix_is W = (refl, omega arith)

after_flat : (m : Map) (faces : List FaceData) (q : ℤ) (b : ℕ) → IsFlatMap m → IsFlatMap (after m (flat_step faces q b))
unfolding after
after_flat m faces q b flat =
    let joint = joint_of faces b in
    let side = side_matrix_is joint.side in
    record {
      turns = (flat.turns + side_turns joint.side) % 4;
      few = omega arith;
      turn = (λ i. multiply (flat.turn i) (side.0 i)) ∙ multiply-quarter_turns flat.turns (side_turns joint.side) flat.few side.1;
      level = mapped_level m flat (flat_step faces q b).shift (side_level joint.side (face_at faces joint.on) joint.at (pos 2 *ℤ q));
    }

flat_up_to : (p : PartData) → IsPart p → (q : ℤ) (n f : ℕ) → f ≤ n → f < length p.faces → IsFlatMap (flat p.faces q f)
flat_up_to p part q n zero few inside = subst IsFlatMap (sym (to_root-root p.faces (flat_step p.faces q))) (record { turns = 0; few = omega arith; turn = refl; level = refl })
flat_up_to p part q zero (suc b) few inside = absurd (omega arith)
flat_up_to p part q (suc n) (suc b) few inside =
    let earlier = joint_of_part p part in
    let on : (joint_of p.faces (suc b)).on < suc b = earlier.on (suc b) (omega arith) inside in
    subst IsFlatMap (sym (to_root-bend p.faces (flat_step p.faces q) earlier (suc b) (omega arith) inside))
    (after_flat (flat p.faces q (joint_of p.faces (suc b)).on) p.faces q (suc b) (flat_up_to p part q n (joint_of p.faces (suc b)).on (omega arith) (omega arith)))

-- each face lies flat in the blank
pub flat_is_flat : (p : PartData) → IsPart p → (q : ℤ) (f : ℕ) → f < length p.faces → IsFlatMap (flat p.faces q f)
flat_is_flat p part q f inside = flat_up_to p part q f f (omega arith) inside

-- ---- directions of sides in the blank
heading_0 : (side : Side) → IsHeading (apply (quarter_turns 0) (along side)) (apply (quarter_turns 0) (outward side))
unfolding apply multiply
heading_0 N = east
heading_0 E = south
heading_0 S = west
heading_0 W = north

heading_1 : (side : Side) → IsHeading (apply (quarter_turns 1) (along side)) (apply (quarter_turns 1) (outward side))
unfolding apply multiply
heading_1 N = north
heading_1 E = east
heading_1 S = south
heading_1 W = west

heading_2 : (side : Side) → IsHeading (apply (quarter_turns 2) (along side)) (apply (quarter_turns 2) (outward side))
unfolding apply multiply
heading_2 N = west
heading_2 E = north
heading_2 S = east
heading_2 W = south

heading_3 : (side : Side) → IsHeading (apply (quarter_turns 3) (along side)) (apply (quarter_turns 3) (outward side))
unfolding apply multiply
heading_3 N = south
heading_3 E = west
heading_3 S = north
heading_3 W = east

pub heading_of : (m : Map) → IsFlatMap m → (side : Side) → IsHeading (apply m.turn (along side)) (apply m.turn (outward side))
heading_of m flat side =
    subst (λ (t : Matrix). IsHeading (apply t (along side)) (apply t (outward side))) (sym flat.turn)
    (by_four (λ r. (s : Side) → IsHeading (apply (quarter_turns r) (along s)) (apply (quarter_turns r) (outward s))) heading_0 heading_1 heading_2 heading_3 flat.turns flat.few side)

turns_up : (r : ℕ) → r < 4 → apply (quarter_turns r) z_axis ≡ z_axis
unfolding apply multiply
turns_up = by_four (λ r. apply (quarter_turns r) z_axis ≡ z_axis) refl refl refl refl

pub stays_up : (m : Map) → IsFlatMap m → apply m.turn z_axis ≡ z_axis
stays_up m flat = subst (λ (t : Matrix). apply t z_axis ≡ z_axis) (sym flat.turn) (turns_up flat.turns flat.few)
