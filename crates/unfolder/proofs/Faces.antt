-- The faces and the joints of a part by their numbers.
use Rattle.std.proofs.Common.{◌≡◌, ℕ, ◌<◌, pos, ◌+ℤ◌, ◌≤ℤ◌, List, length, map, get_or, Some, sym, ◌∙◌, subst, arith}
use Rattle.std.proofs.lemmas.List.{get_or-map}
use Rattle.std.proofs.lemmas.Int.{ints}
use Rattle.part_file.specs.declared.part.Face.{Face}
use Rattle.part_file.specs.declared.part.Joint.{Joint}
use Rattle.part_file.specs.declared.part.Side.{Side}
use Rattle.part_file.specs.declared.part.Side.TheVariants.{N, E, S, W}
use Rattle.part_file.specs.Part.{PartData, FaceData, face_data, no_face, face_at, joint_at, side_length, IsSize, IsJointOf, IsPart}
use Rattle.unfolder.specs.Near.{IsWithin}

-- the face that the code reads is the one of that number
pub face_at_is : (xs ys : List Face) (f i : ℕ) (d : Face) → xs ≡ ys → i ≡ f → f < length ys → face_at (map face_data ys) f ≡ face_data (get_or xs i d)
face_at_is xs ys f i d same at inside = get_or-map face_data ys f d no_face inside ∙ (λ j. face_data (get_or (sym same j) (sym at j) d))

pub wide_is : (x : Face) (y : FaceData) → y ≡ face_data x → IsSize y.width → IsSize x.width
wide_is x y e h = subst (λ (z : FaceData). IsSize z.width) e h

pub long_is : (x : Face) (y : FaceData) → y ≡ face_data x → IsSize y.length → IsSize x.length
long_is x y e h = subst (λ (z : FaceData). IsSize z.length) e h

same_some : (i j : Joint) → Some i ≡ Some j → i ≡ j
same_some i j e = cc

-- the joint of a bend meets the rules
pub rules_of : (p : PartData) (b : ℕ) (joint : Joint) → IsPart p → 0 < b → b < length p.faces → joint_at p.faces b ≡ Some joint → IsJointOf p.faces b joint
rules_of p b joint part some inside has =
    let known = (part.each_face b inside).placed.joined.joint some in
    subst (λ (j : Joint). IsJointOf p.faces b j) (same_some known.0 joint (sym known.1.has ∙ has)) known.1

short_side : (side : Side) (face : FaceData) → IsSize face.width → IsSize face.length → side_length side face ≤ℤ pos 10000000
short_side N face wide long = wide.top
short_side E face wide long = long.top
short_side S face wide long = wide.top
short_side W face wide long = long.top

-- where a child begins and ends along the side
pub begin_within : (p : PartData) (b : ℕ) (joint : Joint) → IsPart p → b < length p.faces → IsJointOf p.faces b joint → IsWithin 10000000 joint.at × IsWithin 10000000 (joint.at +ℤ (face_at p.faces b).width)
begin_within p b joint part inside rules =
    let on : joint.on < length p.faces = omega (arith, rules.earlier) in
    let side = short_side joint.side (face_at p.faces joint.on) (part.each_face joint.on on).placed.sizes.wide (part.each_face joint.on on).placed.sizes.long in
    let width = (part.each_face b inside).placed.sizes.wide in
    let low = rules.within.at_low in
    let high = rules.within.at_high in
    (record { low = omega (arith, ints, width.bottom); high = omega (arith, ints, width.bottom) }, record { low = omega (arith, ints, width.bottom); high = omega (arith, ints) })
