-- What mates share.
use Rattle.std.proofs.Common.{◌≡◌, ℕ, ◌==◌, nat_le, nat_lt, length, Bool, true, false, ◌&&◌, IsTrue, refl}
use Rattle.std.proofs.lemmas.Bool.{eqb-true}
use Rattle.part_file.specs.declared.part.Side.{Side}
use Rattle.part_file.specs.declared.part.Side.TheVariants.{N, E, S, W}
use Rattle.part_file.specs.declared.part.Dir.{Dir}
use Rattle.part_file.specs.declared.part.Dir.TheVariants.{Up, Down}
use Rattle.part_file.specs.Part.{same_side}
use Rattle.unfolder.specs.Cores.{joint_of}
use Rattle.fold_boxes.specs.Shapes.{ShapeData}
use Rattle.fold_boxes.specs.Groups.{same_direction, is_mate}

-- what both tests say, each says
pub first_of : (a b : Bool) → (a && b) ≡ true → a ≡ true
first_of true b h = refl
first_of false b h = h

pub second_of : (a b : Bool) → (a && b) ≡ true → b ≡ true
second_of true b h = h
second_of false b h = absurd (cc)

side_is : (s t : Side) → same_side s t ≡ true → s ≡ t
side_is N N h = refl
side_is E E h = refl
side_is S S h = refl
side_is W W h = refl
side_is N E h = absurd (cc)
side_is N S h = absurd (cc)
side_is N W h = absurd (cc)
side_is E N h = absurd (cc)
side_is E S h = absurd (cc)
side_is E W h = absurd (cc)
side_is S N h = absurd (cc)
side_is S E h = absurd (cc)
side_is S W h = absurd (cc)
side_is W N h = absurd (cc)
side_is W E h = absurd (cc)
side_is W S h = absurd (cc)

-- a mate stands on the same side of the same parent
pub same_place : (shape : ShapeData) (b c : ℕ) → IsTrue (is_mate shape b c) → ((joint_of shape.part.faces c).side ≡ (joint_of shape.part.faces b).side) × ((joint_of shape.part.faces c).on ≡ (joint_of shape.part.faces b).on)
same_place shape b c mate =
    let joints = second_of _ _ mate in
    let parent = first_of _ _ joints in
    let rest = second_of _ _ joints in
    (side_is _ _ (first_of _ _ rest), eqb-true _ _ parent)

dir_is : (a b : Dir) → same_direction a b ≡ true → a ≡ b
dir_is Up Up h = refl
dir_is Down Down h = refl
dir_is Up Down h = absurd cc
dir_is Down Up h = absurd cc

-- and is bent in the same direction
pub same_dir : (shape : ShapeData) (b c : ℕ) → IsTrue (is_mate shape b c) → (joint_of shape.part.faces c).dir ≡ (joint_of shape.part.faces b).dir
same_dir shape b c mate =
    let ours = joint_of shape.part.faces b in
    let theirs = joint_of shape.part.faces c in
    let sides = same_side theirs.side ours.side in
    let dirs = same_direction theirs.dir ours.dir in
    let joints = second_of (nat_le 1 c && nat_lt c (length shape.part.faces)) ((theirs.on == ours.on) && (sides && dirs)) mate in
    let rest = second_of (theirs.on == ours.on) (sides && dirs) joints in
    dir_is theirs.dir ours.dir (second_of sides dirs rest)
