-- What makes a part of face 0 and flanges valid, face by face.
use Rattle.std.proofs.Common.{◌≡◌, ℕ, ◌<◌, ℤ, pos, ◌+ℤ◌, ◌-ℤ◌, ◌*ℤ◌, ◌≤ℤ◌, Bool, true, false, ◌&&◌, List, length, Some, refl, ap, subst, sym, ◌∙◌, arith}
use Rattle.std.specs.Prelude.{int_lt, int_le, ◌||◌, not, unwrap_or}
use Rattle.std.proofs.lemmas.Int.{ints}
use Rattle.part_file.specs.declared.part.Joint.{Joint}
use Rattle.part_file.specs.declared.part.Side.{Side}
use Rattle.part_file.specs.declared.part.Side.TheVariants.{N, E, S, W}
use Rattle.part_file.specs.declared.part.Dir.{Dir}
use Rattle.part_file.specs.Part.{FaceData, face_at, side_length, is_bent, IsSize, IsJointOf}
use Rattle.brake_base.specs.Turns.{after, stay}
use Rattle.unfolder.specs.declared.blank.FlatRect.{FlatRect}
use Rattle.unfolder.specs.declared.blank.BendLine.{BendLine}
use Rattle.unfolder.specs.Cores.{in_plane, joint_of, no_joint, side_point, if_bent, core, is_too_small, parent_line, holds, is_off_edge, is_off_face}
use Rattle.unfolder.specs.Blank.{flat, flat_step, flat_image}
use Rattle.unfolder.proofs.ChainLemmas.{to_root-root}
use Rattle.part_gen.specs.Generator.{face_name, root_face, first_number, first_face, second_face}
use Rattle.part_gen.proofs.Rectangles.{Role, root_role, first_role, second_role, not_less, outer, IsPlaced}
use Rattle.part_gen.proofs.Flanges.{AreSizes, edge_of, step_on, strip, strip_image, strip_is, first_image, second_image, root_image}

-- a part's sizes: half deduction, face 0, the first flanges' lengths, and which sides have a second flange
pub record Sizes : Type 0 where
  pub q : ℤ
  pub width : ℤ
  pub length : ℤ
  pub first : Side → ℤ
  pub has_second : Side → Bool

abbrev pub root_of : Sizes → FaceData
root_of s = root_face s.width s.length

abbrev pub width_of : Sizes → Side → ℤ
width_of s side = side_length side (root_of s) -ℤ pos 4000

-- where the first flange of a side ends, outwards
abbrev pub end_of : Sizes → Side → ℤ
end_of s side = (edge_of (root_of s) s.q side -ℤ s.q) +ℤ (s.first side -ℤ if_bent (s.has_second side) s.q)

-- the ranges of the sizes
pub record AreInRange (s : Sizes) : Type 0 where
  pub q_low : pos 1 ≤ℤ s.q
  pub q_high : s.q ≤ℤ pos 2000
  pub width_low : pos 80000 ≤ℤ s.width
  pub width_high : s.width ≤ℤ pos 10000000
  pub length_low : pos 80000 ≤ℤ s.length
  pub length_high : s.length ≤ℤ pos 10000000
  pub first_low : (side : Side) → pos 8000 ≤ℤ s.first side
  pub first_high : (side : Side) → s.first side ≤ℤ pos 10000000

-- what is shown of each face
pub record IsLaid (s : Sizes) (faces : List FaceData) (role : Role) (f : ℕ) : Type 0 where
  pub name : (face_at faces f).name ≡ face_name f
  pub wide : IsSize (face_at faces f).width
  pub long : IsSize (face_at faces f).length
  pub joined : 0 < f → (joint : Joint) × IsJointOf faces f joint
  pub fits : is_too_small (core faces s.q f) ≡ false
  pub on_edge : 0 < f → is_off_face faces s.q f ≡ false
  pub placed : IsPlaced (edge_of (root_of s) s.q) (end_of s) role (flat_image (flat faces s.q f) (core faces s.q f))

-- at which sides a flange is bent: at its own S side, and at N where another stands on it
pub record IsBentAt (faces : List FaceData) (f : ℕ) (north : Bool) : Type 0 where
  pub n : is_bent faces f N ≡ north
  pub e : is_bent faces f E ≡ false
  pub s : is_bent faces f S ≡ true
  pub w : is_bent faces f W ≡ false

-- face 0 is bent at all sides
pub record IsBentAround (faces : List FaceData) : Type 0 where
  pub n : is_bent faces 0 N ≡ true
  pub e : is_bent faces 0 E ≡ true
  pub s : is_bent faces 0 S ≡ true
  pub w : is_bent faces 0 W ≡ true

fits_in : (r : FlatRect) → pos 1 ≤ℤ (r.x1 -ℤ r.x0) → pos 1 ≤ℤ (r.y1 -ℤ r.y0) → is_too_small r ≡ false
fits_in r wide long =
    let x : int_lt (r.x1 -ℤ r.x0) (pos 1) ≡ false = not_less _ _ wide in
    let y : int_lt (r.y1 -ℤ r.y0) (pos 1) ≡ false = not_less _ _ long in
    λ i. x i || y i

at_most : (a b : ℤ) → a ≤ℤ b → int_le a b ≡ true
at_most a b h = grind (arith, ints)

-- a line with both ends in a rectangle
pub record IsHeld (r : FlatRect) (p : ℤ × ℤ) : Type 0 where
  pub west : r.x0 ≤ℤ p.0
  pub east : p.0 ≤ℤ r.x1
  pub south : r.y0 ≤ℤ p.1
  pub north : p.1 ≤ℤ r.y1

holds_it : (r : FlatRect) (p : ℤ × ℤ) → IsHeld r p → holds r p ≡ true
holds_it r p held =
    let west : int_le r.x0 p.0 ≡ true = at_most _ _ held.west in
    let east : int_le p.0 r.x1 ≡ true = at_most _ _ held.east in
    let south : int_le r.y0 p.1 ≡ true = at_most _ _ held.south in
    let north : int_le p.1 r.y1 ≡ true = at_most _ _ held.north in
    λ i. (west i && east i) && (south i && north i)

on_the_edge : (r : FlatRect) (line : BendLine) → IsHeld r line.from → IsHeld r line.to → is_off_edge r line ≡ false
on_the_edge r line from to =
    let a : holds r line.from ≡ true = holds_it r line.from from in
    let b : holds r line.to ≡ true = holds_it r line.to to in
    λ i. not (a i && b i)

-- the core of face 0, and that of a flange
abbrev pub root_core : Sizes → FlatRect
root_core s = record { x0 = s.q; x1 = s.width -ℤ s.q; y0 = s.q; y1 = s.length -ℤ s.q }

core_of_root : (s : Sizes) (faces : List FaceData) → face_at faces 0 ≡ root_of s → IsBentAround faces → core faces s.q 0 ≡ root_core s
core_of_root s faces at bent = λ i. record {
  x0 = if_bent (bent.w i) s.q;
  x1 = (at i).width -ℤ if_bent (bent.e i) s.q;
  y0 = if_bent (bent.s i) s.q;
  y1 = (at i).length -ℤ if_bent (bent.n i) s.q;
}

core_of_flange : (q : ℤ) (faces : List FaceData) (f : ℕ) (face : FaceData) (north : Bool) → face_at faces f ≡ face → IsBentAt faces f north → core faces q f ≡ strip face.width q (face.length -ℤ if_bent north q)
core_of_flange q faces f face north at bent = λ i. record {
  x0 = if_bent (bent.w i) q;
  x1 = (at i).width -ℤ if_bent (bent.e i) q;
  y0 = if_bent (bent.s i) q;
  y1 = (at i).length -ℤ if_bent (bent.n i) q;
}

bent_within : (b : Bool) (q : ℤ) → pos 0 ≤ℤ q → (pos 0 ≤ℤ if_bent b q) × (if_bent b q ≤ℤ q)
bent_within true q h = (h, omega (arith, ints))
bent_within false q h = (omega (arith, ints), h)

-- face 0
pub root_laid : (s : Sizes) → AreInRange s → (faces : List FaceData) → face_at faces 0 ≡ root_of s → IsBentAround faces → IsLaid s faces root_role 0
root_laid s range faces at bent =
    let core_is : core faces s.q 0 ≡ root_core s = core_of_root s faces at bent in
    let q_low = range.q_low in
    let q_high = range.q_high in
    let width_low = range.width_low in
    let length_low = range.length_low in
    let image : flat_image (flat faces s.q 0) (core faces s.q 0) ≡ root_core s =
    (λ i. flat_image (to_root-root faces (flat_step faces s.q) i) (core_is i)) ∙ root_image (root_core s) (omega (arith, ints)) (omega (arith, ints)) in
    record {
      name = ap (λ (face : FaceData). face.name) at;
      wide = subst (λ (face : FaceData). IsSize face.width) (sym at) (record { bottom = omega (arith, ints); top = range.width_high });
      long = subst (λ (face : FaceData). IsSize face.length) (sym at) (record { bottom = omega (arith, ints); top = range.length_high });
      joined = λ some. absurd (omega arith);
      fits = ap is_too_small core_is ∙ fits_in (root_core s) (omega (arith, ints)) (omega (arith, ints));
      on_edge = λ some. absurd (omega arith);
      placed = subst (IsPlaced (edge_of (root_of s) s.q) (end_of s) root_role) (sym image) (root_placed s);
    }
  where
    root_placed : (s : Sizes) (side : Side) → outer side (root_core s) ≤ℤ edge_of (root_of s) s.q side
    root_placed s N = omega (arith, ints)
    root_placed s E = omega (arith, ints)
    root_placed s S = omega (arith, ints)
    root_placed s W = omega (arith, ints)

sizes_of : (s : Sizes) → AreInRange s → AreSizes (root_of s) s.q
sizes_of s range = record { q_low = range.q_low; q_high = range.q_high; wide = range.width_low; long = range.length_low }

-- how wide the flanges of a side are
width_is : (s : Sizes) → AreInRange s → (side : Side) → (pos 76000 ≤ℤ width_of s side) × (width_of s side ≤ℤ pos 9996000)
width_is s range N = (omega (arith, ints, range.width_low), omega (arith, ints, range.width_high))
width_is s range E = (omega (arith, ints, range.length_low), omega (arith, ints, range.length_high))
width_is s range S = (omega (arith, ints, range.width_low), omega (arith, ints, range.width_high))
width_is s range W = (omega (arith, ints, range.length_low), omega (arith, ints, range.length_high))

-- the line of a first flange on face 0, and that of a second flange on the first
abbrev line_on : ℕ → Side → FaceData → ℤ → ℤ → ℤ → Dir → BendLine
line_on f side parent at width q dir = record {
  bend = f;
  from = in_plane (side_point side parent (at +ℤ pos 0) q);
  to = in_plane (side_point side parent ((at +ℤ width) -ℤ pos 0) q);
  dir = dir;
}

line_is : (q : ℤ) (faces : List FaceData) (f : ℕ) (face parent : FaceData) (north : Bool) (joint : Joint) → face_at faces f ≡ face → face.joint ≡ Some joint → face_at faces joint.on ≡ parent → IsBentAt faces f north
    → parent_line faces q f ≡ line_on f joint.side parent joint.at face.width q joint.dir
line_is q faces f face parent north joint at has on bent =
    let joint_is : joint_of faces f ≡ joint = ap (λ (x : FaceData). unwrap_or x.joint no_joint) at ∙ ap (λ o. unwrap_or o no_joint) has in
    let parent_is : face_at faces (joint_of faces f).on ≡ parent = ap (λ (j : Joint). face_at faces j.on) joint_is ∙ on in
    λ i. record {
      bend = f;
      from = in_plane (side_point (joint_is i).side (parent_is i) ((joint_is i).at +ℤ if_bent (bent.w i) q) q);
      to = in_plane (side_point (joint_is i).side (parent_is i) (((joint_is i).at +ℤ (at i).width) -ℤ if_bent (bent.e i) q) q);
      dir = (joint_is i).dir;
    }

-- whether it is off the core of its parent
off_face_is : (q : ℤ) (faces : List FaceData) (f : ℕ) (face parent : FaceData) (north : Bool) (joint : Joint) (rect : FlatRect) → face_at faces f ≡ face → face.joint ≡ Some joint → face_at faces joint.on ≡ parent → IsBentAt faces f north → core faces q joint.on ≡ rect
    → is_off_face faces q f ≡ is_off_edge rect (line_on f joint.side parent joint.at face.width q joint.dir)
off_face_is q faces f face parent north joint rect at has on bent core_is =
    let joint_is : joint_of faces f ≡ joint = ap (λ (x : FaceData). unwrap_or x.joint no_joint) at ∙ ap (λ o. unwrap_or o no_joint) has in
    let line : parent_line faces q f ≡ line_on f joint.side parent joint.at face.width q joint.dir = line_is q faces f face parent north joint at has on bent in
    let parent_core : core faces q (joint_of faces f).on ≡ rect = ap (λ (j : Joint). core faces q j.on) joint_is ∙ core_is in
    λ i. is_off_edge (parent_core i) (line i)

root_line : (s : Sizes) → AreInRange s → (side : Side) (f : ℕ) (dir : Dir) → is_off_edge (root_core s) (line_on f side (root_of s) (pos 2000) (width_of s side) s.q dir) ≡ false
root_line s range N f dir =
    let q_low = range.q_low in
    let q_high = range.q_high in
    let wide = range.width_low in
    let long = range.length_low in
    on_the_edge (root_core s) (line_on f N (root_of s) (pos 2000) (width_of s N) s.q dir) (record { west = omega (arith, ints); east = omega (arith, ints); south = omega (arith, ints); north = omega (arith, ints) }) (record { west = omega (arith, ints); east = omega (arith, ints); south = omega (arith, ints); north = omega (arith, ints) })
root_line s range E f dir =
    let q_low = range.q_low in
    let q_high = range.q_high in
    let wide = range.width_low in
    let long = range.length_low in
    on_the_edge (root_core s) (line_on f E (root_of s) (pos 2000) (width_of s E) s.q dir) (record { west = omega (arith, ints); east = omega (arith, ints); south = omega (arith, ints); north = omega (arith, ints) }) (record { west = omega (arith, ints); east = omega (arith, ints); south = omega (arith, ints); north = omega (arith, ints) })
root_line s range S f dir =
    let q_low = range.q_low in
    let q_high = range.q_high in
    let wide = range.width_low in
    let long = range.length_low in
    on_the_edge (root_core s) (line_on f S (root_of s) (pos 2000) (width_of s S) s.q dir) (record { west = omega (arith, ints); east = omega (arith, ints); south = omega (arith, ints); north = omega (arith, ints) }) (record { west = omega (arith, ints); east = omega (arith, ints); south = omega (arith, ints); north = omega (arith, ints) })
root_line s range W f dir =
    let q_low = range.q_low in
    let q_high = range.q_high in
    let wide = range.width_low in
    let long = range.length_low in
    on_the_edge (root_core s) (line_on f W (root_of s) (pos 2000) (width_of s W) s.q dir) (record { west = omega (arith, ints); east = omega (arith, ints); south = omega (arith, ints); north = omega (arith, ints) }) (record { west = omega (arith, ints); east = omega (arith, ints); south = omega (arith, ints); north = omega (arith, ints) })

-- a second flange runs along the whole far side of the first
far_line : (q : ℤ) (parent : FaceData) (f : ℕ) (dir : Dir) → pos 0 ≤ℤ q → (q +ℤ q) ≤ℤ parent.length → pos 0 ≤ℤ parent.width → is_off_edge (strip parent.width q (parent.length -ℤ q)) (line_on f N parent (pos 0) parent.width q dir) ≡ false
far_line q parent f dir low long wide =
    on_the_edge (strip parent.width q (parent.length -ℤ q)) (line_on f N parent (pos 0) parent.width q dir) (record { west = omega (arith, ints); east = omega (arith, ints); south = omega (arith, ints); north = omega (arith, ints) }) (record { west = omega (arith, ints); east = omega (arith, ints); south = omega (arith, ints); north = omega (arith, ints) })

abbrev first_joint : Side → Dir → Joint
first_joint side dir = record { on = 0; side = side; at = pos 2000; dir = dir }

step_is : (q : ℤ) (faces : List FaceData) (f : ℕ) (face parent : FaceData) (joint : Joint) → face_at faces f ≡ face → face.joint ≡ Some joint → face_at faces joint.on ≡ parent → flat_step faces q f ≡ step_on joint.side parent joint.at q
step_is q faces f face parent joint at has on =
    let joint_is : joint_of faces f ≡ joint = ap (λ (x : FaceData). unwrap_or x.joint no_joint) at ∙ ap (λ o. unwrap_or o no_joint) has in
    let parent_is : face_at faces (joint_of faces f).on ≡ parent = ap (λ (j : Joint). face_at faces j.on) joint_is ∙ on in
    λ i. step_on (joint_is i).side (parent_is i) (joint_is i).at q

-- how a face of such a joint stands on its parent
joint_fits : (faces : List FaceData) (f : ℕ) (face parent : FaceData) (joint : Joint) → face_at faces f ≡ face → face.joint ≡ Some joint → face_at faces joint.on ≡ parent → joint.on < f → pos 0 ≤ℤ joint.at → (joint.at +ℤ face.width) ≤ℤ side_length joint.side parent → (joint.side ≡ S → joint.on ≡ 0)
    → IsJointOf faces f joint
joint_fits faces f face parent joint at has on earlier low high south = record {
  has = ap (λ (x : FaceData). x.joint) at ∙ has;
  earlier = earlier;
  within = record {
    at_low = low;
    at_high = subst (λ (x : FaceData). (joint.at +ℤ x.width) ≤ℤ side_length joint.side (face_at faces joint.on)) (sym at) (subst (λ (x : FaceData). (joint.at +ℤ face.width) ≤ℤ side_length joint.side x) (sym on) high);
    south = south;
  };
}

-- the first flange of a side
abbrev pub first_of : Sizes → Side → Dir → FaceData
first_of s side dir = first_face side (width_of s side) (s.first side) dir

some_number : (side : Side) → 0 < first_number side
some_number N = omega arith
some_number E = omega arith
some_number S = omega arith
some_number W = omega arith

pub first_laid : (s : Sizes) → AreInRange s → (faces : List FaceData) (side : Side) (dir : Dir) → face_at faces 0 ≡ root_of s → IsBentAround faces → face_at faces (first_number side) ≡ first_of s side dir → IsBentAt faces (first_number side) (s.has_second side)
    → flat faces s.q (first_number side) ≡ after stay (flat_step faces s.q (first_number side)) → IsLaid s faces (first_role side) (first_number side)
first_laid s range faces side dir at_root around at bent flat_is =
    let f = first_number side in
    let face = first_of s side dir in
    let joint = first_joint side dir in
    let top = if_bent (s.has_second side) s.q in
    let q_low = range.q_low in
    let q_high = range.q_high in
    let len_low = range.first_low side in
    let width = width_is s range side in
    let width_low : pos 76000 ≤ℤ width_of s side = width.0 in
    let width_high : width_of s side ≤ℤ pos 9996000 = width.1 in
    let tops = bent_within (s.has_second side) s.q (omega (arith, ints)) in
    let top_low : pos 0 ≤ℤ top = tops.0 in
    let top_high : top ≤ℤ s.q = tops.1 in
    let core_is = core_of_flange s.q faces f face (s.has_second side) at bent in
    let strip_fits = strip_is side (root_of s) s.q s.q (s.first side -ℤ top) (sizes_of s range) (omega (arith, ints)) (omega (arith, ints)) in
    let image : flat_image (flat faces s.q f) (core faces s.q f) ≡ strip_image side (root_of s) s.q (width_of s side) s.q (s.first side -ℤ top) =
    (λ i. flat_image (flat_is i) (core_is i))
    ∙ (λ i. flat_image (after stay (step_is s.q faces f face (root_of s) joint at refl at_root i)) (strip (width_of s side) s.q (s.first side -ℤ top)))
    ∙ first_image side (root_of s) s.q (width_of s side) s.q (s.first side -ℤ top) in
    let ends = strip_fits.ends in
    record {
      name = ap (λ (x : FaceData). x.name) at;
      wide = subst (λ (x : FaceData). IsSize x.width) (sym at) (record { bottom = omega (arith, ints); top = omega (arith, ints) });
      long = subst (λ (x : FaceData). IsSize x.length) (sym at) (record { bottom = omega (arith, ints); top = range.first_high side });
      joined = λ some. (joint, joint_fits faces f face (root_of s) joint at refl at_root (some_number side) (omega (arith, ints)) (omega (arith, ints)) (λ south. refl));
      fits = ap is_too_small core_is ∙ fits_in (strip (width_of s side) s.q (s.first side -ℤ top)) (omega (arith, ints)) (omega (arith, ints));
      on_edge = λ some. off_face_is s.q faces f face (root_of s) (s.has_second side) joint (root_core s) at refl at_root bent (core_of_root s faces at_root around) ∙ root_line s range side f dir;
      placed = subst (IsPlaced (edge_of (root_of s) s.q) (end_of s) (first_role side)) (sym image) (strip_fits.on_side, omega (arith, ints, strip_fits.ends));
    }

-- the second flange of a side
abbrev pub second_of : Sizes → Side → ℕ → ℤ → Dir → FaceData
second_of s side number length dir = second_face number side (width_of s side) length dir

abbrev second_joint : Side → Dir → Joint
second_joint side dir = record { on = first_number side; side = N; at = pos 0; dir = dir }

pub second_laid : (s : Sizes) → AreInRange s → (faces : List FaceData) (side : Side) (number : ℕ) (length : ℤ) (first_dir dir : Dir) → pos 8000 ≤ℤ length → length ≤ℤ pos 10000000 → s.has_second side ≡ true → first_number side < number
    → face_at faces 0 ≡ root_of s → face_at faces (first_number side) ≡ first_of s side first_dir → IsBentAt faces (first_number side) true → face_at faces number ≡ second_of s side number length dir → IsBentAt faces number false
    → flat faces s.q number ≡ after (after stay (flat_step faces s.q (first_number side))) (flat_step faces s.q number) → IsLaid s faces (second_role side) number
second_laid s range faces side number length first_dir dir low high has later at_root at_parent bent_parent at bent flat_is =
    let p = first_number side in
    let parent = first_of s side first_dir in
    let face = second_of s side number length dir in
    let q_low = range.q_low in
    let q_high = range.q_high in
    let len_low = range.first_low side in
    let width = width_is s range side in
    let width_low : pos 76000 ≤ℤ width_of s side = width.0 in
    let width_high : width_of s side ≤ℤ pos 9996000 = width.1 in
    let out = s.first side -ℤ (pos 2 *ℤ s.q) in
    let core_is = core_of_flange s.q faces number face false at bent in
    let parent_core = core_of_flange s.q faces p parent true at_parent bent_parent in
    let strip_fits = strip_is side (root_of s) s.q (s.q +ℤ out) ((length -ℤ pos 0) +ℤ out) (sizes_of s range) (omega (arith, ints)) (omega (arith, ints)) in
    let image : flat_image (flat faces s.q number) (core faces s.q number) ≡ strip_image side (root_of s) s.q (width_of s side) (s.q +ℤ out) ((length -ℤ pos 0) +ℤ out) =
    (λ i. flat_image (flat_is i) (core_is i))
    ∙ (λ i. flat_image (after (after stay (step_is s.q faces p parent (root_of s) (first_joint side first_dir) at_parent refl at_root i)) (step_is s.q faces number face parent (second_joint side dir) at refl at_parent i)) (strip (width_of s side) s.q (length -ℤ pos 0)))
    ∙ second_image side (root_of s) parent s.q (width_of s side) s.q (length -ℤ pos 0) in
    let top : if_bent (s.has_second side) s.q ≡ s.q = ap (λ (b : Bool). if_bent b s.q) has in
    record {
      name = ap (λ (x : FaceData). x.name) at;
      wide = subst (λ (x : FaceData). IsSize x.width) (sym at) (record { bottom = omega (arith, ints); top = omega (arith, ints) });
      long = subst (λ (x : FaceData). IsSize x.length) (sym at) (record { bottom = omega (arith, ints); top = high });
      joined = λ some. (second_joint side dir, joint_fits faces number face parent (second_joint side dir) at refl at_parent later (omega (arith, ints)) (omega (arith, ints)) (λ south. absurd (cc)));
      fits = ap is_too_small core_is ∙ fits_in (strip (width_of s side) s.q (length -ℤ pos 0)) (omega (arith, ints)) (omega (arith, ints));
      on_edge = λ some. off_face_is s.q faces number face parent false (second_joint side dir) (strip (width_of s side) s.q (s.first side -ℤ s.q)) at refl at_parent bent parent_core ∙ far_line s.q parent number dir (omega (arith, ints)) (omega (arith, ints)) (omega (arith, ints));
      placed = subst (IsPlaced (edge_of (root_of s) s.q) (end_of s) (second_role side)) (sym image) (strip_fits.on_side, omega (arith, ints, strip_fits.begins, top));
    }
