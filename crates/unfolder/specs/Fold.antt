-- The printed blank, folded: each bend of a set is hinged by a right angle at its line.
use Rattle.std.specs.Prelude.{◌≡◌, ℕ, ◌-◌, ◌<◌, ℤ, pos, ◌+ℤ◌, ◌-ℤ◌, ◌*ℤ◌, neg_ℤ, Bool, true, List}
use Rattle.std.specs.Prelude.{length, slice_index_or, if◌then◌else◌}
use Rattle.std.specs.Int.{int_signum}
use Rattle.brake_base.specs.declared.space.V3.{V3}
use Rattle.brake_base.specs.Vectors.{vector, plus, times, origin}
use Rattle.brake_base.specs.Turns.{Map, identity, stay, after}
use Rattle.brake_base.specs.Boxes.{image}
use Rattle.part_file.specs.declared.part.Side.TheVariants.{N, E, S, W}
use Rattle.part_file.specs.Part.{FaceData, PartData, half_thickness, is_bent}
use Rattle.unfolder.specs.declared.blank.FlatRect.{FlatRect}
use Rattle.unfolder.specs.declared.blank.BendLine.{BendLine}
use Rattle.unfolder.specs.Cores.{z_axis, if_bent, core}
use Rattle.unfolder.specs.Chains.{to_root}
use Rattle.unfolder.specs.Tables.{no_line}
use Rattle.unfolder.specs.Blank.{BlankData, flat, bend_line}
use Rattle.unfolder.specs.Design.{fold_sign, thick, design, plate}

-- the scalar product
abbrev pub dot : V3 → V3 → ℤ
dot a b = (a.x *ℤ b.x +ℤ a.y *ℤ b.y) +ℤ a.z *ℤ b.z

abbrev pub minus : V3 → V3 → V3
minus a b = vector (a.x -ℤ b.x) (a.y -ℤ b.y) (a.z -ℤ b.z)

-- where a printed line starts
abbrev pub line_origin : BendLine → V3
line_origin line = vector line.from.0 line.from.1 (pos 0)

-- the direction in which a printed line runs, along x or y
abbrev pub line_along : BendLine → V3
line_along line =
    vector (int_signum (line.to.0 -ℤ line.from.0)) (int_signum (line.to.1 -ℤ line.from.1)) (pos 0)

-- that direction turned a quarter turn counterclockwise
abbrev pub line_outward : BendLine → V3
line_outward line = let d = line_along line in vector (neg_ℤ d.y) d.x (pos 0)

-- Where a hinge takes a point: A + u*d + v*o + w*z goes to A + u*d + (h - s*w)*o + s*(h + v)*z, for
-- a line that runs from A along d, with o across it, z up from the sheet, and s 1 for up and -1 for
-- down.
abbrev pub hinged_about : V3 → V3 → V3 → ℤ → ℤ → V3 → V3
hinged_about start d o s h p =
    let from_start = minus p start in
    let u = dot from_start d in
    let v = dot from_start o in
    let w = from_start.z in
    plus (plus (plus start (times u d)) (times (h -ℤ s *ℤ w) o)) (times (s *ℤ (h +ℤ v)) z_axis)

-- the hinge of a printed line; h is the distance from the line to the mould line in the sheet's
-- mid-plane
abbrev pub hinged : ℤ → BendLine → V3 → V3
hinged h line =
    hinged_about (line_origin line) (line_along line) (line_outward line) (fold_sign line.dir) h

-- the map with these images of the origin and of the three unit vectors
abbrev pub map_through : (V3 → V3) → Map
map_through image_of = record {
  turn = record {
    x = minus (image_of identity.x) (image_of origin);
    y = minus (image_of identity.y) (image_of origin);
    z = minus (image_of identity.z) (image_of origin);
  };
  shift = image_of origin;
}

-- the hinge of a printed line
unfoldable pub hinge : ℤ → BendLine → Map
hinge h line = map_through (hinged h line)

-- what the bends of the set on the way to the root do to face f: the blank is hinged at each of
-- them, once
abbrev pub fold : List FaceData → ℤ → (ℕ → BendLine) → (ℕ → Bool) → ℕ → Map
fold faces h line_of set f = to_root faces (λ b. if set b then hinge h (line_of b) else stay) f

-- where face f lies when the bends of a set are folded, in the coordinates of face 0
abbrev pub place : List FaceData → ℤ → ℤ → (ℕ → Bool) → ℕ → Map
place faces q h set f = after (fold faces h (bend_line faces q) set f) (flat faces q f)

-- the printed line of bend b
abbrev pub printed_line : BlankData → ℕ → BendLine
printed_line blank b = slice_index_or blank.bends (b - 1) no_line

-- the core of face f grown by h at each bent side: up to the mould lines
abbrev pub grown_core : List FaceData → ℤ → ℤ → ℕ → FlatRect
grown_core faces q h f = let r = core faces q f in record {
  x0 = r.x0 -ℤ if_bent (is_bent faces f W) h;
  x1 = r.x1 +ℤ if_bent (is_bent faces f E) h;
  y0 = r.y0 -ℤ if_bent (is_bent faces f S) h;
  y1 = r.y1 +ℤ if_bent (is_bent faces f N) h;
}

-- where face f lies when the printed blank is folded at every bend
abbrev pub folded : List FaceData → ℤ → ℤ → BlankData → ℕ → Map
folded faces q h blank f = after (fold faces h (printed_line blank) (λ b. true) f) (flat faces q f)

-- Folded at every bend, the printed blank is the designed part: each face lies where it stands in
-- the design, and its core, grown to the mould lines and as thick as the sheet, is the designed
-- plate.
pub record FoldsBack (part : PartData) (q : ℤ) (blank : BlankData) : Type 0 where
  pub places : (f : ℕ) → f < length part.faces
      → folded part.faces q (q -ℤ half_thickness part) blank f
      ≡ design part.faces (half_thickness part) f
  pub plates : (f : ℕ) → f < length part.faces
      → image (folded part.faces q (q -ℤ half_thickness part) blank f)
      (thick (half_thickness part) (grown_core part.faces q (q -ℤ half_thickness part) f))
      ≡ plate part.faces (half_thickness part) f
