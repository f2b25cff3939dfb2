-- The designed part: its plates in space, straight from the outside sizes. No deduction occurs in
-- it.
use Rattle.std.specs.Prelude.{ℕ, ℤ, pos, negsuc, neg_ℤ, List}
use Rattle.brake_base.specs.declared.space.Box3.{Box3}
use Rattle.brake_base.specs.Vectors.{vector, plus, times}
use Rattle.brake_base.specs.Turns.{Map}
use Rattle.brake_base.specs.Boxes.{image}
use Rattle.part_file.specs.declared.part.Dir.{Dir}
use Rattle.part_file.specs.declared.part.Dir.TheVariants.{Up, Down}
use Rattle.part_file.specs.Part.{FaceData, face_at, along, outward}
use Rattle.unfolder.specs.declared.blank.FlatRect.{FlatRect}
use Rattle.unfolder.specs.Cores.{joint_of, z_axis, side_point, face_less}
use Rattle.unfolder.specs.Chains.{to_root}

-- 1 for a bend that folds up, -1 for one that folds down
abbrev pub fold_sign : Dir → ℤ
fold_sign Up = pos 1
fold_sign Down = negsuc 0

-- From a child's frame to its parent's, where the bend is folded: the child stands on the parent's
-- outer mould line. Its mid-plane lies half the thickness, tau, inside the parent's side, and its y
-- starts tau outside the parent's mid-plane.
abbrev pub design_step : List FaceData → ℤ → ℕ → Map
design_step faces tau b = let joint = joint_of faces b in let s = fold_sign joint.dir in record {
  turn =
      record { x = along joint.side; y = times s z_axis; z = times (neg_ℤ s) (outward joint.side) };
  shift =
      plus (side_point joint.side (face_at faces joint.on) joint.at tau)
      (times (neg_ℤ s) (times tau z_axis));
}

-- where face f stands in the designed part, in the coordinates of face 0
abbrev pub design : List FaceData → ℤ → ℕ → Map
design faces tau f = to_root faces (design_step faces tau) f

-- a flat rectangle with the sheet's thickness, from -tau to tau
abbrev pub thick : ℤ → FlatRect → Box3
thick tau r = record { lo = vector r.x0 r.y0 (neg_ℤ tau); hi = vector r.x1 r.y1 tau }

-- the plate of face f: between its mould lines, which lie tau inside its outside edges at the bent
-- sides
abbrev pub plate : List FaceData → ℤ → ℕ → Box3
plate faces tau f = image (design faces tau f) (thick tau (face_less faces tau f))
