-- The part that a file gives, or its first refusal. Table 0 is the top table, table 1 + i is face
-- i's.
use Rattle.std.specs.Prelude.{ℕ, ◌+◌, ℤ, pos, unsigned_abs, ◌%◌, List, [], ◌∷◌, codes, length, map}
use Rattle.std.specs.Prelude.{take, not, nat_lt, nat_le, ◌==◌, if◌then◌else◌, bytes_eq, Option}
use Rattle.std.specs.Prelude.{Some, None, Result, Ok, ok_or, option_and_then, option_map, position}
use Rattle.std.specs.List.{slice_index_or, range_with_len}
use Rattle.toml.specs.Data.{Data, Members, as_table}
use Rattle.toml_fields.specs.Document.{document_of}
use Rattle.toml_fields.specs.Fields.{text_at, name_at, integer_at, whole_at, has_unknown_key}
use Rattle.toml_fields.specs.Lists.{tables_at}
use Rattle.toml_fields.specs.Results.{◌>>=◌, each_from, refuse_if, refuse_first}
use Rattle.part_file.specs.Bounds.{least_thickness, greatest_thickness, least_radius}
use Rattle.part_file.specs.Bounds.{greatest_radius, most_faces}
use Rattle.part_file.specs.declared.fault.PartFault.{PartFault}
use Rattle.part_file.specs.declared.fault.PartFault.TheVariants.{NotToml, BadField, UnknownKey}
use Rattle.part_file.specs.declared.fault.PartFault.TheVariants.{TooMany, BadSize, UnknownParent}
use Rattle.part_file.specs.declared.fault.PartFault.TheVariants.{OddThickness, SameName}
use Rattle.part_file.specs.declared.part.Side.{Side}
use Rattle.part_file.specs.declared.part.Side.TheVariants.{N, E, S, W}
use Rattle.part_file.specs.declared.part.Dir.{Dir}
use Rattle.part_file.specs.declared.part.Dir.TheVariants.{Up, Down}
use Rattle.part_file.specs.declared.part.Joint.{Joint}
use Rattle.part_file.specs.Part.{FaceData, PartData}
use Rattle.part_file.specs.Rules.{has_namesake, lacks_parent, has_bad_size}
use Rattle.part_file.specs.Rows.{JointRowData, FaceRowData}

abbrev pub side_named : List ℕ → Option Side
side_named text =
    if bytes_eq text (codes "N") then Some N else if bytes_eq text (codes "E") then Some E
    else if bytes_eq text (codes "S") then Some S else if bytes_eq text (codes "W") then Some W
    else None

abbrev pub dir_named : List ℕ → Option Dir
dir_named text =
    if bytes_eq text (codes "up") then Some Up else if bytes_eq text (codes "down") then Some Down
    else None

-- face 0, of table 1
unfoldable pub root_row : Members → Result FaceRowData PartFault
root_row members = do
  name ← ok_or (name_at (codes "name") members) (BadField 1 5)
  width ← ok_or (whole_at (codes "width") members) (BadField 1 9)
  length ← ok_or (whole_at (codes "length") members) (BadField 1 10)
  known ← refuse_if (has_unknown_key (codes "name" ∷ codes "width" ∷ codes "length"
      ∷ []) members) (UnknownKey 1)
  Ok (record { name = name; width = width; length = length; joint = None })

-- another face, of the table of this number
unfoldable pub child_row : ℕ → Members → Result FaceRowData PartFault
child_row table members = do
  name ← ok_or (name_at (codes "name") members) (BadField table 5)
  on ← ok_or (name_at (codes "on") members) (BadField table 6)
  side ← ok_or (option_and_then side_named (text_at (codes "side") members)) (BadField table 7)
  at ← ok_or (whole_at (codes "at") members) (BadField table 8)
  width ← ok_or (whole_at (codes "width") members) (BadField table 9)
  length ← ok_or (whole_at (codes "length") members) (BadField table 10)
  dir ← ok_or (option_and_then dir_named (text_at (codes "dir") members)) (BadField table 11)
  known ← refuse_if (has_unknown_key (codes "name" ∷ codes "on" ∷ codes "side" ∷ codes "at"
      ∷ codes "width" ∷ codes "length" ∷ codes "dir" ∷ []) members) (UnknownKey table)
  Ok (record {
    name = name;
    width = width;
    length = length;
    joint = Some (record { on = on; side = side; at = at; dir = dir });
  })

-- the face of a number, of its item of `face`
unfoldable pub face_row : ℕ → Data → Result FaceRowData PartFault
face_row face item = do
  members ← ok_or (as_table item) (BadField 0 4)
  if face == 0 then root_row members else child_row (1 + face) members

-- the items of `face`: tables, at least one
abbrev pub face_items : Members → Option (List Data)
face_items members =
    option_and_then (λ items. if nat_le 1 (length items) then Some items
    else None) (tables_at (codes "face") members)

-- what stands past the last face
abbrev pub no_row : FaceRowData
no_row = record { name = []; width = pos 0; length = pos 0; joint = None }

-- the face of a number
abbrev pub row_at : List FaceRowData → ℕ → FaceRowData
row_at rows f = slice_index_or rows f no_row

-- the first face of this name, among those before a face
abbrev pub earlier_face : List FaceRowData → ℕ → List ℕ → Option ℕ
earlier_face rows f name = position (λ row. bytes_eq row.name name) (take f rows)

-- the joint by the number of its parent
abbrev pub joint_of : List FaceRowData → ℕ → JointRowData → Option Joint
joint_of rows f joint =
    option_map (λ parent. record {
      on = parent;
      side = joint.side;
      at = joint.at;
      dir = joint.dir;
    }) (earlier_face rows f joint.on)

-- the face of a number, by the number of its parent
abbrev pub face_of : List FaceRowData → ℕ → FaceData
face_of rows f =
    record {
      name = (row_at rows f).name;
      width = (row_at rows f).width;
      length = (row_at rows f).length;
      joint = option_and_then (joint_of rows f) (row_at rows f).joint;
    }

-- all faces by the numbers of their parents
abbrev pub faces_of : List FaceRowData → List FaceData
faces_of rows = map (face_of rows) (range_with_len 0 (length rows))

-- the refusals over all faces: two equal names, then a parent that isn't earlier, then a size or a
-- place
unfoldable pub refuse_faces : List FaceData → Result (Unit {0}) PartFault
refuse_faces faces = do
  distinct ← refuse_first (has_namesake faces) (length faces) SameName
  parents ← refuse_first (lacks_parent faces) (length faces) UnknownParent
  refuse_first (has_bad_size faces) (length faces) BadSize

-- the thickness of the sheet
abbrev pub thickness_of : Members → Option ℤ
thickness_of members = integer_at least_thickness greatest_thickness (codes "thickness") members

-- the inner radius of the bends
abbrev pub radius_of : Members → Option ℤ
radius_of members = integer_at least_radius greatest_radius (codes "radius") members

-- the part of the top table
unfoldable pub part_of_table : Members → Result PartData PartFault
part_of_table members = do
  material ← ok_or (name_at (codes "material") members) (BadField 0 1)
  thickness ← ok_or (thickness_of members) (BadField 0 2)
  radius ← ok_or (radius_of members) (BadField 0 3)
  items ← ok_or (face_items members) (BadField 0 4)
  known ← refuse_if (has_unknown_key (codes "material" ∷ codes "thickness" ∷ codes "radius"
      ∷ codes "face" ∷ []) members) (UnknownKey 0)
  few ← refuse_if (nat_lt most_faces (length items)) TooMany
  rows ← each_from face_row 0 items
  sound ← refuse_faces (faces_of rows)
  even ← refuse_if (not (unsigned_abs thickness % 2 == 0)) OddThickness
  Ok (record { material = material; thickness = thickness; radius = radius; faces = faces_of rows })

-- the part of a file's bytes, or the first refusal
abbrev pub part_of : List ℕ → Result PartData PartFault
part_of bytes = ok_or (document_of bytes) NotToml >>= part_of_table
