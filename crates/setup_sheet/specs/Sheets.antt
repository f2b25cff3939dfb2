-- The texts of the sheets. Lengths are in micrometres; each line ends with a line feed.
use Rattle.std.specs.Prelude.{ℕ, ℤ, pos, ◌-ℤ◌, List, ◌++◌, codes, length}
use Rattle.std.specs.List.{flat_map, range_with_len, slice_index_or}
use Rattle.std.specs.Fmt.{signed_decimal}
use Rattle.part_file.specs.declared.part.Dir.{Dir}
use Rattle.part_file.specs.declared.part.Dir.TheVariants.{Up, Down}
use Rattle.part_file.specs.Part.{FaceData, PartData, face_at}
use Rattle.unfolder.specs.declared.blank.FlatRect.{FlatRect}
use Rattle.unfolder.specs.declared.blank.FlatFace.{FlatFace}
use Rattle.unfolder.specs.declared.blank.BendLine.{BendLine}
use Rattle.unfolder.specs.Blank.{BlankData}
use Rattle.unfolder.specs.Extent.{extent_of}
use Rattle.job_setup.specs.Setup.{StageData, JobData}
use Rattle.job_setup.specs.StageOf.{no_stage}

-- a space and a number
unfoldable pub field : ℤ → List ℕ
field n = codes " " ++ signed_decimal n

-- a space and the word for a bend's direction
unfoldable pub dir_field : Dir → List ℕ
dir_field Up = codes " up"
dir_field Down = codes " down"

-- a point of the sheet, from the least corner of the extent
unfoldable pub point : FlatRect → ℤ → ℤ → List ℕ
point extent x y = field (x -ℤ extent.x0) ++ field (y -ℤ extent.y0)

-- `size X Y`: the sizes of the extent
unfoldable pub size_line : FlatRect → List ℕ
size_line extent =
    codes "size" ++ field (extent.x1 -ℤ extent.x0) ++ field (extent.y1 -ℤ extent.y0) ++ codes "\n"

-- the least and the greatest corner of a rectangle
unfoldable pub corners : FlatRect → FlatRect → List ℕ
corners extent rect = point extent rect.x0 rect.y0 ++ point extent rect.x1 rect.y1

-- `face I NAME X0 Y0 X1 Y1`: the number and the name of a face, and the corners of its rectangle
unfoldable pub face_line : FlatRect → ℕ → List ℕ → FlatRect → List ℕ
face_line extent number name rect =
    codes "face" ++ field (pos number) ++ codes " " ++ name ++ corners extent rect ++ codes "\n"

-- `bend B X Y X Y up`: the number of a bend, the ends of its line, and its direction
unfoldable pub bend_line : FlatRect → BendLine → List ℕ
bend_line extent line =
    codes "bend" ++ field (pos line.bend) ++ point extent line.from.0 line.from.1
    ++ point extent line.to.0 line.to.1 ++ dir_field line.dir ++ codes "\n"

-- what stands past the last face of a blank
abbrev pub no_flat_face : FlatFace
no_flat_face = record { rect = record { x0 = pos 0; x1 = pos 0; y0 = pos 0; y1 = pos 0 }; turn = 0 }

-- the rectangle of a face in the blank
abbrev pub rect_at : List FlatFace → ℕ → FlatRect
rect_at flat_faces f = (slice_index_or flat_faces f no_flat_face).rect

-- a line for each face, in order of number
unfoldable pub face_lines : FlatRect → List FaceData → List FlatFace → List ℕ
face_lines extent faces flat_faces =
    flat_map (λ f. face_line extent f (face_at faces f).name (rect_at flat_faces f))
    (range_with_len 0 (length flat_faces))

-- The blank sheet: the blank's size, then its faces, then its bend lines. All coordinates are
-- shifted so that the least corner of the extent, the least rectangle that holds all faces, is (0,
-- 0).
unfoldable pub blank_text : PartData → BlankData → List ℕ
blank_text part blank =
    let extent = extent_of blank.faces in
    codes "blank\n" ++ size_line extent ++ face_lines extent part.faces blank.faces
    ++ flat_map (bend_line extent) blank.bends

-- `stage S PUNCH DIE X0 X1`: the number of a stage, the names of its tools, and its range on the
-- bed
unfoldable pub stage_place : ℕ → StageData → List ℕ
stage_place number stage =
    codes "stage" ++ field (pos number) ++ codes " " ++ stage.punch.name ++ codes " "
    ++ stage.die.name ++ field stage.x0 ++ field stage.x1

-- the place of a stage, and `pieces P P P`: the lengths of its pieces in their order
unfoldable pub stage_lines : ℕ → StageData → List ℕ
stage_lines number stage =
    stage_place number stage ++ codes "\npieces" ++ flat_map field stage.pieces ++ codes "\n"

-- the lines of each stage, in order of number
unfoldable pub stages_lines : List StageData → List ℕ
stages_lines stages =
    flat_map (λ s. stage_lines s (slice_index_or stages s no_stage))
    (range_with_len 0 (length stages))

-- The setup sheet: the tools of each stage, where it stands on the bed, and its pieces.
unfoldable pub setup_text : JobData → List ℕ
setup_text job = codes "setup\n" ++ stages_lines job.setup.stages
