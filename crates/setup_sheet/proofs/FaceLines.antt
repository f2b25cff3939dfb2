-- One more line of faces.
use Rattle.std.proofs.Common.{◌≡◌, ℕ, suc, ◌<◌, List, ◌++◌, length, get_or, map, ap, ◌∙◌}
use Rattle.std.specs.List.{flat_map, range_with_len}
use Rattle.std.proofs.lemmas.List.{get_or-map, get_or_default}
use Rattle.part_file.specs.declared.part.Face.{Face}
use Rattle.part_file.specs.Part.{FaceData, face_data, face_at, no_face}
use Rattle.unfolder.specs.declared.blank.FlatRect.{FlatRect}
use Rattle.unfolder.specs.declared.blank.FlatFace.{FlatFace}
use Rattle.setup_sheet.specs.Sheets.{face_line, no_flat_face, rect_at}
use Rattle.setup_sheet.proofs.Numbered.{numbered_more}

-- the line of the face of a number
abbrev pub line_of : FlatRect → List FaceData → List FlatFace → ℕ → List ℕ
line_of extent faces flat_faces f = face_line extent f (face_at faces f).name (rect_at flat_faces f)

line_is : (extent : FlatRect) (i : ℕ) (fs : List Face) (gs : List FlatFace) (f : Face) (g : FlatFace) → i < length fs → i < length gs
    → line_of extent (map face_data fs) gs i ≡ face_line extent i (get_or fs i f).name.bytes (get_or gs i g).rect
line_is extent i fs gs f g lt lt' =
    ap (λ (face : FaceData). face_line extent i face.name (rect_at gs i)) (get_or-map face_data fs i f no_face lt)
    ∙ ap (λ (face : FlatFace). face_line extent i (get_or fs i f).name.bytes face.rect) (get_or_default gs i no_flat_face g lt')

-- a list that ends with the lines of the first faces, and then the line of the next
pub lines_more : (extent : FlatRect) (i : ℕ) (fs : List Face) (gs : List FlatFace) (f : Face) (g : FlatFace) (front before after : List ℕ) → i < length fs → i < length gs
    → before ≡ front ++ flat_map (line_of extent (map face_data fs) gs) (range_with_len 0 i)
    → after ≡ before ++ face_line extent i (get_or fs i f).name.bytes (get_or gs i g).rect
    → after ≡ front ++ flat_map (line_of extent (map face_data fs) gs) (range_with_len 0 (suc i))
lines_more extent i fs gs f g front before after lt lt' so_far grown =
    numbered_more (line_of extent (map face_data fs) gs) i front before after _ so_far grown (line_is extent i fs gs f g lt lt')
