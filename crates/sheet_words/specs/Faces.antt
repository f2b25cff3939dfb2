-- Faces, boxes and bends in words.
use Rattle.std.specs.Prelude.{ℕ, ◌+◌, ◌-◌, ◌==◌, nat_le, pos, List, [], ◌∷◌, ◌++◌, codes}
use Rattle.std.specs.Prelude.{if◌then◌else◌}
use Rattle.std.specs.Fmt.{signed_decimal}
use Rattle.part_file.specs.Part.{face_at}
use Rattle.job_setup.specs.Setup.{JobData}
use Rattle.sheet_words.specs.Lists.{separator}

-- the word for face 0, or for one that is bent
unfoldable pub face_kind : ℕ → List ℕ
face_kind face = if face == 0 then codes "face " else codes "flange "

-- a face by its number and name
unfoldable pub face_words : JobData → ℕ → List ℕ
face_words job face =
    face_kind face ++ signed_decimal (pos face) ++ codes " '" ++ (face_at job.part.faces face).name
    ++ codes "'"

-- the face at a place of a list of so many
unfoldable pub listed_face : JobData → (at count face : ℕ) → List ℕ
listed_face job at count face = separator at count ++ face_words job face

-- the last faces of a list of so many, from a place on
abbrev pub faces_words : JobData → (at count : ℕ) → (faces : List ℕ) → List ℕ
faces_words job at count [] = []
faces_words job at count (face ∷ faces) =
    listed_face job at count face ++ faces_words job (at + 1) count faces

-- the corner of a bend
unfoldable pub corner_words : ℕ → List ℕ
corner_words bend = codes "the corner of bend " ++ signed_decimal (pos bend)

-- a box of the part: a face, or the corner of a bend, whose number is 12 and that of the bend
unfoldable pub box_words : JobData → ℕ → List ℕ
box_words job id = if nat_le id 12 then face_words job id else corner_words (id - 12)

-- a bend by its number and the name of its flange
unfoldable pub bend_label : JobData → ℕ → List ℕ
bend_label job bend =
    signed_decimal (pos bend) ++ codes " " ++ (face_at job.part.faces bend).name
