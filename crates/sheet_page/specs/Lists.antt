-- Lists of names and lengths in words.
use Rattle.std.specs.Prelude.{ℕ, ◌+◌, ℤ, List, [], ◌∷◌, ◌++◌}
use Rattle.part_file.specs.Part.{face_at}
use Rattle.job_setup.specs.Setup.{JobData}
use Rattle.sheet_words.specs.Lists.{separator, mm}
use Rattle.sheet_words.specs.Faces.{bend_label}

-- the name of a face at a place of a list of so many, and the last names of such a list, from a
-- place on
unfoldable pub listed_name : JobData → (at count face : ℕ) → List ℕ
listed_name job at count face = separator at count ++ (face_at job.part.faces face).name

abbrev pub name_words : JobData → (at count : ℕ) → (faces : List ℕ) → List ℕ
name_words job at count [] = []
name_words job at count (face ∷ faces) =
    listed_name job at count face ++ name_words job (at + 1) count faces

-- the same of faces by their numbers and names
unfoldable pub listed_label : JobData → (at count face : ℕ) → List ℕ
listed_label job at count face = separator at count ++ bend_label job face

abbrev pub label_words : JobData → (at count : ℕ) → (faces : List ℕ) → List ℕ
label_words job at count [] = []
label_words job at count (face ∷ faces) =
    listed_label job at count face ++ label_words job (at + 1) count faces

-- the same of lengths in millimetres
unfoldable pub listed_length : (at count : ℕ) → ℤ → List ℕ
listed_length at count length = separator at count ++ mm length

abbrev pub length_words : (at count : ℕ) → (lengths : List ℤ) → List ℕ
length_words at count [] = []
length_words at count (length ∷ lengths) =
    listed_length at count length ++ length_words (at + 1) count lengths
