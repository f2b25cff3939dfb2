-- Rows and their data.
use Rattle.std.proofs.Common.{◌≡◌, ℕ, ◌<◌, ◌+◌, Bool, cond, not, List, [], ◌∷◌, length, map, get_or, refl, sym, ap, ◌∙◌}
use Rattle.std.specs.Prelude.{position}
use Rattle.std.specs.List.{prefix_len}
use Rattle.part_file.specs.declared.rows.FaceRow.{FaceRow}
use Rattle.part_file.specs.Rows.{face_row_data}
use Rattle.part_file.specs.PartFile.{row_at, no_row}
use Rattle.std.proofs.lemmas.Int.{to_z-of_z}
use Rattle.std.proofs.lemmas.List.{get_or-map, length-map, take-map}

prefix_len_map : {A B : Type 0} (test : B → Bool) (f : A → B) (xs : List A) → prefix_len test (map f xs) ≡ prefix_len (λ x. test (f x)) xs
prefix_len_map test f [] = refl
prefix_len_map test f (x ∷ xs) = ap (λ (n : ℕ). cond (test (f x)) (1 + n) 0) (prefix_len_map test f xs)

pub position_map : {A B : Type 0} (test : B → Bool) (f : A → B) (xs : List A) → position test (map f xs) ≡ position (λ x. test (f x)) xs
position_map test f xs = rw (prefix_len_map (λ y. not (test y)) f xs, length-map)

-- the row of a number, as the code reads it
pub row_is : (rows : List FaceRow) (f : ℕ) (d row : FaceRow) → f < length rows → row ≡ get_or rows f d → row_at (map face_row_data rows) f ≡ face_row_data row
row_is rows f d row within is = get_or-map face_row_data rows f d no_row within ∙ ap face_row_data (sym is)

pub ruleset rows = (to_z-of_z, position_map, take-map, length-map)
