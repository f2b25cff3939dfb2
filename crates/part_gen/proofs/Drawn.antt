-- The faces that the code draws, one after the other, are those of the definition.
use Rattle.std.proofs.Common.{◌≡◌, ℕ, ◌==◌, ℤ, pos, ◌-ℤ◌, Bool, true, false, List, [], ◌∷◌, ◌++◌, length, map, if◌then◌else◌, refl, ap, sym, ◌∙◌}
use Rattle.std.proofs.lemmas.List.{length-map}
use Rattle.part_file.specs.declared.part.Side.{Side}
use Rattle.part_file.specs.declared.part.Side.TheVariants.{N, E, S, W}
use Rattle.part_file.specs.declared.part.Face.{Face}
use Rattle.part_file.specs.Part.{FaceData, face_data}
use Rattle.part_gen.specs.Draws.{next, answer, state_after, state, drawn}
use Rattle.part_gen.specs.Generator.{drawn_length, generated_faces}
use Rattle.part_gen.specs.Steps.{first_faces, second_from}

-- five faces that were added one by one
pub five_added : (a b c d e : Face) (none one two three four five : List Face) (fa fb fc fd fe : FaceData) → none ≡ [] → one ≡ none ++ a ∷ [] → two ≡ one ++ b ∷ [] → three ≡ two ++ c ∷ [] → four ≡ three ++ d ∷ [] → five ≡ four ++ e ∷ []
    → face_data a ≡ fa → face_data b ≡ fb → face_data c ≡ fc → face_data d ≡ fd → face_data e ≡ fe → map face_data five ≡ fa ∷ fb ∷ fc ∷ fd ∷ fe ∷ []
five_added a b c d e none one two three four five fa fb fc fd fe empty first second third fourth fifth ga gb gc gd ge =
    ap (map face_data) (fifth ∙ (λ i. fourth i ++ e ∷ []) ∙ (λ i. (third i ++ d ∷ []) ++ e ∷ []) ∙ (λ i. ((second i ++ c ∷ []) ++ d ∷ []) ++ e ∷ []) ∙ (λ i. (((first i ++ b ∷ []) ++ c ∷ []) ++ d ∷ []) ++ e ∷ []) ∙ (λ i. ((((empty i ++ a ∷ []) ++ b ∷ []) ++ c ∷ []) ++ d ∷ []) ++ e ∷ []))
    ∙ (λ i. ga i ∷ gb i ∷ gc i ∷ gd i ∷ ge i ∷ [])

-- the widths of the flanges on N and S, and on E and W
abbrev pub north_width : ℕ → ℤ
north_width n = drawn_length 100000 n 0 51 -ℤ pos 4000

abbrev pub east_width : ℕ → ℤ
east_width n = drawn_length 80000 n 1 41 -ℤ pos 4000

-- a face more, or none
abbrev pub added_if : Bool → List FaceData → FaceData → List FaceData
added_if b faces face = if b then faces ++ face ∷ [] else faces

-- the faces with N's second flange; then with E's, where it has one; then with S's; then with W's, where it has one
abbrev pub with_north : ℕ → List FaceData
with_north n = first_faces (state n 2) (drawn_length 100000 n 0 51) (drawn_length 80000 n 1 41) ++ second_from (state n 10) 5 N (north_width n) ∷ []

abbrev pub with_east : ℕ → Bool → List FaceData
with_east n east = added_if east (with_north n) (second_from (next (state n 12)) 6 E (east_width n))

-- the state at which the draws of S's second flange begin
abbrev pub south_state : ℕ → Bool → ℕ
south_state n east = if east then state_after 3 (state n 12) else next (state n 12)

abbrev pub with_south : ℕ → Bool → List FaceData
with_south n east = with_east n east ++ second_from (south_state n east) (length (with_east n east)) S (north_width n) ∷ []

abbrev pub with_west : ℕ → Bool → Bool → List FaceData
with_west n east west = added_if west (with_south n east) (second_from (next (state_after 2 (south_state n east))) (length (with_south n east)) W (east_width n))

-- a second flange that was added
pub added : (side : Side) (xs ys : List Face) (faces : List FaceData) (x y : ℕ) (w v : ℤ) → map face_data xs ≡ faces → x ≡ y → w ≡ v → map face_data ys ≡ map face_data xs ++ second_from x (length xs) side w ∷ []
    → map face_data ys ≡ faces ++ second_from y (length faces) side v ∷ []
added side xs ys faces x y w v same at wide is =
    let count : length xs ≡ length faces = sym (length-map xs face_data) ∙ ap length same in
    is ∙ (λ i. same i ++ second_from (at i) (count i) side (wide i) ∷ [])

pub added_by_choice : (side : Side) (xs ys : List Face) (faces : List FaceData) (x y : ℕ) (w v : ℤ) → map face_data xs ≡ faces → x ≡ y → w ≡ v
    → map face_data ys ≡ (if answer x 2 == 1 then map face_data xs ++ second_from (next x) (length xs) side w ∷ [] else map face_data xs)
    → map face_data ys ≡ added_if (answer y 2 == 1) faces (second_from (next y) (length faces) side v)
added_by_choice side xs ys faces x y w v same at wide is =
    let count : length xs ≡ length faces = sym (length-map xs face_data) ∙ ap length same in
    is ∙ (λ i. added_if (answer (at i) 2 == 1) (same i) (second_from (next (at i)) (count i) side (wide i)))

-- whether E, and whether W, has a second flange
abbrev pub east_test : ℕ → Bool
east_test n = answer (state n 12) 2 == 1

abbrev pub west_test : ℕ → Bool → Bool
west_test n east = answer (state_after 2 (south_state n east)) 2 == 1

pub all_faces : (n : ℕ) (east west : Bool) → east_test n ≡ east → west_test n east ≡ west → with_west n east west ≡ generated_faces n
unfolding generated_faces drawn state
all_faces n true true e w = rw (e, w) refl
all_faces n true false e w = rw (e, w) refl
all_faces n false true e w = rw (e, w) refl
all_faces n false false e w = rw (e, w) refl
