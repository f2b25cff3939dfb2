-- The job of a number: a rectangle with a flange or two on each side, on one setup. Lengths are in
-- micrometres.
use Rattle.std.specs.Prelude.{ℕ, ◌+◌, ◌*◌, ◌==◌, ℤ, pos, ◌-ℤ◌, List, [], ◌∷◌, ◌++◌, codes, Bool}
use Rattle.std.specs.Prelude.{if◌then◌else◌, Some, None}
use Rattle.part_file.specs.declared.part.Side.{Side}
use Rattle.part_file.specs.declared.part.Side.TheVariants.{N, E, S, W}
use Rattle.part_file.specs.declared.part.Dir.{Dir}
use Rattle.part_file.specs.declared.part.Dir.TheVariants.{Up, Down}
use Rattle.part_file.specs.Part.{FaceData, PartData, side_length}
use Rattle.job_setup.specs.Setup.{JobData}
use Rattle.part_gen.specs.Draws.{drawn}
use Rattle.part_gen.specs.CommonSetup.{common_setup}

-- the name of the face of a number below 10: the letter f and the number's digit
abbrev pub face_name : ℕ → List ℕ
face_name number = codes "f" ++ (48 + number) ∷ []

-- face 0 of these sizes
abbrev pub root_face : ℤ → ℤ → FaceData
root_face width length = record { name = face_name 0; width = width; length = length; joint = None }

-- the number of the first flange of a side of face 0
abbrev pub first_number : Side → ℕ
first_number N = 1
first_number E = 2
first_number S = 3
first_number W = 4

-- the first flange of a side: it stands 2 mm from the side's start
abbrev pub first_face : Side → ℤ → ℤ → Dir → FaceData
first_face side width length dir =
    record {
      name = face_name (first_number side);
      width = width;
      length = length;
      joint = Some (record { on = 0; side = side; at = pos 2000; dir = dir });
    }

-- the second flange of a side, as the face of this number: it stands along the far side of the
-- first
abbrev pub second_face : ℕ → Side → ℤ → ℤ → Dir → FaceData
second_face number side width length dir =
    record {
      name = face_name number;
      width = width;
      length = length;
      joint = Some (record { on = first_number side; side = N; at = pos 0; dir = dir });
    }

-- up where 0 is drawn, else down
abbrev pub dir_of : ℕ → Dir
dir_of drawn = if drawn == 0 then Up else Down

abbrev pub drawn_dir : ℕ → ℕ → Dir
drawn_dir n k = dir_of (drawn n k 2)

-- a length that is drawn: the least one and up to m - 1 whole millimetres more
abbrev pub drawn_length : ℕ → ℕ → ℕ → ℕ → ℤ
drawn_length least n k m = pos (least + 1000 * drawn n k m)

-- face 0: 100 to 150 mm wide and 80 to 120 mm long
abbrev pub root : ℕ → FaceData
root n = root_face (drawn_length 100000 n 0 51) (drawn_length 80000 n 1 41)

-- how wide the flanges of a side of face 0 are: 2 mm of the side stay free at either end
abbrev pub flange_width : ℕ → Side → ℤ
flange_width n side = side_length side (root n) -ℤ pos 4000

-- the first flange of a side, from draw k on: 20 to 30 mm long
abbrev pub first_flange : ℕ → Side → ℕ → FaceData
first_flange n side k =
    first_face side (flange_width n side) (drawn_length 20000 n k 11) (drawn_dir n (k + 1))

-- the second flange of a side, from draw k on: 15 to 20 mm long
abbrev pub second_flange : ℕ → ℕ → Side → ℕ → FaceData
second_flange n number side k =
    second_face number side (flange_width n side) (drawn_length 15000 n k 6) (drawn_dir n (k + 1))

-- E, and W, get a second flange exactly where this draw is 1
abbrev pub has_second : ℕ → ℕ → Bool
has_second n k = drawn n k 2 == 1

-- the second flanges of S and of W, from this number and draw on
abbrev pub last_flanges : ℕ → ℕ → ℕ → List FaceData
last_flanges n number k =
    second_flange n number S k
    ∷ (if has_second n (k + 2) then second_flange n (number + 1) W (k + 3) ∷ [] else [])

-- the second flanges in the order of the sides
abbrev pub second_flanges : ℕ → List FaceData
second_flanges n =
    second_flange n 5 N 10
    ∷ (if has_second n 12 then second_flange n 6 E 13 ∷ last_flanges n 7 15
    else last_flanges n 6 13)

-- face 0, the first flange of each side, and the second flanges
unfoldable pub generated_faces : ℕ → List FaceData
generated_faces n =
    root n ∷ first_flange n N 2 ∷ first_flange n E 4 ∷ first_flange n S 6 ∷ first_flange n W 8
    ∷ second_flanges n

-- a part of 2 mm of S235 with an inner radius of 2 mm
abbrev pub generated_part : ℕ → PartData
generated_part n =
    record {
      material = codes "S235";
      thickness = pos 2000;
      radius = pos 2000;
      faces = generated_faces n;
    }

-- the job of number n; 1919 is the half deduction of that sheet with a factor k of 0.65
abbrev pub generated_job : ℕ → JobData
generated_job n = record { part = generated_part n; q = pos 1919; setup = common_setup }
