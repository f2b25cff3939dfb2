-- The job of each number is valid.
use Rattle.std.proofs.Common.{◌≡◌, ℕ, ◌+◌, ◌<◌, ◌≤◌, ℤ, pos, ◌≤ℤ◌, Bool, true, false, List, codes, length, refl, subst, sym, arith}
use Rattle.std.specs.Prelude.{IsOk}
use Rattle.std.proofs.lemmas.Int.{ints}
use Rattle.part_file.specs.declared.part.Side.{Side}
use Rattle.part_file.specs.Part.{FaceData, PartData, IsPart}
use Rattle.unfolder.specs.Blank.{blank_of_part}
use Rattle.job_setup.specs.Setup.{SetupData}
use Rattle.job_setup.specs.ValidJob.{IsJob}
use Rattle.part_gen.specs.Draws.{answer, drawn}
use Rattle.part_gen.specs.CommonSetup.{common_setup}
use Rattle.part_gen.specs.Generator.{drawn_length, drawn_dir, has_second, generated_faces, generated_part, generated_job}
use Rattle.part_gen.proofs.Sides.{by_side, each_side}
use Rattle.part_gen.proofs.Laid.{Sizes, AreInRange}
use Rattle.part_gen.proofs.Unfolding.{unfolds, is_part}
use Rattle.part_gen.proofs.Shapes.{sizes, Bends, AreLong, faces_of, roles_of, is_flanged}
use Rattle.part_gen.proofs.Setups.{is_setup}

-- a draw is below its number of choices
drawn_below : (n k m : ℕ) → 0 < m → drawn n k m < m
unfolding drawn answer
drawn_below n k m some = omega arith

-- where the last draws begin: behind those of E's second flange, where there is one
abbrev last_draw : Bool → ℕ
last_draw true = 15
last_draw false = 13

abbrev lengths : ℕ → Side → ℤ
lengths n = by_side (drawn_length 20000 n 2 11) (drawn_length 20000 n 4 11) (drawn_length 20000 n 6 11) (drawn_length 20000 n 8 11)

abbrev drawn_sizes : ℕ → Bool → Bool → Sizes
drawn_sizes n east west = sizes (pos 1919) (drawn_length 100000 n 0 51) (drawn_length 80000 n 1 41) (lengths n) east west

abbrev drawn_bends : ℕ → ℕ → Bends
drawn_bends n k = record {
  first_dir = by_side (drawn_dir n 3) (drawn_dir n 5) (drawn_dir n 7) (drawn_dir n 9);
  dir = by_side (drawn_dir n 11) (drawn_dir n 14) (drawn_dir n (k + 1)) (drawn_dir n (k + 4));
  length = by_side (drawn_length 15000 n 10 6) (drawn_length 15000 n 13 6) (drawn_length 15000 n k 6) (drawn_length 15000 n (k + 3) 6);
}

-- the range of a drawn length
pub record IsDrawn (low high n : ℤ) : Type 0 where
  pub bottom : low ≤ℤ n
  pub top : n ≤ℤ high

length_is : (least n k m : ℕ) → 0 < m → m ≤ 100 → least ≤ 1000000 → IsDrawn (pos least) (pos 10000000) (drawn_length least n k m)
length_is least n k m some few short =
    let below : drawn n k m < m = drawn_below n k m some in
    record { bottom = omega (arith, ints); top = omega (arith, ints) }

in_range : (n : ℕ) (east west : Bool) → AreInRange (drawn_sizes n east west)
in_range n east west =
    let width = length_is 100000 n 0 51 (omega arith) (omega arith) (omega arith) in
    let long = length_is 80000 n 1 41 (omega arith) (omega arith) (omega arith) in
    let first : (side : Side) → IsDrawn (pos 20000) (pos 10000000) (lengths n side) = each_side (IsDrawn (pos 20000) (pos 10000000)) _ _ _ _
    (length_is 20000 n 2 11 (omega arith) (omega arith) (omega arith)) (length_is 20000 n 4 11 (omega arith) (omega arith) (omega arith))
    (length_is 20000 n 6 11 (omega arith) (omega arith) (omega arith)) (length_is 20000 n 8 11 (omega arith) (omega arith) (omega arith)) in
    record {
      q_low = omega (arith, ints);
      q_high = omega (arith, ints);
      width_low = omega (arith, ints, width.bottom);
      width_high = width.top;
      length_low = long.bottom;
      length_high = long.top;
      first_low = λ side. let low = (first side).bottom in omega (arith, ints);
      first_high = λ side. (first side).top;
    }

are_long : (n k : ℕ) → AreLong (drawn_bends n k)
are_long n k =
    let second : (side : Side) → IsDrawn (pos 15000) (pos 10000000) ((drawn_bends n k).length side) = each_side (IsDrawn (pos 15000) (pos 10000000)) _ _ _ _
    (length_is 15000 n 10 6 (omega arith) (omega arith) (omega arith)) (length_is 15000 n 13 6 (omega arith) (omega arith) (omega arith))
    (length_is 15000 n k 6 (omega arith) (omega arith) (omega arith)) (length_is 15000 n (k + 3) 6 (omega arith) (omega arith) (omega arith)) in
    record { low = λ side. let low = (second side).bottom in omega (arith, ints); high = λ side. (second side).top }

-- whether E, and whether W, has a second flange
abbrev east_is : ℕ → Bool
east_is n = has_second n 12

abbrev west_is : ℕ → Bool → Bool
west_is n east = has_second n (last_draw east + 2)

-- the faces of a number are one of the four lists
abbrev shape : ℕ → Bool → Bool → List FaceData
shape n east west = faces_of (pos 1919) (drawn_length 100000 n 0 51) (drawn_length 80000 n 1 41) (lengths n) (drawn_bends n (last_draw east)) east west

faces_are : (n : ℕ) (east west : Bool) → east_is n ≡ east → west_is n east ≡ west → generated_faces n ≡ shape n east west
unfolding generated_faces
faces_are n true true e w = rw (e, w) refl
faces_are n true false e w = rw (e, w) refl
faces_are n false true e w = rw (e, w) refl
faces_are n false false e w = rw (e, w) refl

shape_count : (n : ℕ) (east west : Bool) → (0 < length (shape n east west)) × (length (shape n east west) ≤ 9)
shape_count n true true = (omega arith, omega arith)
shape_count n true false = (omega arith, omega arith)
shape_count n false true = (omega arith, omega arith)
shape_count n false false = (omega arith, omega arith)

-- a part of the common sheet
abbrev sheet : List FaceData → PartData
sheet faces = record { material = codes "S235"; thickness = pos 2000; radius = pos 2000; faces = faces }

-- a part of these faces is valid and unfolds
pub record AreFit (faces : List FaceData) : Type 0 where
  pub part : IsPart (sheet faces)
  pub unfolds : IsOk (blank_of_part (sheet faces) (pos 1919))

shape_is : (n : ℕ) (east west : Bool) → AreFit (shape n east west)
shape_is n east west =
    let s = drawn_sizes n east west in
    let fits = is_flanged (pos 1919) (drawn_length 100000 n 0 51) (drawn_length 80000 n 1 41) (lengths n) (drawn_bends n (last_draw east)) east west (in_range n east west) (are_long n (last_draw east)) in
    let count = shape_count n east west in
    record {
      part = is_part s (shape n east west) (roles_of east west) fits count.0 count.1 refl;
      unfolds = unfolds s (sheet (shape n east west)) (roles_of east west) fits;
    }

faces_fit : (n : ℕ) (east west : Bool) → east_is n ≡ east → west_is n east ≡ west → AreFit (generated_faces n)
faces_fit n east west e w = subst AreFit (sym (faces_are n east west e w)) (shape_is n east west)

-- the job of each number is valid
pub generated_is_job : (n : ℕ) → IsJob (generated_job n)
generated_is_job n =
    let fits = faces_fit n (east_is n) (west_is n (east_is n)) refl refl in
    record {
      part = fits.part;
      q_low = omega (arith, ints);
      q_high = omega (arith, ints);
      unfolds = fits.unfolds;
      setup = is_setup;
    }

-- the same, of its part and setup as the code has them
pub made_is_job : (n : ℕ) (part : PartData) (setup : SetupData) → part ≡ generated_part n → setup ≡ common_setup → IsJob (record { part = part; q = pos 1919; setup = setup })
made_is_job n part setup part_is setup_is = subst IsJob (λ i. record { part = sym part_is i; q = pos 1919; setup = sym setup_is i }) (generated_is_job n)
