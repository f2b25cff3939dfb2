-- The words of the job lines behind their keywords. Lengths are in micrometres, costs in tenths of
-- a second, forces in newtons.
use Rattle.std.specs.Prelude.{ℕ, zero, suc, ℤ, pos, Bool, true, false, int_le}
use Rattle.std.specs.Prelude.{unsigned_abs, List, [], ◌∷◌, Option, Some, None}
use Rattle.std.specs.Prelude.{if◌then◌else◌}
use Rattle.std.specs.Ordering.{int_eq}
use Rattle.toml_fields.specs.Fields.{checked_name}
use Rattle.toml_fields.specs.Ranges.{is_within}
use Rattle.part_file.specs.declared.part.Side.{Side}
use Rattle.part_file.specs.declared.part.Dir.{Dir}
use Rattle.part_file.specs.Part.{FaceData}
use Rattle.machine_file.specs.Bounds.{greatest_fine}
use Rattle.machine_file.specs.declared.machine.Costs.{Costs}
use Rattle.cert_words.specs.LineWords.{◌>>=◌, both_at, alone, then_in, as_in, count_at, signed_at}
use Rattle.cert_words.specs.LineWords.{pair_at, kind_at, side_of, dir_of}

-- the face below a number on which a face stands, and the side
unfoldable pub parent_at : ℕ → List ℕ → Option ((ℕ × Side) × List ℕ)
parent_at faces text = both_at (count_at 0 faces) (kind_at side_of) text

-- where a face stands along its parent's side, its sizes, and the bend's direction
unfoldable pub standing_in : List ℕ → Option ((ℤ × (ℤ × ℤ)) × Dir)
standing_in text = alone (both_at (both_at signed_at pair_at) (kind_at dir_of)) text

-- a face by its name, its parent, and where it stands there
abbrev pub face_of : List ℕ × ((ℕ × Side) × ((ℤ × (ℤ × ℤ)) × Dir)) → FaceData
face_of x =
    let standing = x.1.1 in
    record {
      name = x.0;
      width = standing.0.1.0;
      length = standing.0.1.1;
      joint =
          Some (record {
            on = x.1.0.0;
            side = x.1.0.1;
            at = standing.0.0;
            dir = standing.1;
          });
    }

-- a face that stands on one of so many faces
unfoldable pub child_in : ℕ → List ℕ → Option FaceData
child_in faces text =
    as_in face_of (then_in (kind_at checked_name) (then_in (parent_at faces) standing_in)) text

-- a number that isn't negative
abbrev pub natural : ℤ → Option ℕ
natural n = if int_le (pos 0) n then Some (unsigned_abs n) else None

-- two numbers that aren't negative
unfoldable pub naturals : ℤ × ℤ → Option (ℕ × ℕ)
naturals pair = do
  first ← natural pair.0
  second ← natural pair.1
  Some (first, second)

-- the costs, where none is negative
unfoldable pub costs_of : (ℤ × ℤ) × ((ℤ × ℤ) × (ℤ × ℤ)) → Option Costs
costs_of pairs = do
  strokes ← naturals pairs.0
  halves ← naturals pairs.1.0
  rolls ← naturals pairs.1.1
  Some (record {
    stroke = strokes.0;
    quarter = strokes.1;
    half = halves.0;
    flip = halves.1;
    roll = rolls.0;
    stage = rolls.1;
  })

-- whether there are gangs: 1 is yes and 0 is no
abbrev pub gang_of : ℤ → Option Bool
gang_of n = if int_eq n (pos 0) then Some false else if int_eq n (pos 1) then Some true else None

-- how often in a row a piece may be halved: 1 to 12, since 0 has no line
abbrev pub fine_of : ℤ → Option ℕ
fine_of n = if is_within (pos 1) (pos greatest_fine) n then Some (unsigned_abs n) else None

-- at most so many numbers, of which nothing is behind
abbrev pub numbers_in : ℕ → List ℕ → Option (List ℤ)
numbers_in most [] = Some []
numbers_in zero (byte ∷ text) = None
numbers_in (suc most) (byte ∷ text) = do
  n ← signed_at (byte ∷ text)
  numbers ← numbers_in most n.1
  Some (n.0 ∷ numbers)

-- a name, and at most 32 numbers behind it
unfoldable pub named_in : List ℕ → Option (List ℕ × List ℤ)
named_in text = then_in (kind_at checked_name) (numbers_in 32) text
