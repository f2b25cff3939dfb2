-- The stages of a setup beside one another.
use Rattle.std.specs.Prelude.{ℕ, ◌==◌, ℤ, pos, int_lt, int_le, List, map, length, position, find}
use Rattle.std.specs.Prelude.{slice_index_or, Bool, not, ◌&&◌, Option, Some, None, Result, Ok, Err}
use Rattle.std.specs.Ordering.{int_eq}
use Rattle.std.specs.Int.{int_min, int_max}
use Rattle.toml_fields.specs.Results.{◌>>=◌, refuse_first, refuse_found, refuse_if}
use Rattle.unfolder.specs.Blank.{pairs_below}
use Rattle.job_setup.specs.declared.fault.JobFault.{JobFault}
use Rattle.job_setup.specs.declared.fault.JobFault.TheVariants.{UnequalHeight, StageOverlap, OffBed}
use Rattle.job_setup.specs.declared.fault.JobFault.TheVariants.{NoStage}
use Rattle.job_setup.specs.Setup.{StageData}

-- how high the punch and the die of a stage are
abbrev pub heights : StageData → ℤ × ℤ
heights stage = (stage.punch.height, stage.die.height)

-- the range of a stage along the bed
abbrev pub range : StageData → ℤ × ℤ
range stage = (stage.x0, stage.x1)

-- two numbers of the stage of an index
abbrev pub at_stage : (StageData → ℤ × ℤ) → List StageData → ℕ → ℤ × ℤ
at_stage numbers stages i = slice_index_or (map numbers stages) i (pos 0, pos 0)

abbrev pub is_unequal : ℤ × ℤ → ℤ × ℤ → Bool
is_unequal a b = not (int_eq a.0 b.0 && int_eq a.1 b.1)

-- the punch or the die of the stage isn't as high as that of stage 0
abbrev pub differs_from_first : List StageData → ℕ → Bool
differs_from_first stages i = is_unequal (at_stage heights stages 0) (at_stage heights stages i)

-- the ranges share an interior point: the greater lower end is below the smaller upper end
abbrev pub is_overlap : ℤ × ℤ → ℤ × ℤ → Bool
is_overlap a b = int_lt (int_max a.0 b.0) (int_min a.1 b.1)

-- two stages overlap
abbrev pub is_overlap_of : List StageData → ℕ × ℕ → Bool
is_overlap_of stages pair = is_overlap (at_stage range stages pair.0) (at_stage range stages pair.1)

-- the stage isn't within the bed
abbrev pub is_off_bed : ℤ × ℤ → StageData → Bool
is_off_bed bed stage = not (int_le bed.0 stage.x0 && int_le stage.x1 bed.1)

-- a refusal of the pair, where there is one
abbrev pub refuse_pair : Option (ℕ × ℕ) → Result (Unit {0}) JobFault
refuse_pair None = Ok tt
refuse_pair (Some pair) = Err (StageOverlap pair.0 pair.1)

-- the first stage with other heights than stage 0, then the first pair in order of its first and
-- then its second that overlaps, then the first stage off the bed, and then that there is no stage
unfoldable pub places_fit : ℤ × ℤ → List StageData → Result (Unit {0}) JobFault
places_fit bed stages = do
  level ← refuse_first (differs_from_first stages) (length stages) UnequalHeight
  apart ← refuse_pair (find (is_overlap_of stages) (pairs_below (length stages)))
  on_bed ← refuse_found (position (is_off_bed bed) stages) OffBed
  refuse_if (length stages == 0) NoStage
