-- A machine as its numbers, lists and texts, and the rules that each machine that is read meets.
use Rattle.std.specs.Prelude.{ℕ, ◌<◌, ◌≤◌, ℤ, pos, neg_ℤ, List, length, map, Bool, All, IsTrue}
use Rattle.toml_fields.specs.Fields.{is_name}
use Rattle.toml_fields.specs.Ranges.{IsWithin, IsRange}
pub use Rattle.machine_file.specs.Bounds.{coordinate_limit}
use Rattle.machine_file.specs.Bounds.{most_frames, most_fixed_boxes, most_stages, most_pieces}
use Rattle.machine_file.specs.Bounds.{least_piece, greatest_piece, greatest_uncovered}
use Rattle.machine_file.specs.Bounds.{greatest_gauge_length, least_finger, greatest_cost, greatest_fine}
use Rattle.machine_file.specs.Bounds.{greatest_force}
use Rattle.machine_file.specs.declared.machine.Fixed.{Fixed}
use Rattle.machine_file.specs.declared.machine.GaugeRule.{GaugeRule}
use Rattle.machine_file.specs.declared.machine.Costs.{Costs}
use Rattle.machine_file.specs.declared.machine.StageText.{StageText}
use Rattle.machine_file.specs.declared.machine.Machine.{Machine}
use Rattle.machine_file.specs.declared.boxes.Fixtures.{Fixtures}

-- a stage by the names of its tools; lengths are in micrometres
pub record StageTextData : Type 0 where
  pub punch : List ℕ
  pub die : List ℕ
  pub at : ℤ
  pub pieces : List ℤ

-- what is fixed on a machine: the range of its bed, those of its side frames, and the boxes above
-- and below the bed
pub record FixturesData : Type 0 where
  pub bed : ℤ × ℤ
  pub frames : List (ℤ × ℤ)
  pub upper : List Fixed
  pub lower : List Fixed

-- a machine: lengths are in micrometres, costs in tenths of a second, the force in newtons;
-- `uncovered` is how much of a bend line may stay uncovered at each end; `fine` is how often in a
-- row a piece of the part may be halved
pub record MachineData : Type 0 where
  pub bed : ℤ × ℤ
  pub frames : List (ℤ × ℤ)
  pub upper : List Fixed
  pub lower : List Fixed
  pub uncovered : ℤ
  pub gauge : GaugeRule
  pub cost : Costs
  pub stages : List StageTextData
  pub gang : Bool
  pub force : ℤ
  pub fine : ℕ

abbrev pub stage_text_data : StageText → StageTextData
stage_text_data s =
    record { punch = s.punch.bytes; die = s.die.bytes; at = s.at; pieces = s.pieces.items }

abbrev pub fixtures_data : Fixtures → FixturesData
fixtures_data f =
    record { bed = f.bed; frames = f.frames.items; upper = f.upper.items; lower = f.lower.items }

abbrev pub machine_data : Machine → MachineData
machine_data m = record {
  bed = m.bed;
  frames = m.frames.items;
  upper = m.upper.items;
  lower = m.lower.items;
  uncovered = m.uncovered;
  gauge = m.gauge;
  cost = m.cost;
  stages = map stage_text_data m.stages.items;
  gang = m.gang;
  force = m.force;
  fine = m.fine;
}

-- the machine with these stages in place of its own
abbrev pub with_stages : MachineData → List StageTextData → MachineData
with_stages m stages = record {
  bed = m.bed;
  frames = m.frames;
  upper = m.upper;
  lower = m.lower;
  uncovered = m.uncovered;
  gauge = m.gauge;
  cost = m.cost;
  stages = stages;
  gang = m.gang;
  force = m.force;
  fine = m.fine;
}

-- a range along the bed
abbrev pub IsBedRange : ℤ × ℤ → Type 0
IsBedRange range = IsRange (neg_ℤ coordinate_limit) coordinate_limit range.0 range.1

-- a fixed box's ranges along and across the bed
pub record HasFootprint (box : Fixed) : Type 0 where
  pub along : IsRange (neg_ℤ coordinate_limit) coordinate_limit box.x0 box.x1
  pub across : IsRange (neg_ℤ coordinate_limit) coordinate_limit box.rect.y0 box.rect.y1

-- a fixed box with an interior, between two heights
pub record IsFixed (low high : ℤ) (box : Fixed) : Type 0 where
  pub footprint : HasFootprint box
  pub upwards : IsRange low high box.rect.z0 box.rect.z1

-- a length of the backgauge
abbrev pub IsLength : ℤ → Type 0
IsLength n = IsWithin (pos 0) greatest_gauge_length n

-- the width or the depth of a finger
abbrev pub IsFinger : ℤ → Type 0
IsFinger n = IsWithin least_finger greatest_gauge_length n

-- the rules of the backgauge
pub record IsGaugeRule (rule : GaugeRule) : Type 0 where
  pub near : IsLength rule.near
  pub far : IsLength rule.far
  pub inset : IsLength rule.inset
  pub finger : IsFinger rule.finger
  pub gap : IsLength rule.gap
  pub depth : IsFinger rule.depth
  pub above : IsLength rule.above
  pub below : IsLength rule.below

-- the rules of the costs
pub record IsCosts (cost : Costs) : Type 0 where
  pub stroke : cost.stroke ≤ greatest_cost
  pub quarter : cost.quarter ≤ greatest_cost
  pub half : cost.half ≤ greatest_cost
  pub flip : cost.flip ≤ greatest_cost
  pub roll : cost.roll ≤ greatest_cost
  pub stage : cost.stage ≤ greatest_cost

-- the length of a piece
abbrev pub IsPiece : ℤ → Type 0
IsPiece n = IsWithin least_piece greatest_piece n

-- the rules of a stage
pub record IsStageText (stage : StageTextData) : Type 0 where
  pub punch : IsTrue (is_name stage.punch)
  pub die : IsTrue (is_name stage.die)
  pub at : IsWithin (neg_ℤ coordinate_limit) coordinate_limit stage.at
  pub some_piece : 0 < length stage.pieces
  pub few_pieces : length stage.pieces ≤ most_pieces
  pub pieces : All IsPiece stage.pieces

-- the rules of the machine file
pub record IsMachine (m : MachineData) : Type 0 where
  pub bed : IsBedRange m.bed
  pub frames : All IsBedRange m.frames
  pub few_frames : length m.frames ≤ most_frames
  pub upper : All (IsFixed (pos 0) coordinate_limit) m.upper
  pub few_upper : length m.upper ≤ most_fixed_boxes
  pub lower : All (IsFixed (neg_ℤ coordinate_limit) (pos 0)) m.lower
  pub few_lower : length m.lower ≤ most_fixed_boxes
  pub uncovered : IsWithin (pos 0) greatest_uncovered m.uncovered
  pub gauge : IsGaugeRule m.gauge
  pub cost : IsCosts m.cost
  pub stages : All IsStageText m.stages
  pub few_stages : length m.stages ≤ most_stages
  pub force : IsWithin (pos 0) greatest_force m.force
  pub fine : m.fine ≤ greatest_fine
