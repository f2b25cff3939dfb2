-- A setup of a machine, and a job, as numbers, lists and texts. Lengths are in micrometres.
use Rattle.std.specs.Prelude.{ℕ, ◌-◌, ℤ, List, length, map, Bool}
use Rattle.part_file.specs.Part.{PartData}
use Rattle.tool_library.specs.Tools.{PunchData, DieData, punch_data, die_data}
use Rattle.fold_boxes.specs.Shapes.{ShapeData}
use Rattle.machine_file.specs.declared.machine.Fixed.{Fixed}
use Rattle.machine_file.specs.declared.machine.GaugeRule.{GaugeRule}
use Rattle.machine_file.specs.declared.machine.Costs.{Costs}
use Rattle.job_setup.specs.declared.setup.Stage.{Stage}
use Rattle.job_setup.specs.declared.setup.Setup.{Setup}

-- a stage: its tools, where it stands on the bed, the lengths of its pieces, its load and its limit
-- in newtons per millimetre
pub record StageData : Type 0 where
  pub punch : PunchData
  pub die : DieData
  pub x0 : ℤ
  pub x1 : ℤ
  pub pieces : List ℤ
  pub load : ℤ
  pub limit : ℤ

-- a machine with its stages: costs are in tenths of a second, the force in newtons; `fine` is how
-- often in a row a piece of the part may be halved
pub record SetupData : Type 0 where
  pub bed : ℤ × ℤ
  pub frames : List (ℤ × ℤ)
  pub upper : List Fixed
  pub lower : List Fixed
  pub uncovered : ℤ
  pub gauge : GaugeRule
  pub cost : Costs
  pub stages : List StageData
  pub gang : Bool
  pub force : ℤ
  pub fine : ℕ

-- a part, half of what its outside sizes lose at each bend, and the setup on which it is bent
pub record JobData : Type 0 where
  pub part : PartData
  pub q : ℤ
  pub setup : SetupData

-- the number of bends, one for each face but face 0, and the number of stages
abbrev pub bend_count : JobData → ℕ
bend_count job = length job.part.faces - 1

abbrev pub stage_count : JobData → ℕ
stage_count job = length job.setup.stages

-- the part of a job, with its half deduction
abbrev pub shape_of : JobData → ShapeData
shape_of job = record { part = job.part; q = job.q }

abbrev pub stage_data : Stage → StageData
stage_data s = record {
  punch = punch_data s.punch;
  die = die_data s.die;
  x0 = s.x0;
  x1 = s.x1;
  pieces = s.pieces.items;
  load = s.load;
  limit = s.limit;
}

abbrev pub setup_data : Setup → SetupData
setup_data s = record {
  bed = s.bed;
  frames = s.frames.items;
  upper = s.upper.items;
  lower = s.lower.items;
  uncovered = s.uncovered;
  gauge = s.gauge;
  cost = s.cost;
  stages = map stage_data s.stages.items;
  gang = s.gang;
  force = s.force;
  fine = s.fine;
}
