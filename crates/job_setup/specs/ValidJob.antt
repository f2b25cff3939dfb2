-- What makes a job valid.
use Rattle.std.specs.Prelude.{◌≡◌, ◌<◌, ◌≤◌, ℤ, pos, neg_ℤ, ◌+ℤ◌, ◌≤ℤ◌, [], length, All, Option}
use Rattle.std.specs.Prelude.{Some, None, Ok, IsOk}
use Rattle.part_file.specs.Part.{IsPart, half_thickness}
use Rattle.unfolder.specs.Blank.{blank_of_part}
use Rattle.allowance.specs.Bounds.{greatest_half_deduction}
use Rattle.tool_library.specs.Bounds.{greatest_load}
use Rattle.tool_library.specs.Tools.{IsPunch, IsDie, IsLimit}
use Rattle.toml_fields.specs.Ranges.{IsWithin}
use Rattle.machine_file.specs.Bounds.{most_frames, most_fixed_boxes, most_stages, most_pieces}
use Rattle.machine_file.specs.Bounds.{greatest_uncovered, greatest_force, greatest_fine}
use Rattle.machine_file.specs.Machine.{coordinate_limit, IsBedRange, IsFixed, IsGaugeRule, IsCosts}
use Rattle.machine_file.specs.Machine.{IsPiece}
use Rattle.job_setup.specs.Setup.{StageData, SetupData, JobData}
use Rattle.job_setup.specs.Stages.{total}
use Rattle.job_setup.specs.Places.{places_fit}

-- a stage's load, in newtons per millimetre, or 0 for none
abbrev pub IsStageLoad : ℤ → Type 0
IsStageLoad n = IsWithin (pos 0) greatest_load n

-- a stage is made of its pieces, and its tools have neither stock nor a limit of their own
pub record IsStage (s : StageData) : Type 0 where
  pub punch : IsPunch s.punch
  pub die : IsDie s.die
  pub no_punch_sections : s.punch.sections ≡ []
  pub no_die_sections : s.die.sections ≡ []
  pub no_punch_limit : s.punch.limit ≡ pos 0
  pub no_die_limit : s.die.limit ≡ pos 0
  pub at : IsWithin (neg_ℤ coordinate_limit) coordinate_limit s.x0
  pub long : s.x1 ≡ s.x0 +ℤ total s.pieces
  pub some_piece : 0 < length s.pieces
  pub few_pieces : length s.pieces ≤ most_pieces
  pub pieces : All IsPiece s.pieces
  pub load : IsStageLoad s.load
  pub limit : IsLimit s.limit

-- the frames and the fixed boxes of the machine
pub record HasFixtures (s : SetupData) : Type 0 where
  pub frames : All IsBedRange s.frames
  pub few_frames : length s.frames ≤ most_frames
  pub upper : All (IsFixed (pos 0) coordinate_limit) s.upper
  pub few_upper : length s.upper ≤ most_fixed_boxes
  pub lower : All (IsFixed (neg_ℤ coordinate_limit) (pos 0)) s.lower
  pub few_lower : length s.lower ≤ most_fixed_boxes

-- its bed, its backgauge and its numbers
pub record HasRules (s : SetupData) : Type 0 where
  pub bed : IsBedRange s.bed
  pub gauge : IsGaugeRule s.gauge
  pub cost : IsCosts s.cost
  pub uncovered : IsWithin (pos 0) greatest_uncovered s.uncovered
  pub force : IsWithin (pos 0) greatest_force s.force
  pub fine : s.fine ≤ greatest_fine

-- its stages, each by itself and beside one another
pub record HasStages (s : SetupData) : Type 0 where
  pub each : All IsStage s.stages
  pub few_stages : length s.stages ≤ most_stages
  pub places : places_fit s.bed s.stages ≡ Ok tt

-- all ranges hold, and the stages are equally high, apart, on the bed, and at least one
pub record IsSetup (s : SetupData) : Type 0 where
  pub fixtures : HasFixtures s
  pub rules : HasRules s
  pub stages : HasStages s

-- the part unfolds with its half deduction, which is at least half of the thickness, and the setup
-- is valid
pub record IsJob (j : JobData) : Type 0 where
  pub part : IsPart j.part
  pub q_low : half_thickness j.part ≤ℤ j.q
  pub q_high : j.q ≤ℤ greatest_half_deduction
  pub unfolds : IsOk (blank_of_part j.part j.q)
  pub setup : IsSetup j.setup

-- what values give: a job, which they are, exactly where they are a valid one
abbrev pub IsJobFrom : Option JobData → JobData → Type 0
IsJobFrom (Some job) values = (job ≡ values) × IsJob values
IsJobFrom None values = IsJob values → ⊥
