-- The job lines of a certificate, in order.
use Rattle.std.specs.Prelude.{◌≡◌, All, ℕ, ◌==◌, ℤ, pos, Bool, true, false, List, [], ◌∷◌, ◌++◌, map}
use Rattle.std.specs.Prelude.{if◌then◌else◌}
use Rattle.std.specs.List.{flat_map}
use Rattle.part_file.specs.Part.{PartData}
use Rattle.machine_file.specs.declared.machine.Costs.{Costs}
use Rattle.tool_library.specs.Tools.{PunchData, DieData}
use Rattle.job_setup.specs.Setup.{StageData, SetupData, JobData}
use Rattle.cert_lines.specs.Lines.{CertLine, part_line, face_line, bed_line, frame_line, upper_line}
use Rattle.cert_lines.specs.Lines.{lower_line, uncovered_line, gauge_line, cost_line, gang_line}
use Rattle.cert_lines.specs.Lines.{force_line, fine_line, stage_line, punch_line, die_line, box_line}
use Rattle.cert_lines.specs.Lines.{pieces_line, load_line, lines_text}

-- the sheet and its bends' half deduction, then the faces
abbrev pub part_lines : PartData → ℤ → List CertLine
part_lines part q = part_line part.material part.thickness part.radius q ∷ map face_line part.faces

abbrev pub costs_line : Costs → CertLine
costs_line c =
    cost_line (pos c.stroke) (pos c.quarter) (pos c.half) (pos c.flip) (pos c.roll) (pos c.stage)

-- 1 where several flanges of one side may be bent in one stroke, else 0
abbrev pub gang_number : Bool → ℤ
gang_number true = pos 1
gang_number false = pos 0

-- what is fixed on the machine
abbrev pub fixture_lines : SetupData → List CertLine
fixture_lines s =
    bed_line s.bed ∷ map frame_line s.frames ++ map upper_line s.upper ++ map lower_line s.lower

-- how often in a row a piece may be halved, where it may at all
abbrev pub fine_lines : ℕ → List CertLine
fine_lines depth = if depth == 0 then [] else fine_line (pos depth) ∷ []

-- the machine's rules and costs
abbrev pub rule_lines : SetupData → List CertLine
rule_lines s =
    uncovered_line s.uncovered ∷ gauge_line s.gauge ∷ costs_line s.cost
    ∷ gang_line (gang_number s.gang) ∷ force_line s.force ∷ fine_lines s.fine

abbrev pub punch_lines : PunchData → List CertLine
punch_lines p = punch_line p.name p.height p.nose ∷ map box_line p.body

abbrev pub die_lines : DieData → List CertLine
die_lines d = die_line d.name d.height d.v d.least_flange ∷ map box_line d.body

-- a stage: its range, its punch and its die, its pieces, its load and its limit
abbrev pub stage_lines : StageData → List CertLine
stage_lines s =
    stage_line s.x0 s.x1 ∷ punch_lines s.punch ++ die_lines s.die
    ++ pieces_line s.pieces ∷ load_line s.load s.limit ∷ []

-- the lines of a job in version 2 and in a table file
unfoldable pub job_lines : JobData → List CertLine
job_lines job =
    part_lines job.part job.q ++ fixture_lines job.setup ++ rule_lines job.setup
    ++ flat_map stage_lines job.setup.stages

-- the text of a job: its lines in version 2
unfoldable pub job_text : JobData → List ℕ
job_text job = lines_text (job_lines job)

abbrev pub HasNoLoad : StageData → Type 0
HasNoLoad stage = (stage.load ≡ pos 0) × (stage.limit ≡ pos 0)

-- a job of which version 1 tells all: it has no gangs, no force, no depth and no loads
pub record IsJobOfVersion1 (job : JobData) : Type 0 where
  pub gang : job.setup.gang ≡ false
  pub force : job.setup.force ≡ pos 0
  pub fine : job.setup.fine ≡ 0
  pub loads : All HasNoLoad job.setup.stages
