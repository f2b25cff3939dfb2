-- The job lines so far: what they give, and what is given before the first.
use Rattle.std.specs.Prelude.{◌≡◌, ℤ, pos, Bool, true, false, List, [], ℕ, Option, Some, None}
use Rattle.part_file.specs.Part.{PartData, part_data}
use Rattle.machine_file.specs.declared.machine.GaugeRule.{GaugeRule}
use Rattle.machine_file.specs.declared.machine.Costs.{Costs}
use Rattle.tool_library.specs.Tools.{PunchData, DieData}
use Rattle.job_setup.specs.Setup.{StageData, SetupData, JobData, stage_data, setup_data}
use Rattle.cert_lines.specs.declared.format.Format.{Format}
use Rattle.cert_lines.specs.declared.job_section.JobSection.{JobSection}
use Rattle.cert_lines.specs.declared.job_section.JobSection.TheVariants as sections
use Rattle.cert_lines.specs.declared.job_reading.JobLines.{JobLines}

-- the job lines so far: their format, the section of the last one, the values that they give, the
-- stage that isn't complete yet, and whether no cost is negative, `gang` is 0 or 1, and `fine` is 1
-- to 12
pub record JobLinesData : Type 0 where
  pub format : Format
  pub section : JobSection
  pub part : PartData
  pub q : ℤ
  pub setup : SetupData
  pub stage : StageData
  pub is_sound : Bool

abbrev pub job_lines_data : JobLines → JobLinesData
job_lines_data s =
    record {
      format = s.format;
      section = s.section;
      part = part_data s.part;
      q = s.q;
      setup = setup_data s.setup;
      stage = stage_data s.stage;
      is_sound = s.is_sound;
    }

-- a line was taken, or was refused and changed nothing
abbrev pub Takes : Option (Unit {0}) → JobLines → JobLines → Option JobLinesData → Type 0
Takes (Some _) old new there = there ≡ Some (job_lines_data new)
Takes None old new there = (there ≡ None) × (job_lines_data new ≡ job_lines_data old)

-- a part without faces
abbrev pub begun_part : List ℕ → ℤ → ℤ → PartData
begun_part material thickness radius =
    record { material = material; thickness = thickness; radius = radius; faces = [] }

-- tools without boxes
abbrev pub begun_punch : List ℕ → ℤ → ℤ → PunchData
begun_punch name height nose =
    record {
      name = name;
      height = height;
      nose = nose;
      body = [];
      sections = [];
      limit = pos 0;
    }

abbrev pub begun_die : List ℕ → ℤ → ℤ → ℤ → DieData
begun_die name height v least_flange =
    record {
      name = name;
      height = height;
      v = v;
      least_flange = least_flange;
      body = [];
      sections = [];
      limit = pos 0;
    }

-- a stage of which only its range is known
abbrev pub begun_stage : ℤ → ℤ → StageData
begun_stage x0 x1 =
    record {
      punch = begun_punch [] (pos 0) (pos 0);
      die = begun_die [] (pos 0) (pos 0) (pos 0);
      x0 = x0;
      x1 = x1;
      pieces = [];
      load = pos 0;
      limit = pos 0;
    }

abbrev pub no_gauge : GaugeRule
no_gauge =
    record {
      near = pos 0;
      far = pos 0;
      inset = pos 0;
      finger = pos 0;
      gap = pos 0;
      depth = pos 0;
      above = pos 0;
      below = pos 0;
    }

abbrev pub no_costs : Costs
no_costs = record { stroke = 0; quarter = 0; half = 0; flip = 0; roll = 0; stage = 0 }

-- a setup of which only its bed is known
abbrev pub begun_setup : ℤ × ℤ → SetupData
begun_setup bed =
    record {
      bed = bed;
      frames = [];
      upper = [];
      lower = [];
      uncovered = pos 0;
      gauge = no_gauge;
      cost = no_costs;
      stages = [];
      gang = false;
      force = pos 0;
      fine = 0;
    }

-- nothing but the format is read
abbrev pub no_lines : Format → JobLinesData
no_lines format =
    record {
      format = format;
      section = sections.Start;
      part = begun_part [] (pos 0) (pos 0);
      q = pos 0;
      setup = begun_setup (pos 0, pos 0);
      stage = begun_stage (pos 0) (pos 0);
      is_sound = true;
    }

-- the values that the job lines give
abbrev pub job_of : JobLinesData → JobData
job_of s = record { part = s.part; q = s.q; setup = s.setup }
