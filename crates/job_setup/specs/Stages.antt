-- The stages of a machine with the tools of their names.
use Rattle.std.specs.Prelude.{ℕ, ℤ, pos, ◌+ℤ◌, List, [], fold, find, bytes_eq, Option, Result, Ok}
use Rattle.std.specs.Prelude.{ok_or, if◌then◌else◌}
use Rattle.std.specs.Ordering.{int_eq}
use Rattle.std.specs.Int.{int_min}
use Rattle.toml_fields.specs.Results.{◌>>=◌}
use Rattle.part_file.specs.Part.{PartData}
use Rattle.tool_library.specs.Tools.{PunchData, DieData, LoadData, ToolsData}
use Rattle.machine_file.specs.Machine.{StageTextData}
use Rattle.job_setup.specs.declared.fault.JobFault.{JobFault}
use Rattle.job_setup.specs.declared.fault.JobFault.TheVariants.{UnknownTool}
use Rattle.job_setup.specs.Setup.{StageData}
use Rattle.job_setup.specs.Loads.{stage_load}

-- the punch of a name, and the die of a name
abbrev pub punch_named : List PunchData → List ℕ → Option PunchData
punch_named punches name = find (λ punch. bytes_eq punch.name name) punches

abbrev pub die_named : List DieData → List ℕ → Option DieData
die_named dies name = find (λ die. bytes_eq die.name name) dies

-- the shape of a tool: what the shop has of it is left out, and its limit stands in its stage
abbrev pub punch_shape : PunchData → PunchData
punch_shape p = record {
  name = p.name;
  height = p.height;
  nose = p.nose;
  body = p.body;
  sections = [];
  limit = pos 0;
}

abbrev pub die_shape : DieData → DieData
die_shape d = record {
  name = d.name;
  height = d.height;
  v = d.v;
  least_flange = d.least_flange;
  body = d.body;
  sections = [];
  limit = pos 0;
}

-- how long the pieces are together
abbrev pub total : List ℤ → ℤ
total pieces = fold ◌+ℤ◌ (pos 0) pieces

-- the least of the two limits that aren't 0, or 0; a limit of 0 is none
abbrev pub least_limit : ℤ → ℤ → ℤ
least_limit a b = if int_eq a (pos 0) then b else if int_eq b (pos 0) then a else int_min a b

-- a stage with these tools, from where it begins to the end of its pieces
abbrev pub stage_with : PartData → List LoadData → StageTextData → PunchData → DieData → StageData
stage_with part loads text punch die = record {
  punch = punch_shape punch;
  die = die_shape die;
  x0 = text.at;
  x1 = text.at +ℤ total text.pieces;
  pieces = text.pieces;
  load = stage_load part loads die.v;
  limit = least_limit punch.limit die.limit;
}

-- the stage of a number, with the tools of its names
unfoldable pub stage_of_text : PartData → ToolsData → ℕ → StageTextData → Result StageData JobFault
stage_of_text part tools stage text = do
  punch ← ok_or (punch_named tools.punches text.punch) (UnknownTool stage)
  die ← ok_or (die_named tools.dies text.die) (UnknownTool stage)
  Ok (stage_with part tools.loads text punch die)
