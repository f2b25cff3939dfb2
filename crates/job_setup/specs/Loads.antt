-- The load of a stage by the load table, and the refusals of a stage for which the table has no
-- row, or two.
use Rattle.std.specs.Prelude.{ℕ, ℤ, pos, List, length, find, count_by, position, Bool, ◌&&◌, nat_lt}
use Rattle.std.specs.Prelude.{nat_le, ◌==◌, bytes_eq, Option, Some, None, Result}
use Rattle.std.specs.Ordering.{int_eq}
use Rattle.toml_fields.specs.Results.{◌>>=◌, refuse_found}
use Rattle.part_file.specs.Part.{PartData}
use Rattle.tool_library.specs.Tools.{LoadData}
use Rattle.job_setup.specs.declared.fault.JobFault.{JobFault}
use Rattle.job_setup.specs.declared.fault.JobFault.TheVariants.{NoLoad, TwoLoads}
use Rattle.job_setup.specs.Setup.{StageData}

-- the row is for the part's material and thickness and an opening of this width
abbrev pub is_load_for : PartData → ℤ → LoadData → Bool
is_load_for part v row =
    (bytes_eq row.material part.material && int_eq row.thickness part.thickness) && int_eq row.v v

-- the load of a row, and 0 where there is none
abbrev pub load_of : Option LoadData → ℤ
load_of None = pos 0
load_of (Some row) = row.load

-- the load of a stroke of the part over an opening of this width, by the table
abbrev pub stage_load : PartData → List LoadData → ℤ → ℤ
stage_load part loads v = load_of (find (is_load_for part v) loads)

-- how many rows of the table are for the part over an opening of this width
abbrev pub row_count : PartData → List LoadData → ℤ → ℕ
row_count part loads v = count_by (is_load_for part v) loads

-- the table has rows, and none for this stage
abbrev pub lacks_load : PartData → List LoadData → StageData → Bool
lacks_load part loads stage = nat_lt 0 (length loads) && (row_count part loads stage.die.v == 0)

-- the table has at least two rows for this stage
abbrev pub has_two_loads : PartData → List LoadData → StageData → Bool
has_two_loads part loads stage = nat_le 2 (row_count part loads stage.die.v)

-- the first stage without a row, then the first with two
unfoldable pub loads_fit : PartData → List LoadData → List StageData → Result (Unit {0}) JobFault
loads_fit part loads stages = do
  some ← refuse_found (position (lacks_load part loads) stages) NoLoad
  refuse_found (position (has_two_loads part loads) stages) TwoLoads
