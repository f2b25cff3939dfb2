-- Which boxes of the tools and the machine are drawn with a station: those that share x with it, as
-- the files have them, neither lowered nor risen. Stations are apart, so that of the tools they are
-- the station's own. Lengths are in micrometres.
use Rattle.std.specs.Prelude.{ℕ, Bool, nat_le, List, length, map, filter}
use Rattle.std.specs.List.{enumerate_from}
use Rattle.machine_file.specs.declared.machine.Fixed.{Fixed}
use Rattle.job_setup.specs.Setup.{StageData, JobData}
use Rattle.job_setup.specs.StageOf.{stage_of}
use Rattle.job_setup.specs.Places.{range, is_overlap}
use Rattle.job_setup.specs.Obstacles.{upper_boxes, lower_boxes}
use Rattle.sheet_views.specs.declared.stations.Tool.{Tool}

abbrev pub tool_of : ℕ × Fixed → Tool
tool_of numbered = record { index = numbered.0; body = numbered.1 }

-- the boxes of a group by their numbers, from 0
abbrev pub numbered : List Fixed → List Tool
numbered boxes = map tool_of (enumerate_from 0 boxes)

-- the box shares x with the stage
abbrev pub is_along : StageData → Tool → Bool
is_along stage tool = is_overlap (tool.body.x0, tool.body.x1) (range stage)

-- those of the beam and the punches that share x with a stage
abbrev pub upper_tools : JobData → ℕ → List Tool
upper_tools job stage = filter (is_along (stage_of job stage)) (numbered (upper_boxes job))

-- those of the bed and the dies, the dies' upper edges at z = 0
abbrev pub lower_tools : JobData → ℕ → List Tool
lower_tools job stage = filter (is_along (stage_of job stage)) (numbered (lower_boxes job))

-- the boxes of all dies, which come after the machine's
abbrev pub die_boxes : JobData → List Tool
die_boxes job =
    filter (λ tool. nat_le (length job.setup.lower) tool.index) (numbered (lower_boxes job))
