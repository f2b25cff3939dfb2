-- Where to look for a short stock once the stages before have enough: at the stage's own tools and
-- lengths.
use Rattle.std.specs.Prelude.{ℕ, ◌+◌, pos, List, [], take, slice_index_or, Bool, ◌||◌}
use Rattle.std.specs.List.{list_any}
use Rattle.tool_library.specs.Tools.{ToolsData}
use Rattle.machine_file.specs.Machine.{StageTextData}
use Rattle.job_setup.specs.declared.stock.ToolKind.{ToolKind}
use Rattle.job_setup.specs.declared.stock.ToolKind.TheVariants.{Punch, Die}
use Rattle.job_setup.specs.Stock.{tool_name, is_used_up}

-- the stages use one of this stage's lengths with its tool of this kind more often than that tool's
-- sections hold
abbrev pub overuses : ToolsData → List StageTextData → StageTextData → ToolKind → Bool
overuses tools stages stage kind =
    list_any (is_used_up tools stages kind (tool_name kind stage)) stage.pieces

-- the same with its punch or with its die
abbrev pub runs_short : ToolsData → List StageTextData → StageTextData → Bool
runs_short tools stages stage = overuses tools stages stage Punch || overuses tools stages stage Die

-- what stands past the last stage
abbrev pub no_stage_text : StageTextData
no_stage_text = record { punch = []; die = []; at = pos 0; pieces = [] }

abbrev pub stage_text_at : List StageTextData → ℕ → StageTextData
stage_text_at stages i = slice_index_or stages i no_stage_text

-- stages 0 to i use one of stage i's lengths with its punch or its die more often than that tool's
-- sections hold
unfoldable pub is_stage_short : ToolsData → List StageTextData → ℕ → Bool
is_stage_short tools stages i = runs_short tools (take (i + 1) stages) (stage_text_at stages i)
