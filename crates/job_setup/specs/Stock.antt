-- What the stages use of the shop's stock of tool pieces.
use Rattle.std.specs.Prelude.{ℕ, ◌+◌, ℤ, List, length, take, sum_by, Bool, ◌||◌}
use Rattle.std.specs.Prelude.{nat_lt, bytes_eq, Result, if◌then◌else◌}
use Rattle.std.specs.List.{list_any}
use Rattle.toml_fields.specs.Results.{refuse_first}
use Rattle.tool_library.specs.Tools.{ToolsData}
use Rattle.tool_library.specs.Stock.{held, punch_sections, die_sections, count_of}
use Rattle.machine_file.specs.Machine.{StageTextData}
use Rattle.job_setup.specs.declared.fault.JobFault.{JobFault}
use Rattle.job_setup.specs.declared.fault.JobFault.TheVariants.{StockShort}
use Rattle.job_setup.specs.declared.stock.ToolKind.{ToolKind}
use Rattle.job_setup.specs.declared.stock.ToolKind.TheVariants.{Punch, Die}
use Rattle.job_setup.specs.Stages.{punch_named, die_named}

-- the sections of the punch, or of the die, of a name
abbrev pub sections_of : ToolsData → ToolKind → List ℕ → List (ℤ × ℕ)
sections_of tools Punch name = punch_sections (punch_named tools.punches name)
sections_of tools Die name = die_sections (die_named tools.dies name)

-- the name of a stage's punch, or of its die
abbrev pub tool_name : ToolKind → StageTextData → List ℕ
tool_name Punch stage = stage.punch
tool_name Die stage = stage.die

-- how many pieces of a length a stage uses with the tool of a name
abbrev pub stage_use : ToolKind → List ℕ → ℤ → StageTextData → ℕ
stage_use kind name length stage =
    if bytes_eq (tool_name kind stage) name then count_of length stage.pieces else 0

-- how many pieces of a length the stages use with the tool of a name
abbrev pub used : ToolKind → List StageTextData → List ℕ → ℤ → ℕ
used kind stages name length = sum_by (stage_use kind name length) stages

-- the stages use a length with the tool of a name more often than its sections hold
unfoldable pub is_used_up : ToolsData → List StageTextData → ToolKind → List ℕ → ℤ → Bool
is_used_up tools stages kind name length =
    nat_lt (held (sections_of tools kind name) length) (used kind stages name length)

-- the stages use some piece length with the tool of a name more often than its sections hold
abbrev pub is_tool_short : ToolsData → List StageTextData → ToolKind → List ℕ → Bool
is_tool_short tools stages kind name =
    list_any (λ stage. list_any (is_used_up tools stages kind name) stage.pieces) stages

-- the stages use some piece length with one tool of this kind more often than its sections hold
abbrev pub is_kind_short : ToolsData → List StageTextData → ToolKind → Bool
is_kind_short tools stages kind =
    list_any (λ stage. is_tool_short tools stages kind (tool_name kind stage)) stages

-- some piece length has been used by stages 0 to i, with one punch or one die, more often than that
-- tool's sections hold
unfoldable pub is_short : ToolsData → List StageTextData → ℕ → Bool
is_short tools stages i =
    is_kind_short tools (take (i + 1) stages) Punch || is_kind_short tools (take (i + 1) stages) Die

-- the first stage at which the stock is short
abbrev pub stock_suffices : ToolsData → List StageTextData → Result (Unit {0}) JobFault
stock_suffices tools stages = refuse_first (is_short tools stages) (length stages) StockShort
