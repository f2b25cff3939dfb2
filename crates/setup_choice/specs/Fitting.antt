-- What becomes of a setup on a machine: a job with the first choice of its pieces, no choice, or a
-- refusal.
use Rattle.std.specs.Prelude.{◌≡◌, ℕ, ℤ, List, [], ◌∷◌, map, zip, position, bytes_eq, unwrap_or}
use Rattle.std.specs.Prelude.{Some, None, Result, Ok, Err}
use Rattle.toml_fields.specs.Results.{◌>>=◌, each_from}
use Rattle.part_file.specs.Part.{PartData}
use Rattle.allowance.specs.AllowTable.{half_deduction_in}
use Rattle.tool_library.specs.Tools.{ToolsData}
use Rattle.machine_file.specs.Machine.{StageTextData, MachineData, with_stages}
use Rattle.job_setup.specs.declared.fault.JobFault.{JobFault}
use Rattle.job_setup.specs.declared.fault.JobFault.TheVariants.{Allow}
use Rattle.job_setup.specs.Setup.{JobData}
use Rattle.job_setup.specs.Stages.{stage_of_text}
use Rattle.job_setup.specs.Places.{places_fit}
use Rattle.job_setup.specs.Loads.{loads_fit}
use Rattle.job_setup.specs.JobOf.{refusing, unfolds, job_in}
use Rattle.piece_pick.specs.declared.want.Want.{Want}
use Rattle.piece_pick.specs.Choice.{IsPick}
use Rattle.setup_choice.specs.declared.outcome.Fit.{Fit}
use Rattle.setup_choice.specs.declared.outcome.Fit.TheVariants.{Ready, Short}
use Rattle.setup_choice.specs.Setups.{StageWantData, OneSetupData}

-- the stage of a machine that a wanted stage becomes when it is made of these pieces
abbrev pub made_of : StageWantData × List ℤ → StageTextData
made_of made = record {
  punch = made.0.punch;
  die = made.0.die;
  at = made.0.at;
  pieces = made.1;
}

-- the wanted stages, each made of the pieces of its place
abbrev pub made_of_choice : List StageWantData → List (List ℤ) → List StageTextData
made_of_choice stages choice = map made_of (zip stages choice)

-- a wanted stage made of one piece, whatever the stock holds: it runs from `at` to `at + length`
abbrev pub in_one_piece : StageWantData → StageTextData
in_one_piece stage = made_of (stage, stage.length ∷ [])

-- the part has a half deduction and unfolds, or the refusal
unfoldable pub part_fits : PartData → ToolsData → Result (Unit {0}) JobFault
part_fits part tools = do
  q ← refusing Allow (half_deduction_in tools.allow part)
  unfolds part q

-- the stages' tools are there, and the stages fit the bed and the load table, whatever pieces they
-- are made of; or the first refusal
unfoldable pub stages_stand :
    PartData → ToolsData → MachineData → OneSetupData → Result (Unit {0}) JobFault
stages_stand part tools machine one = do
  stages ← each_from (stage_of_text part tools) 0 (map in_one_piece one.stages)
  placed ← places_fit machine.bed stages
  loads_fit part tools.loads stages

-- the refusals of a job but for that of the stock, in their order
unfoldable pub setup_fits :
    PartData → ToolsData → MachineData → OneSetupData → Result (Unit {0}) JobFault
setup_fits part tools machine one = do
  fitted ← part_fits part tools
  stages_stand part tools machine one

-- the place of the punch of a name, and of the die of a name; 0 where there is none
abbrev pub punch_place : ToolsData → List ℕ → ℕ
punch_place tools name = unwrap_or (position (λ punch. bytes_eq punch.name name) tools.punches) 0

abbrev pub die_place : ToolsData → List ℕ → ℕ
die_place tools name = unwrap_or (position (λ die. bytes_eq die.name name) tools.dies) 0

-- what a stage wants of the stock: its tools by their places, and its length
abbrev pub want_of : ToolsData → StageWantData → Want
want_of tools stage = record {
  punch = punch_place tools stage.punch;
  die = die_place tools stage.die;
  length = stage.length;
}

abbrev pub wants_of : ToolsData → List StageWantData → List Want
wants_of tools stages = map (want_of tools) stages

-- the job of a setup whose stages are made of the pieces of a choice
abbrev pub job_of_choice :
    PartData → ToolsData → MachineData → OneSetupData → List (List ℤ) → Result JobData JobFault
job_of_choice part tools machine one choice =
    job_in part tools (with_stages machine (made_of_choice one.stages choice))

-- the job of the first choice of pieces, that there is no choice, or the first refusal
abbrev pub IsFit :
    PartData → ToolsData → MachineData → OneSetupData → Result Fit JobFault → Type 0
IsFit part tools machine one (Err fault) = setup_fits part tools machine one ≡ Err fault
IsFit part tools machine one (Ok Short) =
    (setup_fits part tools machine one ≡ Ok tt) × IsPick tools (wants_of tools one.stages) None
IsFit part tools machine one (Ok (Ready job)) =
    (setup_fits part tools machine one ≡ Ok tt)
    × ((choice : List (List ℤ)) × IsPick tools (wants_of tools one.stages) (Some choice)
    × (job_of_choice part tools machine one choice ≡ Ok job))
