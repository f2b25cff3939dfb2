-- A setup that isn't refused gives a job with each choice of its pieces.
use Rattle.std.proofs.Common.{◌≡◌, suc, ◌≤◌, ℤ, List, [], ◌∷◌, map, length, Result, Ok, All}
use Rattle.std.proofs.Common.{refl, sym, ap, subst, ◌∙◌}
use Rattle.toml_fields.specs.Results.{◌>>=◌, each_from}
use Rattle.toml_fields.proofs.Bind.{bind_ok}
use Rattle.part_file.specs.Part.{PartData}
use Rattle.allowance.specs.AllowTable.{half_deduction_in}
use Rattle.tool_library.specs.Tools.{ToolsData}
use Rattle.machine_file.specs.Bounds.{most_stages}
use Rattle.machine_file.specs.Machine.{StageTextData, MachineData, IsStageText, IsMachine, with_stages}
use Rattle.job_setup.specs.declared.fault.JobFault.{JobFault}
use Rattle.job_setup.specs.declared.fault.JobFault.TheVariants.{Allow}
use Rattle.job_setup.specs.Setup.{JobData}
use Rattle.job_setup.specs.Stages.{stage_of_text}
use Rattle.job_setup.specs.Places.{places_fit}
use Rattle.job_setup.specs.JobOf.{refusing, unfolds, setup_of, stages_fit, job_with, job_in}
use Rattle.job_setup.proofs.Steps.{ends_at_loads, gives_job}
use Rattle.piece_pick.specs.Choice.{AreMadeUp, IsChoice, IsWant}
use Rattle.setup_choice.specs.Setups.{StageWantData, OneSetupData, IsOneSetup}
use Rattle.setup_choice.specs.Fitting.{in_one_piece, made_of_choice, part_fits}
use Rattle.setup_choice.specs.Fitting.{stages_stand, setup_fits, want_of, wants_of, job_of_choice}
use Rattle.setup_choice.proofs.Bare.{judged, in_one_is, stand_alike}
use Rattle.setup_choice.proofs.ToolPlaces.{HasTools, tools_of_texts, wants_are}
use Rattle.setup_choice.proofs.Choices.{made_wanted, stock_fits}

-- the machine with stages that keep to its rules
pub machine_is : (machine : MachineData) (texts : List StageTextData) → IsMachine machine
    → All IsStageText texts → length texts ≤ most_stages → IsMachine (with_stages machine texts)
machine_is machine texts fit each few = record {
  bed = fit.bed;
  frames = fit.frames;
  few_frames = fit.few_frames;
  upper = fit.upper;
  few_upper = fit.few_upper;
  lower = fit.lower;
  few_lower = fit.few_lower;
  uncovered = fit.uncovered;
  gauge = fit.gauge;
  cost = fit.cost;
  stages = each;
  few_stages = few;
  force = fit.force;
  fine = fit.fine;
}

-- a choice has a list for each stage
pub each_has_list : (tools : ToolsData) (stages : List StageWantData) (choice : List (List ℤ))
    → AreMadeUp (map (want_of tools) stages) choice → length choice ≡ length stages
each_has_list tools [] [] each = refl
each_has_list tools [] (pieces ∷ choice) each = absurd each
each_has_list tools (s ∷ stages) [] each = absurd each
each_has_list tools (s ∷ stages) (pieces ∷ choice) each =
    ap suc (each_has_list tools stages choice each.1)

-- the tools of a setup that isn't refused are there
stages_have_tools : (part : PartData) (tools : ToolsData) (machine : MachineData)
    (one : OneSetupData) → stages_stand part tools machine one ≡ Ok tt
    → All (HasTools tools) one.stages
unfolding stages_stand
stages_have_tools part tools machine one given =
    let made = map in_one_piece one.stages in
    let read = bind_ok (each_from (stage_of_text part tools) 0 made) _ tt given in
    subst (λ (ss : List StageWantData). All (HasTools tools) ss) (in_one_is one.stages)
    (tools_of_texts part tools 0 made read.0 read.1)

pub setup_has_tools : (part : PartData) (tools : ToolsData) (machine : MachineData)
    (one : OneSetupData) → setup_fits part tools machine one ≡ Ok tt
    → All (HasTools tools) one.stages
unfolding setup_fits
setup_has_tools part tools machine one given =
    let fitted = bind_ok (part_fits part tools) _ tt given in
    stages_have_tools part tools machine one fitted.2

pub wants_fit : (part : PartData) (tools : ToolsData) (machine : MachineData)
    (one : OneSetupData) → IsOneSetup one → setup_fits part tools machine one ≡ Ok tt
    → All (IsWant tools) (wants_of tools one.stages)
wants_fit part tools machine one fit given =
    wants_are tools one.stages fit.stages (setup_has_tools part tools machine one given)

-- what is known of the half deduction and the blank
part_gives : (part : PartData) (tools : ToolsData) → part_fits part tools ≡ Ok tt
    → (q : ℤ) × (refusing Allow (half_deduction_in tools.allow part) ≡ Ok q)
    × (unfolds part q ≡ Ok tt)
unfolding part_fits
part_gives part tools given = bind_ok (refusing Allow (half_deduction_in tools.allow part)) _ tt given

job_from_q : (part : PartData) (q : ℤ) (tools : ToolsData) (machine : MachineData)
    → refusing Allow (half_deduction_in tools.allow part) ≡ Ok q
    → job_in part tools machine ≡ job_with part q tools machine
unfolding job_in
job_from_q part q tools machine is =
    ap (λ (r : Result ℤ JobFault). r >>= λ given. job_with part given tools machine) is

-- the job of a choice
pub choice_gives : (part : PartData) (tools : ToolsData) (machine : MachineData)
    (one : OneSetupData) (choice : List (List ℤ)) → setup_fits part tools machine one ≡ Ok tt
    → IsChoice tools (wants_of tools one.stages) choice
    → (job : JobData) × (job_of_choice part tools machine one choice ≡ Ok job)
unfolding setup_fits
choice_gives part tools machine one choice given is =
    let made = made_of_choice one.stages choice in
    let with_made = with_stages machine made in
    let fitted = bind_ok (part_fits part tools) _ tt given in
    let known = part_gives part tools fitted.1 in
    let has = stages_have_tools part tools machine one fitted.2 in
    let wanted = made_wanted tools one.stages choice is.each in
    let stands = sym (stand_alike part tools machine one made wanted) ∙ fitted.2 in
    let read = bind_ok (each_from (stage_of_text part tools) 0 made) (judged part tools machine) tt
    stands in
    let placed = bind_ok (places_fit machine.bed read.0) _ tt read.2 in
    let stock = stock_fits tools one.stages choice has is.stock in
    let fits : stages_fit part tools with_made read.0 ≡ Ok tt =
    ends_at_loads part tools with_made read.0 placed.1 stock ∙ placed.2 in (
      record { part = part; q = known.0; setup = setup_of with_made read.0 },
      job_from_q part known.0 tools with_made known.1
          ∙ gives_job part known.0 tools with_made read.0 known.2 read.1 fits,
    )
