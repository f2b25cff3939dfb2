-- The steps of the definition of a job, one after the other.
use Rattle.std.proofs.Common.{◌≡◌, ℤ, List, Result, Ok, Err, ap, ◌∙◌}
use Rattle.std.specs.Prelude.{OnOk}
use Rattle.toml_fields.specs.Results.{◌>>=◌, each_from}
use Rattle.part_file.specs.Part.{PartData}
use Rattle.tool_library.specs.Tools.{ToolsData}
use Rattle.machine_file.specs.Machine.{MachineData}
use Rattle.job_setup.specs.declared.fault.JobFault.{JobFault}
use Rattle.job_setup.specs.Setup.{StageData}
use Rattle.job_setup.specs.Stages.{stage_of_text}
use Rattle.job_setup.specs.Places.{places_fit}
use Rattle.job_setup.specs.Stock.{stock_suffices}
use Rattle.job_setup.specs.Loads.{loads_fit}
use Rattle.job_setup.specs.JobOf.{unfolds, setup_of, stages_fit, job_with}

goes : {A B E : Type 0} (r : Result A E) (f : A → Result B E) (a : A) → r ≡ Ok a → (r >>= f) ≡ f a
goes r f a is = ap (λ s. s >>= f) is

stops : {A B E : Type 0} (r : Result A E) (f : A → Result B E) (e : E) → r ≡ Err e → (r >>= f) ≡ Err e
stops r f e is = ap (λ s. s >>= f) is

-- the refusals of the stages, and that there is none before the loads
pub stops_at_places : (part : PartData) (tools : ToolsData) (machine : MachineData) (stages : List StageData) (e : JobFault) → places_fit machine.bed stages ≡ Err e → stages_fit part tools machine stages ≡ Err e
unfolding stages_fit
stops_at_places part tools machine stages e one = stops _ _ e one

pub stops_at_stock : (part : PartData) (tools : ToolsData) (machine : MachineData) (stages : List StageData) (e : JobFault) → places_fit machine.bed stages ≡ Ok tt → stock_suffices tools machine.stages ≡ Err e → stages_fit part tools machine stages ≡ Err e
unfolding stages_fit
stops_at_stock part tools machine stages e one two = goes _ _ tt one ∙ stops _ _ e two

pub ends_at_loads : (part : PartData) (tools : ToolsData) (machine : MachineData) (stages : List StageData) → places_fit machine.bed stages ≡ Ok tt → stock_suffices tools machine.stages ≡ Ok tt → stages_fit part tools machine stages ≡ loads_fit part tools.loads stages
unfolding stages_fit
ends_at_loads part tools machine stages one two = goes _ _ tt one ∙ goes _ _ tt two

-- the refusals of a part with its half deduction, and its job
abbrev pub AreStages : PartData → ToolsData → MachineData → Result (List StageData) JobFault → Type 0
AreStages part tools machine given = each_from (stage_of_text part tools) 0 machine.stages ≡ given

pub stops_at_blank : (part : PartData) (q : ℤ) (tools : ToolsData) (machine : MachineData) (e : JobFault) → unfolds part q ≡ Err e → job_with part q tools machine ≡ Err e
unfolding job_with
stops_at_blank part q tools machine e one = stops _ _ e one

pub stops_at_stages : (part : PartData) (q : ℤ) (tools : ToolsData) (machine : MachineData) (e : JobFault) → unfolds part q ≡ Ok tt → AreStages part tools machine (Err e) → job_with part q tools machine ≡ Err e
unfolding job_with
stops_at_stages part q tools machine e one two = goes _ _ tt one ∙ stops _ _ e two

pub stops_at_fit : (part : PartData) (q : ℤ) (tools : ToolsData) (machine : MachineData) (stages : List StageData) (e : JobFault) → unfolds part q ≡ Ok tt → AreStages part tools machine (Ok stages) → stages_fit part tools machine stages ≡ Err e → job_with part q tools machine ≡ Err e
unfolding job_with
stops_at_fit part q tools machine stages e one two three = goes _ _ tt one ∙ goes _ _ stages two ∙ stops _ _ e three

pub gives_job : (part : PartData) (q : ℤ) (tools : ToolsData) (machine : MachineData) (stages : List StageData) → unfolds part q ≡ Ok tt → AreStages part tools machine (Ok stages) → stages_fit part tools machine stages ≡ Ok tt
    → job_with part q tools machine ≡ Ok (record { part = part; q = q; setup = setup_of machine stages })
unfolding job_with
gives_job part q tools machine stages one two three = goes _ _ tt one ∙ goes _ _ stages two ∙ goes _ _ tt three

pub on_ok : {A E : Type 0} (r : Result A E) (P : Type 0) → P → OnOk r P
on_ok (Ok a) P p = p
on_ok (Err e) P p = tt
