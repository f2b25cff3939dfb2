-- From what the calls of `setups` say to what it answers.
use Rattle.std.proofs.Common.{◌≡◌, ℕ, ◌<◌, ◌≤◌, ℤ, List, [], ◌∷◌, length, Result, Ok, Err, refl, arith}
use Rattle.std.specs.List.{AllZip}
use Rattle.allowance.specs.declared.table.AllowFault.{AllowFault}
use Rattle.allowance.specs.AllowTable.{half_deduction_in}
use Rattle.unfolder.specs.declared.blank.UnfoldFault.{UnfoldFault}
use Rattle.unfolder.specs.Blank.{blank_of_part}
use Rattle.part_file.specs.Part.{PartData}
use Rattle.tool_library.specs.Tools.{ToolsData}
use Rattle.machine_file.specs.Machine.{MachineData}
use Rattle.job_setup.specs.declared.fault.JobFault.{JobFault}
use Rattle.setup_choice.specs.declared.fault.SetupFault.TheVariants as setup
use Rattle.setup_choice.specs.Setups.{OneSetupData}
use Rattle.setup_choice.specs.Fitting.{part_fits, setup_fits}
use Rattle.command_runner.specs.Answers.{AnswerData}
use Rattle.brake_commands.specs.declared.setup_list.SetupsStop.{SetupsStop}
use Rattle.brake_commands.specs.declared.setup_list.SetupsStop.TheVariants as stop
use Rattle.brake_commands.specs.SetupList.{JobFilesData, SetupList, SetupsFault, list_refused, AnswersList}
use Rattle.brake_commands.specs.SetupStops.{FittedData, IsFitted, ListStopsAt, IsFaultAnd, StopsAtSetup}
use Rattle.brake_commands.specs.Attempts.{AttemptData, IsAttemptOf}
use Rattle.brake_commands.specs.SetupsAnswer.{IsListAnswer, setup_refused}
use Rattle.brake_commands.proofs.Trying.{stands, as_many}

-- the answer to files that give no list
pub list_stopped : (P : SetupList → AnswerData → Type 0) (why : SetupsStop) (read : Result SetupList SetupsFault) (answer : AnswerData) → ListStopsAt why read → IsFaultAnd why (λ fault. answer ≡ list_refused fault)
    → AnswersList P read answer
list_stopped P (stop.File r) read answer stops told = rw stops told
list_stopped P (stop.Setups fault) read answer stops told = rw stops told
list_stopped P stop.NoMemory read answer stops told = absurd told

-- the answer to files that give a list
pub list_answers : (P : SetupList → AnswerData → Type 0) (list : SetupList) (read : Result SetupList SetupsFault) (answer : AnswerData) → read ≡ Ok list → P list answer → AnswersList P read answer
list_answers P list read answer reads is = rw reads is

-- the answer to a list of which a setup is refused
pub setup_stopped : (name : List ℕ) (files : JobFilesData) (setups : List OneSetupData) (why : SetupsStop) (answer : AnswerData) → StopsAtSetup files setups why → IsFaultAnd why (λ fault. answer ≡ list_refused fault)
    → IsListAnswer name (record { files = files; setups = setups }) answer
setup_stopped name files setups (stop.Setups (setup.Job place fault)) answer first told = setup_refused place fault first told
setup_stopped name files setups (stop.Setups setup.NotToml) answer first told = absurd first
setup_stopped name files setups (stop.Setups (setup.BadField table key)) answer first told = absurd first
setup_stopped name files setups (stop.Setups (setup.UnknownKey table)) answer first told = absurd first
setup_stopped name files setups (stop.Setups (setup.TooMany table)) answer first told = absurd first
setup_stopped name files setups (stop.Setups (setup.SameName place)) answer first told = absurd first
setup_stopped name files setups (stop.Setups setup.NoMemory) answer first told = absurd first
setup_stopped name files setups (stop.File r) answer first told = absurd first
setup_stopped name files setups stop.NoMemory answer first told = absurd told

-- where a setup stands, the part unfolds
part_stands : (part : PartData) (tools : ToolsData) (machine : MachineData) (one : OneSetupData) (r : Result (Unit {0}) JobFault) → part_fits part tools ≡ r → setup_fits part tools machine one ≡ Ok tt → part_fits part tools ≡ Ok tt
unfolding setup_fits
part_stands part tools machine one (Ok u) is stand = is
part_stands part tools machine one (Err fault) is stand =
    let clash = rw is at stand in
    absurd (cc)

pub first_stands : (files : JobFilesData) (setups : List OneSetupData) (fits : List FittedData) → 0 < length setups → AllZip (IsFitted files) setups fits → part_fits files.part files.tools ≡ Ok tt
first_stands files [] fits some fitted = absurd (omega (arith, some))
first_stands files (one ∷ setups) [] some fitted = absurd fitted
first_stands files (one ∷ setups) (fit ∷ fits) some (own, fitted) =
    part_stands files.part files.tools files.machine one (part_fits files.part files.tools) refl (stands files one fit.fit own.fits)

-- a part that fits has its deduction and its blank
pub no_deduction : (part : PartData) (tools : ToolsData) (fault : AllowFault) → part_fits part tools ≡ Ok tt → half_deduction_in tools.allow part ≡ Err fault → ⊥
unfolding part_fits
no_deduction part tools fault fits refused =
    let clash = rw refused at fits in
    cc

pub no_blank : (part : PartData) (tools : ToolsData) (q : ℤ) (fault : UnfoldFault) → part_fits part tools ≡ Ok tt → half_deduction_in tools.allow part ≡ Ok q → blank_of_part part q ≡ Err fault → ⊥
unfolding part_fits
no_blank part tools q fault fits deducted refused =
    let clash = rw (deducted, refused) at fits in
    cc

-- there are as many attempts as setups
pub few_attempts : (files : JobFilesData) (setups : List OneSetupData) (fits : List FittedData) (attempts : List AttemptData) → length setups ≤ 16
    → AllZip (IsFitted files) setups fits → AllZip IsAttemptOf fits attempts → length attempts ≤ 16
few_attempts files setups fits attempts few fitted tried =
    omega (arith, few, as_many (IsFitted files) setups fits fitted, as_many IsAttemptOf fits attempts tried)
