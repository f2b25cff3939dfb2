-- A run of `plan` answers whether the job has a plan, unless something stands against it.
use Rattle.std.specs.Prelude.{◌≡◌, ◌⊎◌, ⊤, ℕ, List, Option, Some, Ok, Err}
use Rattle.brake_base.specs.declared.stroke.Step.{Step}
use Rattle.job_setup.specs.Setup.{JobData}
use Rattle.job_setup.specs.JobOf.{FileFault}
use Rattle.handling_cost.specs.Plan.{IsPlan}
use Rattle.handling_cost.specs.Reach.{ReachIsAbove}
use Rattle.command_runner.specs.declared.word_kind.WordKind.{WordKind}
use Rattle.command_runner.specs.declared.status.Status.{Status}
use Rattle.command_runner.specs.declared.status.Status.TheVariants as ended
use Rattle.command_runner.specs.Delivery.{IsCutShort, Outside}
use Rattle.command_runner.specs.Ends.{RefusesLong}
use Rattle.brake_commands.specs.declared.command.Command.{Command}
use Rattle.brake_commands.specs.declared.command.Command.TheVariants.{Plan}
use Rattle.brake_commands.specs.Forms.{command_of}
use Rattle.brake_commands.specs.Run.{form_for}
use Rattle.brake_commands.specs.JobAnswer.{job_of_files}
use Rattle.brake_commands.specs.Headline.{AreFetched}

-- the run ended with a plan where the job has one, and with there being none where it has none
abbrev pub AnswersClaim : JobData → Status → Type 0
AnswersClaim job status =
    ((status ≡ ended.Done) × ((steps : List Step) × IsPlan job steps))
    ⊎ ((status ≡ ended.NoPlan) × ((steps : List Step) → IsPlan job steps → ⊥))

-- How a run of `plan` ends: with the truth of the job of its files; or because it was cut short, a
-- file was too long, the files give no job, or a budget that was given is below the job's reach.
pub data IsPlanEnd (form : List WordKind) (budget : Option ℕ) (words : List (List ℕ))
    (before now : Outside) (status : Status) : Type 0 where
  is_cut_short : IsCutShort status → IsPlanEnd form budget words before now status
  too_long : RefusesLong form words before now status
      → IsPlanEnd form budget words before now status
  no_job : (contents : List (List ℕ)) (fault : FileFault) → AreFetched form words before contents
      → job_of_files 0 contents ≡ Err fault → status ≡ ended.Refused
      → IsPlanEnd form budget words before now status
  above_budget : (contents : List (List ℕ)) (job : JobData) (most : ℕ)
      → AreFetched form words before contents → job_of_files 0 contents ≡ Ok job
      → budget ≡ Some most → ReachIsAbove job most → status ≡ ended.Spent
      → IsPlanEnd form budget words before now status
  claims : (contents : List (List ℕ)) (job : JobData) → AreFetched form words before contents
      → job_of_files 0 contents ≡ Ok job → AnswersClaim job status
      → IsPlanEnd form budget words before now status

-- a run of `plan` ends so
abbrev pub IsCompleteBy : Option Command → List (List ℕ) → Outside → Outside → Status → Type 0
IsCompleteBy (Some (Plan part tools machine cert budget)) words before now status =
    IsPlanEnd (form_for (Some (Plan part tools machine cert budget))) budget words before now status
IsCompleteBy _ words before now status = ⊤

abbrev pub IsComplete : List (List ℕ) → Outside → Outside → Status → Type 0
IsComplete words before now status = IsCompleteBy (command_of words) words before now status
