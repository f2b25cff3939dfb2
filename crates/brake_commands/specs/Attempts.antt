-- What trying the setups of a list comes to.
use Rattle.std.specs.Prelude.{◌≡◌, ℕ, List, [], map, Option, Some, None, IfSome, option_map}
use Rattle.std.specs.List.{slice_get}
use Rattle.job_setup.specs.Setup.{JobData}
use Rattle.job_setup.specs.ValidJob.{IsJob}
use Rattle.plan_cert.specs.Cert.{CertData}
use Rattle.setup_choice.specs.declared.outcome.Fit.{Fit}
use Rattle.setup_choice.specs.declared.outcome.Fit.TheVariants.{Ready, Short}
use Rattle.setup_choice.specs.declared.cheapest.Tried.{Tried}
use Rattle.setup_choice.specs.declared.cheapest.Tried.TheVariants as tried
use Rattle.setup_choice.specs.Setups.{OneSetupData}
use Rattle.brake_commands.specs.declared.attempts.PlannedJob.{PlannedJob}
use Rattle.brake_commands.specs.declared.attempts.Attempt.{Attempt}
use Rattle.brake_commands.specs.PlanAnswer.{IsPlanCert, HasFewRows}
use Rattle.brake_commands.specs.SetupList.{JobFilesData}
use Rattle.brake_commands.specs.SetupStops.{FittedData, FitsAs}

-- a job, and a certificate for it
pub record PlannedData : Type 0 where
  pub job : JobData
  pub cert : CertData

-- a setup that was tried: its name, and its job with a certificate, where the stock has a choice of
-- pieces
pub record AttemptData : Type 0 where
  pub name : List ℕ
  pub planned : Option PlannedData

-- what contracts see of the code's types, which keep no rows of a certificate
abbrev pub planned_data : PlannedJob → PlannedData
planned_data p = record {
  job = p.job;
  cert = record { claim = p.claim; steps = p.steps.items; rows = []; notes = [] };
}

abbrev pub attempt_data : Attempt → AttemptData
attempt_data a = record { name = a.name.bytes; planned = option_map planned_data a.planned }

-- the job is valid, and its certificate proves what it claims, the least cost of a plan or that
-- there is none
pub record IsPlannedJob (planned : PlannedData) : Type 0 where
  pub valid : IsJob planned.job
  pub proves : IsPlanCert planned.job planned.cert
  pub few_rows : HasFewRows None planned.job planned.cert

-- what a fit comes to: no choice, or its job with such a certificate
abbrev pub IsPlannedAs : Fit → Option PlannedData → Type 0
IsPlannedAs Short None = Unit {0}
IsPlannedAs (Ready job) (Some planned) = (planned.job ≡ job) × IsPlannedJob planned
IsPlannedAs Short (Some planned) = ⊥
IsPlannedAs (Ready job) None = ⊥

-- what trying a fitted setup came to
pub record IsAttemptOf (fitted : FittedData) (attempt : AttemptData) : Type 0 where
  pub name : attempt.name ≡ fitted.name
  pub planned : IsPlannedAs fitted.fit attempt.planned

-- what trying a setup came to
pub record IsAttempt (files : JobFilesData) (one : OneSetupData) (attempt : AttemptData)
    : Type 0 where
  pub name : attempt.name ≡ one.name
  pub fit : Fit
  pub fits : FitsAs files one fit
  pub planned : IsPlannedAs fit attempt.planned

-- how a setup did among the others: it has no choice of pieces, or this is claimed of its plans
abbrev pub tried_of : Option PlannedData → Tried
tried_of None = tried.Short
tried_of (Some planned) = tried.Planned planned.cert.claim

-- how all did
abbrev pub tried_all : List AttemptData → List Tried
tried_all attempts = map (λ attempt. tried_of attempt.planned) attempts

-- what is kept of a planned job once its certificate is stored: the claim and the steps
abbrev pub kept_of : PlannedData → PlannedData
kept_of planned = record planned { cert = record planned.cert { rows = []; notes = [] } }

abbrev pub kept_attempt : AttemptData → AttemptData
kept_attempt attempt = record attempt { planned = option_map kept_of attempt.planned }

-- its certificate is one of its job, if it has one
abbrev pub IsPlannedWell : AttemptData → Type 0
IsPlannedWell attempt = IfSome attempt.planned IsPlannedJob

-- this is kept of a tried setup whose certificate is one of its job, if it has one
abbrev pub IsKept : AttemptData → Type 0
IsKept kept = (attempt : AttemptData) × IsPlannedWell attempt × (kept ≡ kept_attempt attempt)

-- the tried setup of this place, with its planned job
abbrev pub IsPlannedAt : List AttemptData → ℕ → PlannedData → Type 0
IsPlannedAt attempts place planned =
    (attempt : AttemptData) × (slice_get attempts place ≡ Some attempt)
    × (attempt.planned ≡ Some planned)
