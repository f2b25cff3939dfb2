-- The headline: what a run of `plan` has done that ends with a plan, or with there being none.
--
-- A plan that is printed folds the printed blank into exactly the part; at each bend the sweep
-- covers avoid tools, machine and the part itself, and the gauge touches a legal edge; no plan of
-- the stated space costs less; `no plan` is answered only where that space is empty; and the
-- checker confirms the claim from the stored certificate alone.
use Rattle.std.specs.Prelude.{◌≡◌, ◌⊎◌, ⊤, ℕ, ◌≤◌, List, [], ◌∷◌, ◌++◌, length, Option, Some, Ok}
use Rattle.std.specs.List.{AllZip}
use Rattle.brake_base.specs.declared.stroke.Key.{Key}
use Rattle.brake_base.specs.declared.stroke.Step.{Step}
use Rattle.unfolder.specs.Blank.{BlankData}
use Rattle.job_setup.specs.Setup.{JobData}
use Rattle.sweep_check.specs.MotionFree.{IsMotionFree}
use Rattle.handling_cost.specs.StepCost.{key_after}
use Rattle.handling_cost.specs.Plan.{pose_before, IsGaugeFor, IsUnopposed, start}
use Rattle.handling_cost.specs.Good.{AreClaimed}
use Rattle.setup_sheet.specs.Sheets.{blank_text, setup_text}
use Rattle.plan_cert.specs.Cert.{CertData}
use Rattle.plan_cert.specs.CertText.{cert_text2}
use Rattle.cert_check.specs.Checking.{CheckedData, IsAccepted, verdict_of}
use Rattle.brake_io.specs.Meanings.{WhereTold, Puts}
use Rattle.command_runner.specs.declared.word_kind.WordKind.{WordKind}
use Rattle.command_runner.specs.declared.status.Status.{Status}
use Rattle.command_runner.specs.declared.status.Status.TheVariants as ended
use Rattle.command_runner.specs.Fetching.{word_at, files_of, IsContent}
use Rattle.command_runner.specs.Delivery.{Outside, HoldsAll}
use Rattle.brake_commands.specs.declared.command.Command.{Command}
use Rattle.brake_commands.specs.declared.command.Command.TheVariants.{Plan}
use Rattle.brake_commands.specs.Forms.{command_of}
use Rattle.brake_commands.specs.Run.{form_for}
use Rattle.brake_commands.specs.JobAnswer.{job_of_files}
use Rattle.brake_commands.specs.PlanAnswer.{claim_status, last_text, IsBlankOf, IsPlanCert, HasFewRows}
use Rattle.handling_cost.specs.Claim.{IsTrueClaim}

-- a fact of each step of a plan, at the key to which the steps before it lead
abbrev pub EachStep : JobData → (Key → Step → Type 0) → Key → List Step → Type 0
EachStep job P key [] = ⊤
EachStep job P key (step ∷ steps) =
    P key step × EachStep job P (key_after job key step.action) steps

-- the sweep covers avoid tools, machine and the part itself: no reason holds against the stroke,
-- but that no gauge may be legal
abbrev pub SweepCoversAvoid : JobData → Key → Step → Type 0
SweepCoversAvoid job key step = IsUnopposed job key.mask step.action

-- so the part itself, bent at the step's stage, comes at no turn and no rise inside a tool, the
-- machine or its own other half
abbrev pub MovesFree : JobData → Key → Step → Type 0
MovesFree job key step =
    IsMotionFree job step.action.stage (pose_before job key.mask step.action)

-- the gauge touches a legal edge
abbrev pub TouchesLegalEdge : JobData → Key → Step → Type 0
TouchesLegalEdge job key step = IsGaugeFor job key.mask step.action step.gauge

-- the claim and its job, as the checker answers them
abbrev pub claim_of : JobData → CertData → CheckedData
claim_of job cert = record { verdict = verdict_of cert.claim; job = job }

-- the checker confirms the claim from this text alone: the text is accepted as this claim of this
-- job, and as no other
pub record ConfirmsAlone (text : List ℕ) (job : JobData) (cert : CertData) : Type 0 where
  pub accepted : IsAccepted text (claim_of job cert)
  pub alone : (checked : CheckedData) → IsAccepted text checked → checked ≡ claim_of job cert

-- The run's claim is that of a certificate: the least cost of a plan, or that there is none.
pub record Headline (job : JobData) (name : List ℕ) (budget : Option ℕ)
    (before now : Outside) (status : Status) : Type 0 where
  pub blank : BlankData
  pub cert : CertData
  pub ends : status ≡ claim_status cert.claim
  pub prints : Puts before.sink now.sink
      (blank_text job.part blank ++ setup_text job ++ last_text job cert.claim cert.steps)
  pub folds_into_the_part : IsBlankOf job blank
  pub claimed : AreClaimed job cert.claim cert.steps
  pub sweep_covers_avoid : EachStep job (SweepCoversAvoid job) start cert.steps
  pub moves_free : EachStep job (MovesFree job) start cert.steps
  pub legal_edge : EachStep job (TouchesLegalEdge job) start cert.steps
  pub costs_least : IsTrueClaim job cert.claim
  pub stored_certificate : WhereTold before.shelf now.shelf
      (HoldsAll (record { name = name; text = cert_text2 job cert } ∷ []))
  pub proves : IsPlanCert job cert
  pub few_rows : HasFewRows budget job cert
  pub within_the_limit : length (cert_text2 job cert) ≤ 1073741824
  pub confirms_alone : ConfirmsAlone (cert_text2 job cert) job cert

-- the run ended with a plan, or with there being none
abbrev pub IsClaimed : Status → Type 0
IsClaimed status = (status ≡ ended.Done) ⊎ (status ≡ ended.NoPlan)

-- the contents of all files were fetched; where the shelf tells what it holds, they are held
abbrev pub AreFetched : List WordKind → List (List ℕ) → Outside → List (List ℕ) → Type 0
AreFetched form words before contents =
    AllZip (IsContent before.shelf) (files_of form words) contents

-- the contents that were fetched give a job, and this run has the headline for it
pub record IsPlannedRun (form : List WordKind) (name : List ℕ) (budget : Option ℕ)
    (words : List (List ℕ)) (before now : Outside) (status : Status) : Type 0 where
  pub contents : List (List ℕ)
  pub are_fetched : AreFetched form words before contents
  pub job : JobData
  pub is_job : job_of_files 0 contents ≡ Ok job
  pub headline : Headline job name budget before now status

-- a run of `plan` that ends with a claim has the headline, over any shelf
abbrev pub HasHeadlineBy : Option Command → List (List ℕ) → Outside → Outside → Status → Type 0
HasHeadlineBy (Some (Plan part tools machine cert budget)) words before now status =
    IsClaimed status
    → IsPlannedRun (form_for (Some (Plan part tools machine cert budget))) (word_at words cert)
    budget words before now status
HasHeadlineBy _ words before now status = ⊤

abbrev pub HasHeadline : List (List ℕ) → Outside → Outside → Status → Type 0
HasHeadline words before now status = HasHeadlineBy (command_of words) words before now status
