-- A run of `plan` answers whether the job has a plan, unless something stands against it.
use Rattle.std.proofs.Common.{◌≡◌, inl, inr, ℕ, List, Option, Some, None, Result, Ok, Err, refl, ap, ◌∙◌}
use Rattle.brake_base.specs.declared.stroke.Worth.{Worth}
use Rattle.brake_base.specs.declared.stroke.Worth.TheVariants.{Cost, Blocked}
use Rattle.job_setup.specs.Setup.{JobData}
use Rattle.job_setup.specs.JobOf.{FileFault}
use Rattle.command_runner.specs.declared.status.Status.{Status}
use Rattle.command_runner.specs.Answers.{AnswerData}
use Rattle.command_runner.specs.Fetching.{word_at}
use Rattle.command_runner.specs.Delivery.{Outside}
use Rattle.command_runner.specs.Ends.{AnswersContents, IsOutcome, cut_short, answered, refused_long}
use Rattle.brake_commands.specs.declared.command.Command.{Command}
use Rattle.brake_commands.specs.declared.command.Command.TheVariants.{Blank, Plan, Check, CheckFiles, Trial, Why, Setups, Settle, Merge, Prove}
use Rattle.brake_commands.specs.Run.{form_for, meaning_for}
use Rattle.brake_commands.specs.JobAnswer.{AnswersJob, job_of_files}
use Rattle.brake_commands.specs.PlanAnswer.{claim_status, IsPlanned, by_cert, spent}
use Rattle.handling_cost.specs.Claim.{IsTrueClaim}
use Rattle.brake_commands.specs.Complete.{AnswersClaim, IsPlanEnd, is_cut_short, too_long, no_job, above_budget, claims, IsCompleteBy}
use Rattle.brake_commands.proofs.Claims.{good_claim_true}

claim_answers : (job : JobData) (claim : Worth) (status : Status) → status ≡ claim_status claim → IsTrueClaim job claim → AnswersClaim job status
claim_answers job (Cost cost) status ends true_claim = inl (ends, (true_claim.0, true_claim.1.plan))
claim_answers job Blocked status ends true_claim = inr (ends, true_claim)

module _ (command : Command) (name : List ℕ) (budget : Option ℕ) (words : List (List ℕ)) (before now : Outside) (status : Status) where
  by_planned : (run : AnswersContents (form_for (Some command)) (meaning_for (Some command)) words before now status) (job : JobData) → job_of_files 0 run.contents ≡ Ok job
      → IsPlanned name budget job run.answer → IsPlanEnd (form_for (Some command)) budget words before now status
  by_planned run job gives (by_cert is) =
      claims run.contents job run.are_fetched gives (claim_answers job is.cert.claim status (run.leaves.ends ∙ ap (λ (a : AnswerData). a.status) is.is_answer) (good_claim_true job is.cert is.valid is.proves.proves.proves))
  by_planned run job gives (spent most given above is) =
      above_budget run.contents job most run.are_fetched gives given above (run.leaves.ends ∙ ap (λ (a : AnswerData). a.status) is)

  by_read : (run : AnswersContents (form_for (Some command)) (meaning_for (Some command)) words before now status) (read : Result JobData FileFault) → job_of_files 0 run.contents ≡ read
      → AnswersJob (IsPlanned name budget) read run.answer → IsPlanEnd (form_for (Some command)) budget words before now status
  by_read run (Ok job) gives is = by_planned run job gives is
  by_read run (Err fault) gives is = no_job run.contents fault run.are_fetched gives (run.leaves.ends ∙ ap (λ (a : AnswerData). a.status) is)

plan_complete : (part tools machine cert : ℕ) (budget : Option ℕ) (words : List (List ℕ)) (before now : Outside) (status : Status) → IsOutcome (form_for (Some (Plan part tools machine cert budget))) (meaning_for (Some (Plan part tools machine cert budget))) words before now status
    → IsCompleteBy (Some (Plan part tools machine cert budget)) words before now status
plan_complete part tools machine cert budget words before now status (cut_short short) = is_cut_short short
plan_complete part tools machine cert budget words before now status (refused_long long) = too_long long
plan_complete part tools machine cert budget words before now status (answered run) =
    by_read (Plan part tools machine cert budget) (word_at words cert) budget words before now status run (job_of_files 0 run.contents) refl run.is_answer

-- a run of any command
pub run_complete : (command : Option Command) (words : List (List ℕ)) (before now : Outside) (status : Status) → IsOutcome (form_for command) (meaning_for command) words before now status → IsCompleteBy command words before now status
run_complete (Some (Plan part tools machine cert budget)) words before now status outcome = plan_complete part tools machine cert budget words before now status outcome
run_complete None words before now status outcome = tt
run_complete (Some (Blank part tools)) words before now status outcome = tt
run_complete (Some (Check cert)) words before now status outcome = tt
run_complete (Some (CheckFiles cert part tools machine)) words before now status outcome = tt
run_complete (Some (Trial n)) words before now status outcome = tt
run_complete (Some (Why part tools machine)) words before now status outcome = tt
run_complete (Some (Setups part tools machine setups cert)) words before now status outcome = tt
run_complete (Some (Settle part tools machine out low high base)) words before now status outcome = tt
run_complete (Some (Merge a b out)) words before now status outcome = tt
run_complete (Some (Prove table)) words before now status outcome = tt
