-- A run of `plan` that ends with a claim has the headline.
use Rattle.std.proofs.Common.{◌≡◌, inl, inr, ℕ, ◌≤◌, List, [], ◌∷◌, ◌++◌, length, Option, Some, None, Result, Ok, Err, refl, sym, ap, ◌∙◌, subst, append_assoc, append-nil, arith}
use Rattle.brake_base.specs.declared.stroke.Key.{Key}
use Rattle.brake_base.specs.declared.stroke.Step.{Step}
use Rattle.brake_base.specs.declared.stroke.Worth.{Worth}
use Rattle.brake_base.specs.declared.stroke.Worth.TheVariants.{Cost, Blocked}
use Rattle.job_setup.specs.Setup.{JobData}
use Rattle.job_setup.specs.JobOf.{FileFault}
use Rattle.job_setup.specs.ValidJob.{IsJob}
use Rattle.job_setup.specs.StrokeGroup.{group_of}
use Rattle.job_setup.specs.Reasons.{IsPoseAt, pose_at}
use Rattle.sweep_check.proofs.MotionLaw.{motion_of_none}
use Rattle.handling_cost.specs.StepCost.{key_after}
use Rattle.handling_cost.specs.Plan.{IsReasonFor, IsLegal, IsRest, start}
use Rattle.handling_cost.specs.Good.{AreClaimed}
use Rattle.handling_cost.proofs.Actions.{few_bends}
use Rattle.handling_cost.proofs.ActionGroups.{action_groups}
use Rattle.setup_sheet.specs.Sheets.{blank_text, setup_text}
use Rattle.plan_cert.specs.Cert.{CertData}
use Rattle.plan_cert.specs.CertText.{cert_text2}
use Rattle.plan_cert.specs.WellFormed.{IsWellFormed, HasSteps}
use Rattle.plan_cert.proofs.TextSizes.{cert_length}
use Rattle.brake_io.specs.Meanings.{WhereTold, Puts}
use Rattle.command_runner.specs.declared.status.Status.{Status}
use Rattle.command_runner.specs.Answers.{AnswerData, concatenation}
use Rattle.command_runner.specs.Fetching.{word_at}
use Rattle.command_runner.specs.Delivery.{IsCutShort, Outside, HoldsAll}
use Rattle.command_runner.specs.Ends.{Leaves, AnswersContents, IsOutcome, cut_short, answered, refused_long}
use Rattle.brake_commands.specs.declared.command.Command.{Command}
use Rattle.brake_commands.specs.declared.command.Command.TheVariants.{Blank, Plan, Check, CheckFiles, Trial, Why, Setups, Settle, Merge, Prove}
use Rattle.brake_commands.specs.Run.{form_for, meaning_for}
use Rattle.brake_commands.specs.JobAnswer.{AnswersJob, job_of_files}
use Rattle.brake_commands.specs.PlanAnswer.{last_text, IsCertAnswer, IsPlanned, by_cert, spent}
use Rattle.brake_commands.specs.Headline.{EachStep, SweepCoversAvoid, MovesFree, TouchesLegalEdge, Headline, IsClaimed, IsPlannedRun, HasHeadlineBy}
use Rattle.brake_commands.proofs.Confirming.{confirms}
use Rattle.brake_commands.proofs.Claims.{good_claim_true}

rest_avoids : (job : JobData) (key : Key) (steps : List Step) → IsRest job key steps → EachStep job (SweepCoversAvoid job) key steps
rest_avoids job key [] rest = tt
rest_avoids job key (step ∷ steps) rest = (rest.0.free, rest_avoids job (key_after job key step.action) steps rest.1)

rest_touches : (job : JobData) (key : Key) (steps : List Step) → IsRest job key steps → EachStep job (TouchesLegalEdge job) key steps
rest_touches job key [] rest = tt
rest_touches job key (step ∷ steps) rest = (rest.0.gauge, rest_touches job (key_after job key step.action) steps rest.1)

-- the pose of a legal step's stroke is that of a stroke at its stage
pose_of_step : (job : JobData) → IsJob job → (key : Key) (step : Step) → IsLegal job key step
    → IsPoseAt job step.action.stage (pose_at job key.mask (group_of job key.mask step.action.bend) step.action.back step.action.stage)
pose_of_step job valid key step legal = record {
  mask = key.mask;
  group = group_of job key.mask step.action.bend;
  back = step.action.back;
  stroke = action_groups job (few_bends job valid) key step.action legal.action;
  within = legal.action.stage;
  value = refl;
}

step_moves : (job : JobData) → IsJob job → (key : Key) (step : Step) → IsLegal job key step → MovesFree job key step
unfolding IsReasonFor pose_of_step
step_moves job valid key step legal =
    motion_of_none job valid step.action.stage (pose_at job key.mask (group_of job key.mask step.action.bend) step.action.back step.action.stage) (pose_of_step job valid key step legal) legal.free

rest_moves : (job : JobData) → IsJob job → (key : Key) (steps : List Step) → IsRest job key steps → EachStep job (MovesFree job) key steps
rest_moves job valid key [] rest = tt
rest_moves job valid key (step ∷ steps) rest = (step_moves job valid key step rest.0, rest_moves job valid (key_after job key step.action) steps rest.1)

-- the steps of a claim are those of a plan, or none
of_claimed : (job : JobData) (P : List Step → Type 0) (claim : Worth) (steps : List Step) → AreClaimed job claim steps → HasSteps job claim steps → (IsRest job start steps → P steps) → P [] → P steps
of_claimed job P (Cost cost) steps claimed has of_plan of_none = of_plan claimed.0
of_claimed job P Blocked steps claimed has of_plan of_none = subst P (sym has) of_none

three_together : (a b c : List ℕ) → concatenation (a ∷ b ∷ c ∷ []) ≡ a ++ b ++ c
three_together a b c = ap (λ (t : List ℕ). a ++ (b ++ t)) (append-nil c) ∙ sym (append_assoc a b c)

-- a certificate's text may be read by `check`
short_enough : (job : JobData) (cert : CertData) → IsJob job → IsWellFormed job cert → length (cert_text2 job cert) ≤ 1073741824
short_enough job cert valid form = let short = cert_length job cert valid form in omega (arith, short)

not_cut : (status : Status) → IsClaimed status → IsCutShort status → ⊥
not_cut status (inl done) (inl fault) = let clash = sym done ∙ fault in cc
not_cut status (inl done) (inr memory) = let clash = sym done ∙ memory in cc
not_cut status (inr none) (inl fault) = let clash = sym none ∙ fault in cc
not_cut status (inr none) (inr memory) = let clash = sym none ∙ memory in cc

not_spent : (status : Status) → IsClaimed status → status ≡ Status.Spent → ⊥
not_spent status (inl done) is = let clash = sym done ∙ is in cc
not_spent status (inr none) is = let clash = sym none ∙ is in cc

not_refused : (status : Status) → IsClaimed status → status ≡ Status.Refused → ⊥
not_refused status (inl done) is = let clash = sym done ∙ is in cc
not_refused status (inr none) is = let clash = sym none ∙ is in cc

module _ (job : JobData) (name : List ℕ) (before now : Outside) (status : Status) where
  by_answer : (budget : Option ℕ) (answer : AnswerData) → IsCertAnswer name budget job answer → Leaves answer before now status → Headline job name budget before now status
  by_answer budget answer is leaves =
      let cert = is.cert in
      let good = is.proves.proves.proves in
      let steps = good.good.claimed in
      let texts = ap (λ (a : AnswerData). concatenation a.texts) is.is_answer ∙ three_together (blank_text job.part is.blank) (setup_text job) (last_text job cert.claim cert.steps) in
      record {
        blank = is.blank;
        cert = cert;
        ends = leaves.ends ∙ ap (λ (a : AnswerData). a.status) is.is_answer;
        prints = subst (λ (text : List ℕ). Puts before.sink now.sink text) texts leaves.puts;
        folds_into_the_part = is.unfolds;
        claimed = steps;
        sweep_covers_avoid = of_claimed job (EachStep job (SweepCoversAvoid job) start) cert.claim cert.steps steps good.form.has_steps (rest_avoids job start cert.steps) tt;
        moves_free = of_claimed job (EachStep job (MovesFree job) start) cert.claim cert.steps steps good.form.has_steps (rest_moves job is.valid start cert.steps) tt;
        legal_edge = of_claimed job (EachStep job (TouchesLegalEdge job) start) cert.claim cert.steps steps good.form.has_steps (rest_touches job start cert.steps) tt;
        costs_least = good_claim_true job cert is.valid good;
        stored_certificate = subst (λ (a : AnswerData). WhereTold before.shelf now.shelf (HoldsAll a.stored)) is.is_answer leaves.stores;
        proves = is.proves;
        few_rows = is.few_rows;
        within_the_limit = short_enough job cert is.valid good.form;
        confirms_alone = confirms job cert is.valid good;
      }

  by_planned : (budget : Option ℕ) (answer : AnswerData) → IsClaimed status → IsPlanned name budget job answer → Leaves answer before now status → Headline job name budget before now status
  by_planned budget answer claimed (by_cert is) leaves = by_answer budget answer is leaves
  by_planned budget answer claimed (spent most given above is) leaves = absurd (not_spent status claimed (leaves.ends ∙ ap (λ (a : AnswerData). a.status) is))

-- the contents of a run of `plan` with a claim give a job, since the files are refused else
module _ (command : Command) (name : List ℕ) (budget : Option ℕ) (words : List (List ℕ)) (before now : Outside) (status : Status) (claimed : IsClaimed status) where
  by_read : (run : AnswersContents (form_for (Some command)) (meaning_for (Some command)) words before now status) (read : Result JobData FileFault) → job_of_files 0 run.contents ≡ read
      → AnswersJob (IsPlanned name budget) read run.answer → IsPlannedRun (form_for (Some command)) name budget words before now status
  by_read run (Ok job) gives is = record {
    contents = run.contents;
    are_fetched = run.are_fetched;
    job = job;
    is_job = gives;
    headline = by_planned job name before now status budget run.answer claimed is run.leaves;
  }
  by_read run (Err fault) gives is = absurd (not_refused status claimed (run.leaves.ends ∙ ap (λ (a : AnswerData). a.status) is))

plan_headline : (part tools machine cert : ℕ) (budget : Option ℕ) (words : List (List ℕ)) (before now : Outside) (status : Status) → IsOutcome (form_for (Some (Plan part tools machine cert budget))) (meaning_for (Some (Plan part tools machine cert budget))) words before now status
    → HasHeadlineBy (Some (Plan part tools machine cert budget)) words before now status
plan_headline part tools machine cert budget words before now status (cut_short short) = λ claimed. absurd (not_cut status claimed short)
plan_headline part tools machine cert budget words before now status (refused_long long) = λ claimed. absurd (not_refused status claimed long.leaves.ends)
plan_headline part tools machine cert budget words before now status (answered run) = λ claimed.
    by_read (Plan part tools machine cert budget) (word_at words cert) budget words before now status claimed run (job_of_files 0 run.contents) refl run.is_answer

-- a run of any command
pub run_headline : (command : Option Command) (words : List (List ℕ)) (before now : Outside) (status : Status) → IsOutcome (form_for command) (meaning_for command) words before now status → HasHeadlineBy command words before now status
run_headline (Some (Plan part tools machine cert budget)) words before now status outcome = plan_headline part tools machine cert budget words before now status outcome
run_headline None words before now status outcome = tt
run_headline (Some (Blank part tools)) words before now status outcome = tt
run_headline (Some (Check cert)) words before now status outcome = tt
run_headline (Some (CheckFiles cert part tools machine)) words before now status outcome = tt
run_headline (Some (Trial n)) words before now status outcome = tt
run_headline (Some (Why part tools machine)) words before now status outcome = tt
run_headline (Some (Setups part tools machine setups cert)) words before now status outcome = tt
run_headline (Some (Settle part tools machine out low high base)) words before now status outcome = tt
run_headline (Some (Merge a b out)) words before now status outcome = tt
run_headline (Some (Prove table)) words before now status outcome = tt
