use Rattle.std.proofs.Common.{◌≡◌, ℕ, List, ap, sym, ◌∙◌, subst, arith}
use Rattle.std.proofs.lemmas.Result.{IfOk-weaker}
use Rattle.job_setup.specs.Setup.{JobData, bend_count}
use Rattle.part_gen.specs.Generator.{generated_job}
use Rattle.plan_cert.specs.CertText.{cert_text2}
use Rattle.cert_lines.specs.Lines.{IsWorth}
use Rattle.cert_check.specs.Texts.{IsTextOfCert}
use Rattle.brake_commands.proofs.CertTexts.{text_is}
use Rattle.command_runner.specs.Answers.{answer_data, one_text}
use Rattle.handling_cost.specs.Claim.{IsTrueClaim}
use Rattle.brake_commands.specs.TrialAnswer.{trial_line, IsTrialAnswer}
use Rattle.brake_commands.proofs.Claims.{good_claim_true}
use Rattle.brake_commands.proofs.trial.answer.Goals as goal

pub confirm-requires : goal.confirm-requires
confirm-requires c =
    let job = c.made_job-job.result in
    let found = c.in_ok-cert.ensures in
    let good = found.1.proves.proves in
    let written : c.as_slice.result.now ≡ cert_text2 job found.0 = c.as_slice.ensures.value ∙ c.in_ok-text.ensures ∙ found.3.text in (
      job,
      found.0,
      record {
        written = subst (λ (bytes : List ℕ). IsTextOfCert bytes job found.0) (sym written) (text_is job found.0 c.bends-bends.ensures.valid good.form);
        good = good;
      },
    )

pub trial_line-requires : goal.trial_line-requires
trial_line-requires c =
    let found = c.in_ok-cert.ensures in
    subst IsWorth (sym found.3.claim) found.1.proves.proves.form.claim

pub returns-clause-answer : goal.returns-clause-answer
returns-clause-answer c =
    let made : c.made_job-job.result ≡ generated_job c.args.number = c.made_job-job.ensures in
    let claim = c.in_ok-cert.cert.claim in
    let bends : c.bends-bends.result ≡ bend_count c.made_job-job.result = omega (arith, c.bends-bends.ensures.value) in
    let found = c.in_ok-cert.ensures in
    let true_claim = subst (IsTrueClaim c.made_job-job.result) (sym found.3.claim) (good_claim_true c.made_job-job.result found.0 c.bends-bends.ensures.valid found.1.proves.proves) in
    let line = c.in_ok-line.ensures ∙ ap (λ n. trial_line c.args.number n claim) (bends ∙ ap bend_count made) in
    IfOk-weaker c.one_text.result (λ answer. answer_data answer ≡ one_text c.claim_status.result c.in_ok-line.line.items) (λ answer. IsTrialAnswer c.args.number (answer_data answer))
    (λ answer is. (claim, subst (λ (j : JobData). IsTrueClaim j claim) made true_claim, is ∙ (λ i. one_text (c.claim_status.ensures.value i) (line i)))) c.one_text.ensures.answer
