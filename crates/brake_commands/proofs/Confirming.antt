-- The checker confirms each good certificate.
use Rattle.std.proofs.Common.{ℕ, List, Option, Some, None, Ok, refl, ap}
use Rattle.std.proofs.lemmas.Option.{same_Some}
use Rattle.std.specs.Result.{result_ok}
use Rattle.job_setup.specs.Setup.{JobData}
use Rattle.job_setup.specs.ValidJob.{IsJob}
use Rattle.plan_cert.specs.Cert.{CertData}
use Rattle.plan_cert.specs.CertText.{cert_text2}
use Rattle.plan_cert.specs.GoodCert.{IsGoodCert}
use Rattle.cert_check.specs.Checking.{IsGoodText}
use Rattle.cert_check.proofs.Accepting.{good_text_accepted}
use Rattle.command_runner.specs.declared.status.Status.{Status}
use Rattle.command_runner.specs.Fetching.{word_at}
use Rattle.command_runner.specs.Delivery.{Outside}
use Rattle.command_runner.specs.Ends.{IsOutcome}
use Rattle.check_command.proofs.Confirming.{confirms_named}
use Rattle.brake_commands.specs.declared.command.Command.{Command}
use Rattle.brake_commands.specs.declared.command.Command.TheVariants.{Blank, Plan, Check, CheckFiles, Trial, Why, Setups, Settle, Merge, Prove}
use Rattle.brake_commands.specs.Run.{form_for, meaning_for}
use Rattle.brake_commands.specs.Headline.{ConfirmsAlone, claim_of}
use Rattle.brake_commands.specs.Confirmed.{ConfirmsHeldBy}
use Rattle.brake_commands.proofs.CertTexts.{text_is}

pub confirms : (job : JobData) (cert : CertData) → IsJob job → IsGoodCert job cert → ConfirmsAlone (cert_text2 job cert) job cert
confirms job cert valid good =
    let text : IsGoodText (cert_text2 job cert) job cert = record { written = text_is job cert valid good.form; good = good } in
    record {
      accepted = record { cert = cert; good = text; verdict = refl };
      alone = λ checked is. same_Some checked (claim_of job cert) (ap result_ok (good_text_accepted (cert_text2 job cert) job cert (Ok checked) text is));
    }

-- a run of any command
pub run_confirms : (command : Option Command) (words : List (List ℕ)) (before now : Outside) (status : Status) → IsOutcome (form_for command) (meaning_for command) words before now status → ConfirmsHeldBy command words before now status
run_confirms (Some (Check cert)) words before now status outcome = confirms_named (form_for (Some (Check cert))) (meaning_for (Some (Check cert))) words (word_at words 1) refl (λ contents answer is. is) before now status outcome
run_confirms None words before now status outcome = tt
run_confirms (Some (Blank part tools)) words before now status outcome = tt
run_confirms (Some (Plan part tools machine cert budget)) words before now status outcome = tt
run_confirms (Some (CheckFiles cert part tools machine)) words before now status outcome = tt
run_confirms (Some (Trial n)) words before now status outcome = tt
run_confirms (Some (Why part tools machine)) words before now status outcome = tt
run_confirms (Some (Setups part tools machine setups cert)) words before now status outcome = tt
run_confirms (Some (Settle part tools machine out low high base)) words before now status outcome = tt
run_confirms (Some (Merge a b out)) words before now status outcome = tt
run_confirms (Some (Prove table)) words before now status outcome = tt
