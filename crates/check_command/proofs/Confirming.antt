-- A run that answers as `check` confirms each good certificate.
use Rattle.std.proofs.Common.{◌≡◌, ◌⊎◌, inl, inr, ℕ, ◌≤◌, List, [], ◌∷◌, length, Option, Some, None, Ok, Err, refl, sym, ap, ◌∙◌, subst}
use Rattle.std.specs.Prelude.{IfSome, unwrap_or}
use Rattle.std.specs.Result.{result_ok}
use Rattle.job_setup.specs.Setup.{JobData}
use Rattle.plan_cert.specs.Cert.{CertData}
use Rattle.cert_check.specs.Checking.{verdict_of, IsGoodText}
use Rattle.brake_io.specs.Meanings.{Content}
use Rattle.command_runner.specs.declared.word_kind.WordKind.{WordKind}
use Rattle.command_runner.specs.declared.status.Status.{Status}
use Rattle.command_runner.specs.Answers.{AnswerData}
use Rattle.command_runner.specs.Fetching.{files_of, fetched_over, all_fetched}
use Rattle.command_runner.specs.Delivery.{IsCutShort, Outside}
use Rattle.command_runner.specs.Ends.{Meaning, Leaves, IsOutcome, cut_short, answered, refused_long}
use Rattle.command_runner.proofs.Told.{all_over, told_fetched}
use Rattle.check_command.specs.CheckAnswer.{verdict_answer, IsCheckAnswer}
use Rattle.check_command.specs.Confirmed.{ConfirmsNamed}
use Rattle.check_command.proofs.Checks.{good_answer}

some_is : {A : Type 0} (a b : A) → Some a ≡ Some b → a ≡ b
some_is {A = A} a b same = ap (λ (o : Option A). unwrap_or o a) same

-- the one file of the form is the named one, and its meaning is an answer of `check`
module _ (form : List WordKind) (meaning : Meaning) (words : List (List ℕ)) (name : List ℕ)
    (one : files_of form words ≡ record { number = 1; name = name; limit = 1073741824 } ∷ [])
    (means : (contents : List (List ℕ)) (answer : AnswerData) → meaning words contents answer → IsCheckAnswer contents answer)
    (before now : Outside) (status : Status) where
  module _ (content : Content) (told : before.shelf.content ≡ Some content) (text : List ℕ) (job : JobData) (cert : CertData)
      (holds : content.held name ≡ Some text) (within : length text ≤ 1073741824) (good : IsGoodText text job cert) where
    -- fetching comes to the text
    over : fetched_over content.held (files_of form words) ≡ Some (Ok (text ∷ []))
    over =
        let here = subst (λ (o : Option Content). IfSome o (λ c. c.held name ≡ Some text)) (sym told) holds in
        rw one (all_over before.shelf content (record { number = 1; name = name; limit = 1073741824 } ∷ []) (text ∷ []) told (record { holds = here; within = within }, tt))

    check_held : IsOutcome form meaning words before now status → IsCutShort status ⊎ Leaves (verdict_answer (verdict_of cert.claim)) before now status
    check_held (cut_short short) = inl short
    check_held (refused_long long) =
        let there = told_fetched before.shelf now.shelf content (files_of form words) (Err long.number) told long.is_fetched in
        let clash : Ok (text ∷ []) ≡ Err long.number = some_is (Ok (text ∷ [])) (Err long.number) (sym over ∙ there) in
        absurd cc
    check_held (answered run) =
        let there = told_fetched before.shelf now.shelf content (files_of form words) (Ok run.contents) told (all_fetched run.contents run.are_fetched run.longs refl) in
        let same : Ok run.contents ≡ Ok (text ∷ []) = some_is (Ok run.contents) (Ok (text ∷ [])) (sym there ∙ over) in
        let contents : run.contents ≡ text ∷ [] = some_is run.contents (text ∷ []) (ap result_ok same) in
        let is = good_answer text job cert run.answer good (subst (λ (cs : List (List ℕ)). IsCheckAnswer cs run.answer) contents (means run.contents run.answer run.is_answer)) in
        inr (subst (λ (a : AnswerData). Leaves a before now status) is run.leaves)

  over_shelf : (o : Option Content) → before.shelf.content ≡ o → IsOutcome form meaning words before now status
      → IfSome o (λ content. (text : List ℕ) (job : JobData) (cert : CertData) → content.held name ≡ Some text → length text ≤ 1073741824 → IsGoodText text job cert
      → IsCutShort status ⊎ Leaves (verdict_answer (verdict_of cert.claim)) before now status)
  over_shelf None told outcome = tt
  over_shelf (Some content) told outcome = λ text job cert holds within good. check_held content told text job cert holds within good outcome

  pub confirms_named : IsOutcome form meaning words before now status → ConfirmsNamed name before now status
  confirms_named outcome = over_shelf before.shelf.content refl outcome
