use Rattle.std.proofs.Common.{rules, tests}
use Rattle.std.proofs.lemmas.Bool.{MatchBool-at_true}
use Rattle.std.proofs.lemmas.Iterator.{cases_from_all, YieldsList-from_slice}
use Rattle.std.proofs.lemmas.Iterator.Search.{true_from_All}
use Rattle.std.proofs.lemmas.List.Elements.{All-from_all_within, All-map}
use Rattle.job_setup.specs.declared.setup.Stage.{Stage}
use Rattle.job_setup.specs.Setup.{stage_data}
use Rattle.job_setup.specs.ValidJob.{IsStage}
use Rattle.job_setup.proofs.Lists.{all_of_map}
use Rattle.job_setup.proofs.valid.are_valid.Goals as goal

abbrev IsValid : Stage → Type 0
IsValid stage = IsStage (stage_data stage)

abbrev IsInvalid : Stage → Type 0
IsInvalid stage = ¬ (IsStage (stage_data stage))

pub returns : goal.returns
returns c =
    let xs = c.args.stages.now in
    let cases = cases_from_all _ _ c.all.result IsValid IsInvalid c.all.ensures.ran (YieldsList-from_slice xs cc) (λ x q k. search (rules, tests)) (λ x q k. search (rules, tests)) in (
      λ passes. All-map IsStage stage_data xs (All-from_all_within IsValid xs (MatchBool-at_true _ _ passes cases)),
      λ all. true_from_All IsValid IsInvalid c.all.result xs (λ x p n. n p) cases (all_of_map IsStage stage_data xs all),
    )
