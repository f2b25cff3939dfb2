use Rattle.std.proofs.Common.{ℤ, rules, tests}
use Rattle.std.proofs.lemmas.Bool.{MatchBool-at_true}
use Rattle.std.proofs.lemmas.Iterator.{cases_from_all, YieldsList-from_slice}
use Rattle.std.proofs.lemmas.Iterator.Search.{true_from_All}
use Rattle.std.proofs.lemmas.List.Elements.{All-from_all_within}
use Rattle.machine_file.specs.Machine.{IsBedRange}
use Rattle.job_setup.proofs.valid.are_ranges.Goals as goal

abbrev IsNoRange : ℤ × ℤ → Type 0
IsNoRange range = ¬ (IsBedRange range)

pub returns : goal.returns
returns c =
    let xs = c.args.ranges.now in
    let cases = cases_from_all _ _ c.all.result IsBedRange IsNoRange c.all.ensures.ran (YieldsList-from_slice xs cc) (λ x q k. search (rules, tests)) (λ x q k. search (rules, tests)) in
    (λ passes. All-from_all_within IsBedRange xs (MatchBool-at_true _ _ passes cases), λ all. true_from_All IsBedRange IsNoRange c.all.result xs (λ x p n. n p) cases all)
