use Rattle.std.proofs.Common.{ℤ, rules, tests}
use Rattle.std.proofs.lemmas.Bool.{MatchBool-at_true}
use Rattle.std.proofs.lemmas.Iterator.{cases_from_all, YieldsList-from_slice}
use Rattle.std.proofs.lemmas.Iterator.Search.{true_from_All}
use Rattle.std.proofs.lemmas.List.Elements.{All-from_all_within}
use Rattle.toml_fields.specs.Ranges.{IsWithin}
use Rattle.machine_file.proofs.stages.are_within.Goals as goal

abbrev IsOutside : ℤ → ℤ → ℤ → Type 0
IsOutside low high n = ¬ (IsWithin low high n)

pub returns : goal.returns
returns c =
    let low_fits = c.ranges.low in
    let high_fits = c.ranges.high in
    let P = IsWithin c.args.low c.args.high in
    let Q = IsOutside c.args.low c.args.high in
    let xs = c.args.numbers.now in
    let cases = cases_from_all _ _ c.all.result P Q c.all.ensures.ran (YieldsList-from_slice xs cc) (λ x q k. search (rules, tests)) (λ x q k. search (rules, tests)) in
    (λ passes. All-from_all_within P xs (MatchBool-at_true _ _ passes cases), λ all. true_from_All P Q c.all.result xs (λ x p n. n p) cases all)
