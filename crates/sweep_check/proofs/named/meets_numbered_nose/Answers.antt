use Rattle.std.proofs.Common.{◌≡◌, rules, tests}
use Rattle.std.proofs.lemmas.Iterator.{cases_from_any, YieldsList-from_slice}
use Rattle.sweep_check.specs.declared.noses.PunchNose.{PunchNose}
use Rattle.sweep_check.specs.Hits.{IsNoseMet}
use Rattle.sweep_check.proofs.HitTests.{any_answer}
use Rattle.sweep_check.proofs.named.meets_numbered_nose.Goals as goal

pub returns : goal.returns
returns c =
    let P : PunchNose → Type 0 = λ nose. (nose.stage ≡ c.args.number) × IsNoseMet c.args.piece.now nose in
    let xs = c.args.noses.now in
    any_answer P c.any.result xs (cases_from_any _ _ c.any.result P (λ x. P x → ⊥) c.any.ensures.ran (YieldsList-from_slice xs cc) (λ x q k. search (rules, tests)) (λ x q k. search (rules, tests)))
