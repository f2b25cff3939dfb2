use Rattle.std.proofs.Common.{◌≡◌, rules, tests}
use Rattle.std.proofs.lemmas.Iterator.{cases_from_any, YieldsList-from_slice}
use Rattle.job_setup.specs.declared.obstacle.Obstacle.{Obstacle}
use Rattle.sweep_check.specs.Hits.{IsPieceMet}
use Rattle.sweep_check.proofs.HitTests.{any_answer}
use Rattle.sweep_check.proofs.named.meets_numbered.Goals as goal

pub returns : goal.returns
returns c =
    let P : Obstacle → Type 0 = λ obstacle. (obstacle.index ≡ c.args.number) × IsPieceMet c.args.piece.now obstacle in
    let xs = c.args.obstacles.now in
    any_answer P c.any.result xs (cases_from_any _ _ c.any.result P (λ x. P x → ⊥) c.any.ensures.ran (YieldsList-from_slice xs cc) (λ x q k. search (rules, tests)) (λ x q k. search (rules, tests)))
