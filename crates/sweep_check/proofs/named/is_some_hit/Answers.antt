use Rattle.std.proofs.Common.{◌≡◌, rules, tests}
use Rattle.std.specs.Prelude.{Any}
use Rattle.std.proofs.lemmas.Iterator.{cases_from_any, YieldsList-from_slice}
use Rattle.sweep_check.specs.declared.pieces.Piece.{Piece}
use Rattle.sweep_check.specs.Hits.{IsPieceMet}
use Rattle.sweep_check.proofs.HitTests.{any_answer}
use Rattle.sweep_check.proofs.named.is_some_hit.Goals as goal

pub returns : goal.returns
returns c =
    let hit = c.args.hit in
    let P : Piece → Type 0 = λ piece. ((piece.body ≡ hit.body) × (piece.quarter ≡ hit.quarter)) × Any (λ obstacle. (obstacle.index ≡ hit.other) × IsPieceMet piece obstacle) c.args.obstacles.now in
    let xs = c.args.pieces.now in
    any_answer P c.any.result xs (cases_from_any _ _ c.any.result P (λ x. P x → ⊥) c.any.ensures.ran (YieldsList-from_slice xs cc) (λ x q k. search (rules, tests)) (λ x q k. search (rules, tests)))
