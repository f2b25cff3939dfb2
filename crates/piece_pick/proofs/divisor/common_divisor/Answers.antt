use Rattle.std.proofs.Common.{ℕ, ◌≡◌, subst, pos, get_or, rules}
use Rattle.std.specs.Prelude.{unsigned_abs, All}
use Rattle.std.specs.Int.{◌∣◌}
use Rattle.std.proofs.lemmas.List.{take_all}
use Rattle.std.proofs.lemmas.Nat.Gcd.{dvd-zero}
use Rattle.piece_pick.proofs.Divided.{divides_nothing, divides_more, greatest_more}
use Rattle.piece_pick.proofs.divisor.common_divisor.Goals as goal

pub loop-piece-init : goal.loop-piece-init
loop-piece-init c = record {
  each = divides_nothing 0;
  greatest = λ d all. dvd-zero d;
}

pub loop-piece-preserved : goal.loop-piece-preserved
loop-piece-preserved c =
    let xs = c.args.pieces.now in
    let i = c.loop-piece.piece-index in
    let whole : c.length_of-length.result ≡ unsigned_abs (get_or xs i (pos 0)) = search rules in
    record {
      each = divides_more xs i c.loop-piece.divisor c.length_of-length.result c.gcd-divisor.result c.loop-piece-test.true whole c.gcd-divisor.ensures c.loop-piece.invariant.each;
      greatest = greatest_more xs i c.loop-piece.divisor c.length_of-length.result c.gcd-divisor.result c.loop-piece-test.true whole c.gcd-divisor.ensures
          c.loop-piece.invariant.greatest;
    }

pub returns-clause-each : goal.returns-clause-each
returns-clause-each c =
    let all = take_all c.loop-piece.piece-index c.args.pieces.now c.loop-piece-test.false in
    subst (λ xs. All (λ piece. c.loop-piece.divisor ∣ unsigned_abs piece) xs) all c.loop-piece.invariant.each

pub returns-clause-greatest : goal.returns-clause-greatest
returns-clause-greatest c =
    let all = take_all c.loop-piece.piece-index c.args.pieces.now c.loop-piece-test.false in
    subst (λ xs. (d : ℕ) → All (λ piece. d ∣ unsigned_abs piece) xs → d ∣ c.loop-piece.divisor) all c.loop-piece.invariant.greatest
