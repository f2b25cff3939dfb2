use Rattle.std.proofs.Common.{ℕ, take}
use Rattle.std.specs.Int.{◌∣◌}
use Rattle.std.specs.Prelude.{unsigned_abs, All}
use Rattle.piece_pick.proofs.divisor.common_divisor.Given as goal

abbrev pub invariant-loop-piece : goal.invariant-loop-piece
invariant-loop-piece l = record {
  each : All (λ piece. l.divisor ∣ unsigned_abs piece) (take l.piece-index l.pieces);
  greatest : (d : ℕ) → All (λ piece. d ∣ unsigned_abs piece) (take l.piece-index l.pieces) → d ∣ l.divisor;
}
