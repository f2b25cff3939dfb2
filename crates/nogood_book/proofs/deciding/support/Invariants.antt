-- The bends so far are those of the support.
use Rattle.std.proofs.Common.{◌≡◌, ℕ, ◌<◌, ◌^◌, nat_lt, ◌&&◌}
use Rattle.brake_base.specs.Masks.{has}
use Rattle.nogood_book.specs.Support.{is_bend, is_in_support}
use Rattle.nogood_book.proofs.deciding.support.Given as goal

abbrev pub invariant-loop-bend : goal.invariant-loop-bend
invariant-loop-bend l = record {
  fits : l.support.0 < 2 ^ 16;
  bends : (f : ℕ) → has l.support f ≡ (nat_lt f l.bend && (is_bend l.job f && is_in_support l.job l.action.bend l.reason f));
}
