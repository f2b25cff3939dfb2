use Rattle.std.proofs.Common.{◌≡◌, length}
use Rattle.cert_merge.proofs.SettledWorths.{IsFilled, IsFirstOf}
use Rattle.cert_merge.proofs.settled_sets.first_reasons.Given as goal

-- the first reasons against the first so many actions are found
abbrev pub invariant-loop-number : goal.invariant-loop-number
invariant-loop-number l = record {
  count : length l.reasons ≡ 144;
  filled : IsFilled (IsFirstOf l.job l.mask) l.number l.reasons;
  strokes : l.strokes ≡ l.initial.strokes;
}
