use Rattle.std.proofs.Common.{◌≡◌, None, length, slice_index_or}
use Rattle.cert_merge.specs.Settling.{proved_over}
use Rattle.cert_merge.proofs.SettledWorths.{IsFilled, IsNextAt}
use Rattle.cert_merge.proofs.settled_sets.next_keys.Given as goal

-- it is found where the first so many actions lead
abbrev pub invariant-loop-number : goal.invariant-loop-number
invariant-loop-number l = record {
  count : length l.nexts ≡ 144;
  filled : IsFilled (IsNextAt l.job (proved_over l.job l.base l.settled) l.mask (λ action. slice_index_or l.reasons action None)) l.number l.nexts;
}
