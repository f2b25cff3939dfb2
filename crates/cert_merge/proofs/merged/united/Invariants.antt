use Rattle.std.proofs.Common.{◌≡◌, ℕ, ◌<◌, None, slice_index_or, length}
use Rattle.cert_merge.specs.Entries.{first_reason}
use Rattle.cert_merge.proofs.merged.united.Given as goal

-- the first so many are joined
abbrev pub invariant-loop-action : goal.invariant-loop-action
invariant-loop-action l = record {
  count : length l.both ≡ 144;
  joined : (action : ℕ) → action < l.action → slice_index_or l.both action None ≡ first_reason (slice_index_or l.first action None) (slice_index_or l.second action None);
}
