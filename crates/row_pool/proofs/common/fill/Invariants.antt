use Rattle.std.proofs.Common.{◌≡◌, ℕ, ◌+◌, ◌-◌}
use Rattle.std.specs.Prelude.{slice_index_or, vec_len, vec_capacity}
use Rattle.row_pool.proofs.common.fill.Given as goal

abbrev pub invariant-loop-value : goal.invariant-loop-value
invariant-loop-value g l = record {
  same : (k : ℕ) → slice_index_or l.list.items k l.value ≡ slice_index_or l.fn.list.items k l.value;
  same_memory : vec_capacity l.list ≡ vec_capacity l.fn.list;
}

abbrev pub decreases-loop-value : goal.decreases-loop-value
decreases-loop-value g l = l.place + 1 - vec_len l.list
