use Rattle.std.proofs.Common.{◌≡◌, ◌≤◌, replicate, vec_capacity}
use Rattle.stroke_table.proofs.records.no_indices.Given as goal

abbrev pub invariant-loop : goal.invariant-loop
invariant-loop l = (l.indices.items ≡ replicate l.counter 65535) × (l.places ≤ vec_capacity l.indices)
