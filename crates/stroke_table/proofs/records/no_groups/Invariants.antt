use Rattle.std.proofs.Common.{◌≡◌, ◌≤◌, replicate, vec_capacity, None}
use Rattle.stroke_table.proofs.records.no_groups.Given as goal

abbrev pub invariant-loop : goal.invariant-loop
invariant-loop l = (l.records.items ≡ replicate l.counter None) × (l.places ≤ vec_capacity l.records)
