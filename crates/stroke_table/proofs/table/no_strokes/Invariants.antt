use Rattle.std.proofs.Common.{◌≡◌, ◌≤◌, replicate, vec_capacity, None}
use Rattle.stroke_table.proofs.table.no_strokes.Given as goal

abbrev pub invariant-loop : goal.invariant-loop
invariant-loop l = (l.strokes.items ≡ replicate l.counter None) × (l.places ≤ vec_capacity l.strokes)
