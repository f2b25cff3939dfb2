use Rattle.std.proofs.Common.{◌≡◌}
use Rattle.stroke_tests.proofs.stroke_table_tests.right_strokes.Given as goal

abbrev pub invariant-loop-bend : goal.invariant-loop-bend
invariant-loop-bend l = l.job ≡ l.table
