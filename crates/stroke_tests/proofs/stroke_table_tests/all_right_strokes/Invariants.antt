use Rattle.std.proofs.Common.{◌≡◌}
use Rattle.stroke_tests.proofs.stroke_table_tests.all_right_strokes.Given as goal

abbrev pub invariant-loop-number : goal.invariant-loop-number
invariant-loop-number l = l.job ≡ l.table
