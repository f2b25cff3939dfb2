use Rattle.std.proofs.Common.{◌≡◌, length}
use Rattle.row_text.proofs.row_writer.no_lines.Given as goal

abbrev pub invariant-loop : goal.invariant-loop
invariant-loop l = length l.lines.items ≡ l.counter
