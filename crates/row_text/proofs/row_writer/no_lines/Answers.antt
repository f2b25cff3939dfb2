use Rattle.std.proofs.Common.{arith}
use Rattle.row_text.proofs.row_writer.no_lines.Goals as goal

pub returns : goal.returns
returns c = omega (arith, c.loop.invariant, c.loop.auto.counter-end, c.loop-test.false)
