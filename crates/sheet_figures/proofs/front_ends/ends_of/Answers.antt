use Rattle.std.proofs.Common.{length, ap, arith}
use Rattle.sheet_figures.proofs.front_ends.ends_of.Goals as goal

pub returns-clause-some : goal.returns-clause-some
returns-clause-some c =
    c.ascending.ensures.some (omega (arith, c.both_ends.ensures.some, c.both_ends.ensures.few, ap length c.as_slice.ensures.value))
