use Rattle.std.proofs.Common.{arith}
use Rattle.std.proofs.lemmas.Int.{ints}
use Rattle.sheet_page.proofs.stroke_block.next_place.Goals as goal

pub returns-clause-figure : goal.returns-clause-figure
returns-clause-figure c = record { low = omega (arith, ints, c.requires.figure.low, c.requires.figure.high, c.requires.sides.0, c.requires.sides.1, c.requires.number); high = omega (arith, ints, c.requires.figure.low, c.requires.figure.high, c.requires.sides.0, c.requires.sides.1, c.requires.number) }

pub returns-clause-next : goal.returns-clause-next
returns-clause-next c = omega (arith, ints, c.requires.figure.low, c.requires.figure.high, c.requires.sides.0, c.requires.sides.1, c.requires.number)
