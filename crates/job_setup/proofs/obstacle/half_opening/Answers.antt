use Rattle.std.proofs.Common.{arith}
use Rattle.std.proofs.lemmas.Int.{ints}
use Rattle.job_setup.proofs.BoxByBox.{half_bounds}
use Rattle.job_setup.proofs.obstacle.half_opening.Goals as goal

pub returns-clause-value : goal.returns-clause-value
returns-clause-value c = let half = half_bounds c.args.die.now.v c.requires.sizes.v.range.bottom c.requires.sizes.v.range.top in omega (arith, ints, half.0, half.1)

pub returns-clause-low : goal.returns-clause-low
returns-clause-low c = let half = half_bounds c.args.die.now.v c.requires.sizes.v.range.bottom c.requires.sizes.v.range.top in omega (arith, ints, half.0, half.1)

pub returns-clause-high : goal.returns-clause-high
returns-clause-high c = let half = half_bounds c.args.die.now.v c.requires.sizes.v.range.bottom c.requires.sizes.v.range.top in omega (arith, ints, half.0, half.1)
