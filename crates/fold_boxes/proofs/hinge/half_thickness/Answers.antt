use Rattle.std.proofs.Common.{arith}
use Rattle.std.proofs.lemmas.Int.{ints}
use Rattle.fold_boxes.proofs.Columns.{half_bounds}
use Rattle.fold_boxes.proofs.hinge.half_thickness.Goals as goal

pub returns-clause-value : goal.returns-clause-value
returns-clause-value c = let half = half_bounds c.args.part.now.thickness c.requires.sheet.thickness.range.bottom c.requires.sheet.thickness.range.top in omega (arith, ints, half.0, half.1)

pub returns-clause-low : goal.returns-clause-low
returns-clause-low c = let half = half_bounds c.args.part.now.thickness c.requires.sheet.thickness.range.bottom c.requires.sheet.thickness.range.top in omega (arith, ints, half.0, half.1)

pub returns-clause-high : goal.returns-clause-high
returns-clause-high c = let half = half_bounds c.args.part.now.thickness c.requires.sheet.thickness.range.bottom c.requires.sheet.thickness.range.top in omega (arith, ints, half.0, half.1)
