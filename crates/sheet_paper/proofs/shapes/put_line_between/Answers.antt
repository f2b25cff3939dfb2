use Rattle.std.proofs.Common.{arith}
use Rattle.sheet_paper.proofs.Texts.{pieces}
use Rattle.sheet_paper.proofs.shapes.put_line_between.Goals as goal

pub returns-in-Whole : goal.returns-in-Whole
returns-in-Whole c = grind (arith, pieces)

pub returns-in-Dashed : goal.returns-in-Dashed
returns-in-Dashed c = grind (arith, pieces)

pub returns-in-Dotted : goal.returns-in-Dotted
returns-in-Dotted c = grind (arith, pieces)
