use Rattle.std.proofs.Common.{arith}
use Rattle.sheet_paper.proofs.Texts.{pieces}
use Rattle.sheet_figures.proofs.body.put_face.Goals as goal

pub returns : goal.returns
returns c = grind (arith, pieces)
