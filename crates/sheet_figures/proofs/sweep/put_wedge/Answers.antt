use Rattle.std.proofs.Common.{arith}
use Rattle.sheet_paper.proofs.Texts.{pieces}
use Rattle.sheet_figures.proofs.sweep.put_wedge.Goals as goal

pub returns : goal.returns
returns c = grind (arith, pieces)
