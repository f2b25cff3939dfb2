use Rattle.std.proofs.Common.{subst, sym}
use Rattle.sheet_paper.specs.Windows.{IsDrawable}
use Rattle.sheet_paper.proofs.Areas.{joined_drawable}
use Rattle.sheet_figures.proofs.above_area.joined.Goals as goal

pub returns-clause-near : goal.returns-clause-near
returns-clause-near c = subst IsDrawable (sym c.joined.ensures) (joined_drawable c.args.area.now c.args.other.now c.requires.area c.requires.other)
