use Rattle.std.proofs.Common.{to_z-of_z}
use Rattle.sheet_paper.proofs.window.Window.around.Goals as goal

pub returns-clause-whole : goal.returns-clause-whole
returns-clause-whole c = simp (to_z-of_z c.ranges.scale) at c.of_units.ensures.whole
