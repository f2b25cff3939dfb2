-- Areas that can be drawn.
use Rattle.std.proofs.Common.{◌^◌}
use Rattle.sheet_paper.specs.declared.window.Area.{Area}
use Rattle.sheet_paper.specs.Windows.{IsDrawable, joined}
use Rattle.sheet_paper.proofs.Spreads.{least_near, greatest_near}

-- the least area that holds two of them
pub joined_drawable : (a b : Area) → IsDrawable a → IsDrawable b → IsDrawable (joined a b)
joined_drawable a b fit other = record {
  x0 = least_near a.x0 b.x0 (2 ^ 48) fit.x0 other.x0;
  x1 = greatest_near a.x1 b.x1 (2 ^ 48) fit.x1 other.x1;
  y0 = least_near a.y0 b.y0 (2 ^ 48) fit.y0 other.y0;
  y1 = greatest_near a.y1 b.y1 (2 ^ 48) fit.y1 other.y1;
}
