use Rattle.std.proofs.Common.{length}
use Rattle.sheet_page.proofs.stroke_heading.+is_told.Given as goal

-- how many lengths are left
abbrev pub decreases-is_told : goal.decreases-is_told
decreases-is_told l = length l.lengths.now
