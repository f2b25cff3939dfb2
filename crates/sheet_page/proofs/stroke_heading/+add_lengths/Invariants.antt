use Rattle.std.proofs.Common.{length}
use Rattle.sheet_page.proofs.stroke_heading.+add_lengths.Given as goal

-- how many flanges are left
abbrev pub decreases-add_lengths : goal.decreases-add_lengths
decreases-add_lengths l = length l.flanges.now
