use Rattle.std.proofs.Common.{length}
use Rattle.sheet_page.proofs.stroke_block.+put_last_strokes.Given as goal

-- how many steps are left
abbrev pub decreases-put_last_strokes : goal.decreases-put_last_strokes
decreases-put_last_strokes l = length l.steps.now
