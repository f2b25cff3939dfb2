use Rattle.std.proofs.Common.{length}
use Rattle.sheet_words.proofs.tools.+punch_at.Given as goal

-- how many stages are left
abbrev pub decreases-punch_at : goal.decreases-punch_at
decreases-punch_at l = length l.stages.now
