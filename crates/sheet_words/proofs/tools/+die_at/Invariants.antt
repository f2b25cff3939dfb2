use Rattle.std.proofs.Common.{length}
use Rattle.sheet_words.proofs.tools.+die_at.Given as goal

-- how many stages are left
abbrev pub decreases-die_at : goal.decreases-die_at
decreases-die_at l = length l.stages.now
