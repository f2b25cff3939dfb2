use Rattle.std.proofs.Common.{length}
use Rattle.refusal_words.proofs.row.+begin_by.Given as goal

abbrev pub decreases-begin_by : goal.decreases-begin_by
decreases-begin_by l = length l.row.now
