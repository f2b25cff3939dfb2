use Rattle.std.proofs.Common.{length}
use Rattle.refusal_words.proofs.refusal.+refusal_by.Given as goal

abbrev pub decreases-refusal_by : goal.decreases-refusal_by
decreases-refusal_by l = length l.subjects.now
