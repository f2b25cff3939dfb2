use Rattle.std.proofs.Common.{length}
use Rattle.sheet_words.proofs.turns.+put_movements.Given as goal

-- how many movements are left
abbrev pub decreases-put_movements : goal.decreases-put_movements
decreases-put_movements l = length l.movements.now
