use Rattle.std.proofs.Common.{length}
use Rattle.brake_draw.proofs.say.+put_spaced.Given as goal

abbrev pub decreases-put_spaced : goal.decreases-put_spaced
decreases-put_spaced l = length l.words.now
