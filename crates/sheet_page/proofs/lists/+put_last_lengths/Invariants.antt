use Rattle.std.proofs.Common.{length}
use Rattle.sheet_page.proofs.lists.+put_last_lengths.Given as goal

-- how many lengths are left
abbrev pub decreases-put_last_lengths : goal.decreases-put_last_lengths
decreases-put_last_lengths l = length l.lengths.now
