use Rattle.std.proofs.Common.{length}
use Rattle.sheet_figures.proofs.bend_words.+put_last_numbers.Given as goal

-- how many numbers are left
abbrev pub decreases-put_last_numbers : goal.decreases-put_last_numbers
decreases-put_last_numbers l = length l.numbers.now
