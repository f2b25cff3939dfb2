use Rattle.std.proofs.Common.{◌≡◌, ◌-◌, length}
use Rattle.cert_words.specs.JobWords.{numbers_in}
use Rattle.cert_words.proofs.NumberLists.{in_front}
use Rattle.cert_words.proofs.job_words.signed_numbers.Given as goal

abbrev pub invariant-loop-rest : goal.invariant-loop-rest
invariant-loop-rest l = in_front l.numbers.items (numbers_in (32 - length l.numbers.items) l.rest) ≡ numbers_in 32 l.text

abbrev pub decreases-loop-rest : goal.decreases-loop-rest
decreases-loop-rest l = 32 - length l.numbers.items
