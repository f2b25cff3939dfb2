use Rattle.cert_words.proofs.FrontNumbers.{HasRead}
use Rattle.cert_words.proofs.front_number.front_digits.Given as goal

-- the digits so far
abbrev pub invariant-loop-byte : goal.invariant-loop-byte
invariant-loop-byte l = HasRead l.text l.byte-index l.digits
