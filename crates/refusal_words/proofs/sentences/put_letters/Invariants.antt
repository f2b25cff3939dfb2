use Rattle.std.proofs.Common.{◌≡◌, ◌++◌, take}
use Rattle.std.specs.List.{flat_map}
use Rattle.refusal_words.specs.Sentences.{letter_words}
use Rattle.refusal_words.proofs.sentences.put_letters.Given as goal

-- the letters so far
abbrev pub invariant-loop-letter : goal.invariant-loop-letter
invariant-loop-letter l = l.out.items ≡ l.initial.out.items ++ flat_map (letter_words l.numbers) (take l.letter-index l.letters)
