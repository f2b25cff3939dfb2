use Rattle.std.proofs.Common.{◌≡◌, length}
use Rattle.row_text.proofs.KeyTexts.{AreKeysBelow}
use Rattle.row_text.proofs.row_writer.all_key_words.Given as goal

abbrev pub invariant-loop-place : goal.invariant-loop-place
invariant-loop-place l = record {
  count : length l.keys.items ≡ l.place;
  words : AreKeysBelow l.keys.items l.place;
}
