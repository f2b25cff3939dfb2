use Rattle.std.proofs.Common.{◌<◌, arith}
use Rattle.row_text.proofs.WordLengths.{key_words_fit}
use Rattle.row_text.proofs.row_words.key_words.Goals as goal

pub of-requires : goal.of-requires
of-requires c =
    let attitude : c.from.result < 24 = omega (arith, c.requires.attitude, c.from.ensures) in
    let stage : c.from-2.result < 6 = omega (arith, c.requires.stage, c.from-2.ensures) in
    rw c.as_slice.ensures.value
    (key_words_fit c.from.result c.from-2.result c.clear.new.self.items c.put_count.new.out.items c.put_count-2.new.out.items attitude stage c.clear.ensures.items c.in_ok-put_count.ensures c.in_ok-put_count-2.ensures)
