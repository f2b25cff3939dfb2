use Rattle.std.proofs.Common.{◌^◌, ◌<◌, arith, rules}
use Rattle.row_text.proofs.WordLengths.{row_start_fits}
use Rattle.row_text.proofs.row_words.row_start.Goals as goal

pub of-requires : goal.of-requires
of-requires c =
    let small : c.args.mask.0 < 2 ^ 16 = search rules in
    let fits : c.from.result < 2 ^ 16 = omega (arith, small, c.from.ensures) in
    rw c.as_slice.ensures.value
    (row_start_fits c.from.result c.clear.new.self.items c.put_word.new.out.items c.put_count.new.out.items fits c.clear.ensures.items c.in_ok-put_word.ensures.ok c.in_ok-put_count.ensures)
