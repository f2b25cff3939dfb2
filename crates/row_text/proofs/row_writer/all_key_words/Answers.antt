use Rattle.std.proofs.Common.{arith}
use Rattle.row_text.proofs.KeyTexts.{count_more, keys_more, keys_done}
use Rattle.row_text.proofs.row_writer.all_key_words.Goals as goal

pub loop-place-preserved : goal.loop-place-preserved
loop-place-preserved c =
    let keys = c.loop-place.keys.items in
    let text = c.in_ok-key_words.field-0 in
    record {
      count = rw c.in_ok-push.ensures.items (count_more keys c.loop-place.place text c.loop-place.invariant.count);
      words = rw c.in_ok-push.ensures.items (keys_more keys c.loop-place.place text c.loop-place.invariant.count c.loop-place.invariant.words c.in_ok-key_words.ensures);
    }

pub returns : goal.returns
returns c =
    keys_done c.loop-place.keys.items c.loop-place.place c.loop-place.invariant.count (omega (arith, c.loop-place.auto.place-end, c.loop-place-test.false)) c.loop-place.invariant.words
