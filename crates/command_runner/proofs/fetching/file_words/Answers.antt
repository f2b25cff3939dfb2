use Rattle.command_runner.proofs.Forms.{counted_few, words_more, words_all}
use Rattle.command_runner.proofs.fetching.file_words.Goals as goal

pub loop-place-preserved : goal.loop-place-preserved
loop-place-preserved c = record {
  few = rw c.counted-number.ensures (counted_few _ c.loop-place.number c.loop-place.place c.loop-place.invariant.few);
  all = words_more c.args.kinds.now _ c.loop-place.place c.loop-place.number c.counted-number.result c.loop-place.files.items c.push_fetched.new.files.items _ c.loop-place-test.true c.counted-number.ensures c.in_ok-push_fetched.ensures c.loop-place.invariant.all;
}

pub returns : goal.returns
returns c = words_all c.args.kinds.now c.loop-place.place c.loop-place.number c.loop-place.files.items _ c.loop-place-test.false c.loop-place.invariant.all
