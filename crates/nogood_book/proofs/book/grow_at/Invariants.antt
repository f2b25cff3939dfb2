-- The list has grown by the actions so far, what is told of those left holds of it, and the table is still the job's.
use Rattle.std.proofs.Common.{◌≡◌, length}
use Rattle.job_setup.specs.Setup.{stage_count}
use Rattle.nogood_book.specs.Refuted.{AreNumbered, AreTold}
use Rattle.nogood_book.specs.Book.{GrowsBelow}
use Rattle.nogood_book.proofs.book.grow_at.Given as goal

abbrev pub invariant-loop-number : goal.invariant-loop-number
invariant-loop-number l = record {
  strokes : l.job ≡ l.strokes;
  same : l.strokes ≡ l.initial.strokes;
  list : GrowsBelow l.job l.mask l.number l.initial.nogoods.items l.nogoods.items;
  actions : AreNumbered (stage_count l.job) l.nogoods.items;
  count : length l.refuted ≡ 144;
  told : AreTold (stage_count l.job) l.nogoods.items l.mask l.number l.refuted;
}
