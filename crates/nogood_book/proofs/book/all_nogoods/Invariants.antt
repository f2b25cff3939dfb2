-- The list is that of the sets so far, and the table is the job's.
use Rattle.std.proofs.Common.{◌≡◌}
use Rattle.job_setup.specs.Setup.{stage_count}
use Rattle.nogood_book.specs.Refuted.{AreNumbered}
use Rattle.nogood_book.specs.Book.{IsBookBelow}
use Rattle.nogood_book.proofs.book.all_nogoods.Given as goal

abbrev pub invariant-loop-mask : goal.invariant-loop-mask
invariant-loop-mask l = record {
  strokes : l.job ≡ l.strokes;
  list : IsBookBelow l.job l.mask l.nogoods.items;
  actions : AreNumbered (stage_count l.job) l.nogoods.items;
}
