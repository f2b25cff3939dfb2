use Rattle.std.proofs.Common.{◌≡◌, length}
use Rattle.bb_search.specs.WrittenRows.{IsWriterOf, GoesOnTo}
use Rattle.bb_search.proofs.NextRows.{left_from}
use Rattle.bb_search.proofs.pieces.put_rows.Given as goal

-- the text has gone on up to the next row
abbrev pub invariant-loop-next : goal.invariant-loop-next
invariant-loop-next l = record {
  begun : l.start ≡ length l.fn.out.items;
  writer : IsWriterOf l.pool l.stages l.writer;
  rows : GoesOnTo l.pool l.stages l.fn.from l.next l.fn.out.items l.out.items;
}

abbrev pub decreases-loop-next : goal.decreases-loop-next
decreases-loop-next l = left_from l.pool l.next
