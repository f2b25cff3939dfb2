use Rattle.std.proofs.Common.{◌≡◌, length}
use Rattle.cert_check.specs.RowTable.{IsIndexed}
use Rattle.cert_check.proofs.row_table.enter.Given as goal

abbrev pub invariant-loop-row : goal.invariant-loop-row
invariant-loop-row l = record {
  count : length l.places ≡ length l.initial.places;
  indexed : IsIndexed l.rows l.row l.places;
}
