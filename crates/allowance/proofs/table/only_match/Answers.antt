use Rattle.std.proofs.Common.{sym}
use Rattle.part_file.specs.Part.{part_data}
use Rattle.allowance.proofs.MatchingRows.{two_rows}
use Rattle.allowance.proofs.table.only_match.Goals as goal

pub returns-then-is_some-clause-value : goal.returns-then-is_some-clause-value
returns-then-is_some-clause-value c =
    two_rows (part_data c.args.part.now) c.args.rows.now c.loop-row.row-index c.loop-row.found c.row-item.result (sym c.if-is_some.ensures) c.loop-row.invariant.rows c.loop-row-test.true c.row-item.is (sym c.if-matches.ensures)
