use Rattle.std.proofs.Common.{◌≡◌, ◌+◌, map, length, drop}
use Rattle.std.specs.Prelude.{All}
use Rattle.toml.specs.View.{view}
use Rattle.toml_fields.specs.Results.{each_from}
use Rattle.toml_fields.proofs.Each.{with_front}
use Rattle.tool_library.specs.ToolsFile.{of_table}
use Rattle.tool_library.proofs.row.rows_of.Given as goal

abbrev pub invariant-loop-i : goal.invariant-loop-i
invariant-loop-i g l = record {
  reads : with_front (map g.R.Row.view_of l.rows.items) (each_from (of_table g.R.Row.KEY g.R.Row.row_of) (l.first + l.i) (map view (drop l.i l.items))) ≡ each_from (of_table g.R.Row.KEY g.R.Row.row_of) l.first (map view l.items);
  fit : All g.R.Row.IsRow (map g.R.Row.view_of l.rows.items);
  count : length l.rows.items ≡ l.i;
}
