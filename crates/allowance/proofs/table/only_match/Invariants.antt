use Rattle.std.proofs.Common.{◌≡◌, map, take}
use Rattle.std.specs.Prelude.{option_map, option_to_list, filter, IfSome}
use Rattle.part_file.specs.Part.{part_data}
use Rattle.allowance.specs.AllowTable.{IsAllowRow, row_data, matches}
use Rattle.allowance.proofs.table.only_match.Given as goal

abbrev pub invariant-loop-row : goal.invariant-loop-row
invariant-loop-row l = record {
  rows : filter (matches (part_data l.part)) (map row_data (take l.row-index l.rows)) ≡ option_to_list (option_map (λ row. row_data row.now) l.found);
  sound : IfSome l.found (λ row. IsAllowRow (row_data row.now));
}
