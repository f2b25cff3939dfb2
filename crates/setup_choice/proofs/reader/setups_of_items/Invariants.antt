use Rattle.std.proofs.Common.{◌≡◌, ◌+◌, ◌*◌, ◌≤◌, map, length, drop}
use Rattle.toml.specs.View.{view}
use Rattle.toml_fields.proofs.Each.{with_front}
use Rattle.setup_choice.specs.Setups.{one_setup_data}
use Rattle.setup_choice.specs.SetupsFile.{setups_from}
use Rattle.setup_choice.proofs.reader.setups_of_items.Given as goal

abbrev pub invariant-loop-item : goal.invariant-loop-item
invariant-loop-item l = record {
  count : length l.setups.items ≡ l.item-index;
  tables : l.number ≤ 1 + 7 * l.item-index;
  reads : with_front (map one_setup_data l.setups.items) (setups_from l.number (map view (drop l.item-index l.items))) ≡ setups_from 1 (map view l.items);
}
