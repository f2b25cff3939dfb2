use Rattle.std.proofs.Common.{◌≡◌, map, length, drop}
use Rattle.toml.specs.View.{view}
use Rattle.toml_fields.specs.Results.{each_from}
use Rattle.toml_fields.proofs.Each.{with_front}
use Rattle.setup_choice.specs.Setups.{stage_want_data}
use Rattle.setup_choice.specs.SetupsFile.{stage_want_in}
use Rattle.setup_choice.proofs.stages.stage_wants_of.Given as goal

abbrev pub invariant-loop-item : goal.invariant-loop-item
invariant-loop-item l = record {
  count : length l.stages.items ≡ l.item-index;
  reads : with_front (map stage_want_data l.stages.items) (each_from (stage_want_in l.number) l.item-index (map view (drop l.item-index l.items))) ≡ each_from (stage_want_in l.number) 0 (map view l.items);
}
