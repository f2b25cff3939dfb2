use Rattle.std.proofs.Common.{◌≡◌, map, length, drop}
use Rattle.toml.specs.View.{view}
use Rattle.toml_fields.specs.Results.{each_from}
use Rattle.toml_fields.proofs.Each.{with_front}
use Rattle.machine_file.specs.Machine.{stage_text_data}
use Rattle.machine_file.specs.MachineFile.{stage_text_in}
use Rattle.machine_file.proofs.stages.stage_texts_of.Given as goal

abbrev pub invariant-loop-item : goal.invariant-loop-item
invariant-loop-item l = record {
  count : length l.stages.items ≡ l.item-index;
  reads : with_front (map stage_text_data l.stages.items) (each_from stage_text_in l.item-index (map view (drop l.item-index l.items))) ≡ each_from stage_text_in 0 (map view l.items);
}
