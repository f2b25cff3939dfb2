use Rattle.std.proofs.Common.{◌≡◌, map, length, drop}
use Rattle.toml_fields.specs.Results.{each_from}
use Rattle.toml_fields.proofs.Each.{with_front}
use Rattle.part_file.specs.Part.{part_data}
use Rattle.tool_library.specs.Tools.{tools_data}
use Rattle.job_setup.specs.Setup.{stage_data}
use Rattle.machine_file.specs.Machine.{stage_text_data}
use Rattle.job_setup.specs.Stages.{stage_of_text}
use Rattle.job_setup.proofs.stages.stages_of.Given as goal

abbrev pub invariant-loop-text : goal.invariant-loop-text
invariant-loop-text l = record {
  count : length l.stages.items ≡ l.text-index;
  reads : with_front (map stage_data l.stages.items) (each_from (stage_of_text (part_data l.part) (tools_data l.tools)) l.text-index (map stage_text_data (drop l.text-index l.texts))) ≡ each_from (stage_of_text (part_data l.part) (tools_data l.tools)) 0 (map stage_text_data l.texts);
}
