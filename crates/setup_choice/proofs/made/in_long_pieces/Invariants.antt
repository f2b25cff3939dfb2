use Rattle.std.proofs.Common.{◌≡◌, map, take, length}
use Rattle.std.specs.Prelude.{All}
use Rattle.machine_file.specs.Machine.{stage_text_data, IsStageText}
use Rattle.setup_choice.specs.Setups.{stage_want_data}
use Rattle.setup_choice.specs.Wanted.{wanted_by}
use Rattle.setup_choice.proofs.made.in_long_pieces.Given as goal

abbrev pub invariant-loop-stage : goal.invariant-loop-stage
invariant-loop-stage l = record {
  wanted : map wanted_by (map stage_text_data l.made.items) ≡ map stage_want_data (take l.stage-index l.stages);
  fit : All IsStageText (map stage_text_data l.made.items);
  count : length l.made.items ≡ l.stage-index;
}
