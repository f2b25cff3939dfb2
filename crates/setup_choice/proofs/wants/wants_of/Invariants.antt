use Rattle.std.proofs.Common.{◌≡◌, map, take, length}
use Rattle.tool_library.specs.Tools.{tools_data}
use Rattle.setup_choice.specs.Setups.{stage_want_data}
use Rattle.setup_choice.specs.Fitting.{want_of}
use Rattle.setup_choice.proofs.wants.wants_of.Given as goal

abbrev pub invariant-loop-stage : goal.invariant-loop-stage
invariant-loop-stage l = record {
  value : l.wants.items ≡ map (want_of (tools_data l.tools)) (map stage_want_data (take l.stage-index l.stages));
  count : length l.wants.items ≡ l.stage-index;
}
