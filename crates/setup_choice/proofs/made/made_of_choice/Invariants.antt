use Rattle.std.proofs.Common.{◌≡◌, map, take, length}
use Rattle.machine_file.specs.Machine.{stage_text_data}
use Rattle.setup_choice.specs.Setups.{stage_want_data}
use Rattle.setup_choice.specs.Fitting.{made_of_choice}
use Rattle.setup_choice.proofs.made.made_of_choice.Given as goal

abbrev pub invariant-loop-i : goal.invariant-loop-i
invariant-loop-i l = record {
  value : map stage_text_data l.made.items ≡ take l.i (made_of_choice (map stage_want_data l.stages) (map (λ pieces. pieces.items) l.choice));
  count : length l.made.items ≡ l.i;
}
