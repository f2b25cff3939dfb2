use Rattle.std.proofs.Common.{◌≡◌, map, take, length}
use Rattle.job_setup.specs.Setup.{stage_data}
use Rattle.job_setup.proofs.setup.copy_stages.Given as goal

abbrev pub invariant-loop-stage : goal.invariant-loop-stage
invariant-loop-stage l = record {
  value : map stage_data l.copies.items ≡ map stage_data (take l.stage-index l.stages);
  count : length l.copies.items ≡ l.stage-index;
}
