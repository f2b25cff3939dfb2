use Rattle.std.proofs.Common.{◌≡◌, length, map, take}
use Rattle.std.specs.List.{enumerate_from}
use Rattle.sweep_check.specs.Hits.{stage_nose}
use Rattle.sweep_check.proofs.noses.noses.Given as goal

abbrev pub invariant-loop-stage : goal.invariant-loop-stage
invariant-loop-stage l = record {
  count : length l.noses.items ≡ l.stage-index;
  value : l.noses.items ≡ map stage_nose (enumerate_from 0 (take l.stage-index l.stages));
}
