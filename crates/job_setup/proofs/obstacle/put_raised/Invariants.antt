use Rattle.std.proofs.Common.{◌≡◌, ◌+◌, ◌++◌, length, map, take}
use Rattle.job_setup.specs.Setup.{stage_data}
use Rattle.job_setup.specs.Obstacles.{raised_box, along_stage}
use Rattle.job_setup.proofs.obstacle.put_raised.Given as goal

abbrev pub invariant-loop-one : goal.invariant-loop-one
invariant-loop-one l = record {
  count : length l.boxes.items ≡ length l.initial.boxes.items + l.one-index;
  value : l.boxes.items ≡ l.initial.boxes.items ++ map (raised_box l.fn.by) (take l.one-index l.fixed);
}
