use Rattle.std.proofs.Common.{◌≡◌, ◌+◌, ◌++◌, length, map, take}
use Rattle.job_setup.specs.Setup.{stage_data}
use Rattle.job_setup.specs.Obstacles.{raised_box, along_stage}
use Rattle.job_setup.proofs.obstacle.put_profile.Given as goal

abbrev pub invariant-loop-rect : goal.invariant-loop-rect
invariant-loop-rect l = record {
  count : length l.boxes.items ≡ length l.initial.boxes.items + l.rect-index;
  value : l.boxes.items ≡ l.initial.boxes.items ++ map (along_stage (stage_data l.stage)) (take l.rect-index l.profile);
}
