use Rattle.std.proofs.Common.{◌≡◌, ◌+◌, ◌*◌, ◌≤◌, ◌++◌, length, map, take}
use Rattle.std.specs.List.{flat_map}
use Rattle.job_setup.specs.Setup.{stage_data}
use Rattle.job_setup.specs.Obstacles.{along_stage}
use Rattle.job_setup.proofs.obstacle.put_punches.Given as goal

abbrev pub invariant-loop-stage : goal.invariant-loop-stage
invariant-loop-stage l = record {
  count : length l.boxes.items ≤ 16 + 8 * l.stage-index;
  value : l.boxes.items ≡ l.initial.boxes.items ++ flat_map (λ stage. map (along_stage (stage_data stage)) stage.punch.body.items) (take l.stage-index l.stages);
}
