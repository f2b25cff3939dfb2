use Rattle.std.proofs.Common.{◌≡◌, length, map, take}
use Rattle.std.specs.List.{enumerate_from}
use Rattle.job_setup.specs.Obstacles.{lower_obstacle}
use Rattle.job_setup.proofs.obstacle.lower_obstacles.Given as goal

abbrev pub invariant-loop-fixed : goal.invariant-loop-fixed
invariant-loop-fixed l = record {
  count : length l.group.items ≡ l.fixed-index;
  value : l.group.items ≡ map (lower_obstacle l.fn.thickness l.fn.half_opening) (enumerate_from 0 (take l.fixed-index l.boxes));
}
