use Rattle.std.proofs.Common.{◌≡◌, length, map, take}
use Rattle.std.specs.List.{enumerate_from}
use Rattle.job_setup.specs.Obstacles.{upper_obstacle}
use Rattle.job_setup.proofs.obstacle.upper_obstacles.Given as goal

abbrev pub invariant-loop-fixed : goal.invariant-loop-fixed
invariant-loop-fixed l = record {
  count : length l.group.items ≡ l.fixed-index;
  value : l.group.items ≡ map upper_obstacle (enumerate_from 0 (take l.fixed-index l.boxes));
}
