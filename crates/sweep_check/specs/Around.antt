-- What stands around the part at a stage, as it is kept.
use Rattle.std.specs.Prelude.{◌≡◌, ◌<◌, length, map}
use Rattle.std.specs.List.{enumerate_from}
use Rattle.job_setup.specs.Setup.{JobData}
use Rattle.job_setup.specs.Obstacles.{upper_group, lower_group}
use Rattle.sweep_check.specs.declared.surroundings.Surroundings.{Surroundings}
use Rattle.sweep_check.specs.Hits.{nose_of}

-- They are those of one of the job's stages.
pub record AreSurroundings (job : JobData) (around : Surroundings) : Type 0 where
  pub within : around.stage < length job.setup.stages
  pub upper : around.upper.items ≡ upper_group job
  pub noses : around.noses.items ≡ map nose_of (enumerate_from 0 job.setup.stages)
  pub lower : around.lower.items ≡ lower_group job around.stage
