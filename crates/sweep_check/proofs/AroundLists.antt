-- The lists of what stands around the part: solid, and in ascending order of their numbers.
use Rattle.std.proofs.Common.{◌<◌, sym, subst, refl, List, arith}
use Rattle.std.specs.Prelude.{All, AllPairs}
use Rattle.job_setup.specs.declared.obstacle.Obstacle.{Obstacle}
use Rattle.job_setup.specs.Setup.{JobData}
use Rattle.job_setup.specs.StageOf.{stage_of}
use Rattle.job_setup.specs.ValidJob.{IsJob}
use Rattle.job_setup.specs.Obstacles.{upper_boxes, lower_boxes, upper_obstacle, lower_obstacle, half_opening}
use Rattle.sweep_check.specs.declared.noses.PunchNose.{PunchNose}
use Rattle.sweep_check.specs.declared.surroundings.Surroundings.{Surroundings}
use Rattle.sweep_check.specs.Around.{AreSurroundings}
use Rattle.sweep_check.specs.Hits.{IsSolidObstacle, IsNose, nose_of}
use Rattle.sweep_check.proofs.Ascending.{pairs_numbered}
use Rattle.sweep_check.proofs.Bounds.{upper_group_solid, lower_group_solid, noses_are}

abbrev pub Ascend : List Obstacle → Type 0
Ascend xs = AllPairs (λ a b. a.index < b.index) xs

abbrev pub NosesAscend : List PunchNose → Type 0
NosesAscend xs = AllPairs (λ a b. a.stage < b.stage) xs

module _ (job : JobData) (around : Surroundings) (are : AreSurroundings job around) where
  pub upper_are : IsJob job → All IsSolidObstacle around.upper.items
  upper_are valid = let within = are.within in subst (All IsSolidObstacle) (sym are.upper) (upper_group_solid job valid (omega (arith, within)))

  pub upper_ascend : Ascend around.upper.items
  upper_ascend = subst Ascend (sym are.upper) (pairs_numbered upper_obstacle (λ (o : Obstacle). o.index) 0 (upper_boxes job) (λ k box. refl))

  pub noses_around : IsJob job → All IsNose around.noses.items
  noses_around valid = subst (All IsNose) (sym are.noses) (noses_are job valid)

  pub noses_ascend : NosesAscend around.noses.items
  noses_ascend = subst NosesAscend (sym are.noses) (pairs_numbered nose_of (λ (nose : PunchNose). nose.stage) 0 job.setup.stages (λ k stage. refl))

  pub lower_are : IsJob job → All IsSolidObstacle around.lower.items
  lower_are valid = subst (All IsSolidObstacle) (sym are.lower) (lower_group_solid job around.stage valid are.within)

  pub lower_ascend : Ascend around.lower.items
  lower_ascend = subst Ascend (sym are.lower) (pairs_numbered (lower_obstacle job.part.thickness (half_opening (stage_of job around.stage))) (λ (o : Obstacle). o.index) 0 (lower_boxes job) (λ k box. refl))
