use Rattle.std.proofs.Common.{◌∙◌, ◌<◌, sym, subst, List}
use Rattle.std.specs.Prelude.{All, AllPairs}
use Rattle.job_setup.specs.declared.obstacle.Obstacle.{Obstacle}
use Rattle.sweep_check.specs.Pieces.{back_pieces}
use Rattle.sweep_check.specs.Hits.{IsSolidObstacle, IsPieceMet, IsFirstHit}
use Rattle.sweep_check.proofs.Bounds.{widening_high}
use Rattle.sweep_check.proofs.PieceLists.{front_ascends, fronts_solid}
use Rattle.sweep_check.proofs.kinds.first_self_hit.Goals as goal

pub first_back_hit-requires-clause-solid : goal.first_back_hit-requires-clause-solid
first_back_hit-requires-clause-solid c =
    subst (All IsSolidObstacle) (sym (c.as_slice.ensures.value ∙ c.put_front_obstacles.ensures.value)) (fronts_solid c.args.job.now c.args.boxes.now (widening_high c.args.job.now c.recall_valid.ensures) c.requires.boxes.solid)

pub first_back_hit-requires-clause-ascend : goal.first_back_hit-requires-clause-ascend
first_back_hit-requires-clause-ascend c =
    subst (λ (xs : List Obstacle). AllPairs (λ a b. a.index < b.index) xs) (sym (c.as_slice.ensures.value ∙ c.put_front_obstacles.ensures.value)) (front_ascends c.args.job.now c.args.boxes.now c.requires.boxes.ascend)

pub returns : goal.returns
returns c =
    subst (λ (xs : List Obstacle). IsFirstHit (λ (o : Obstacle). o.index) IsPieceMet (back_pieces c.args.job.now c.args.boxes.now) xs c.first_back_hit.result) (c.as_slice.ensures.value ∙ c.put_front_obstacles.ensures.value) c.first_back_hit.ensures
