use Rattle.std.proofs.Common.{◌∙◌, ap, sym, subst}
use Rattle.std.specs.Prelude.{All}
use Rattle.job_setup.specs.declared.obstacle.Obstacle.{Obstacle}
use Rattle.sweep_check.specs.Pieces.{back_pieces, front_obstacles}
use Rattle.sweep_check.specs.Hits.{IsSolidObstacle, IsCovered, IsPieceMet}
use Rattle.sweep_check.proofs.Bounds.{widening_high}
use Rattle.sweep_check.proofs.PieceLists.{back_covered, fronts_solid}
use Rattle.sweep_check.proofs.HitTests.{hit_alike}
use Rattle.sweep_check.proofs.named.is_self_hit.Goals as goal

pub is_some_hit-requires-clause-covered : goal.is_some_hit-requires-clause-covered
is_some_hit-requires-clause-covered c =
    let job = c.args.job.now in
    let listed = c.as_slice.ensures.value ∙ c.back_pieces-pieces.ensures.value ∙ ap (back_pieces job) c.as_slice-boxes.ensures.value in
    subst (All IsCovered) (sym listed) (back_covered job c.args.pose.now.boxes.items c.back_pieces-pieces.ensures.valid c.requires.boxes.solid)

pub is_some_hit-requires-clause-solid : goal.is_some_hit-requires-clause-solid
is_some_hit-requires-clause-solid c =
    let job = c.args.job.now in
    let listed = c.as_slice-2.ensures.value ∙ c.put_front_obstacles.ensures.value ∙ ap (front_obstacles job) c.as_slice-boxes.ensures.value in
    subst (All IsSolidObstacle) (sym listed) (fronts_solid job c.args.pose.now.boxes.items (widening_high job c.back_pieces-pieces.ensures.valid) c.requires.boxes.solid)

pub returns : goal.returns
returns c =
    let job = c.args.job.now in
    let pieces = c.as_slice.ensures.value ∙ c.back_pieces-pieces.ensures.value ∙ ap (back_pieces job) c.as_slice-boxes.ensures.value in
    let obstacles = c.as_slice-2.ensures.value ∙ c.put_front_obstacles.ensures.value ∙ ap (front_obstacles job) c.as_slice-boxes.ensures.value in
    hit_alike (λ (o : Obstacle). o.index) IsPieceMet _ (back_pieces job c.args.pose.now.boxes.items) _ (front_obstacles job c.args.pose.now.boxes.items) c.args.hit.body c.args.hit.quarter c.args.hit.other c.is_some_hit.result pieces obstacles c.is_some_hit.ensures
