use Rattle.std.proofs.Common.{◌∙◌, ap, sym, subst}
use Rattle.std.specs.Prelude.{All}
use Rattle.sector_geom.specs.declared.sector.Sweep.TheVariants.{Eighth}
use Rattle.job_setup.specs.declared.obstacle.Obstacle.{Obstacle}
use Rattle.job_setup.specs.Obstacles.{lower_group}
use Rattle.sweep_check.specs.Pieces.{AreSolidBoxes, pieces_of}
use Rattle.sweep_check.specs.Hits.{IsSolidObstacle, IsCovered, IsPieceMet}
use Rattle.sweep_check.proofs.Bounds.{lower_group_solid}
use Rattle.sweep_check.proofs.PieceLists.{all_covered}
use Rattle.sweep_check.proofs.HitTests.{hit_alike}
use Rattle.sweep_check.proofs.named.is_lower_hit.Goals as goal

pub all_pieces-found-requires : goal.all_pieces-found-requires
all_pieces-found-requires c = record { boxes = subst AreSolidBoxes (sym c.as_slice.ensures.value) c.requires.boxes }

pub is_some_hit-requires-clause-covered : goal.is_some_hit-requires-clause-covered
is_some_hit-requires-clause-covered c =
    let job = c.args.job.now in
    let listed = c.as_slice-2.ensures.value ∙ c.all_pieces-found.ensures.value ∙ ap (pieces_of job Eighth) c.as_slice.ensures.value in
    subst (All IsCovered) (sym listed) (all_covered job Eighth c.args.pose.now.boxes.items c.all_pieces-found.ensures.valid c.requires.boxes.solid)

pub is_some_hit-requires-clause-solid : goal.is_some_hit-requires-clause-solid
is_some_hit-requires-clause-solid c = subst (All IsSolidObstacle) (sym (c.as_slice-3.ensures.value ∙ c.lower_group.ensures.value)) (lower_group_solid c.args.job.now c.args.stage c.lower_group.ensures.valid c.requires.stage)

pub returns : goal.returns
returns c =
    let job = c.args.job.now in
    let listed = c.as_slice-2.ensures.value ∙ c.all_pieces-found.ensures.value ∙ ap (pieces_of job Eighth) c.as_slice.ensures.value in
    hit_alike (λ (o : Obstacle). o.index) IsPieceMet _ (pieces_of job Eighth c.args.pose.now.boxes.items) _ (lower_group job c.args.stage) c.args.hit.body c.args.hit.quarter c.args.hit.other c.is_some_hit.result listed (c.as_slice-3.ensures.value ∙ c.lower_group.ensures.value) c.is_some_hit.ensures
