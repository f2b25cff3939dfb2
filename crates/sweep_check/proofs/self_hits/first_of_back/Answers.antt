use Rattle.std.proofs.Common.{sym, subst}
use Rattle.brake_base.specs.declared.stroke.Half.{Half}
use Rattle.sector_geom.specs.declared.sector.Sweep.TheVariants.{Fourth}
use Rattle.job_setup.specs.declared.obstacle.Obstacle.{Obstacle}
use Rattle.sweep_check.specs.Pieces.{box_pieces, if_back}
use Rattle.sweep_check.specs.Hits.{IsPieceMet, IsFirstHit}
use Rattle.sweep_check.proofs.self_hits.first_of_back.Goals as goal

pub returns-in-Back : goal.returns-in-Back
returns-in-Back c =
    let box = c.args.body.now in
    subst (λ (half : Half). IsFirstHit (λ (o : Obstacle). o.index) IsPieceMet (if_back half (box_pieces c.args.job.now Fourth box)) c.args.obstacles.now c.first_box_hit.result) (sym c.in-Back.is) c.first_box_hit.ensures
