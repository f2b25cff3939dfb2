use Rattle.std.proofs.Common.{◌∙◌, sym, subst, List}
use Rattle.std.specs.Prelude.{All, AllPairs}
use Rattle.sector_geom.specs.declared.sector.Sweep.TheVariants.{Fourth}
use Rattle.job_setup.specs.declared.obstacle.Obstacle.{Obstacle}
use Rattle.sweep_check.specs.declared.pieces.Piece.{Piece}
use Rattle.sweep_check.specs.Hits.{IsCovered, PieceIsBefore, IsPieceMet, IsFirstHit}
use Rattle.sweep_check.proofs.PieceLists.{box_kept, box_ascends}
use Rattle.sweep_check.proofs.BackHits.{apart_unmet}
use Rattle.sweep_check.proofs.self_hits.first_box_hit.Goals as goal

pub first_hit-requires-clause-covered : goal.first_hit-requires-clause-covered
first_hit-requires-clause-covered c =
    subst (All IsCovered) (sym (c.as_slice.ensures.value ∙ c.begin_pieces.ensures.value)) (box_kept c.args.job.now Fourth c.args.body.now c.begin_pieces.ensures.valid c.requires.body)

pub first_hit-requires-clause-pieces_ascend : goal.first_hit-requires-clause-pieces_ascend
first_hit-requires-clause-pieces_ascend c = subst (AllPairs PieceIsBefore) (sym (c.as_slice.ensures.value ∙ c.begin_pieces.ensures.value)) (box_ascends c.args.job.now Fourth c.args.body.now)

pub returns-then-is_apart : goal.returns-then-is_apart
returns-then-is_apart c = apart_unmet c.args.job.now c.args.body.now c.args.obstacles.now (c.is_apart.ensures.0 c.if-is_apart.true)

pub returns : goal.returns
returns c =
    subst (λ (ps : List Piece). IsFirstHit (λ (o : Obstacle). o.index) IsPieceMet ps c.args.obstacles.now c.first_hit.result) (c.as_slice.ensures.value ∙ c.begin_pieces.ensures.value) c.first_hit.ensures
