use Rattle.std.proofs.Common.{◌∙◌, List, ap}
use Rattle.std.specs.Prelude.{flat_map}
use Rattle.std.proofs.lemmas.List.{take_all}
use Rattle.sector_geom.specs.declared.sector.Sweep.TheVariants.{Fourth}
use Rattle.fold_boxes.specs.declared.posed_part.PoseBox.{PoseBox}
use Rattle.sweep_check.specs.Pieces.{box_pieces, if_back}
use Rattle.sweep_check.proofs.self_hits.back_pieces.Goals as goal

pub returns-clause-value : goal.returns-clause-value
returns-clause-value c =
    c.loop-body.invariant.value
    ∙ ap (λ (boxes : List PoseBox). flat_map (λ box. if_back box.half (box_pieces c.args.job.now Fourth box)) boxes) (take_all c.loop-body.body-index c.args.boxes.now c.loop-body-test.false)
