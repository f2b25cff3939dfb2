use Rattle.std.proofs.Common.{◌∙◌, ap, sym, subst, map}
use Rattle.std.specs.Prelude.{All}
use Rattle.sector_geom.specs.declared.sector.Sweep.TheVariants.{Eighth}
use Rattle.job_setup.specs.Setup.{SetupData, stage_data}
use Rattle.sweep_check.specs.declared.noses.PunchNose.{PunchNose}
use Rattle.sweep_check.specs.Pieces.{pieces_of}
use Rattle.sweep_check.specs.Hits.{IsEighth, IsNose, IsNoseMet}
use Rattle.sweep_check.proofs.Bounds.{widening_high, noses_are, noses_listed}
use Rattle.sweep_check.proofs.PieceLists.{eighths}
use Rattle.sweep_check.proofs.Sweeps.{noses_of}
use Rattle.sweep_check.proofs.HitTests.{hit_alike}
use Rattle.sweep_check.proofs.named.is_nose_hit.Goals as goal

pub is_some_nose_hit-requires-clause-covered : goal.is_some_nose_hit-requires-clause-covered
is_some_nose_hit-requires-clause-covered c =
    let job = c.args.job.now in
    let listed = c.as_slice-2.ensures.value ∙ c.all_pieces-found.ensures.value ∙ ap (pieces_of job Eighth) c.as_slice.ensures.value in
    subst (All IsEighth) (sym listed) (eighths job c.args.pose.now.boxes.items (widening_high job c.all_pieces-found.ensures.valid) c.requires.boxes.solid)

pub is_some_nose_hit-requires-clause-noses : goal.is_some_nose_hit-requires-clause-noses
is_some_nose_hit-requires-clause-noses c =
    let same = ap (map stage_data) c.as_slice-3.ensures.value ∙ ap (λ (s : SetupData). s.stages) c.setup.ensures.value in
    subst (All IsNose) (sym (noses_listed c.as_slice-3.result.now c.args.job.now.setup.stages _ _ c.as_slice-4.ensures.value c.noses.ensures same)) (noses_are c.args.job.now c.setup.ensures.valid)

pub returns : goal.returns
returns c =
    let job = c.args.job.now in
    let same = ap (map stage_data) c.as_slice-3.ensures.value ∙ ap (λ (s : SetupData). s.stages) c.setup.ensures.value in
    let listed = c.as_slice-2.ensures.value ∙ c.all_pieces-found.ensures.value ∙ ap (pieces_of job Eighth) c.as_slice.ensures.value in
    hit_alike (λ (nose : PunchNose). nose.stage) IsNoseMet _ (pieces_of job Eighth c.args.pose.now.boxes.items) _ (noses_of job) c.args.hit.body c.args.hit.quarter c.args.hit.other c.is_some_nose_hit.result listed
    (noses_listed c.as_slice-3.result.now job.setup.stages _ _ c.as_slice-4.ensures.value c.noses.ensures same) c.is_some_nose_hit.ensures
