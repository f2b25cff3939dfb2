use Rattle.std.proofs.Common.{◌∙◌, sym, subst, [], ◌∷◌, Some, None}
use Rattle.std.specs.Prelude.{All, AllPairs}
use Rattle.sector_geom.specs.declared.sector.Sweep.TheVariants.{Eighth}
use Rattle.job_setup.specs.Obstacles.{upper_group, lower_group}
use Rattle.sweep_check.specs.Pieces.{pieces_of}
use Rattle.sweep_check.specs.FirstReasons.{pose_of_boxes}
use Rattle.sweep_check.specs.Hits.{IsSolidObstacle, IsNose, IsCovered, IsEighth, PieceIsBefore}
use Rattle.sweep_check.proofs.Bounds.{widening_high}
use Rattle.sweep_check.proofs.PieceLists.{box_ascends, box_covered, box_kept, of_one}
use Rattle.sweep_check.proofs.AroundLists.{Ascend, NosesAscend, upper_are, upper_ascend, noses_around, noses_ascend, lower_are, lower_ascend}
use Rattle.sweep_check.proofs.Sweeps.{noses_of, hit_seen, nose_hit_seen, upper_none, nose_none, lower_none, upper_some, nose_some, lower_some}
use Rattle.sweep_check.proofs.kinds.first_of_box.Goals as goal

pub first_hit-requires-clause-covered : goal.first_hit-requires-clause-covered
first_hit-requires-clause-covered c =
    let job = c.args.job.now in
    subst (All IsCovered) (sym (c.as_slice-pieces.ensures.value ∙ c.begin_pieces.ensures.value))
    (box_kept job Eighth c.args.body.now c.begin_pieces.ensures.valid c.requires.solid)

pub first_hit-requires-clause-solid : goal.first_hit-requires-clause-solid
first_hit-requires-clause-solid c = subst (All IsSolidObstacle) (sym c.as_slice.ensures.value) (upper_are c.args.job.now c.args.around.now c.requires.around c.begin_pieces.ensures.valid)

pub first_hit-requires-clause-pieces_ascend : goal.first_hit-requires-clause-pieces_ascend
first_hit-requires-clause-pieces_ascend c = subst (AllPairs PieceIsBefore) (sym (c.as_slice-pieces.ensures.value ∙ c.begin_pieces.ensures.value)) (box_ascends c.args.job.now Eighth c.args.body.now)

pub first_hit-requires-clause-obstacles_ascend : goal.first_hit-requires-clause-obstacles_ascend
first_hit-requires-clause-obstacles_ascend c = subst Ascend (sym c.as_slice.ensures.value) (upper_ascend c.args.job.now c.args.around.now c.requires.around)

pub first_nose_hit-requires-clause-covered : goal.first_nose_hit-requires-clause-covered
first_nose_hit-requires-clause-covered c =
    let job = c.args.job.now in
    subst (All IsEighth) (sym (c.as_slice-pieces.ensures.value ∙ c.begin_pieces.ensures.value)) (box_covered job Eighth c.args.body.now (widening_high job c.begin_pieces.ensures.valid) c.requires.solid)

pub first_nose_hit-requires-clause-noses : goal.first_nose_hit-requires-clause-noses
first_nose_hit-requires-clause-noses c = subst (All IsNose) (sym c.as_slice-2.ensures.value) (noses_around c.args.job.now c.args.around.now c.requires.around c.begin_pieces.ensures.valid)

pub first_nose_hit-requires-clause-pieces_ascend : goal.first_nose_hit-requires-clause-pieces_ascend
first_nose_hit-requires-clause-pieces_ascend c = subst (AllPairs PieceIsBefore) (sym (c.as_slice-pieces.ensures.value ∙ c.begin_pieces.ensures.value)) (box_ascends c.args.job.now Eighth c.args.body.now)

pub first_nose_hit-requires-clause-noses_ascend : goal.first_nose_hit-requires-clause-noses_ascend
first_nose_hit-requires-clause-noses_ascend c = subst NosesAscend (sym c.as_slice-2.ensures.value) (noses_ascend c.args.job.now c.args.around.now c.requires.around)

pub first_hit-requires-2-clause-covered : goal.first_hit-requires-2-clause-covered
first_hit-requires-2-clause-covered c =
    let job = c.args.job.now in
    subst (All IsCovered) (sym (c.as_slice-pieces.ensures.value ∙ c.begin_pieces.ensures.value))
    (box_kept job Eighth c.args.body.now c.begin_pieces.ensures.valid c.requires.solid)

pub first_hit-requires-2-clause-solid : goal.first_hit-requires-2-clause-solid
first_hit-requires-2-clause-solid c = subst (All IsSolidObstacle) (sym c.as_slice-3.ensures.value) (lower_are c.args.job.now c.args.around.now c.requires.around c.begin_pieces.ensures.valid)

pub first_hit-requires-2-clause-pieces_ascend : goal.first_hit-requires-2-clause-pieces_ascend
first_hit-requires-2-clause-pieces_ascend c = subst (AllPairs PieceIsBefore) (sym (c.as_slice-pieces.ensures.value ∙ c.begin_pieces.ensures.value)) (box_ascends c.args.job.now Eighth c.args.body.now)

pub first_hit-requires-2-clause-obstacles_ascend : goal.first_hit-requires-2-clause-obstacles_ascend
first_hit-requires-2-clause-obstacles_ascend c = subst Ascend (sym c.as_slice-3.ensures.value) (lower_ascend c.args.job.now c.args.around.now c.requires.around)

pub returns-in-Some : goal.returns-in-Some
returns-in-Some c = λ back.
    let job = c.args.job.now in
    let pieces = pieces_of job Eighth (c.args.body.now ∷ []) in
    let listed = c.as_slice-pieces.ensures.value ∙ c.begin_pieces.ensures.value ∙ of_one job Eighth c.args.body.now in
    upper_some job (pose_of_boxes (c.args.body.now ∷ [])) back c.args.around.now.stage c.in-Some.hit
    (hit_seen _ pieces _ _ (upper_group job) _ (Some c.in-Some.hit) listed c.as_slice.ensures.value c.requires.around.upper c.in-Some.is c.first_hit.ensures)

pub returns-in-Some-first_nose_hit : goal.returns-in-Some-first_nose_hit
returns-in-Some-first_nose_hit c = λ back.
    let job = c.args.job.now in
    let pose = pose_of_boxes (c.args.body.now ∷ []) in
    let stage = c.args.around.now.stage in
    let pieces = pieces_of job Eighth (c.args.body.now ∷ []) in
    let listed = c.as_slice-pieces.ensures.value ∙ c.begin_pieces.ensures.value ∙ of_one job Eighth c.args.body.now in
    let upper = upper_none job pose back stage (hit_seen _ pieces _ _ (upper_group job) _ None listed c.as_slice.ensures.value c.requires.around.upper c.in_default.is c.first_hit.ensures) in
    nose_some job pose back stage c.in-Some-first_nose_hit.hit upper
    (nose_hit_seen _ pieces _ _ (noses_of job) _ (Some c.in-Some-first_nose_hit.hit) listed c.as_slice-2.ensures.value c.requires.around.noses c.in-Some-first_nose_hit.is c.first_nose_hit.ensures)

pub returns-in-Some-first_hit : goal.returns-in-Some-first_hit
returns-in-Some-first_hit c = λ back.
    let job = c.args.job.now in
    let pose = pose_of_boxes (c.args.body.now ∷ []) in
    let stage = c.args.around.now.stage in
    let pieces = pieces_of job Eighth (c.args.body.now ∷ []) in
    let listed = c.as_slice-pieces.ensures.value ∙ c.begin_pieces.ensures.value ∙ of_one job Eighth c.args.body.now in
    let upper = upper_none job pose back stage (hit_seen _ pieces _ _ (upper_group job) _ None listed c.as_slice.ensures.value c.requires.around.upper c.in_default.is c.first_hit.ensures) in
    let nose = nose_none job pose back stage upper (nose_hit_seen _ pieces _ _ (noses_of job) _ None listed c.as_slice-2.ensures.value c.requires.around.noses c.in_default-first_nose_hit.is c.first_nose_hit.ensures) in
    lower_some job pose back stage c.in-Some-first_hit.hit nose
    (hit_seen _ pieces _ _ (lower_group job stage) _ (Some c.in-Some-first_hit.hit) listed c.as_slice-3.ensures.value c.requires.around.lower c.in-Some-first_hit.is c.first_hit-2.ensures)

pub returns : goal.returns
returns c = λ back.
    let job = c.args.job.now in
    let pose = pose_of_boxes (c.args.body.now ∷ []) in
    let stage = c.args.around.now.stage in
    let pieces = pieces_of job Eighth (c.args.body.now ∷ []) in
    let listed = c.as_slice-pieces.ensures.value ∙ c.begin_pieces.ensures.value ∙ of_one job Eighth c.args.body.now in
    let upper = upper_none job pose back stage (hit_seen _ pieces _ _ (upper_group job) _ None listed c.as_slice.ensures.value c.requires.around.upper c.in_default.is c.first_hit.ensures) in
    let nose = nose_none job pose back stage upper (nose_hit_seen _ pieces _ _ (noses_of job) _ None listed c.as_slice-2.ensures.value c.requires.around.noses c.in_default-first_nose_hit.is c.first_nose_hit.ensures) in
    lower_none job pose back stage nose (hit_seen _ pieces _ _ (lower_group job stage) _ None listed c.as_slice-3.ensures.value c.requires.around.lower c.in_default-first_hit.is c.first_hit-2.ensures)
