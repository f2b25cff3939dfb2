-- The first reason of the kinds Upper, Nose, Lower and SelfHit, from the first hits.
use Rattle.std.proofs.Common.{◌≡◌, ℕ, List, map, Option, Some, None, subst, arith}
use Rattle.std.specs.List.{enumerate_from}
use Rattle.brake_base.specs.declared.stroke.Back.{Back}
use Rattle.brake_base.specs.declared.reason.Reason.TheVariants.{Upper, Nose, Lower, SelfHit}
use Rattle.fold_boxes.specs.Pose.{PoseData}
use Rattle.sector_geom.specs.declared.sector.Sweep.TheVariants.{Eighth}
use Rattle.job_setup.specs.declared.obstacle.Obstacle.{Obstacle}
use Rattle.job_setup.specs.Setup.{JobData}
use Rattle.job_setup.specs.Obstacles.{upper_group, lower_group}
use Rattle.sweep_check.specs.declared.pieces.Piece.{Piece}
use Rattle.sweep_check.specs.declared.hits.Hit.{Hit}
use Rattle.sweep_check.specs.declared.noses.PunchNose.{PunchNose}
use Rattle.sweep_check.specs.FirstReasons.{IsFirstOf, IsFirstAmong}
use Rattle.sweep_check.specs.Pieces.{pieces_of, back_pieces, front_obstacles}
use Rattle.sweep_check.specs.Hits.{IsPieceMet, IsNoseMet, IsFirstHit, nose_of}
use Rattle.sweep_check.proofs.Orders.{none_of_hits, first_of_hits, lifted, joined}
use Rattle.sweep_check.proofs.KindsOf.{upper_kind, nose_kind, lower_kind, self_kind}

-- the first hit of pieces and obstacles, and of pieces and noses
abbrev pub HitOf : List Piece → List Obstacle → Option Hit → Type 0
HitOf pieces obstacles found = IsFirstHit (λ (o : Obstacle). o.index) IsPieceMet pieces obstacles found

abbrev pub NoseHitOf : List Piece → List PunchNose → Option Hit → Type 0
NoseHitOf pieces noses found = IsFirstHit (λ (nose : PunchNose). nose.stage) IsNoseMet pieces noses found

pub hit_seen : (pieces list : List Piece) (slice items obstacles : List Obstacle) (found one : Option Hit) → pieces ≡ list → slice ≡ items → items ≡ obstacles → found ≡ one → HitOf pieces slice found → HitOf list obstacles one
hit_seen pieces list slice items obstacles found one same read made is first =
    subst (λ (o : Option Hit). HitOf list obstacles o) is
    (subst (λ (os : List Obstacle). HitOf list os found) made (subst (λ (os : List Obstacle). HitOf list os found) read (subst (λ (ps : List Piece). HitOf ps slice found) same first)))

abbrev pub noses_of : JobData → List PunchNose
noses_of job = map nose_of (enumerate_from 0 job.setup.stages)

pub nose_hit_seen : (pieces list : List Piece) (slice items noses : List PunchNose) (found one : Option Hit) → pieces ≡ list → slice ≡ items → items ≡ noses → found ≡ one → NoseHitOf pieces slice found → NoseHitOf list noses one
nose_hit_seen pieces list slice items noses found one same read made is first =
    subst (λ (o : Option Hit). NoseHitOf list noses o) is
    (subst (λ (os : List PunchNose). NoseHitOf list os found) made (subst (λ (os : List PunchNose). NoseHitOf list os found) read (subst (λ (ps : List Piece). NoseHitOf ps slice found) same first)))

pub upper_none : (job : JobData) (pose : PoseData) (back : Back) (stage : ℕ) → HitOf (pieces_of job Eighth pose.boxes) (upper_group job) None → IsFirstAmong job pose back stage 4 4 None
upper_none job pose back stage none = none_of_hits (λ (o : Obstacle). o.index) IsPieceMet (pieces_of job Eighth pose.boxes) (upper_group job) job pose back stage 4 Upper (upper_kind job pose back stage) none

pub nose_none : (job : JobData) (pose : PoseData) (back : Back) (stage : ℕ) → IsFirstAmong job pose back stage 4 4 None → NoseHitOf (pieces_of job Eighth pose.boxes) (noses_of job) None → IsFirstAmong job pose back stage 4 5 None
nose_none job pose back stage before none =
    joined job pose back stage 4 4 5 None (omega arith) before (none_of_hits (λ (nose : PunchNose). nose.stage) IsNoseMet (pieces_of job Eighth pose.boxes) (noses_of job) job pose back stage 5 Nose (nose_kind job pose back stage) none)

pub lower_none : (job : JobData) (pose : PoseData) (back : Back) (stage : ℕ) → IsFirstAmong job pose back stage 4 5 None → HitOf (pieces_of job Eighth pose.boxes) (lower_group job stage) None → IsFirstAmong job pose back stage 4 6 None
lower_none job pose back stage before none =
    joined job pose back stage 4 5 6 None (omega arith) before (none_of_hits (λ (o : Obstacle). o.index) IsPieceMet (pieces_of job Eighth pose.boxes) (lower_group job stage) job pose back stage 6 Lower (lower_kind job pose back stage) none)

pub self_none : (job : JobData) (pose : PoseData) (back : Back) (stage : ℕ) → HitOf (back_pieces job pose.boxes) (front_obstacles job pose.boxes) None → IsFirstAmong job pose back stage 7 7 None
self_none job pose back stage none = none_of_hits (λ (o : Obstacle). o.index) IsPieceMet (back_pieces job pose.boxes) (front_obstacles job pose.boxes) job pose back stage 7 SelfHit (self_kind job pose back stage) none

pub upper_some : (job : JobData) (pose : PoseData) (back : Back) (stage : ℕ) (hit : Hit) → HitOf (pieces_of job Eighth pose.boxes) (upper_group job) (Some hit) → IsFirstOf job pose back stage 4 6 (Upper hit.body hit.quarter hit.other)
upper_some job pose back stage hit first =
    lifted job pose back stage 4 4 6 (Upper hit.body hit.quarter hit.other) (omega arith)
    (first_of_hits (λ (o : Obstacle). o.index) IsPieceMet (pieces_of job Eighth pose.boxes) (upper_group job) job pose back stage 4 Upper hit (upper_kind job pose back stage) first)

pub nose_some : (job : JobData) (pose : PoseData) (back : Back) (stage : ℕ) (hit : Hit) → IsFirstAmong job pose back stage 4 4 None → NoseHitOf (pieces_of job Eighth pose.boxes) (noses_of job) (Some hit)
    → IsFirstOf job pose back stage 4 6 (Nose hit.body hit.quarter hit.other)
nose_some job pose back stage hit before first =
    let reason = Nose hit.body hit.quarter hit.other in
    joined job pose back stage 4 4 6 (Some reason) (omega arith) before
    (lifted job pose back stage 5 5 6 reason (omega arith) (first_of_hits (λ (nose : PunchNose). nose.stage) IsNoseMet (pieces_of job Eighth pose.boxes) (noses_of job) job pose back stage 5 Nose hit (nose_kind job pose back stage) first))

pub lower_some : (job : JobData) (pose : PoseData) (back : Back) (stage : ℕ) (hit : Hit) → IsFirstAmong job pose back stage 4 5 None → HitOf (pieces_of job Eighth pose.boxes) (lower_group job stage) (Some hit) → IsFirstOf job pose back stage 4 6 (Lower hit.body hit.quarter hit.other)
lower_some job pose back stage hit before first =
    let reason = Lower hit.body hit.quarter hit.other in
    joined job pose back stage 4 5 6 (Some reason) (omega arith) before
    (lifted job pose back stage 6 6 6 reason (omega arith) (first_of_hits (λ (o : Obstacle). o.index) IsPieceMet (pieces_of job Eighth pose.boxes) (lower_group job stage) job pose back stage 6 Lower hit (lower_kind job pose back stage) first))

pub self_some : (job : JobData) (pose : PoseData) (back : Back) (stage : ℕ) (hit : Hit) → HitOf (back_pieces job pose.boxes) (front_obstacles job pose.boxes) (Some hit) → IsFirstOf job pose back stage 7 7 (SelfHit hit.body hit.quarter hit.other)
self_some job pose back stage hit first = first_of_hits (λ (o : Obstacle). o.index) IsPieceMet (back_pieces job pose.boxes) (front_obstacles job pose.boxes) job pose back stage 7 SelfHit hit (self_kind job pose back stage) first
