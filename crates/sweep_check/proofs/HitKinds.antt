-- What the reasons of the kinds Upper, Nose, Lower and SelfHit say, in terms of pieces.
use Rattle.std.proofs.Common.{◌≡◌, ℕ, zero, suc, ◌+◌, ◌<◌, ℤ, false, ◌&&◌, List, [], ◌∷◌, map, length, get_or, Option, Some, None, refl, sym, ap, subst, ◌∙◌, arith}
use Rattle.std.specs.Prelude.{Any, IsSomeAnd}
use Rattle.std.specs.List.{enumerate_from}
use Rattle.std.proofs.lemmas.List.{length-map, get_or-map}
use Rattle.std.proofs.lemmas.List.FromFn.{length-enumerate_from, get_or-enumerate_from}
use Rattle.brake_base.specs.declared.plane.Rect.{Rect}
use Rattle.brake_base.specs.declared.plane.Quarter.{Quarter}
use Rattle.brake_base.specs.declared.stroke.Half.{Half}
use Rattle.brake_base.specs.declared.stroke.Half.TheVariants.{Back as BackHalf, Front as FrontHalf}
use Rattle.fold_boxes.specs.declared.posed_part.PoseBox.{PoseBox}
use Rattle.fold_boxes.specs.Pose.{PoseData}
use Rattle.sector_geom.specs.declared.sector.Sweep.TheVariants.{Eighth, Fourth}
use Rattle.sector_geom.specs.Covers.{cover_of}
use Rattle.sector_geom.specs.Clear.{IsClearOfNose}
use Rattle.sector_geom.specs.Free.{IsFree}
use Rattle.sector_geom.specs.Pieces.{widened_by}
use Rattle.job_setup.specs.declared.obstacle.Group.{Group}
use Rattle.job_setup.specs.declared.obstacle.Group.TheVariants.{Upper as UpperGroup, Lower as LowerGroup}
use Rattle.job_setup.specs.declared.obstacle.Obstacle.{Obstacle}
use Rattle.job_setup.specs.Setup.{StageData, JobData}
use Rattle.job_setup.specs.StageOf.{no_stage, stage_of}
use Rattle.job_setup.specs.Reasons.{across, seen_from, widening, piece_at, lies_high, is_untested, IsSwept, IsHit, IsNoseHit, IsSelfHit, SomeBox, SomeObstacle}
use Rattle.sweep_check.specs.declared.pieces.Piece.{Piece}
use Rattle.sweep_check.specs.declared.noses.PunchNose.{PunchNose}
use Rattle.sweep_check.specs.Pieces.{piece_from, box_pieces, pieces_of, if_back, if_front, back_pieces, front_obstacle, front_obstacles}
use Rattle.sweep_check.specs.Hits.{is_sunk_group, IsPieceMet, IsNoseMet, nose_of, SomeHit}
use Rattle.sweep_check.proofs.Some.{any_weaker, any_here, any_flat_from, any_flat_to}
use Rattle.sweep_check.proofs.PieceLists.{some_of_box, of_some_box}

-- ---- Upper and Lower
untested_is : (t : ℤ) (quarter : Quarter) (rect : Rect) (group : Group) → (is_sunk_group group && lies_high t quarter rect) ≡ is_untested t quarter rect group
untested_is t quarter rect UpperGroup = refl
untested_is t quarter rect (LowerGroup sunk) = refl

abbrev Names : ℕ → Quarter → Piece → Type 0
Names n quarter piece = (piece.body ≡ n) × (piece.quarter ≡ quarter)

abbrev Meets : List Obstacle → ℕ → ℕ → Quarter → Piece → Type 0
Meets obstacles i n quarter piece = Names n quarter piece × Any (λ o. (o.index ≡ i) × IsPieceMet piece o) obstacles

box_meets : (job : JobData) (obstacles : List Obstacle) (i n : ℕ) (quarter : Quarter) (box : PoseBox) → (box.id ≡ n) × SomeObstacle obstacles i (IsHit job box quarter) → Any (Meets obstacles i n quarter) (box_pieces job Eighth box)
box_meets job obstacles i n quarter box named =
    let some = named.1 in
    let obstacle = some.1 in
    let hit : IsHit job box quarter obstacle = some.4.1 in
    by_piece (piece_at job box quarter) refl hit some
  where
    by_piece : (o : Option Rect) → piece_at job box quarter ≡ o → IsHit job box quarter named.1.1 → SomeObstacle obstacles i (IsHit job box quarter) → Any (Meets obstacles i n quarter) (box_pieces job Eighth box)
    by_piece None is hit some =
        absurd (subst (λ (o : Option Rect). IsSomeAnd o (λ piece. (is_untested job.part.thickness quarter piece named.1.1.group ≡ false) × IsSwept job Eighth quarter piece (seen_from box.half named.1.1.rect))) is hit.across)
    by_piece (Some rect) is hit some =
        let both = subst (λ (o : Option Rect). IsSomeAnd o (λ piece. (is_untested job.part.thickness quarter piece named.1.1.group ≡ false) × IsSwept job Eighth quarter piece (seen_from box.half named.1.1.rect))) is hit.across in
        let met : IsPieceMet (piece_from job Eighth box quarter rect) named.1.1 = record {
          near = record { along = hit.along; tested = untested_is job.part.thickness quarter rect named.1.1.group ∙ both.0 };
          swept = both.1;
        } in
        some_of_box (Meets obstacles i n quarter) job Eighth box quarter rect is ((named.0, refl), (named.1.0, named.1.1, named.1.2, named.1.3, (named.1.4.0, met)))

pub hits_to : (job : JobData) (pose : PoseData) (obstacles : List Obstacle) (n : ℕ) (quarter : Quarter) (i : ℕ) → SomeBox pose n (λ box. SomeObstacle obstacles i (IsHit job box quarter)) → SomeHit (λ o. o.index) IsPieceMet (pieces_of job Eighth pose.boxes) obstacles n quarter i
hits_to job pose obstacles n quarter i some =
    any_flat_from (Meets obstacles i n quarter) (box_pieces job Eighth) pose.boxes
    (any_weaker (λ box. (box.id ≡ n) × SomeObstacle obstacles i (IsHit job box quarter)) (λ box. Any (Meets obstacles i n quarter) (box_pieces job Eighth box)) pose.boxes (box_meets job obstacles i n quarter) some)

meets_box : (job : JobData) (obstacles : List Obstacle) (i n : ℕ) (quarter : Quarter) (box : PoseBox) → Any (Meets obstacles i n quarter) (box_pieces job Eighth box) → (box.id ≡ n) × SomeObstacle obstacles i (IsHit job box quarter)
meets_box job obstacles i n quarter box some =
    let found = of_some_box (Meets obstacles i n quarter) job Eighth box some in
    by_quarter found.0 found.1 found.2 found.3
  where
    by_quarter : (q : Quarter) (rect : Rect) → piece_at job box q ≡ Some rect → Meets obstacles i n quarter (piece_from job Eighth box q rect) → (box.id ≡ n) × SomeObstacle obstacles i (IsHit job box quarter)
    by_quarter q rect is holds =
        let obstacle = holds.1.1 in
        let met : IsPieceMet (piece_from job Eighth box q rect) obstacle = holds.1.4.1 in
        let hit : IsHit job box q obstacle = record {
          along = met.near.along;
          across = subst (λ (o : Option Rect). IsSomeAnd o (λ piece. (is_untested job.part.thickness q piece obstacle.group ≡ false) × IsSwept job Eighth q piece (seen_from box.half obstacle.rect))) (sym is)
              (sym (untested_is job.part.thickness q rect obstacle.group) ∙ met.near.tested, met.swept);
        } in
        (holds.0.0, subst (λ (z : Quarter). SomeObstacle obstacles i (IsHit job box z)) holds.0.1 (holds.1.0, obstacle, holds.1.2, holds.1.3, (holds.1.4.0, hit)))

pub hits_from : (job : JobData) (pose : PoseData) (obstacles : List Obstacle) (n : ℕ) (quarter : Quarter) (i : ℕ) → SomeHit (λ o. o.index) IsPieceMet (pieces_of job Eighth pose.boxes) obstacles n quarter i → SomeBox pose n (λ box. SomeObstacle obstacles i (IsHit job box quarter))
hits_from job pose obstacles n quarter i some =
    any_weaker (λ box. Any (Meets obstacles i n quarter) (box_pieces job Eighth box)) (λ box. (box.id ≡ n) × SomeObstacle obstacles i (IsHit job box quarter)) pose.boxes (meets_box job obstacles i n quarter)
    (any_flat_to (Meets obstacles i n quarter) (box_pieces job Eighth) pose.boxes some)

-- ---- Nose
abbrev noses_of : List StageData → List PunchNose
noses_of stages = map nose_of (enumerate_from 0 stages)

nose_at : (stages : List StageData) (k : ℕ) (d : PunchNose) → k < length stages → get_or (noses_of stages) k d ≡ nose_of (k, get_or stages k no_stage)
nose_at stages k d inside =
    get_or-map nose_of (enumerate_from 0 stages) k (0, no_stage) d (let long = length-enumerate_from 0 stages in omega (arith, long, inside)) ∙ ap nose_of (get_or-enumerate_from 0 stages k (0, no_stage) inside)
    ∙ (let same : 0 + k ≡ k = omega arith in ap (λ (n : ℕ). nose_of (n, get_or stages k no_stage)) same)

noses_long : (stages : List StageData) → length (noses_of stages) ≡ length stages
noses_long stages = length-map (enumerate_from 0 stages) nose_of ∙ length-enumerate_from 0 stages

abbrev MeetsNose : List StageData → ℕ → ℕ → Quarter → Piece → Type 0
MeetsNose stages i n quarter piece = Names n quarter piece × Any (λ nose. (nose.stage ≡ i) × IsNoseMet piece nose) (noses_of stages)

nose_from : (stages : List StageData) (i : ℕ) (piece : Piece) → i < length stages → IsNoseMet piece (nose_of (i, get_or stages i no_stage)) → Any (λ nose. (nose.stage ≡ i) × IsNoseMet piece nose) (noses_of stages)
nose_from stages i piece inside met =
    let nose = nose_of (i, get_or stages i no_stage) in
    let within : i < length (noses_of stages) = let long = noses_long stages in omega (arith, long, inside) in
    (i, nose, within, nose_at stages i nose inside, (refl, met))

nose_to : (stages : List StageData) (i : ℕ) (piece : Piece) → Any (λ nose. (nose.stage ≡ i) × IsNoseMet piece nose) (noses_of stages) → (i < length stages) × IsNoseMet piece (nose_of (i, get_or stages i no_stage))
nose_to stages i piece some =
    let inside : some.0 < length stages = let long = noses_long stages in let low = some.2 in omega (arith, long, low) in
    let is : some.1 ≡ nose_of (some.0, get_or stages some.0 no_stage) = sym some.3 ∙ nose_at stages some.0 some.1 inside in
    let number : some.0 ≡ i = sym (ap (λ (nose : PunchNose). nose.stage) is) ∙ some.4.0 in
    (let same = number in omega (arith, same, inside), subst (λ (nose : PunchNose). IsNoseMet piece nose) (is ∙ ap (λ (k : ℕ). nose_of (k, get_or stages k no_stage)) number) some.4.1)

box_meets_nose : (job : JobData) (i n : ℕ) (quarter : Quarter) → i < length job.setup.stages → (box : PoseBox) → (box.id ≡ n) × IsNoseHit job box quarter (stage_of job i) → Any (MeetsNose job.setup.stages i n quarter) (box_pieces job Eighth box)
box_meets_nose job i n quarter inside box named = by_piece (piece_at job box quarter) refl named.1
  where
    by_piece : (o : Option Rect) → piece_at job box quarter ≡ o → IsNoseHit job box quarter (stage_of job i) → Any (MeetsNose job.setup.stages i n quarter) (box_pieces job Eighth box)
    by_piece None is hit = absurd (subst (λ (o : Option Rect). IsSomeAnd o (λ piece. IsClearOfNose (cover_of quarter Eighth piece) (stage_of job i).punch.nose → ⊥)) is hit.across)
    by_piece (Some rect) is hit =
        let swept = subst (λ (o : Option Rect). IsSomeAnd o (λ piece. IsClearOfNose (cover_of quarter Eighth piece) (stage_of job i).punch.nose → ⊥)) is hit.across in
        some_of_box (MeetsNose job.setup.stages i n quarter) job Eighth box quarter rect is
        ((named.0, refl), nose_from job.setup.stages i (piece_from job Eighth box quarter rect) inside (record { along = hit.along; swept = swept }))

pub noses_to : (job : JobData) (pose : PoseData) (n : ℕ) (quarter : Quarter) (i : ℕ) → (i < length job.setup.stages) × SomeBox pose n (λ box. IsNoseHit job box quarter (stage_of job i))
    → SomeHit (λ nose. nose.stage) IsNoseMet (pieces_of job Eighth pose.boxes) (map nose_of (enumerate_from 0 job.setup.stages)) n quarter i
noses_to job pose n quarter i some =
    any_flat_from (MeetsNose job.setup.stages i n quarter) (box_pieces job Eighth) pose.boxes
    (any_weaker (λ box. (box.id ≡ n) × IsNoseHit job box quarter (stage_of job i)) (λ box. Any (MeetsNose job.setup.stages i n quarter) (box_pieces job Eighth box)) pose.boxes (box_meets_nose job i n quarter some.0) some.1)

nose_meets_box : (job : JobData) (i n : ℕ) (quarter : Quarter) (box : PoseBox) → Any (MeetsNose job.setup.stages i n quarter) (box_pieces job Eighth box) → (i < length job.setup.stages) × ((box.id ≡ n) × IsNoseHit job box quarter (stage_of job i))
nose_meets_box job i n quarter box some =
    let found = of_some_box (MeetsNose job.setup.stages i n quarter) job Eighth box some in
    by_quarter found.0 found.1 found.2 found.3
  where
    by_quarter : (q : Quarter) (rect : Rect) → piece_at job box q ≡ Some rect → MeetsNose job.setup.stages i n quarter (piece_from job Eighth box q rect) → (i < length job.setup.stages) × ((box.id ≡ n) × IsNoseHit job box quarter (stage_of job i))
    by_quarter q rect is holds =
        let met = nose_to job.setup.stages i (piece_from job Eighth box q rect) holds.1 in
        let hit : IsNoseHit job box q (stage_of job i) = record {
          along = met.1.along;
          across = subst (λ (o : Option Rect). IsSomeAnd o (λ piece. IsClearOfNose (cover_of q Eighth piece) (stage_of job i).punch.nose → ⊥)) (sym is) met.1.swept;
        } in
        (met.0, (holds.0.0, subst (λ (z : Quarter). IsNoseHit job box z (stage_of job i)) holds.0.1 hit))

pub noses_from : (job : JobData) (pose : PoseData) (n : ℕ) (quarter : Quarter) (i : ℕ) → SomeHit (λ nose. nose.stage) IsNoseMet (pieces_of job Eighth pose.boxes) (map nose_of (enumerate_from 0 job.setup.stages)) n quarter i
    → (i < length job.setup.stages) × SomeBox pose n (λ box. IsNoseHit job box quarter (stage_of job i))
noses_from job pose n quarter i some =
    let boxed = any_flat_to (MeetsNose job.setup.stages i n quarter) (box_pieces job Eighth) pose.boxes some in
    let met = nose_meets_box job i n quarter boxed.1 boxed.4 in
    (met.0, (boxed.0, boxed.1, boxed.2, boxed.3, met.1))

-- ---- SelfHit
back_from : {X : Type 0} (P : X → Type 0) (half : Half) (xs : List X) → half ≡ BackHalf → Any P xs → Any P (if_back half xs)
back_from P half xs is some = subst (λ h. Any P (if_back h xs)) (sym is) some

back_to : {X : Type 0} (P : X → Type 0) (half : Half) (xs : List X) → Any P (if_back half xs) → (half ≡ BackHalf) × Any P xs
back_to P BackHalf xs some = (refl, some)
back_to P FrontHalf xs some = absurd (let low = some.2 in omega (arith, low))

front_from : {X : Type 0} (P : X → Type 0) (half : Half) (xs : List X) → half ≡ FrontHalf → Any P xs → Any P (if_front half xs)
front_from P half xs is some = subst (λ h. Any P (if_front h xs)) (sym is) some

front_to : {X : Type 0} (P : X → Type 0) (half : Half) (x : X) → Any P (if_front half (x ∷ [])) → (half ≡ FrontHalf) × P x
front_to P BackHalf x some = absurd (let low = some.2 in omega (arith, low))
front_to {X = X} P FrontHalf x some = (refl, by_index some.0 some.2 some.3)
  where
    by_index : (k : ℕ) → k < length (x ∷ []) → get_or (x ∷ []) k some.1 ≡ some.1 → P x
    by_index zero low here = subst P (sym here) some.4
    by_index (suc k) low here = absurd (omega (arith, low))

abbrev MeetsFront : JobData → PoseData → ℕ → ℕ → Quarter → Piece → Type 0
MeetsFront job pose m n quarter = Meets (front_obstacles job pose.boxes) m n quarter

front_of : (job : JobData) (pose : PoseData) (m : ℕ) (piece : Piece) → SomeBox pose m (λ other. (other.half ≡ FrontHalf) × IsPieceMet piece (front_obstacle job other)) → Any (λ o. (o.index ≡ m) × IsPieceMet piece o) (front_obstacles job pose.boxes)
front_of job pose m piece some =
    any_flat_from (λ o. (o.index ≡ m) × IsPieceMet piece o) (λ box. if_front box.half (front_obstacle job box ∷ [])) pose.boxes
    (any_weaker (λ box. (box.id ≡ m) × ((box.half ≡ FrontHalf) × IsPieceMet piece (front_obstacle job box))) (λ box. Any (λ o. (o.index ≡ m) × IsPieceMet piece o) (if_front box.half (front_obstacle job box ∷ []))) pose.boxes
    (λ box holds. front_from (λ o. (o.index ≡ m) × IsPieceMet piece o) box.half (front_obstacle job box ∷ []) holds.1.0 (any_here (λ o. (o.index ≡ m) × IsPieceMet piece o) (front_obstacle job box) [] (holds.0, holds.1.1)))
    some)

of_front : (job : JobData) (pose : PoseData) (m : ℕ) (piece : Piece) → Any (λ o. (o.index ≡ m) × IsPieceMet piece o) (front_obstacles job pose.boxes) → SomeBox pose m (λ other. (other.half ≡ FrontHalf) × IsPieceMet piece (front_obstacle job other))
of_front job pose m piece some =
    any_weaker (λ box. Any (λ o. (o.index ≡ m) × IsPieceMet piece o) (if_front box.half (front_obstacle job box ∷ []))) (λ box. (box.id ≡ m) × ((box.half ≡ FrontHalf) × IsPieceMet piece (front_obstacle job box))) pose.boxes
    (λ box has. let found = front_to (λ o. (o.index ≡ m) × IsPieceMet piece o) box.half (front_obstacle job box) has in (found.1.0, (found.0, found.1.1)))
    (any_flat_to (λ o. (o.index ≡ m) × IsPieceMet piece o) (λ box. if_front box.half (front_obstacle job box ∷ [])) pose.boxes some)

-- the piece of a box of the back half meets the other box
self_met : (job : JobData) (box other : PoseBox) (quarter : Quarter) (rect : Rect) → piece_at job box quarter ≡ Some rect → IsSelfHit job box quarter other → (other.half ≡ FrontHalf) × IsPieceMet (piece_from job Fourth box quarter rect) (front_obstacle job other)
self_met job box other quarter rect is hit =
    let swept = subst (λ (o : Option Rect). IsSomeAnd o (λ piece. IsSwept job Fourth quarter piece (widened_by (widening job) (across other.body)))) is hit.across in (
      hit.front,
      record {
        near = record { along = hit.along; tested = refl };
        swept = subst (λ (h : Half). IsFree job.setup.fine quarter Fourth rect (seen_from h (widened_by (widening job) (across other.body))) → ⊥) (sym hit.back) swept;
      },
    )

met_self : (job : JobData) (box other : PoseBox) (quarter : Quarter) (rect : Rect) → piece_at job box quarter ≡ Some rect → box.half ≡ BackHalf → other.half ≡ FrontHalf → IsPieceMet (piece_from job Fourth box quarter rect) (front_obstacle job other) → IsSelfHit job box quarter other
met_self job box other quarter rect is back front met = record {
  back = back;
  front = front;
  along = met.near.along;
  across = subst (λ (o : Option Rect). IsSomeAnd o (λ piece. IsSwept job Fourth quarter piece (widened_by (widening job) (across other.body)))) (sym is)
      (subst (λ (h : Half). IsFree job.setup.fine quarter Fourth rect (seen_from h (widened_by (widening job) (across other.body))) → ⊥) back met.swept);
}

box_meets_front : (job : JobData) (pose : PoseData) (m n : ℕ) (quarter : Quarter) (box : PoseBox) → (box.id ≡ n) × SomeBox pose m (IsSelfHit job box quarter) → Any (MeetsFront job pose m n quarter) (if_back box.half (box_pieces job Fourth box))
box_meets_front job pose m n quarter box named = by_piece (piece_at job box quarter) refl named.1
  where
    by_piece : (o : Option Rect) → piece_at job box quarter ≡ o → SomeBox pose m (IsSelfHit job box quarter) → Any (MeetsFront job pose m n quarter) (if_back box.half (box_pieces job Fourth box))
    by_piece None is some =
        let hit : IsSelfHit job box quarter some.1 = some.4.1 in
        absurd (subst (λ (o : Option Rect). IsSomeAnd o (λ piece. IsSwept job Fourth quarter piece (widened_by (widening job) (across some.1.body)))) is hit.across)
    by_piece (Some rect) is some =
        let hit : IsSelfHit job box quarter some.1 = some.4.1 in
        back_from (MeetsFront job pose m n quarter) box.half (box_pieces job Fourth box) hit.back
        (some_of_box (MeetsFront job pose m n quarter) job Fourth box quarter rect is
        ((named.0, refl), front_of job pose m (piece_from job Fourth box quarter rect) (some.0, some.1, some.2, some.3, (some.4.0, self_met job box some.1 quarter rect is hit))))

pub self_to : (job : JobData) (pose : PoseData) (n : ℕ) (quarter : Quarter) (m : ℕ) → SomeBox pose n (λ box. SomeBox pose m (IsSelfHit job box quarter)) → SomeHit (λ o. o.index) IsPieceMet (back_pieces job pose.boxes) (front_obstacles job pose.boxes) n quarter m
self_to job pose n quarter m some =
    any_flat_from (MeetsFront job pose m n quarter) (λ box. if_back box.half (box_pieces job Fourth box)) pose.boxes
    (any_weaker (λ box. (box.id ≡ n) × SomeBox pose m (IsSelfHit job box quarter)) (λ box. Any (MeetsFront job pose m n quarter) (if_back box.half (box_pieces job Fourth box))) pose.boxes (box_meets_front job pose m n quarter) some)

front_meets_box : (job : JobData) (pose : PoseData) (m n : ℕ) (quarter : Quarter) (box : PoseBox) → Any (MeetsFront job pose m n quarter) (if_back box.half (box_pieces job Fourth box)) → (box.id ≡ n) × SomeBox pose m (IsSelfHit job box quarter)
front_meets_box job pose m n quarter box some =
    let back = back_to (MeetsFront job pose m n quarter) box.half (box_pieces job Fourth box) some in
    let found = of_some_box (MeetsFront job pose m n quarter) job Fourth box back.1 in
    by_quarter back.0 found.0 found.1 found.2 found.3
  where
    by_quarter : box.half ≡ BackHalf → (q : Quarter) (rect : Rect) → piece_at job box q ≡ Some rect → MeetsFront job pose m n quarter (piece_from job Fourth box q rect) → (box.id ≡ n) × SomeBox pose m (IsSelfHit job box quarter)
    by_quarter back q rect is holds =
        let other = of_front job pose m (piece_from job Fourth box q rect) holds.1 in
        (holds.0.0, subst (λ (z : Quarter). SomeBox pose m (IsSelfHit job box z)) holds.0.1 (other.0, other.1, other.2, other.3, (other.4.0, met_self job box other.1 q rect is back other.4.1.0 other.4.1.1)))

pub self_from : (job : JobData) (pose : PoseData) (n : ℕ) (quarter : Quarter) (m : ℕ) → SomeHit (λ o. o.index) IsPieceMet (back_pieces job pose.boxes) (front_obstacles job pose.boxes) n quarter m → SomeBox pose n (λ box. SomeBox pose m (IsSelfHit job box quarter))
self_from job pose n quarter m some =
    any_weaker (λ box. Any (MeetsFront job pose m n quarter) (if_back box.half (box_pieces job Fourth box))) (λ box. (box.id ≡ n) × SomeBox pose m (IsSelfHit job box quarter)) pose.boxes (front_meets_box job pose m n quarter)
    (any_flat_to (MeetsFront job pose m n quarter) (λ box. if_back box.half (box_pieces job Fourth box)) pose.boxes some)
