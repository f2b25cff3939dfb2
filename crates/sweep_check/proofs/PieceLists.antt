-- The lists of pieces: in order, covered, and complete.
use Rattle.std.proofs.Common.{◌≡◌, inl, inr, ◌<◌, ◌≤ℤ◌, pos, List, [], ◌∷◌, get_or, Some, refl, sym, arith}
use Rattle.std.specs.Prelude.{All, Any, AllPairs, option_to_list}
use Rattle.std.proofs.lemmas.List.{append-nil}
use Rattle.std.proofs.lemmas.List.Elements.{All-nil, All-cons}
use Rattle.brake_base.specs.declared.plane.Rect.{Rect}
use Rattle.brake_base.specs.declared.plane.Quarter.{Quarter}
use Rattle.brake_base.specs.declared.plane.Quarter.TheVariants.{Q1, Q2, Q3, Q4}
use Rattle.brake_base.specs.declared.stroke.Half.{Half}
use Rattle.brake_base.specs.declared.stroke.Half.TheVariants.{Back, Front}
use Rattle.brake_base.specs.Reasons.{quarter_number}
use Rattle.fold_boxes.specs.declared.posed_part.PoseBox.{PoseBox}
use Rattle.sector_geom.specs.declared.sector.Sweep.{Sweep}
use Rattle.sector_geom.specs.declared.sector.Sweep.TheVariants.{Eighth, Fourth}
use Rattle.sector_geom.specs.Covers.{IsCoverBy}
use Rattle.sector_geom.proofs.PieceLaws.{piece_is}
use Rattle.job_setup.specs.declared.obstacle.Obstacle.{Obstacle}
use Rattle.job_setup.specs.Setup.{JobData}
use Rattle.job_setup.specs.ValidJob.{IsJob}
use Rattle.job_setup.specs.Reasons.{widening, moving_rect, piece_at}
use Rattle.job_setup.proofs.BoxByBox.{all_flat_map}
use Rattle.sweep_check.specs.declared.pieces.Piece.{Piece}
use Rattle.sweep_check.specs.Pieces.{IsSolidBox, piece_from, piece_in, box_pieces, pieces_of, if_back, if_front, back_pieces, front_obstacle, front_obstacles}
use Rattle.sweep_check.specs.Hits.{IsSolidObstacle, IsCovered, IsEighth, PieceIsBefore}
use Rattle.sweep_check.proofs.Some.{any_here, any_cons, any_flat_from, any_flat_to, any_option_from, any_option_to, all_option}
use Rattle.sweep_check.proofs.Ascending.{pairs_nil, pairs_cons, pairs_flat, pairs_option}
use Rattle.sweep_check.proofs.Bounds.{moving_in_range, front_solid, widening_high}

abbrev quarters : List Quarter
quarters = Q1 ∷ Q2 ∷ Q3 ∷ Q4 ∷ []

abbrev QuarterIsBefore : Quarter → Quarter → Type 0
QuarterIsBefore a b = quarter_number a < quarter_number b

quarters_ascend : AllPairs QuarterIsBefore quarters
quarters_ascend =
    pairs_cons QuarterIsBefore Q1 (Q2 ∷ Q3 ∷ Q4 ∷ []) (All-cons (QuarterIsBefore Q1) Q2 (Q3 ∷ Q4 ∷ []) (omega arith) (All-cons (QuarterIsBefore Q1) Q3 (Q4 ∷ []) (omega arith) (All-cons (QuarterIsBefore Q1) Q4 [] (omega arith) (All-nil (QuarterIsBefore Q1)))))
    (pairs_cons QuarterIsBefore Q2 (Q3 ∷ Q4 ∷ []) (All-cons (QuarterIsBefore Q2) Q3 (Q4 ∷ []) (omega arith) (All-cons (QuarterIsBefore Q2) Q4 [] (omega arith) (All-nil (QuarterIsBefore Q2))))
    (pairs_cons QuarterIsBefore Q3 (Q4 ∷ []) (All-cons (QuarterIsBefore Q3) Q4 [] (omega arith) (All-nil (QuarterIsBefore Q3)))
    (pairs_cons QuarterIsBefore Q4 [] (All-nil (QuarterIsBefore Q4)) (pairs_nil QuarterIsBefore))))

in_quarters : (P : Quarter → Type 0) (quarter : Quarter) → P quarter → Any P quarters
in_quarters P Q1 h = any_here P Q1 (Q2 ∷ Q3 ∷ Q4 ∷ []) h
in_quarters P Q2 h = any_cons P Q1 (Q2 ∷ Q3 ∷ Q4 ∷ []) (any_here P Q2 (Q3 ∷ Q4 ∷ []) h)
in_quarters P Q3 h = any_cons P Q1 (Q2 ∷ Q3 ∷ Q4 ∷ []) (any_cons P Q2 (Q3 ∷ Q4 ∷ []) (any_here P Q3 (Q4 ∷ []) h))
in_quarters P Q4 h = any_cons P Q1 (Q2 ∷ Q3 ∷ Q4 ∷ []) (any_cons P Q2 (Q3 ∷ Q4 ∷ []) (any_cons P Q3 (Q4 ∷ []) (any_here P Q4 [] h)))

-- what holds of each piece of a box
pub all_of_box : (P : Piece → Type 0) (job : JobData) (sweep : Sweep) (box : PoseBox) → ((quarter : Quarter) (rect : Rect) → piece_at job box quarter ≡ Some rect → P (piece_from job sweep box quarter rect)) → All P (box_pieces job sweep box)
all_of_box P job sweep box each =
    all_flat_map P (λ quarter. option_to_list (piece_in job sweep box quarter)) quarters
    (λ k d inside. all_option P (piece_from job sweep box (get_or quarters k d)) (piece_at job box (get_or quarters k d)) (λ rect is. each (get_or quarters k d) rect is))

-- a piece of a box
pub some_of_box : (P : Piece → Type 0) (job : JobData) (sweep : Sweep) (box : PoseBox) (quarter : Quarter) (rect : Rect) → piece_at job box quarter ≡ Some rect → P (piece_from job sweep box quarter rect) → Any P (box_pieces job sweep box)
some_of_box P job sweep box quarter rect is holds =
    any_flat_from P (λ q. option_to_list (piece_in job sweep box q)) quarters
    (in_quarters (λ q. Any P (option_to_list (piece_in job sweep box q))) quarter (any_option_from P (piece_from job sweep box quarter) (piece_at job box quarter) rect is holds))

pub of_some_box : (P : Piece → Type 0) (job : JobData) (sweep : Sweep) (box : PoseBox) → Any P (box_pieces job sweep box) → (quarter : Quarter) × (rect : Rect) × (piece_at job box quarter ≡ Some rect) × P (piece_from job sweep box quarter rect)
of_some_box P job sweep box some =
    let at = any_flat_to P (λ q. option_to_list (piece_in job sweep box q)) quarters some in
    let found = any_option_to P (piece_from job sweep box at.1) (piece_at job box at.1) at.4 in
    (at.1, found.0, found.1, found.2)

-- one box's pieces, as those of a list
pub of_one : (job : JobData) (sweep : Sweep) (box : PoseBox) → box_pieces job sweep box ≡ pieces_of job sweep (box ∷ [])
of_one job sweep box = sym (append-nil (box_pieces job sweep box))

-- ---- in order
pub box_ascends : (job : JobData) (sweep : Sweep) (box : PoseBox) → AllPairs PieceIsBefore (box_pieces job sweep box)
box_ascends job sweep box =
    pairs_flat QuarterIsBefore PieceIsBefore (λ q. option_to_list (piece_in job sweep box q)) quarters (λ q. pairs_option PieceIsBefore (piece_from job sweep box q) (piece_at job box q))
    (λ p q before.
    all_option (λ a. All (PieceIsBefore a) (option_to_list (piece_in job sweep box q))) (piece_from job sweep box p) (piece_at job box p) (λ r is.
    all_option (PieceIsBefore (piece_from job sweep box p r)) (piece_from job sweep box q) (piece_at job box q) (λ s found. inr (refl, inl before))))
    quarters_ascend

pub all_back : {X : Type 0} (P : X → Type 0) (half : Half) (xs : List X) → All P xs → All P (if_back half xs)
all_back P Back xs all = all
all_back P Front xs all = All-nil P

all_front : {X : Type 0} (P : X → Type 0) (half : Half) (xs : List X) → All P xs → All P (if_front half xs)
all_front P Back xs all = All-nil P
all_front P Front xs all = all

pairs_front : {X : Type 0} (R : X → X → Type 0) (half : Half) (xs : List X) → AllPairs R xs → AllPairs R (if_front half xs)
pairs_front R Back xs pairs = pairs_nil R
pairs_front R Front xs pairs = pairs

abbrev ObstacleIsBefore : Obstacle → Obstacle → Type 0
ObstacleIsBefore a b = a.index < b.index

pub front_ascends : (job : JobData) (boxes : List PoseBox) → AllPairs (λ a b. a.id < b.id) boxes → AllPairs (λ (a b : Obstacle). a.index < b.index) (front_obstacles job boxes)
front_ascends job boxes ascend =
    pairs_flat (λ a b. a.id < b.id) ObstacleIsBefore (λ box. if_front box.half (front_obstacle job box ∷ [])) boxes
    (λ box. pairs_front ObstacleIsBefore box.half (front_obstacle job box ∷ []) (pairs_cons ObstacleIsBefore (front_obstacle job box) [] (All-nil (ObstacleIsBefore (front_obstacle job box))) (pairs_nil ObstacleIsBefore)))
    (λ x y before.
    all_front (λ a. All (ObstacleIsBefore a) (if_front y.half (front_obstacle job y ∷ []))) x.half (front_obstacle job x ∷ [])
    (All-cons (λ a. All (ObstacleIsBefore a) (if_front y.half (front_obstacle job y ∷ []))) (front_obstacle job x) []
    (all_front (ObstacleIsBefore (front_obstacle job x)) y.half (front_obstacle job y ∷ []) (All-cons (ObstacleIsBefore (front_obstacle job x)) (front_obstacle job y) [] before (All-nil (ObstacleIsBefore (front_obstacle job x)))))
    (All-nil (λ a. All (ObstacleIsBefore a) (if_front y.half (front_obstacle job y ∷ []))))))
    ascend

-- ---- covered
abbrev IsBy : Sweep → Piece → Type 0
IsBy sweep piece = IsCoverBy sweep piece.cover

pub box_covered : (job : JobData) (sweep : Sweep) (box : PoseBox) → widening job ≤ℤ pos 100000 → IsSolidBox box → All (IsBy sweep) (box_pieces job sweep box)
box_covered job sweep box small solid =
    all_of_box (IsBy sweep) job sweep box (λ quarter rect is.
    let piece = piece_is quarter (moving_rect job box) rect (moving_in_range job box small solid) is in
    record { piece = rect; quarter = quarter; in_range = piece.in_range; in_quarter = piece.in_quarter; interior = piece.interior; value = refl })

pub eighths : (job : JobData) (boxes : List PoseBox) → widening job ≤ℤ pos 100000 → All IsSolidBox boxes → All IsEighth (pieces_of job Eighth boxes)
eighths job boxes small solid = all_flat_map IsEighth (box_pieces job Eighth) boxes (λ k d inside. box_covered job Eighth (get_or boxes k d) small (solid k d inside))

pub box_kept : (job : JobData) (sweep : Sweep) (box : PoseBox) → IsJob job → IsSolidBox box → All IsCovered (box_pieces job sweep box)
box_kept job sweep box fit solid =
    all_of_box IsCovered job sweep box (λ quarter rect is.
    let piece = piece_is quarter (moving_rect job box) rect (moving_in_range job box (widening_high job fit) solid) is in
    record { in_range = piece.in_range; in_quarter = piece.in_quarter; interior = piece.interior; cover = refl; depth = fit.setup.rules.fine })

pub all_covered : (job : JobData) (sweep : Sweep) (boxes : List PoseBox) → IsJob job → All IsSolidBox boxes → All IsCovered (pieces_of job sweep boxes)
all_covered job sweep boxes fit solid = all_flat_map IsCovered (box_pieces job sweep) boxes (λ k d inside. box_kept job sweep (get_or boxes k d) fit (solid k d inside))

pub back_covered : (job : JobData) (boxes : List PoseBox) → IsJob job → All IsSolidBox boxes → All IsCovered (back_pieces job boxes)
back_covered job boxes fit solid =
    all_flat_map IsCovered (λ box. if_back box.half (box_pieces job Fourth box)) boxes (λ k d inside.
    let box = get_or boxes k d in
    all_back IsCovered box.half (box_pieces job Fourth box) (box_kept job Fourth box fit (solid k d inside)))

pub fronts_solid : (job : JobData) (boxes : List PoseBox) → widening job ≤ℤ pos 100000 → All IsSolidBox boxes → All IsSolidObstacle (front_obstacles job boxes)
fronts_solid job boxes small solid =
    all_flat_map IsSolidObstacle (λ box. if_front box.half (front_obstacle job box ∷ [])) boxes (λ k d inside.
    let box = get_or boxes k d in
    all_front IsSolidObstacle box.half (front_obstacle job box ∷ []) (All-cons IsSolidObstacle (front_obstacle job box) [] (front_solid job box small (solid k d inside)) (All-nil IsSolidObstacle)))
