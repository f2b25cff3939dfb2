-- What the side views of a stroke show: the least rectangle across the bed that holds the tools'
-- working ends, the part before the stroke and after it, and the stop fingers. Lengths are in
-- micrometres.
use Rattle.std.specs.Prelude.{ℕ, ℤ, pos, neg_ℤ, ◌+ℤ◌, ◌-ℤ◌, ◌*ℤ◌, ◌≤ℤ◌, unsigned_abs}
use Rattle.std.specs.Prelude.{List, [], ◌∷◌, ◌++◌, map, flat_map, fold, All, Option}
use Rattle.std.specs.Prelude.{Some, None}
use Rattle.std.specs.Int.{int_max, int_min, int_div_euclid}
use Rattle.brake_base.specs.declared.plane.Rect.{Rect}
use Rattle.brake_base.specs.declared.space.Box3.{Box3}
use Rattle.brake_base.specs.declared.stroke.Half.{Half}
use Rattle.brake_base.specs.declared.stroke.Half.TheVariants.{Back, Front}
use Rattle.unfolder.specs.Extent.{IsNear}
use Rattle.fold_boxes.specs.declared.posed_part.PoseBox.{PoseBox}
use Rattle.job_setup.specs.Setup.{StageData, JobData}
use Rattle.job_setup.specs.StageOf.{stage_of}
use Rattle.sheet_views.specs.declared.fingers.Fingers.{Fingers}
use Rattle.sheet_views.specs.declared.side_view.Point.{Point}

abbrev pub point : ℤ → ℤ → Point
point y z = record { y = y; z = z }

-- how far a box of a die reaches from the bend line, and how far the whole die does, but at least as
-- far as its opening is wide, and at most three times as far
abbrev pub rect_reach : Rect → ℤ
rect_reach r = int_max (pos (unsigned_abs r.y0)) (pos (unsigned_abs r.y1))

abbrev pub die_reach : StageData → ℤ
die_reach stage =
    let far = fold int_max (pos 0) (map rect_reach stage.die.body) in
    int_min (int_max far stage.die.v) (pos 3 *ℤ stage.die.v)

-- The tools' working ends: as deep below the sheet as the die's opening is wide, and as high as
-- twice that, or twice the punch's nose.
abbrev pub tool_corners : ℤ → StageData → List Point
tool_corners thickness stage =
    point (neg_ℤ (die_reach stage)) (neg_ℤ thickness -ℤ stage.die.v)
    ∷ point (die_reach stage) (int_max (pos 2 *ℤ stage.punch.nose) (pos 2 *ℤ stage.die.v))
    ∷ []

-- Where a point of a half is after the stroke, or a little beyond: 5/7 stands for the cosine of 45
-- degrees, which is a little less; rounded down.
abbrev pub turned : Half → Point → Point
turned Back p =
    point (int_div_euclid (pos 5 *ℤ (p.y -ℤ p.z)) (pos 7))
    (int_div_euclid (pos 5 *ℤ (p.y +ℤ p.z)) (pos 7))
turned Front p =
    point (int_div_euclid (pos 5 *ℤ (p.y +ℤ p.z)) (pos 7))
    (int_div_euclid (pos 5 *ℤ (p.z -ℤ p.y)) (pos 7))

-- a point of a half before the stroke and after it
abbrev pub swept : Half → Point → List Point
swept half p = p ∷ turned half p ∷ []

-- the corners of a box across the bed, before the stroke and after it
abbrev pub box_corners : PoseBox → List Point
box_corners b =
    swept b.half (point b.body.lo.y b.body.lo.z)
    ++ (swept b.half (point b.body.hi.y b.body.lo.z)
    ++ (swept b.half (point b.body.lo.y b.body.hi.z)
    ++ swept b.half (point b.body.hi.y b.body.hi.z)))

-- the far end of a finger
abbrev pub far_corners : Box3 → List Point
far_corners finger = point finger.hi.y finger.lo.z ∷ point finger.hi.y finger.hi.z ∷ []

abbrev pub finger_corners : Option Fingers → List Point
finger_corners None = []
finger_corners (Some fingers) = far_corners fingers.left ++ far_corners fingers.right

-- the points that the side views of a stroke at a stage show
abbrev pub shown_points : JobData → ℕ → List PoseBox → Option Fingers → List Point
shown_points job stage boxes fingers =
    (tool_corners job.part.thickness (stage_of job stage) ++ flat_map box_corners boxes)
    ++ finger_corners fingers

-- the point lies in the rectangle or on its edge
pub record IsInRect (r : Rect) (p : Point) : Type 0 where
  pub front : r.y0 ≤ℤ p.y
  pub back : p.y ≤ℤ r.y1
  pub low : r.z0 ≤ℤ p.z
  pub high : p.z ≤ℤ r.z1

-- the second rectangle lies in the first
pub record IsRectIn (r inner : Rect) : Type 0 where
  pub front : r.y0 ≤ℤ inner.y0
  pub back : inner.y1 ≤ℤ r.y1
  pub low : r.z0 ≤ℤ inner.z0
  pub high : inner.z1 ≤ℤ r.z1

-- The rectangle holds the points, and lies in every rectangle that holds them.
pub record IsLeastRect (points : List Point) (r : Rect) : Type 0 where
  pub holds : All (IsInRect r) points
  pub least : (other : Rect) → All (IsInRect other) points → IsRectIn other r

-- The second rectangle is the least that holds these points too, whatever points the first is the
-- least for.
abbrev pub Grows : Rect → List Point → Rect → Type 0
Grows r more grown =
    (points : List Point) → IsLeastRect points r → IsLeastRect (points ++ more) grown

-- both coordinates lie within 1,000,000,000 micrometres of 0
pub record IsNearPoint (p : Point) : Type 0 where
  pub y : IsNear p.y
  pub z : IsNear p.z
