-- The lower tools rise while the sheet turns. What the sweep leaves untested against a sunk box
-- never meets it.
use Rattle.std.specs.Prelude.{◌≡◌, ℕ, ℤ, neg_ℤ, ◌+ℤ◌, ◌*ℤ◌, ◌<ℤ◌, true, All, IfSome}
use Rattle.brake_base.specs.declared.plane.Rect.{Rect}
use Rattle.brake_base.specs.declared.plane.Rat2.{Rat2}
use Rattle.brake_base.specs.declared.plane.Quarter.{Quarter}
use Rattle.brake_base.specs.declared.stroke.Half.{Half}
use Rattle.machine_file.specs.declared.machine.Fixed.{Fixed}
use Rattle.fold_boxes.specs.declared.posed_part.PoseBox.{PoseBox}
use Rattle.fold_boxes.specs.Pose.{PoseData}
use Rattle.sector_geom.specs.Plane.{Holds}
use Rattle.sector_geom.specs.Motion.{Triple, IsTriple, IsRise, turned}
use Rattle.job_setup.specs.declared.obstacle.Group.TheVariants.{Lower}
use Rattle.job_setup.specs.Setup.{JobData}
use Rattle.job_setup.specs.StageOf.{stage_of}
use Rattle.job_setup.specs.Obstacles.{raised, lower_boxes, half_opening, is_sunk}
use Rattle.job_setup.specs.Reasons.{seen_from, piece_at, is_untested}

-- the rational point is strictly inside the rectangle, risen by e/d micrometres
pub record IsInsideRisen (r : Rect) (e d : ℤ) (p : Rat2) : Type 0 where
  pub left : (r.y0 *ℤ p.d) <ℤ p.y
  pub right : p.y <ℤ (r.y1 *ℤ p.d)
  pub low : ((r.z0 *ℤ d +ℤ e) *ℤ p.d) <ℤ (p.z *ℤ d)
  pub high : (p.z *ℤ d) <ℤ ((r.z1 *ℤ d +ℤ e) *ℤ p.d)

-- No rational point of the rectangle is, at any turn and rise, strictly inside the other one, which
-- rises.
abbrev pub MissesRisen : ℤ → ℤ → Rect → Rect → Type 0
MissesRisen thickness half moving r =
    (p : Rat2) (t : Triple) (e d : ℤ) → Holds moving p → IsTriple t → IsRise thickness half t e d
    → IsInsideRisen r e d (turned t p) → ⊥

-- where a lower box stands before it rises, as a half is looked at: lower by the sheet's thickness,
-- so that the dies bear the sheet
abbrev pub lowered_rect : ℤ → Half → Fixed → Rect
lowered_rect thickness half lower = seen_from half (raised (neg_ℤ thickness) lower.rect)

-- No rational point of the rectangle, as a half is looked at, is strictly inside the lower box
-- while that rises at the stage.
abbrev pub MissesLower : JobData → ℕ → Half → Rect → Fixed → Type 0
MissesLower job stage half moving lower =
    let thickness = job.part.thickness in
    MissesRisen thickness (half_opening (stage_of job stage)) moving
    (lowered_rect thickness half lower)

-- the box's piece in a quarter isn't tested against the lower box
abbrev pub IsUntested : JobData → ℕ → Quarter → Rect → Fixed → Type 0
IsUntested job stage quarter piece lower =
    let sunk = is_sunk (half_opening (stage_of job stage)) lower.rect in
    is_untested job.part.thickness quarter piece (Lower sunk) ≡ true

-- a piece of a box never meets the lower boxes against which it isn't tested
abbrev pub MissesSunk : JobData → ℕ → PoseBox → Quarter → Type 0
MissesSunk job stage box quarter =
    IfSome (piece_at job box quarter)
    (λ piece. All (λ lower. IsUntested job stage quarter piece lower
    → MissesLower job stage box.half piece lower) (lower_boxes job))

-- the sunk law, of a pose at the stage of a number
abbrev pub IsSunkLaw : JobData → ℕ → PoseData → Type 0
IsSunkLaw job stage pose =
    All (λ box. (quarter : Quarter) → MissesSunk job stage box quarter) pose.boxes
