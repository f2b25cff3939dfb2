-- What is found of pieces that meet obstacles or noses: the first by the piece's box, its quarter,
-- and the obstacle's number.
use Rattle.std.specs.Prelude.{◌≡◌, ℕ, ◌<◌, ◌≤◌, pos, ◌≤ℤ◌, ◌^◌, Bool, false, ◌&&◌, IsTrue, List, []}
use Rattle.std.specs.Prelude.{◌∷◌, All, Any, Option, Some, None}
use Rattle.brake_base.specs.declared.plane.Quarter.{Quarter}
use Rattle.brake_base.specs.Order.{IsBefore}
use Rattle.brake_base.specs.Reasons.{quarter_number}
use Rattle.sector_geom.specs.declared.sector.Sweep.TheVariants.{Eighth}
use Rattle.sector_geom.specs.Plane.{HasInterior, IsInRange}
use Rattle.sector_geom.specs.Pieces.{LiesIn}
use Rattle.sector_geom.specs.Covers.{cover_of, IsCoverBy}
use Rattle.sector_geom.specs.Clear.{IsClearOfNose}
use Rattle.sector_geom.specs.Free.{IsFree}
use Rattle.job_setup.specs.declared.obstacle.Group.{Group}
use Rattle.job_setup.specs.declared.obstacle.Group.TheVariants.{Upper, Lower}
use Rattle.job_setup.specs.declared.obstacle.Obstacle.{Obstacle}
use Rattle.job_setup.specs.declared.setup.Stage.{Stage}
use Rattle.job_setup.specs.Setup.{StageData, stage_data}
use Rattle.job_setup.specs.Places.{is_overlap}
use Rattle.job_setup.specs.Reasons.{seen_from}
use Rattle.sweep_check.specs.declared.pieces.Piece.{Piece}
use Rattle.sweep_check.specs.declared.hits.Hit.{Hit}
use Rattle.sweep_check.specs.declared.noses.PunchNose.{PunchNose}

-- the obstacle is a sunk one
abbrev pub is_sunk_group : Group → Bool
is_sunk_group Upper = false
is_sunk_group (Lower sunk) = sunk

-- The ranges of the piece and the obstacle along the bed share an interior point, and the obstacle
-- isn't a sunk one that the piece can't meet.
pub record IsPieceNear (piece : Piece) (obstacle : Obstacle) : Type 0 where
  pub along : IsTrue (is_overlap (piece.x0, piece.x1) (obstacle.x0, obstacle.x1))
  pub tested : (is_sunk_group obstacle.group && piece.is_high) ≡ false

-- the piece is free of the obstacle, which is seen as the piece's half is
abbrev pub IsPieceFree : Piece → Obstacle → Type 0
IsPieceFree piece obstacle =
    IsFree piece.depth piece.quarter piece.sweep piece.rect (seen_from piece.half obstacle.rect)

-- The piece meets the obstacle: it is near, and the piece isn't free of it.
pub record IsPieceMet (piece : Piece) (obstacle : Obstacle) : Type 0 where
  pub near : IsPieceNear piece obstacle
  pub swept : IsPieceFree piece obstacle → ⊥

-- The piece meets the nose.
pub record IsNoseMet (piece : Piece) (nose : PunchNose) : Type 0 where
  pub along : IsTrue (is_overlap (piece.x0, piece.x1) (nose.x0, nose.x1))
  pub swept : IsClearOfNose piece.cover nose.size → ⊥

-- the nose of a stage's punch
abbrev pub nose_of : ℕ × StageData → PunchNose
nose_of stage =
    record { stage = stage.0; x0 = stage.1.x0; x1 = stage.1.x1; size = stage.1.punch.nose }

-- the same of a stage as the code keeps it
abbrev pub stage_nose : ℕ × Stage → PunchNose
stage_nose stage = nose_of (stage.0, stage_data stage.1)

-- The obstacle has an interior, and its numbers are those for which sectors are tested.
pub record IsSolidObstacle (obstacle : Obstacle) : Type 0 where
  pub interior : HasInterior obstacle.rect
  pub in_range : IsInRange obstacle.rect

-- the nose's size is one for which sectors are tested
pub record IsNose (nose : PunchNose) : Type 0 where
  pub low : pos 0 ≤ℤ nose.size
  pub high : nose.size ≤ℤ pos (2 ^ 30)

-- The piece lies in its quarter and has an interior, its cover is its own, and it is halved at most
-- 12 times in a row.
pub record IsCovered (piece : Piece) : Type 0 where
  pub in_range : IsInRange piece.rect
  pub in_quarter : LiesIn piece.quarter piece.rect
  pub interior : HasInterior piece.rect
  pub cover : piece.cover ≡ cover_of piece.quarter piece.sweep piece.rect
  pub depth : piece.depth ≤ 12

-- the piece's cover came from `cover`, with the sweep of one half of the sheet
abbrev pub IsEighth : Piece → Type 0
IsEighth piece = IsCoverBy Eighth piece.cover

-- the first piece's box is before the second's, or they are of one box and its quarter is before
-- the second's
abbrev pub PieceIsBefore : Piece → Piece → Type 0
PieceIsBefore a b =
    IsBefore (a.body ∷ quarter_number a.quarter ∷ []) (b.body ∷ quarter_number b.quarter ∷ [])

-- the place of a hit in the order of reasons of one kind
abbrev pub hit_place : ℕ → Quarter → ℕ → List ℕ
hit_place body quarter other = body ∷ quarter_number quarter ∷ other ∷ []

-- the least number of an item with the property; nothing exactly where no item has it
abbrev pub IsLeastNumber : {X : Type 0} → (X → ℕ) → (X → Type 0) → List X → Option ℕ → Type 0
IsLeastNumber number P xs None = All (λ x. P x → ⊥) xs
IsLeastNumber number P xs (Some n) =
    Any (λ x. (number x ≡ n) × P x) xs × All (λ x. P x → number x < n → ⊥) xs

-- some piece of this box in this quarter meets an item of this number
abbrev pub SomeHit : {X : Type 0} → (X → ℕ) → (Piece → X → Type 0) → List Piece → List X → ℕ
    → Quarter → ℕ → Type 0
SomeHit number P pieces xs body quarter other =
    Any (λ piece. ((piece.body ≡ body) × (piece.quarter ≡ quarter))
    × Any (λ x. (number x ≡ other) × P piece x) xs) pieces

-- The first hit of a piece and an item; nothing exactly where no piece meets an item.
abbrev pub IsFirstHit : {X : Type 0} → (X → ℕ) → (Piece → X → Type 0) → List Piece → List X
    → Option Hit → Type 0
IsFirstHit number P pieces xs None = All (λ piece. All (λ x. P piece x → ⊥) xs) pieces
IsFirstHit number P pieces xs (Some hit) =
    SomeHit number P pieces xs hit.body hit.quarter hit.other
    × All (λ piece. All (λ x. P piece x
    → IsBefore (hit_place piece.body piece.quarter (number x))
    (hit_place hit.body hit.quarter hit.other)
    → ⊥) xs) pieces
