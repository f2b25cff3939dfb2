-- The order in which boxes are painted, and what it is worth.
use Rattle.std.specs.Prelude.{◌≡◌, ◌≢◌, ℕ, ◌<◌, ◌≤◌, ℤ, pos, ◌+ℤ◌, ◌-ℤ◌, ◌*ℤ◌, ◌<ℤ◌}
use Rattle.std.specs.Prelude.{Bool, true, false, List, length, take, slice_index_or}
use Rattle.std.specs.Int.{int_max}
use Rattle.brake_base.specs.declared.space.Box3.{Box3}
use Rattle.brake_base.specs.Vectors.{vector}
use Rattle.brake_base.specs.Boxes.{Rational3, IsInside, ShareInterior}
use Rattle.box_paint.specs.Projection.{eye}

-- The front box hides a point of the back one: from an inner point of the latter the way to the eye
-- leads to an inner point of the former. Both points are over one denominator.
pub record Hides (front back : Box3) : Type 0 where
  pub seen : Rational3
  pub inside : IsInside back seen
  pub way : ℤ
  pub towards : pos 0 <ℤ way
  pub near : Rational3
  pub same : near.d ≡ seen.d
  pub x : near.x ≡ (seen.x +ℤ (way *ℤ eye.x))
  pub y : near.y ≡ (seen.y +ℤ (way *ℤ eye.y))
  pub z : near.z ≡ (seen.z +ℤ (way *ℤ eye.z))
  pub meets : IsInside front near

-- How far the first box lies on the far side of a plane across an axis that has the second on its
-- near side; below 0 where no such plane is.
abbrev pub ahead : Box3 → Box3 → ℤ
ahead a b =
    int_max (int_max (b.lo.x -ℤ a.hi.x) (a.lo.y -ℤ b.hi.y)) (b.lo.z -ℤ a.hi.z)

-- The shadow of a box along the lines of sight: the ranges over the box of 15y + 16z, 4z - 5x and
-- 4x + 3y, which are the same all along a line of sight, and each the same all along one axis.
abbrev pub shadow : Box3 → Box3
shadow b = record {
  lo =
      vector ((pos 15 *ℤ b.lo.y) +ℤ (pos 16 *ℤ b.lo.z)) ((pos 4 *ℤ b.lo.z) -ℤ (pos 5 *ℤ b.hi.x))
      ((pos 4 *ℤ b.lo.x) +ℤ (pos 3 *ℤ b.lo.y));
  hi =
      vector ((pos 15 *ℤ b.hi.y) +ℤ (pos 16 *ℤ b.hi.z)) ((pos 4 *ℤ b.hi.z) -ℤ (pos 5 *ℤ b.lo.x))
      ((pos 4 *ℤ b.hi.x) +ℤ (pos 3 *ℤ b.hi.y));
}

-- the first box is to be painted before the second
pub record MustPrecede (a b : Box3) : Type 0 where
  pub shadows : ShareInterior (shadow a) (shadow b)
  pub further : ahead b a <ℤ ahead a b
  pub mixed : ahead b a <ℤ pos 0

-- the box of a number, where there is one
abbrev pub box_at : List Box3 → ℕ → Box3 → Box3
box_at boxes i default = slice_index_or boxes i default

-- the box of the number is left: it isn't among those that are taken
abbrev pub IsLeft : List Box3 → List ℕ → ℕ → Type 0
IsLeft boxes taken i =
    (i < length boxes) × ((k : ℕ) → k < length taken → slice_index_or taken k i ≢ i)

-- no box that is left must precede the one of the number
abbrev pub IsFree : List Box3 → (ℕ → Type 0) → ℕ → Type 0
IsFree boxes Left i =
    (j : ℕ) → Left j → (d : Box3) → MustPrecede (box_at boxes j d) (box_at boxes i d) → ⊥

-- The number of the box that is painted next: of those that are left the first free one, or the
-- first where none is free.
pub record IsNext (boxes : List Box3) (Left : ℕ → Type 0) (next : ℕ) : Type 0 where
  pub left : Left next
  pub first_free : (j : ℕ) → Left j → IsFree boxes Left j → IsFree boxes Left next × (next ≤ j)
  pub first_left : (j : ℕ) → Left j → (IsFree boxes Left next → ⊥) → next ≤ j

-- each box is painted once, and each is the next of those that are left then
pub record IsOrder (boxes : List Box3) (order : List ℕ) : Type 0 where
  pub whole : length order ≡ length boxes
  pub next :
      (i : ℕ) → i < length order
      → IsNext boxes (IsLeft boxes (take i order)) (slice_index_or order i 0)

-- the box of the number is marked as not taken
abbrev pub IsUnmarked : List Box3 → List Bool → ℕ → Type 0
IsUnmarked boxes taken i = (i < length boxes) × (slice_index_or taken i true ≡ false)

-- Of two boxes without a common inner point the one that is painted first hides no point of the
-- other, unless it was taken where none was free.
abbrev pub HidesNone : List Box3 → List ℕ → Type 0
HidesNone boxes order =
    (i j : ℕ) (d : Box3) → i < j → j < length order
    → IsFree boxes (IsLeft boxes (take i order)) (slice_index_or order i 0)
    → (ShareInterior (painted i d) (painted j d) → ⊥) → Hides (painted i d) (painted j d) → ⊥
  where
    painted : ℕ → Box3 → Box3
    painted i d = box_at boxes (slice_index_or order i 0) d
