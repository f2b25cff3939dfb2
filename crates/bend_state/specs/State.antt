-- The part as it stands between two strokes.
use Rattle.std.specs.Prelude.{◌≡◌, ℕ, ◌+◌, ◌-◌, ◌<◌, Bool, true, List, [], ◌∷◌, length, filter}
use Rattle.std.specs.Prelude.{slice_index_or, ◌++◌, ◌≤◌, ◌&&◌, not}
use Rattle.std.specs.List.{range_with_len}
use Rattle.brake_base.specs.declared.space.Place.{Place}
use Rattle.brake_base.specs.declared.mask.Mask.{Mask}
use Rattle.brake_base.specs.Masks.{has, union}
use Rattle.fold_boxes.specs.Shapes.{ShapeData}
use Rattle.fold_boxes.specs.Places.{IsPlaceOf, ArePlaces}
use Rattle.fold_boxes.specs.Pose.{IsGroup, is_beyond_some}
use Rattle.bend_state.specs.declared.state.Fold.{Fold}

-- a part, its folded bends, and the groups that were folded, in order
pub record StateData : Type 0 where
  pub shape : ShapeData
  pub mask : Mask
  pub folds : List Fold

-- the set of no bend
abbrev pub no_bends : Mask
no_bends = record { 0 = 0 }

-- the folds lead from one set of folded bends to another: each group may be bent where the bends
-- before it are folded
abbrev pub Leads : ShapeData → Mask → List Fold → Mask → Type 0
Leads shape before [] mask = before ≡ mask
Leads shape before (fold ∷ folds) mask =
    (fold.before ≡ before) × IsGroup shape before fold.group
    × Leads shape (union before fold.group) folds mask

-- the places are those of the folded bends, which the folds folded one after the other
pub record IsState (s : StateData) (places : List Place) : Type 0 where
  pub count : length places ≡ length s.shape.part.faces
  pub each : ArePlaces s.shape s.mask places
  pub folded : Leads s.shape no_bends s.folds s.mask

-- a fold of the group moves face f: it lies beyond some bend of the group
abbrev pub moves : ShapeData → Mask → ℕ → Bool
moves shape group = is_beyond_some shape.part.faces (has group)

-- how many of the faces before face f a fold moves
unfoldable pub moved_before : ShapeData → Mask → ℕ → ℕ
moved_before shape group f = length (filter (moves shape group) (range_with_len 1 (f - 1)))

-- the records from the mark on are the places of the faces that a fold moves, in the order of the
-- faces
pub record AreKept (shape : ShapeData) (mask group : Mask) (mark : ℕ) (records : List Place)
    : Type 0 where
  pub count : length records ≡ mark + moved_before shape group (length shape.part.faces)
  pub each :
      (f : ℕ) (other : Place) → 0 < f → f < length shape.part.faces → moves shape group f ≡ true
      → IsPlaceOf shape mask f (slice_index_or records (mark + moved_before shape group f) other)

-- the last fold, where there is one
abbrev pub no_fold : Fold
no_fold = record { before = no_bends; group = no_bends; mark = 0 }

abbrev pub last_fold : List Fold → Fold
last_fold folds = slice_index_or folds (length folds - 1) no_fold

-- the trail has what a fold put on it
abbrev pub IsKept : ShapeData → Fold → List Place → Type 0
IsKept shape fold records = AreKept shape fold.before fold.group fold.mark records

-- the folds of a state, and one of the group as the last
abbrev pub with_fold : StateData → Mask → ℕ → List Fold
with_fold state group mark =
    state.folds ++ record { before = state.mask; group = group; mark = mark } ∷ []

-- what remains of a set without a group: the bends of the set that the group doesn't have
abbrev pub IsWithout : Mask → Mask → Mask → Type 0
IsWithout mask group rest =
    (bend : ℕ) → 1 ≤ bend → bend ≤ 16 → has rest bend ≡ (has mask bend && not (has group bend))
