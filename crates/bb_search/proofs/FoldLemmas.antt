-- The room that folds take.
use Rattle.std.proofs.Common.{◌≡◌, ℕ, zero, suc, ◌+◌, ◌-◌, ◌*◌, ◌≤◌, length, arith}
use Rattle.brake_base.specs.declared.space.Place.{Place}
use Rattle.brake_base.specs.declared.mask.Mask.{Mask}
use Rattle.undo_region.specs.Room.{ListWithRoom}
use Rattle.fold_boxes.specs.Shapes.{ShapeData}
use Rattle.bend_state.specs.State.{AreKept, moved_before}
use Rattle.bend_state.proofs.Moved.{moved_few}

few_moved : (shape : ShapeData) (group : Mask) (faces : ℕ) → faces ≤ 13 → moved_before shape group faces ≤ 12
unfolding moved_before
few_moved shape group zero few = omega arith
few_moved shape group (suc k) few = let most = moved_few shape group k in omega (arith, most, few)

-- a fold takes room for at most 13 places
pub room_left : (shape : ShapeData) (mask group : Mask) (start wound : ListWithRoom Place) (n : ℕ) → length shape.part.faces ≤ 13 → AreKept shape mask group (length start.items) wound.items →
    wound.room + length wound.items ≡ start.room + length start.items → 13 * n + 13 ≤ start.room → 13 * n ≤ wound.room
room_left shape mask group start wound n few kept all room =
    let count = kept.count in
    let most = few_moved shape group (length shape.part.faces) few in
    omega (arith, count, most, all, room)
