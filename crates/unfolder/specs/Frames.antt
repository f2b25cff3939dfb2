-- The frames of the code as maps.
use Rattle.std.specs.Prelude.{◌≡◌, ℕ, ◌*◌, ◌<◌, ℤ, pos, List, length, slice_index_or}
use Rattle.brake_base.specs.Vectors.{vector}
use Rattle.brake_base.specs.Turns.{Map, quarter_turns}
use Rattle.part_file.specs.Part.{FaceData}
use Rattle.unfolder.specs.declared.frame.Frame.{Frame}
use Rattle.unfolder.specs.Near.{IsWithin}
use Rattle.unfolder.specs.Blank.{flat}

-- the frame as a map: quarter turns about z, then a shift in the plane
abbrev pub frame_map : Frame → Map
frame_map frame = record { turn = quarter_turns frame.turn; shift = vector frame.x frame.y (pos 0) }

-- the frame of a face that has at most so many bends to the root
pub record IsFrameWithin (bends : ℕ) (frame : Frame) : Type 0 where
  pub turn : frame.turn < 4
  pub x : IsWithin (bends * 21000000) frame.x
  pub y : IsWithin (bends * 21000000) frame.y

-- the frame in which face f lies flat
pub record IsFrameOf (faces : List FaceData) (q : ℤ) (f : ℕ) (frame : Frame) : Type 0 where
  pub map : frame_map frame ≡ flat faces q f
  pub within : IsFrameWithin f frame

-- the frames of the first faces, in order
abbrev pub AreFrames : List FaceData → ℤ → List Frame → Type 0
AreFrames faces q frames =
    (f : ℕ) (other : Frame) → f < length frames
    → IsFrameOf faces q f (slice_index_or frames f other)
