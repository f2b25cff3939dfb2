-- The lists of the code by their indices.
use Rattle.std.specs.Prelude.{ℕ, ◌-◌, pos, Bool, List, slice_index_or}
use Rattle.part_file.specs.declared.part.Dir.TheVariants.{Up}
use Rattle.part_file.specs.Part.{FaceData}
use Rattle.unfolder.specs.declared.blank.FlatRect.{FlatRect}
use Rattle.unfolder.specs.declared.blank.BendLine.{BendLine}
use Rattle.unfolder.specs.declared.blank.FlatFace.{FlatFace}
use Rattle.unfolder.specs.declared.frame.Frame.{Frame}
use Rattle.unfolder.specs.Cores.{joint_of, is_off_edge}
use Rattle.unfolder.specs.Blank.{flat_image, line_image}
use Rattle.unfolder.specs.Frames.{frame_map}

abbrev pub no_rect : FlatRect
no_rect = record { x0 = pos 0; x1 = pos 0; y0 = pos 0; y1 = pos 0 }

-- a bend line where there is none
abbrev pub no_line : BendLine
no_line = record { bend = 0; from = (pos 0, pos 0); to = (pos 0, pos 0); dir = Up }

-- bend b is off the edge of its parent's core, by the lists of cores and of lines
abbrev pub is_off_edge_in : List FaceData → List FlatRect → List BendLine → ℕ → Bool
is_off_edge_in faces cores lines b =
    is_off_edge (slice_index_or cores (joint_of faces b).on no_rect)
    (slice_index_or lines (b - 1) no_line)

abbrev pub no_frame : Frame
no_frame = record { turn = 0; x = pos 0; y = pos 0 }

-- face f laid in its frame
abbrev pub laid_face : List FlatRect → List Frame → ℕ → FlatFace
laid_face cores frames f = let frame = slice_index_or frames f no_frame in record {
  rect = flat_image (frame_map frame) (slice_index_or cores f no_rect);
  turn = frame.turn;
}

-- bend b laid in the frame of its parent
abbrev pub laid_line : List FaceData → List Frame → List BendLine → ℕ → BendLine
laid_line faces frames lines b =
    line_image (frame_map (slice_index_or frames (joint_of faces b).on no_frame))
    (slice_index_or lines (b - 1) no_line)
