use Rattle.std.proofs.Common.{◌≡◌, ◌++◌, take}
use Rattle.std.specs.List.{flat_map}
use Rattle.sheet_figures.specs.Beds.{side_frame_line}
use Rattle.sheet_figures.proofs.bed.put_side_frames.Given as goal

abbrev pub invariant-loop-frame : goal.invariant-loop-frame
invariant-loop-frame l = l.out.items ≡ l.initial.out.items ++ flat_map (side_frame_line l.window) (take l.frame-index l.frames)
