use Rattle.std.proofs.Common.{◌≡◌, ◌++◌, take}
use Rattle.std.specs.List.{flat_map}
use Rattle.cert_lines.specs.Lines.{line_text, frame_line}
use Rattle.cert_lines.proofs.job_lines.put_frames.Given as goal

abbrev pub invariant-loop-frame : goal.invariant-loop-frame
invariant-loop-frame l = l.out.items ≡ l.initial.out.items ++ flat_map (λ frame. line_text (frame_line frame)) (take l.frame-index l.frames)
