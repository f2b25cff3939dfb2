use Rattle.std.proofs.Common.{◌≡◌, ◌++◌, take}
use Rattle.std.specs.List.{flat_map}
use Rattle.cert_lines.specs.Lines.{line_text, box_line}
use Rattle.cert_lines.proofs.job_lines.put_boxes.Given as goal

abbrev pub invariant-loop-rect : goal.invariant-loop-rect
invariant-loop-rect l = l.out.items ≡ l.initial.out.items ++ flat_map (λ rect. line_text (box_line rect)) (take l.rect-index l.boxes)
