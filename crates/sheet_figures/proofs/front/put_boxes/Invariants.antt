use Rattle.std.proofs.Common.{◌≡◌, ◌++◌, drop}
use Rattle.sheet_figures.specs.Fronts.{machine_lines}
use Rattle.sheet_figures.proofs.front.put_boxes.Given as goal

abbrev pub invariant-loop-i : goal.invariant-loop-i
invariant-loop-i l = l.out.items ++ machine_lines l.form l.window l.i (drop l.i l.boxes) ≡ l.initial.out.items ++ machine_lines l.form l.window 0 l.boxes
