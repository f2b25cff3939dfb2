use Rattle.sheet_figures.specs.Extending.{Extends}
use Rattle.sheet_figures.proofs.distance_marks.put_y_marks.Given as goal

abbrev pub invariant-loop-i : goal.invariant-loop-i
invariant-loop-i l = Extends l.initial.out.items l.out.items
