use Rattle.sheet_figures.specs.Extending.{Extends}
use Rattle.sheet_figures.proofs.face_names.put_bend_numbers.Given as goal

abbrev pub invariant-loop-line : goal.invariant-loop-line
invariant-loop-line l = Extends l.initial.out.items l.out.items
