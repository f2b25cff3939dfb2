use Rattle.sheet_figures.specs.Extending.{Extends}
use Rattle.sheet_figures.proofs.face_names.put_face_names.Given as goal

abbrev pub invariant-loop-i : goal.invariant-loop-i
invariant-loop-i l = Extends l.initial.out.items l.out.items
