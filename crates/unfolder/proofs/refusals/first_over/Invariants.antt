use Rattle.std.proofs.Common.{◌+◌}
use Rattle.unfolder.specs.Blank.{is_overlap_in}
use Rattle.unfolder.proofs.Finding.{NoneBelow}
use Rattle.unfolder.proofs.refusals.first_over.Given as goal

abbrev pub invariant-loop-b : goal.invariant-loop-b
invariant-loop-b l = NoneBelow (λ b. is_overlap_in l.faces (l.a, b)) (l.a + 1) l.b
