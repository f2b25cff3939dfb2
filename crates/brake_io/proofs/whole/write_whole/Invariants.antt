use Rattle.std.proofs.Common.{◌≡◌, ◌++◌, List, ℕ, length}
use Rattle.std.specs.Io.KnownBytes.{Appends}
use Rattle.brake_io.proofs.whole.write_whole.Given as goal

-- what the writer took is what is gone from the rest
abbrev pub invariant-loop-rest : goal.invariant-loop-rest
invariant-loop-rest g l = (done : List ℕ) × (l.bytes ≡ done ++ l.rest) × Appends (g.W.Write.contents l.initial.to) (g.W.Write.contents l.to) done

abbrev pub decreases-loop-rest : goal.decreases-loop-rest
decreases-loop-rest g l = length l.rest
