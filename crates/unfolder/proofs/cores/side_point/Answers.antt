use Rattle.std.proofs.Common.{arith}
use Rattle.std.proofs.lemmas.Int.{ints}
use Rattle.brake_base.proofs.Vectors.{same_point}
use Rattle.unfolder.proofs.cores.side_point.Goals as goal

pub returns-in-N-clause-value : goal.returns-in-N-clause-value
returns-in-N-clause-value c = rw c.in-N.is (same_point _ _ (omega (arith, ints)) (omega (arith, ints)) (omega (arith, ints)))

pub returns-in-E-clause-value : goal.returns-in-E-clause-value
returns-in-E-clause-value c = rw c.in-E.is (same_point _ _ (omega (arith, ints)) (omega (arith, ints)) (omega (arith, ints)))

pub returns-in-S-clause-value : goal.returns-in-S-clause-value
returns-in-S-clause-value c = rw c.in-S.is (same_point _ _ (omega (arith, ints)) (omega (arith, ints)) (omega (arith, ints)))

pub returns-in-W-clause-value : goal.returns-in-W-clause-value
returns-in-W-clause-value c = rw c.in-W.is (same_point _ _ (omega (arith, ints)) (omega (arith, ints)) (omega (arith, ints)))
