use Rattle.std.proofs.Common.{◌≡◌, ◌*ℤ◌, arith}
use Rattle.std.proofs.lemmas.Int.{ints, to_z-of_z}
use Rattle.allowance.proofs.deduction.half_arc.Goals as goal

pub returns-clause-value : goal.returns-clause-value
returns-clause-value c =
    let t_fits = c.ranges.t in
    let k_fits = c.ranges.k in
    let same : c.weighted.result ≡ c.args.k *ℤ c.args.t = simp to_z-of_z at c.weighted.ensures.value in
    rw (← same) (omega (arith, ints))

pub returns-clause-low : goal.returns-clause-low
returns-clause-low c = omega (arith, ints)

pub returns-clause-high : goal.returns-clause-high
returns-clause-high c = omega (arith, ints)
