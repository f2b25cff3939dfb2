use Rattle.std.proofs.Common.{◌≡◌, w64, SFits, rules, arith}
use Rattle.std.proofs.lemmas.Int.{ints, to_z-of_z}
use Rattle.allowance.specs.HalfDeduction.{half_arc, rounded}
use Rattle.allowance.proofs.deduction.half_deduction.Goals as goal

pub returns-clause-value : goal.returns-clause-value
returns-clause-value c =
    let r_fits = c.ranges.r in
    let t_fits = c.ranges.t in
    let k_fits = c.ranges.k in
    let arc_fits : SFits w64 c.half_arc.result = search rules in
    let arc : c.half_arc.result ≡ half_arc c.args.r c.args.t c.args.k = simp to_z-of_z at c.half_arc.ensures.value in
    let whole : c.rounded.result ≡ rounded c.half_arc.result = simp to_z-of_z at c.rounded.ensures.value in
    rw (← arc, ← whole) (omega (arith, ints))

pub returns-clause-nearest : goal.returns-clause-nearest
returns-clause-nearest c =
    let r_fits = c.ranges.r in
    let t_fits = c.ranges.t in
    let k_fits = c.ranges.k in
    let arc : c.half_arc.result ≡ half_arc c.args.r c.args.t c.args.k = simp to_z-of_z at c.half_arc.ensures.value in
    record {
      above = rw (← arc) (omega (arith, ints));
      below = rw (← arc) (omega (arith, ints));
    }

pub returns-clause-high : goal.returns-clause-high
returns-clause-high c = omega (arith, ints)
