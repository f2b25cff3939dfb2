use Rattle.std.proofs.Common.{◌^◌, ◌≤◌, arith}
use Rattle.std.proofs.Math.Nat.{pow-le-pow_right}
use Rattle.bb_search.proofs.reach.inner_sets.Goals as goal

pub overflow_sub-result : goal.overflow_sub-result
overflow_sub-result c =
    let low : 2 ^ 1 ≤ 2 ^ c.args.bends = pow-le-pow_right {n = 2} (omega arith) c.requires.some in
    let high : 2 ^ c.args.bends ≤ 2 ^ 12 = pow-le-pow_right {n = 2} (omega arith) c.requires.few in
    omega (arith, low, high)

pub returns-clause-most : goal.returns-clause-most
returns-clause-most c =
    let high : 2 ^ c.args.bends ≤ 2 ^ 12 = pow-le-pow_right {n = 2} (omega arith) c.requires.few in
    omega (arith, high)
