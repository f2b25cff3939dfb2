use Rattle.std.proofs.Common.{◌*◌, ◌^◌, ◌≤◌, arith}
use Rattle.sheet_figures.proofs.Sweeps.{root_small}
use Rattle.sheet_figures.proofs.sweep.root.Goals as goal

pub returns-clause-near : goal.returns-clause-near
returns-clause-near c =
    let square : c.isqrt.result * c.isqrt.result ≤ 2 ^ 61 = omega (arith, c.isqrt.ensures.square_le, c.requires) in
    let small = root_small c.isqrt.result square in
    omega (arith, small)
