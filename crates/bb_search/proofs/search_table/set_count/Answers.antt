use Rattle.std.proofs.Common.{◌*◌, ◌^◌, ◌≤◌, arith}
use Rattle.std.proofs.Math.Nat.{mod-le}
use Rattle.std.proofs.Math.Pow.{pow_mono}
use Rattle.bb_search.proofs.search_table.set_count.Goals as goal

pub returns-clause-few : goal.returns-clause-few
returns-clause-few c =
    let most : 2 ^ c.bends.result ≤ 2 ^ 12 = pow_mono c.bends.ensures.few in
    let low = mod-le (1 * 2 ^ c.bends.result) 18446744073709551616 in
    omega (arith, most, low)
