use Rattle.std.proofs.Common.{◌≡◌, ℤ, pos, neg_ℤ, ◌-ℤ◌, int_le, to_z, of_z, to_z-of_z, w64, arith}
use Rattle.std.proofs.lemmas.Int.{ints}
use Rattle.job_setup.proofs.obstacle.is_past.Goals as goal

pub returns : goal.returns
returns c =
    let end : to_z w64 (of_z w64 c.args.end) ≡ c.args.end = to_z-of_z c.ranges.end in
    let far : to_z w64 (of_z w64 (pos 0 -ℤ to_z w64 (of_z w64 c.args.half_opening))) ≡ neg_ℤ c.args.half_opening = omega (arith, ints, c.requires.low, c.requires.high) in
    λ i. int_le (end i) (far i)
