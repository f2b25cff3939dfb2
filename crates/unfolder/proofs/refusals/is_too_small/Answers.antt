use Rattle.std.proofs.Common.{◌≡◌, ℤ, ◌-ℤ◌, ◌≤ℤ◌, pos, false, w64, SFits, arith, rules}
use Rattle.std.proofs.lemmas.Int.{ints, to_z-of_z}
use Rattle.std.specs.Prelude.{int_lt}
use Rattle.unfolder.proofs.refusals.is_too_small.Goals as goal

not_under : (a b : ℤ) → a ≤ℤ b → int_lt b a ≡ false
not_under a b h = grind (arith, ints)

pub returns-else-core-lt1 : goal.returns-else-core-lt1
returns-else-core-lt1 c =
    let r = c.args.core.now in
    let x0 : SFits w64 r.x0 = search rules in
    let x1 : SFits w64 r.x1 = search rules in
    let y0 : SFits w64 r.y0 = search rules in
    let y1 : SFits w64 r.y1 = search rules in
    let height : SFits w64 (r.y1 -ℤ r.y0) = omega (arith, ints) in
    let wide : pos 1 ≤ℤ (r.x1 -ℤ r.x0) = omega (arith, ints) in
    rw (not_under _ _ wide) (simp to_z-of_z)
