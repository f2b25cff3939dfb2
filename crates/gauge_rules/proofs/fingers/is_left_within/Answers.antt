use Rattle.std.proofs.Common.{◌≡◌, ℤ, ◌+ℤ◌, ap, FitsSigned, to_z-of_z, w64, rules, arith}
use Rattle.std.proofs.lemmas.Int.{ints}
use Rattle.gauge_rules.proofs.Small.{same_test}
use Rattle.gauge_rules.proofs.fingers.is_left_within.Goals as goal

pub returns : goal.returns
returns c =
    let rule = c.requires.rule in
    let left_x = c.requires.left.lo.x in
    let left : c.left_finger.result.1 ≡ ((c.args.left.now.body.lo.x +ℤ c.args.rule.now.inset) +ℤ c.args.rule.now.finger) = ap (λ (p : ℤ × ℤ). p.1) c.left_finger.ensures in
    let end : FitsSigned w64 c.args.left.now.body.hi.x = search rules in
    same_test _ _ _ _ (omega (arith, ints, left, left_x, rule.inset.bottom, rule.inset.top, rule.finger.bottom, rule.finger.top)) (to_z-of_z end)
