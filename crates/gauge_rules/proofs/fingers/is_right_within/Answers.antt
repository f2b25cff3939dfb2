use Rattle.std.proofs.Common.{◌≡◌, ℤ, ◌-ℤ◌, ap, FitsSigned, to_z-of_z, w64, rules, arith}
use Rattle.std.proofs.lemmas.Int.{ints}
use Rattle.gauge_rules.proofs.Small.{same_test}
use Rattle.gauge_rules.proofs.fingers.is_right_within.Goals as goal

pub returns : goal.returns
returns c =
    let rule = c.requires.rule in
    let right_x = c.requires.right.hi.x in
    let right : c.right_finger.result.0 ≡ ((c.args.right.now.body.hi.x -ℤ c.args.rule.now.inset) -ℤ c.args.rule.now.finger) = ap (λ (p : ℤ × ℤ). p.0) c.right_finger.ensures in
    let end : FitsSigned w64 c.args.right.now.body.lo.x = search rules in
    same_test _ _ _ _ (to_z-of_z end) (omega (arith, ints, right, right_x, rule.inset.bottom, rule.inset.top, rule.finger.bottom, rule.finger.top))
