use Rattle.std.proofs.Common.{◌≡◌, ℤ, ◌+ℤ◌, ◌-ℤ◌, ap, FitsSigned, to_z-of_z, w64, rules, arith}
use Rattle.std.proofs.lemmas.Int.{ints}
use Rattle.gauge_rules.proofs.Small.{same_test}
use Rattle.gauge_rules.proofs.fingers.are_apart.Goals as goal

pub overflow_sub-result : goal.overflow_sub-result
overflow_sub-result c =
    let rule = c.requires.rule in
    let left_x = c.requires.left.lo.x in
    let left : c.left_finger.result.1 ≡ ((c.args.left.now.body.lo.x +ℤ c.args.rule.now.inset) +ℤ c.args.rule.now.finger) = ap (λ (p : ℤ × ℤ). p.1) c.left_finger.ensures in
    let right_x = c.requires.right.hi.x in
    let right : c.right_finger.result.0 ≡ ((c.args.right.now.body.hi.x -ℤ c.args.rule.now.inset) -ℤ c.args.rule.now.finger) = ap (λ (p : ℤ × ℤ). p.0) c.right_finger.ensures in
    omega (arith, ints, left, right, left_x, right_x, rule.inset.bottom, rule.inset.top, rule.finger.bottom, rule.finger.top)

pub returns : goal.returns
returns c =
    let rule = c.requires.rule in
    let left_x = c.requires.left.lo.x in
    let left : c.left_finger.result.1 ≡ ((c.args.left.now.body.lo.x +ℤ c.args.rule.now.inset) +ℤ c.args.rule.now.finger) = ap (λ (p : ℤ × ℤ). p.1) c.left_finger.ensures in
    let right_x = c.requires.right.hi.x in
    let right : c.right_finger.result.0 ≡ ((c.args.right.now.body.hi.x -ℤ c.args.rule.now.inset) -ℤ c.args.rule.now.finger) = ap (λ (p : ℤ × ℤ). p.0) c.right_finger.ensures in
    let gap : FitsSigned w64 c.args.rule.now.gap = search rules in
    same_test _ _ _ _ (to_z-of_z gap) (omega (arith, ints, left, right, left_x, right_x, rule.inset.bottom, rule.inset.top, rule.finger.bottom, rule.finger.top))
