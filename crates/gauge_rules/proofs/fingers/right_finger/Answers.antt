use Rattle.std.proofs.Common.{arith}
use Rattle.std.proofs.lemmas.Int.{ints}
use Rattle.gauge_rules.proofs.Small.{same_pair}
use Rattle.gauge_rules.proofs.fingers.right_finger.Goals as goal

pub returns : goal.returns
returns c =
    let rule = c.requires.rule in
    let x = c.requires.face.hi.x in
    same_pair _ _ _ _ (omega (arith, ints, x, rule.inset.bottom, rule.inset.top, rule.finger.bottom, rule.finger.top)) (omega (arith, ints, x, rule.inset.bottom, rule.inset.top))
