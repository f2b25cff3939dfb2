use Rattle.std.proofs.Common.{◌≡◌, arith}
use Rattle.std.proofs.lemmas.Int.{ints}
use Rattle.unfolder.proofs.Quarters.{point_0, point_1, point_2, point_3}
use Rattle.unfolder.proofs.frame.Frame.point.Goals as goal

pub returns-in-0-clause-value : goal.returns-in-0-clause-value
returns-in-0-clause-value c = point_0 _ _ _ _ _ _ _ c.in-0.is (omega (arith, ints)) (omega (arith, ints))

pub returns-in-1-clause-value : goal.returns-in-1-clause-value
returns-in-1-clause-value c = point_1 _ _ _ _ _ _ _ c.in-1.is (omega (arith, ints)) (omega (arith, ints))

pub returns-in-2-clause-value : goal.returns-in-2-clause-value
returns-in-2-clause-value c = point_2 _ _ _ _ _ _ _ c.in-2.is (omega (arith, ints)) (omega (arith, ints))

pub returns-in_default-clause-value : goal.returns-in_default-clause-value
returns-in_default-clause-value c =
    let turn : c.args.self.now.turn ≡ 3 = omega (arith, c.requires.frame.turn) in
    point_3 _ _ _ _ _ _ _ turn (omega (arith, ints)) (omega (arith, ints))
