use Rattle.std.proofs.Common.{◌≡◌, pos, w64, SFits, arith, rules, sym}
use Rattle.std.proofs.lemmas.Int.{ints, to_z-of_z}
use Rattle.brake_base.specs.Vectors.{vector}
use Rattle.brake_base.specs.Turns.{mapped, after}
use Rattle.brake_base.proofs.Maps.{same_map}
use Rattle.unfolder.specs.Frames.{frame_map}
use Rattle.unfolder.proofs.Quarters.{multiply-quarter_turns}
use Rattle.unfolder.proofs.frame.Frame.then.Goals as goal

pub returns-clause-value : goal.returns-clause-value
unfolding after
returns-clause-value c =
    let child = c.args.child.now in
    let m = frame_map c.args.self.now in
    let x_fits : SFits w64 child.x = search rules in
    let y_fits : SFits w64 child.y = search rules in
    let a_fits : SFits w64 c.point-x.result.0 = search rules in
    let b_fits : SFits w64 c.point-x.result.1 = search rules in
    let point : vector c.point-x.result.0 c.point-x.result.1 (pos 0) ≡ mapped m (vector child.x child.y (pos 0)) = simp to_z-of_z at c.point-x.ensures.value in
    same_map _ _ (sym (multiply-quarter_turns c.args.self.now.turn child.turn c.requires.frame.turn c.requires.child.turn)) (simp to_z-of_z point)

pub returns-clause-within : goal.returns-clause-within
returns-clause-within c = λ bends frame.
    let x = c.point-x.ensures.near_x bends frame in
    let y = c.point-x.ensures.near_y bends frame in
    record { turn = omega arith; x = record { low = omega (arith, ints); high = omega (arith, ints) }; y = record { low = omega (arith, ints); high = omega (arith, ints) } }
