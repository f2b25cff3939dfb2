use Rattle.std.proofs.Common.{◌≡◌, pos, w64, SFits, arith, rules}
use Rattle.std.proofs.lemmas.Int.{ints, to_z-of_z}
use Rattle.brake_base.specs.Vectors.{vector}
use Rattle.brake_base.specs.Turns.{mapped}
use Rattle.unfolder.specs.Cores.{in_plane}
use Rattle.unfolder.specs.Frames.{frame_map}
use Rattle.unfolder.proofs.frame.Frame.line.Goals as goal

pub returns-clause-value : goal.returns-clause-value
returns-clause-value c =
    let line = c.args.line.now in
    let m = frame_map c.args.self.now in
    let from_x : SFits w64 line.from.0 = search rules in
    let from_y : SFits w64 line.from.1 = search rules in
    let to_x : SFits w64 line.to.0 = search rules in
    let to_y : SFits w64 line.to.1 = search rules in
    let from : vector c.point.result.0 c.point.result.1 (pos 0) ≡ mapped m (vector line.from.0 line.from.1 (pos 0)) = simp to_z-of_z at c.point.ensures.value in
    let to : vector c.point-2.result.0 c.point-2.result.1 (pos 0) ≡ mapped m (vector line.to.0 line.to.1 (pos 0)) = simp to_z-of_z at c.point-2.ensures.value in
    λ i. record { bend = line.bend; from = in_plane (from i); to = in_plane (to i); dir = line.dir }

pub returns-clause-near : goal.returns-clause-near
returns-clause-near c =
    let frame = c.requires.frame in
    let a = c.point.ensures.near_x 12 frame in
    let b = c.point.ensures.near_y 12 frame in
    let d = c.point-2.ensures.near_x 12 frame in
    let e = c.point-2.ensures.near_y 12 frame in
    record { from_x = (omega (arith, ints), omega (arith, ints)); from_y = (omega (arith, ints), omega (arith, ints)); to_x = (omega (arith, ints), omega (arith, ints)); to_y = (omega (arith, ints), omega (arith, ints)) }
