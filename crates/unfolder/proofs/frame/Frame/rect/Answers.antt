use Rattle.std.proofs.Common.{◌≡◌, pos, w64, SFits, to_z, of_z, arith, rules, ◌∙◌}
use Rattle.std.specs.Int.{int_min, int_max}
use Rattle.std.proofs.lemmas.Int.{ints, clamps, to_z-of_z}
use Rattle.brake_base.specs.Vectors.{vector}
use Rattle.brake_base.specs.Turns.{mapped}
use Rattle.unfolder.specs.Frames.{frame_map}
use Rattle.unfolder.proofs.Signed.{stored}
use Rattle.unfolder.proofs.FrameLemmas.{flat_image_is}
use Rattle.unfolder.proofs.frame.Frame.rect.Goals as goal

pub returns-clause-value : goal.returns-clause-value
returns-clause-value c =
    let r = c.args.r.now in
    let m = frame_map c.args.self.now in
    let r_x0 : SFits w64 r.x0 = search rules in
    let r_x1 : SFits w64 r.x1 = search rules in
    let r_y0 : SFits w64 r.y0 = search rules in
    let r_y1 : SFits w64 r.y1 = search rules in
    let first : vector c.point-ax.result.0 c.point-ax.result.1 (pos 0) ≡ mapped m (vector r.x0 r.y0 (pos 0)) = simp to_z-of_z at c.point-ax.ensures.value in
    let second : vector c.point-cx.result.0 c.point-cx.result.1 (pos 0) ≡ mapped m (vector r.x1 r.y1 (pos 0)) = simp to_z-of_z at c.point-cx.ensures.value in
    let ax_fits : SFits w64 c.point-ax.result.0 = search rules in
    let ay_fits : SFits w64 c.point-ax.result.1 = search rules in
    let cx_fits : SFits w64 c.point-cx.result.0 = search rules in
    let cy_fits : SFits w64 c.point-cx.result.1 = search rules in
    let fits_x0 : SFits w64 c.min.result = search rules in
    let x0 : to_z w64 (of_z w64 c.min.result) ≡ int_min c.point-ax.result.0 c.point-cx.result.0 = stored _ _ fits_x0 (simp to_z-of_z at c.min.ensures.value) in
    let fits_x1 : SFits w64 c.max.result = search rules in
    let x1 : to_z w64 (of_z w64 c.max.result) ≡ int_max c.point-ax.result.0 c.point-cx.result.0 = stored _ _ fits_x1 (simp to_z-of_z at c.max.ensures.value) in
    let fits_y0 : SFits w64 c.min-2.result = search rules in
    let y0 : to_z w64 (of_z w64 c.min-2.result) ≡ int_min c.point-ax.result.1 c.point-cx.result.1 = stored _ _ fits_y0 (simp to_z-of_z at c.min-2.ensures.value) in
    let fits_y1 : SFits w64 c.max-2.result = search rules in
    let y1 : to_z w64 (of_z w64 c.max-2.result) ≡ int_max c.point-ax.result.1 c.point-cx.result.1 = stored _ _ fits_y1 (simp to_z-of_z at c.max-2.ensures.value) in
    (λ i. record { x0 = x0 i; x1 = x1 i; y0 = y0 i; y1 = y1 i }) ∙ flat_image_is m r _ _ _ _ first second

pub returns-clause-near : goal.returns-clause-near
returns-clause-near c =
    let frame = c.requires.frame in
    let ax = c.point-ax.ensures.near_x 12 frame in
    let ay = c.point-ax.ensures.near_y 12 frame in
    let cx = c.point-cx.ensures.near_x 12 frame in
    let cy = c.point-cx.ensures.near_y 12 frame in
    record { x0 = (omega (arith, ints, clamps), omega (arith, ints, clamps)); x1 = (omega (arith, ints, clamps), omega (arith, ints, clamps)); y0 = (omega (arith, ints, clamps), omega (arith, ints, clamps)); y1 = (omega (arith, ints, clamps), omega (arith, ints, clamps)) }
