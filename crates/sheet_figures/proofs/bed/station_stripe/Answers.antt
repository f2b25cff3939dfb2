use Rattle.std.proofs.Common.{◌≡◌, ◌∙◌, ◌+◌, ◌^◌, ℤ, pos, ◌+ℤ◌, ◌-ℤ◌, ap, FitsSigned, to_z-of_z, w64, arith}
use Rattle.algebra.proofs.Widths.{abs-add, abs-sub, fits_64}
use Rattle.sheet_figures.specs.Beds.{stripe, halfway, half_width}
use Rattle.sheet_figures.proofs.bed.station_stripe.Goals as goal

pub returns : goal.returns
returns c =
    let window = c.args.window.now in
    let x1 = c.args.x1 in
    let at = c.middle-at.result in
    let half = c.half_width-half.result in
    let fits_at : FitsSigned w64 at = fits_64 _ (2 ^ 48) c.middle-at.ensures.near (omega arith) in
    let fits_half : FitsSigned w64 half = fits_64 _ (2 ^ 50) c.half_width-half.ensures.near (omega arith) in
    let fits_low : FitsSigned w64 (at -ℤ half) = fits_64 _ (2 ^ 48 + 2 ^ 50) (abs-sub at half (2 ^ 48) (2 ^ 50) c.middle-at.ensures.near c.half_width-half.ensures.near) (omega arith) in
    let fits_high : FitsSigned w64 (at +ℤ half) = fits_64 _ (2 ^ 48 + 2 ^ 50) (abs-add at half (2 ^ 48) (2 ^ 50) c.middle-at.ensures.near c.half_width-half.ensures.near) (omega arith) in
    let at_is : at ≡ halfway c.args.x0 x1 = simp (to_z-of_z c.ranges.x0, to_z-of_z c.ranges.x1) at c.middle-at.ensures.value in
    let half_is : half ≡ half_width window at x1 = simp (to_z-of_z fits_at, to_z-of_z c.ranges.x1) at c.half_width-half.ensures.value in
    let area : c.stripe.result ≡ stripe window (at -ℤ half) (at +ℤ half) (pos 10) (pos 40) = simp (to_z-of_z fits_at, to_z-of_z fits_half, to_z-of_z fits_low, to_z-of_z fits_high) at c.stripe.ensures in
    area ∙ ap (λ (h : ℤ). stripe window (at -ℤ h) (at +ℤ h) (pos 10) (pos 40)) half_is
    ∙ ap (λ (a : ℤ). stripe window (a -ℤ half_width window a x1) (a +ℤ half_width window a x1) (pos 10) (pos 40)) at_is
