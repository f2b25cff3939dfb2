use Rattle.std.proofs.Common.{◌≡◌, ◌^◌, pos, ◌*ℤ◌, refl, FitsSigned, to_z, to_z-of_z, w64, arith}
use Rattle.std.proofs.lemmas.Int.{to_z_pos}
use Rattle.algebra.proofs.Widths.{fits_64}
use Rattle.sheet_figures.proofs.Sweeps.{times_few, product_small}
use Rattle.sheet_figures.proofs.sweep.stretched.Goals as goal

pub overflow_mul-result : goal.overflow_mul-result
overflow_mul-result c =
    let few = times_few c.args.times c.args.reach c.requires.some c.requires.far in
    let times : to_z w64 c.args.times ≡ pos c.args.times = to_z_pos w64 c.args.times (omega (arith, few)) in
    let small = product_small c.args.times c.args.at c.args.reach c.requires.at c.requires.far in
    let fits_at : FitsSigned w64 c.args.at = c.ranges.at in
    simp (times, to_z-of_z fits_at) (fits_64 _ (2 ^ 40) small (omega arith))

pub returns-clause-value : goal.returns-clause-value
returns-clause-value c =
    let few = times_few c.args.times c.args.reach c.requires.some c.requires.far in
    let times : to_z w64 c.args.times ≡ pos c.args.times = to_z_pos w64 c.args.times (omega (arith, few)) in
    let small = product_small c.args.times c.args.at c.args.reach c.requires.at c.requires.far in
    let fits_at : FitsSigned w64 c.args.at = c.ranges.at in
    let fits : FitsSigned w64 (pos c.args.times *ℤ c.args.at) = fits_64 _ (2 ^ 40) small (omega arith) in
    simp (times, to_z-of_z fits_at, to_z-of_z fits) refl

pub returns-clause-near : goal.returns-clause-near
returns-clause-near c =
    let few = times_few c.args.times c.args.reach c.requires.some c.requires.far in
    let times : to_z w64 c.args.times ≡ pos c.args.times = to_z_pos w64 c.args.times (omega (arith, few)) in
    let small = product_small c.args.times c.args.at c.args.reach c.requires.at c.requires.far in
    let fits_at : FitsSigned w64 c.args.at = c.ranges.at in
    let fits : FitsSigned w64 (pos c.args.times *ℤ c.args.at) = fits_64 _ (2 ^ 40) small (omega arith) in
    simp (times, to_z-of_z fits_at, to_z-of_z fits) small
