use Rattle.std.proofs.Common.{◌≡◌, ◌∙◌, ap, pos, ◌-ℤ◌, arith}
use Rattle.std.specs.Int.{int_div_euclid}
use Rattle.std.proofs.lemmas.Int.{ints}
use Rattle.algebra.proofs.Halves.{floor_half}
use Rattle.sheet_paper.proofs.window.begin_around.Goals as goal

pub overflow_sub-result : goal.overflow_sub-result
overflow_sub-result c =
    let n = c.args.room -ℤ (c.args.high -ℤ c.args.low) in
    let is : c.div_euclid.result ≡ int_div_euclid n (pos 2) = c.div_euclid.ensures ∙ ap (λ m. int_div_euclid m (pos 2)) (omega (arith, ints, c.requires.room, c.requires.low, c.requires.high)) in
    let half = floor_half n in
    omega (arith, ints, is, half.0, half.1, c.requires.room, c.requires.low, c.requires.high)

pub returns-clause-value : goal.returns-clause-value
returns-clause-value c =
    let n = c.args.room -ℤ (c.args.high -ℤ c.args.low) in
    let is : c.div_euclid.result ≡ int_div_euclid n (pos 2) = c.div_euclid.ensures ∙ ap (λ m. int_div_euclid m (pos 2)) (omega (arith, ints, c.requires.room, c.requires.low, c.requires.high)) in
    let half = floor_half n in
    omega (arith, ints, is, half.0, half.1, c.requires.room, c.requires.low, c.requires.high)

pub returns-clause-near : goal.returns-clause-near
returns-clause-near c =
    let n = c.args.room -ℤ (c.args.high -ℤ c.args.low) in
    let is : c.div_euclid.result ≡ int_div_euclid n (pos 2) = c.div_euclid.ensures ∙ ap (λ m. int_div_euclid m (pos 2)) (omega (arith, ints, c.requires.room, c.requires.low, c.requires.high)) in
    let half = floor_half n in
    omega (arith, ints, is, half.0, half.1, c.requires.room, c.requires.low, c.requires.high)

pub returns-clause-low : goal.returns-clause-low
returns-clause-low c = λ fits.
    let n = c.args.room -ℤ (c.args.high -ℤ c.args.low) in
    let is : c.div_euclid.result ≡ int_div_euclid n (pos 2) = c.div_euclid.ensures ∙ ap (λ m. int_div_euclid m (pos 2)) (omega (arith, ints, c.requires.room, c.requires.low, c.requires.high)) in
    let half = floor_half n in
    omega (arith, ints, is, half.0, half.1, fits, c.requires.room, c.requires.low, c.requires.high)

pub returns-clause-high : goal.returns-clause-high
returns-clause-high c = λ fits.
    let n = c.args.room -ℤ (c.args.high -ℤ c.args.low) in
    let is : c.div_euclid.result ≡ int_div_euclid n (pos 2) = c.div_euclid.ensures ∙ ap (λ m. int_div_euclid m (pos 2)) (omega (arith, ints, c.requires.room, c.requires.low, c.requires.high)) in
    let half = floor_half n in
    omega (arith, ints, is, half.0, half.1, fits, c.requires.room, c.requires.low, c.requires.high)
