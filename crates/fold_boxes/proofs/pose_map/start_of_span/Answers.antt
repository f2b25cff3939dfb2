use Rattle.std.proofs.Common.{◌≡◌, ◌∙◌, ap, pos, ◌-ℤ◌, arith}
use Rattle.std.specs.Int.{int_div_euclid}
use Rattle.std.proofs.lemmas.Int.{ints}
use Rattle.algebra.proofs.Halves.{floor_half}
use Rattle.fold_boxes.proofs.pose_map.start_of_span.Goals as goal

pub overflow_add-result : goal.overflow_add-result
overflow_add-result c =
    let from = c.requires.from in
    let to = c.requires.to in
    let low = c.requires.lines.from in
    let high = c.requires.lines.to in
    let n = (c.args.x1 -ℤ c.args.x0) -ℤ (c.args.lines.1 -ℤ c.args.lines.0) in
    let is : c.div_euclid.result ≡ int_div_euclid n (pos 2) = c.div_euclid.ensures ∙ ap (λ m. int_div_euclid m (pos 2)) (omega (arith, ints, from.low, from.high, to.low, to.high, low.low, low.high, high.low, high.high)) in
    let half = floor_half n in
    omega (arith, ints, is, half.0, half.1, from.low, from.high, to.low, to.high, low.low, low.high, high.low, high.high)

pub returns-clause-value : goal.returns-clause-value
returns-clause-value c =
    let from = c.requires.from in
    let to = c.requires.to in
    let low = c.requires.lines.from in
    let high = c.requires.lines.to in
    let n = (c.args.x1 -ℤ c.args.x0) -ℤ (c.args.lines.1 -ℤ c.args.lines.0) in
    let is : c.div_euclid.result ≡ int_div_euclid n (pos 2) = c.div_euclid.ensures ∙ ap (λ m. int_div_euclid m (pos 2)) (omega (arith, ints, from.low, from.high, to.low, to.high, low.low, low.high, high.low, high.high)) in
    let half = floor_half n in
    omega (arith, ints, is, half.0, half.1, from.low, from.high, to.low, to.high, low.low, low.high, high.low, high.high)

pub returns-clause-near : goal.returns-clause-near
returns-clause-near c =
    let from = c.requires.from in
    let to = c.requires.to in
    let low = c.requires.lines.from in
    let high = c.requires.lines.to in
    let n = (c.args.x1 -ℤ c.args.x0) -ℤ (c.args.lines.1 -ℤ c.args.lines.0) in
    let is : c.div_euclid.result ≡ int_div_euclid n (pos 2) = c.div_euclid.ensures ∙ ap (λ m. int_div_euclid m (pos 2)) (omega (arith, ints, from.low, from.high, to.low, to.high, low.low, low.high, high.low, high.high)) in
    let half = floor_half n in
    record {
      low = omega (arith, ints, is, half.0, half.1, from.low, from.high, to.low, to.high, low.low, low.high, high.low, high.high);
      high = omega (arith, ints, is, half.0, half.1, from.low, from.high, to.low, to.high, low.low, low.high, high.low, high.high);
    }
