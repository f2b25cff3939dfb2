use Rattle.std.proofs.Common.{arith}
use Rattle.brake_text.proofs.Numerals.{front-small, front_more, digit-small}
use Rattle.brake_text.proofs.reading.value_of.Goals as goal

pub overflow_mul-value : goal.overflow_mul-value
overflow_mul-value c = omega (arith, c.loop-digit.invariant, front-small c.args.digits.now c.loop-digit.digit-index c.requires.digits c.requires.short)

pub overflow_add-value : goal.overflow_add-value
overflow_add-value c =
    let small = front-small c.args.digits.now c.loop-digit.digit-index c.requires.digits c.requires.short in
    omega (arith, c.loop-digit.invariant, c.from.ensures, small, digit-small c.args.digits.now c.loop-digit.digit-index c.requires.digits c.loop-digit-test.true)

pub loop-digit-preserved : goal.loop-digit-preserved
loop-digit-preserved c =
    omega (arith, c.loop-digit.invariant, c.from.ensures, front_more c.args.digits.now c.loop-digit.digit-index c.requires.digits c.loop-digit-test.true)
