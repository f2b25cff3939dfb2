use Rattle.std.proofs.Common.{sym, ◌∙◌, arith}
use Rattle.cert_words.proofs.FrontNumbers.{few_more, small, digit_high, all_more, value_more}
use Rattle.cert_words.proofs.front_number.front_digits.Goals as goal

pub overflow_mul-digits : goal.overflow_mul-digits
overflow_mul-digits c =
    let is = c.loop-byte.invariant in
    let few = few_more c.loop-byte.byte-index c.loop-byte.digits.count is.count is.few c.if-digits-eq-DIGITS.false in
    omega (arith, is.value_is, small c.args.text.now c.loop-byte.byte-index is.all few)

pub overflow_add-digits : goal.overflow_add-digits
overflow_add-digits c =
    let is = c.loop-byte.invariant in
    let few = few_more c.loop-byte.byte-index c.loop-byte.digits.count is.count is.few c.if-digits-eq-DIGITS.false in
    let digit = sym c.is_ascii_digit.ensures.value ∙ c.if-not-is_ascii_digit.false in
    let high = digit_high c.args.text.now c.loop-byte.byte-index c.loop-byte-test.true digit in
    omega (arith, is.value_is, small c.args.text.now c.loop-byte.byte-index is.all few, c.from.ensures, high)

pub loop-byte-preserved : goal.loop-byte-preserved
loop-byte-preserved c =
    let is = c.loop-byte.invariant in
    let few = few_more c.loop-byte.byte-index c.loop-byte.digits.count is.count is.few c.if-digits-eq-DIGITS.false in
    let digit = sym c.is_ascii_digit.ensures.value ∙ c.if-not-is_ascii_digit.false in
    let count = is.count in
    let value = is.value_is in
    let more = value_more c.args.text.now c.loop-byte.byte-index c.loop-byte-test.true digit in
    record {
      count = omega (arith, count);
      few = omega (arith, few);
      all = all_more c.args.text.now c.loop-byte.byte-index c.loop-byte-test.true digit is.all;
      value_is = omega (arith, more, value, c.from.ensures);
    }
