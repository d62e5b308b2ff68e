-- For `value_of_few`: no product and no sum wraps, and each digit more gives the number of one digit more.
use Rattle.std.proofs.Common.{arith}
use Rattle.std.proofs.lemmas.Int.{ints}
use Rattle.vg_script.proofs.ClassLemmas.{one_digit_more}
use Rattle.vg_script.proofs.classes.value_of_few.Goals as goal

pub overflow_mul-value : goal.overflow_mul-value
overflow_mul-value c =
    let more = one_digit_more c.args.digits.now c.loop-digit.digit-index c.requires.digits c.requires.few c.loop-digit-test.true in
    omega (arith, ints, c.loop-digit.invariant, more.0, more.1)

pub overflow_add-value : goal.overflow_add-value
overflow_add-value c =
    let more = one_digit_more c.args.digits.now c.loop-digit.digit-index c.requires.digits c.requires.few c.loop-digit-test.true in
    omega (arith, ints, c.loop-digit.invariant, more.0, more.1, c.from.ensures)

pub loop-digit-preserved : goal.loop-digit-preserved
loop-digit-preserved c =
    let more = one_digit_more c.args.digits.now c.loop-digit.digit-index c.requires.digits c.requires.few c.loop-digit-test.true in
    omega (arith, c.loop-digit.invariant, more.0, c.from.ensures)
