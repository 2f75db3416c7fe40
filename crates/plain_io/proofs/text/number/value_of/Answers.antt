use Rattle.std.proofs.Common.{◌≡◌, ◌<◌, get_or, arith}
use Rattle.std.specs.Char.{digit_value}
use Rattle.std.proofs.lemmas.Str.Parse.{digit_at}
use Rattle.std.proofs.lemmas.Bool.Decides.{nat_tests}
use Rattle.std.proofs.lemmas.Int.Digits.{digits_more, digits_value_more}
use Rattle.plain_io.proofs.Numbers.{digits_below}
use Rattle.plain_io.proofs.text.number.value_of.Goals as goal

pub returns-then-not-is_ascii_digit-clause-none : goal.returns-then-not-is_ascii_digit-clause-none
returns-then-not-is_ascii_digit-clause-none c =
    λ h. (let digit = digit_at c.args.digits.now c.loop-byte.byte-index h.1 c.loop-byte-test.true in grind (arith, nat_tests))

pub overflow_mul-value : goal.overflow_mul-value
overflow_mul-value c =
    let small = digits_below c.args.digits.now c.loop-byte.byte-index 17 c.loop-byte.invariant.0 (omega arith) in
    omega (arith, c.loop-byte.invariant.1)

pub overflow_add-value : goal.overflow_add-value
overflow_add-value c =
    let small = digits_below c.args.digits.now c.loop-byte.byte-index 17 c.loop-byte.invariant.0 (omega arith) in
    omega (arith, c.loop-byte.invariant.1)

pub loop-byte-preserved : goal.loop-byte-preserved
loop-byte-preserved c =
    let digit : digit_value (get_or c.args.digits.now c.loop-byte.byte-index 0) ≡ c.from.result = grind (arith, nat_tests) in
    let below : c.from.result < 10 = grind (arith, nat_tests) in (
      digits_more 10 c.args.digits.now c.loop-byte.byte-index c.loop-byte-test.true c.loop-byte.invariant.0 (omega arith),
      omega (arith, digits_value_more 10 c.args.digits.now c.loop-byte.byte-index c.loop-byte-test.true, c.loop-byte.invariant.1),
    )

pub returns-clause-size : goal.returns-clause-size
returns-clause-size c = omega (arith, digits_below c.args.digits.now c.loop-byte.byte-index 18 c.loop-byte.invariant.0 (omega arith), c.loop-byte.invariant.1)
