use Rattle.std.proofs.Common.{arith}
use Rattle.http_face.proofs.Digits.{few_digits, next_digit}
use Rattle.http_face.proofs.framing.number_of.Goals as goal

pub overflow_mul-number : goal.overflow_mul-number
overflow_mul-number c =
    let few = few_digits c.args.digits.now c.loop-digit.digit-index c.requires in
    omega (arith, c.loop-digit.invariant)

pub overflow_add-number : goal.overflow_add-number
overflow_add-number c =
    let few = few_digits c.args.digits.now c.loop-digit.digit-index c.requires in
    omega (arith, c.loop-digit.invariant, c.type_inv.digits c.loop-digit.digit-index, c.from.ensures)

pub loop-digit-preserved : goal.loop-digit-preserved
loop-digit-preserved c =
    let next = next_digit c.args.digits.now c.loop-digit.digit-index c.requires c.loop-digit-test.true in
    omega (arith, c.loop-digit.invariant, c.from.ensures)
