-- A count has twenty digits at most.
use Rattle.std.proofs.Common.{arith}
use Rattle.std.proofs.lemmas.Fmt.{length-decimal-le}
use Rattle.wire_text.proofs.number.write_count.Goals as goal

pub write_digits-start-requires : goal.write_digits-start-requires
write_digits-start-requires c = omega (arith, c.requires, length-decimal-le 20 c.args.n (omega arith) (omega arith) c.ranges.n.fits)

pub write_byte-requires : goal.write_byte-requires
write_byte-requires c =
    omega (arith, c.requires, length-decimal-le 20 c.args.n (omega arith) (omega arith) c.ranges.n.fits, c.write_digits-start.ensures.start, c.write_digits-start.auto.buf)

pub returns-clause-start : goal.returns-clause-start
returns-clause-start c =
    omega (arith, c.requires, length-decimal-le 20 c.args.n (omega arith) (omega arith) c.ranges.n.fits, c.write_digits-start.ensures.start, c.write_byte.ensures.start)
