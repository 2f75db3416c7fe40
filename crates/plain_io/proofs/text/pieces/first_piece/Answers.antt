use Rattle.std.proofs.Common.{rules, arith, ◌+◌}
use Rattle.std.proofs.lemmas.List.{take_rest}
use Rattle.plain_io.proofs.Cuts.{cut_at, uncut}
use Rattle.plain_io.proofs.text.pieces.first_piece.Goals as goal

pub returns-then-byte-separator : goal.returns-then-byte-separator
returns-then-byte-separator c =
    rw (take_rest c.args.bytes.now (c.loop-at.at + 1)) (cut_at c.args.separator c.args.bytes.now c.loop-at.at (omega arith) c.loop-at.invariant (search rules))

pub returns : goal.returns
returns c = uncut c.args.separator c.args.bytes.now c.loop-at.at (omega arith) c.loop-at.invariant
