use Rattle.std.proofs.Common.{◌≤◌, length, sym, arith, length-take-le}
use Rattle.std.proofs.lemmas.List.{take_all}
use Rattle.http_face.proofs.head_reading.front_of.Goals as goal

pub slice_bounds-result-end : goal.slice_bounds-result-end
slice_bounds-result-end c =
    let fits : 8192 ≤ length c.args.bytes.now = omega arith in
    sym (length-take-le 8192 c.args.bytes.now fits)

pub returns-then-bytes-le-MAX_HEAD_BYTES-clause-front : goal.returns-then-bytes-le-MAX_HEAD_BYTES-clause-front
returns-then-bytes-le-MAX_HEAD_BYTES-clause-front c = sym (take_all 8192 c.args.bytes.now c.if-bytes-le-MAX_HEAD_BYTES.true)

pub returns-else-bytes-le-MAX_HEAD_BYTES-clause-short : goal.returns-else-bytes-le-MAX_HEAD_BYTES-clause-short
returns-else-bytes-le-MAX_HEAD_BYTES-clause-short c =
    let fits : 8192 ≤ length c.args.bytes.now = omega arith in
    omega (arith, length-take-le 8192 c.args.bytes.now fits)
