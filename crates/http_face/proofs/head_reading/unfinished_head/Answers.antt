use Rattle.std.proofs.Common.{◌≤◌, inr, length, refl, arith}
use Rattle.std.proofs.lemmas.List.{take_all}
use Rattle.http_face.proofs.head_reading.unfinished_head.Goals as goal

pub returns-then-bytes-lt-MAX_HEAD_BYTES : goal.returns-then-bytes-lt-MAX_HEAD_BYTES
returns-then-bytes-lt-MAX_HEAD_BYTES c =
    let few : length c.args.bytes.now ≤ 8192 = omega arith in
    let all = take_all 8192 c.args.bytes.now few in
    record { few = c.if-bytes-lt-MAX_HEAD_BYTES.true; none = rw all at c.requires.none; may = rw all at c.requires.may }

pub returns-else-bytes-lt-MAX_HEAD_BYTES : goal.returns-else-bytes-lt-MAX_HEAD_BYTES
returns-else-bytes-lt-MAX_HEAD_BYTES c = inr (refl, inr (inr (c.if-bytes-lt-MAX_HEAD_BYTES.false, c.requires.none)))
