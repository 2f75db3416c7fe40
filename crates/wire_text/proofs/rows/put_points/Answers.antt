use Rattle.std.proofs.Common.{arith, append-nil}
use Rattle.std.proofs.lemmas.List.{drop_all}
use Rattle.wire_text.proofs.rows.put_points.Goals as goal

pub returns : goal.returns
returns c = rw (c.write_points-start.ensures.written, drop_all 1429 c.args.room.now.bytes (omega arith), append-nil) at c.put_from.ensures
