use Rattle.std.proofs.Common.{sym}
use Rattle.face_cuts.proofs.Cases.{last_is}
use Rattle.face_cuts.proofs.points.last_point.Goals as goal

pub returns-in-len1-up : goal.returns-in-len1-up
returns-in-len1-up c = sym (last_is c.args.points.now _ c.in-len1-up.len_at_least)
