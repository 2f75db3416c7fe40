use Rattle.tgap_model.proofs.Proper.{proper_parts}
use Rattle.planar_apart.proofs.pair.meeting_point.Goals as goal

pub common_point-requires-clause-s : goal.common_point-requires-clause-s
common_point-requires-clause-s c = let s = proper_parts c.args.s.now c.requires.first in (s.first, s.second)

pub common_point-requires-clause-t : goal.common_point-requires-clause-t
common_point-requires-clause-t c = let t = proper_parts c.args.t.now c.requires.second in (t.first, t.second)

pub common_point-requires-clause-apart : goal.common_point-requires-clause-apart
common_point-requires-clause-apart c = (proper_parts c.args.s.now c.requires.first).apart
