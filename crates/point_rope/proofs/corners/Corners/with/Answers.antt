use Rattle.std.proofs.Common.{refl}
use Rattle.point_rope.proofs.LeastAreas.{corners_next, near_next}
use Rattle.point_rope.proofs.corners.Corners.with.Goals as goal

pub returns-clause-corners : goal.returns-clause-corners
returns-clause-corners c points h =
    corners_next points c.args.p c.args.self _ c.next.result c.requires.ends c.requires.point c.next.ensures c.lesser.ensures refl refl h

pub returns-clause-near : goal.returns-clause-near
returns-clause-near c = near_next c.args.self.before c.args.self.last c.args.p c.requires.ends c.requires.point
