use Rattle.std.proofs.Common.{All, sym, subst}
use Rattle.tgap_model.specs.Bounds.{HasNearEnds}
use Rattle.face_cuts.proofs.NearColumns.{ring_near}
use Rattle.face_cuts.proofs.new_ring.columns_of.Goals as goal

pub of-requires-clause-near : goal.of-requires-clause-near
of-requires-clause-near g c =
    subst (All HasNearEnds) (sym c.in_ok-segments.ensures) (ring_near (g.T.ArcTable.arcs c.args.table.now) c.args.points.now c.args.walk.now c.requires.lines.each c.requires.points c.requires.walk.sides)
