use Rattle.tgap_model.specs.Point.{cross}
use Rattle.grid_geo.proofs.Triangles.{first_or, second_or, opposite_is, on_line_is}
use Rattle.grid_geo.proofs.clear.lies_away.Goals as goal

pub returns-then-is_opposite : goal.returns-then-is_opposite
returns-then-is_opposite c w e =
    let at = cross c.args.u c.args.v c.args.p in
    first_or _ (opposite_is c.side-at.result at c.args.inner c.is_opposite.ensures c.side-at.ensures c.ranges.inner e) c.if-is_opposite.true

pub returns-else-is_opposite : goal.returns-else-is_opposite
returns-else-is_opposite c w e =
    let at = cross c.args.u c.args.v c.args.p in
    second_or (opposite_is c.side-at.result at c.args.inner c.is_opposite.ensures c.side-at.ensures c.ranges.inner e) c.if-is_opposite.false
    (on_line_is _ c.side-at.result at c.is_corner_on_line.ensures c.side-at.ensures)
