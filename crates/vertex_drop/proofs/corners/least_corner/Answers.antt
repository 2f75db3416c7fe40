-- A closed row of four points has no least corner where it has an area.
use Rattle.std.proofs.Common.{sym, ◌∙◌}
use Rattle.vertex_drop.proofs.Triangles.{closed_has_none, open_has_least, flat_has_least, few_have_none}
use Rattle.vertex_drop.proofs.corners.least_corner.Goals as goal
use Rattle.vertex_drop.proofs.corners.least_corner.Goals.{else-is_closed-via-then-is_closed+else-area-gt0, else-is_closed-via-else-is_closed}

pub returns-in_err-area : goal.returns-in_err-area
returns-in_err-area c = c.from_residual.ensures ∙ c.in_err-area.ensures.exact ∙ few_have_none c.args.row.now (sym c.in_err-area.ensures.exact)

pub returns-then-area-gt0 : goal.returns-then-area-gt0
returns-then-area-gt0 c =
    closed_has_none c.args.row.now c.in_ok-area.area (sym c.in_ok-area.ensures.exact) c.if-area-gt0.true (sym c.is_closed.ensures ∙ c.if-is_closed.true)

pub returns-else-is_closed : goal.returns-else-is_closed
returns-else-is_closed c =
    let row = c.args.row.now in
    let area = c.in_ok-area.ensures.exact in
    elim c.else-is_closed.branch [
      | else-is_closed-via-then-is_closed+else-area-gt0 w ↦ area ∙ flat_has_least row c.in_ok-area.area (sym area) w.if-area-gt0.false
      | else-is_closed-via-else-is_closed w ↦ area ∙ open_has_least row (sym c.is_closed.ensures ∙ w.if-is_closed.false)
    ]
