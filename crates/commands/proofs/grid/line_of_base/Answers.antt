-- A planar partition is not refused.
use Rattle.commands.proofs.GridLine.{line_checked}
use Rattle.commands.proofs.grid.line_of_base.Goals as goal

pub returns-in_err-checked : goal.returns-in_err-checked
returns-in_err-checked g c planar =
    let h = c.in_err-checked.ensures in
    line_checked c.args.rows c.args.base planar c.in_err-checked.field-0.0 c.from_residual.result c.from_residual.ensures.1 (h.fault, h.shown, h.refused)

pub returns : goal.returns
returns g c planar =
    let same = c.in_ok-checked.ensures.sound in
    rw same.0 at c.line_of_checked.ensures
