-- A generated map is a planar partition, and its line is told.
use Rattle.commands.proofs.GridLine.{grid_done}
use Rattle.commands.proofs.grid.answer.Goals as goal

pub returns : goal.returns
returns g c =
    let made = c.in_ok-base.ensures in
    grid_done c.args.size.rows c.in_ok-base.base _ made.map made.partition made.faces made.arcs made.points (c.line_of_base.ensures made.partition)
