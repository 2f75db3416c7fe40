use Rattle.commands.proofs.GridLine.{line_done}
use Rattle.commands.proofs.grid.line_of_built.Goals as goal

pub returns : goal.returns
returns c = line_done c.args.rows c.args.built.now c.in_ok-line_of.field-0 c.in_ok-line_of.ensures
