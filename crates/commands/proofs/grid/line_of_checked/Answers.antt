use Rattle.commands.proofs.grid.line_of_checked.Goals as goal

pub returns : goal.returns
returns g c = rw c.in_ok-built.ensures at c.line_of_built.ensures
