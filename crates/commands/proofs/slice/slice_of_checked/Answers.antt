use Rattle.commands.proofs.slice.slice_of_checked.Goals as goal

pub returns : goal.returns
returns g c = rw c.in_ok-built.ensures at c.slice_of.ensures
