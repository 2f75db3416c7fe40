-- The edge with the first key is the first one that goes.
use Rattle.grid_index.proofs.Placing.{none_before}
use Rattle.grid_index.proofs.changes.first_gone.Goals as goal

pub returns-in-Some-clause-before : goal.returns-in-Some-clause-before
returns-in-Some-clause-before c =
    let f = c.in-Some.ensures.some in
    none_before c.args.gone.now c.args.edges.now c.in-Some.place c.requires.gone c.requires.edges f.0 f.1
