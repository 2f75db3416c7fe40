use Rattle.std.proofs.Common.{ℕ, List, set, ap, ◌∙◌}
use Rattle.linked_row.proofs.Entries.{above_written, below_written}
use Rattle.linked_row.proofs.links.join.Goals as goal

pub returns-clause-above : goal.returns-clause-above
returns-clause-above c =
    let nodes = c.args.nodes.now.items in
    let first = set nodes c.args.lower (record { above = c.args.upper; below = c.index_mut.result.now.below }) in
    (below_written first c.args.upper c.index_mut-2.result.now c.index_mut-2.ensures.value c.args.lower).0
    ∙ (above_written nodes c.args.lower c.index_mut.result.now c.index_mut.ensures.value c.args.upper).0

pub returns-clause-below : goal.returns-clause-below
returns-clause-below c =
    let nodes = c.args.nodes.now.items in
    let first = set nodes c.args.lower (record { above = c.args.upper; below = c.index_mut.result.now.below }) in
    (below_written first c.args.upper c.index_mut-2.result.now c.index_mut-2.ensures.value c.args.lower).1
    ∙ ap (λ (zs : List ℕ). set zs c.args.upper c.args.lower) (above_written nodes c.args.lower c.index_mut.result.now c.index_mut.ensures.value c.args.upper).1
