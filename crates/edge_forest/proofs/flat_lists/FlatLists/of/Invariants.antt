-- The lists so far are laid.
use Rattle.edge_forest.proofs.FlatRows.{IsFlat}
use Rattle.edge_forest.proofs.flat_lists.FlatLists.of.Given as goal

abbrev pub invariant-loop-list : goal.invariant-loop-list
invariant-loop-list l = IsFlat l.lists l.list-index l.starts.items l.ids.items
