use Rattle.edge_forest.proofs.WalkedArcs.{made_of_earlier}
use Rattle.edge_forest.proofs.forest.Forest.links.Goals as goal

pub links_of-requires-clause-parts : goal.links_of-requires-clause-parts
links_of-requires-clause-parts c = rw c.as_slice.ensures.value (made_of_earlier _ _ (λ i l. (c.self.invariant.kept.forest.edges i l).parts))
