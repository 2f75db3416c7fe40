-- How large what is stored can be.
use Rattle.std.proofs.Common.{ℕ, ◌<◌, ◌^◌, length, All, arith}
use Rattle.lemmas.proofs.Members.{All-from_members}
use Rattle.tgap_model.proofs.BaseFacts.{base_facts}
use Rattle.edge_forest.specs.declared.growth.Growth.{Growth}
use Rattle.edge_forest.specs.Nodes.{places_at}
use Rattle.edge_forest.specs.Growth.{rows_of, IsStored}

-- there are far fewer arcs than that
pub rows_small : (k : ℕ) (g : Growth) → IsStored k g → length (rows_of g) < 2 ^ 30
rows_small k g w = omega (arith, w.count, (base_facts g.base w.base).few_arcs)

-- the places at a node are arc ends
pub places_within : (k : ℕ) (g : Growth) → IsStored k g → (n : ℕ) → n < length g.nodes.places.items → All (λ x. x < length g.net.ends.items) (places_at g.nodes n)
places_within k g w n l =
    All-from_members (λ x. x < length g.net.ends.items) (places_at g.nodes n)
    (λ x c. omega (arith, (w.nodes.there n x l c).0, w.nodes.count, w.net.nodes_count))
