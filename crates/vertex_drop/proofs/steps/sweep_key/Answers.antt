-- The edge with the key is the one that is found.
use Rattle.std.proofs.Common.{◌≡◌, Some, None, ap}
use Rattle.tgap_model.specs.declared.slice.Edge.{Edge}
use Rattle.grid_index.proofs.KeyedPlaces.{edge_of}
use Rattle.vertex_drop.proofs.steps.sweep_key.Goals as goal

pub returns-in-Some-clause-swept : goal.returns-in-Some-clause-swept
returns-in-Some-clause-swept g c i d l same = c.sweep_edge.ensures i d l (ap edge_of (c.in-Some.ensures.some i d l same))

pub returns-in-None-clause-swept : goal.returns-in-None-clause-swept
returns-in-None-clause-swept g c i d l same = absurd (none_some (c.in-None.ensures.some i d l same))
  where
    none_some : {e : Edge} → None ≡ Some e → ⊥
    none_some h = cc
