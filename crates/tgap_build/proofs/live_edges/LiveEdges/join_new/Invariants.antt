use Rattle.std.proofs.Common.{◌≡◌, ◌++◌, [], List, map}
use Rattle.std.specs.Prelude.{flat_map}
use Rattle.tgap_model.specs.declared.slice.Edge.{Edge}
use Rattle.tgap_model.specs.Merged.{merged}
use Rattle.tgap_build.specs.Table.{HaveSameRoom}
use Rattle.tgap_build.specs.Changes.{HasJoined, born_chains, made_of, part_keys}
use Rattle.tgap_build.proofs.live_edges.LiveEdges.join_new.Given as goal

-- the new edges so far are joined
abbrev pub invariant-loop-id : goal.invariant-loop-id
invariant-loop-id l = record {
  made : l.made.items ≡ map (made_of (merged l.forest.base) l.k) (born_chains l.forest l.k l.old l.id);
  table : (left : List Edge) → HasJoined (merged l.forest.base) l.k left [] l.initial.self.edges → HasJoined (merged l.forest.base) l.k left (born_chains l.forest l.k l.old l.id) l.self.edges;
  joined : l.joined.items ≡ l.initial.joined.items ++ flat_map (part_keys (merged l.forest.base) l.k) (born_chains l.forest l.k l.old l.id);
  labels : l.self.edges.labels ≡ l.initial.self.edges.labels;
  room : HaveSameRoom l.initial.self.edges l.self.edges;
  sought : l.self.sought ≡ l.initial.self.sought;
  corners : l.self.corners ≡ l.initial.self.corners;
}
