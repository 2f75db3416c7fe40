-- The edges that are looked up, in order of their places.
use Rattle.std.proofs.Common.{rules, ◌<◌, ℕ, List, length, All, IsPermutation, sym, ap, ap₂, ◌∙◌, subst, subst₂}
use Rattle.std.proofs.lemmas.List.Sorted.{IsNonDecreasingBy-from_sort_by_key}
use Rattle.tgap_model.specs.declared.geometry.Window.{Window}
use Rattle.grid_index.specs.Near.{near_boxes}
use Rattle.edge_forest.specs.Forest.{EdgeForest}
use Rattle.refine_packets.specs.declared.near.NearEdge.{NearEdge}
use Rattle.refine_packets.specs.Near.{entries_of}
use Rattle.refine_packets.proofs.NearEdges.{near_within}
use Rattle.refine_packets.proofs.near.near_edges.Goals as goal

pub entries_of-requires : goal.entries_of-requires
entries_of-requires c =
    subst₂ (λ (f : EdgeForest) (ids : List ℕ). All (λ i. i < length f.edges) ids) (sym c.forest.ensures)
    (sym (c.as_slice.ensures ∙ c.in_ok-ids.ensures ∙ ap (λ (boxes : List Window). near_boxes c.args.area boxes) c.boxes.ensures))
    (near_within c.args.boxed.now c.args.area)

pub returns-clause-near : goal.returns-clause-near
returns-clause-near c = record {
  entries = subst (λ (es : List NearEdge). IsPermutation es c.sort_unstable_by_key.new.self.items)
      (c.in_ok-entries.ensures ∙ ap₂ (λ (f : EdgeForest) (ids : List ℕ). entries_of f.edges ids) c.forest.ensures
      (c.as_slice.ensures ∙ c.in_ok-ids.ensures ∙ ap (λ (boxes : List Window). near_boxes c.args.area boxes) c.boxes.ensures))
      c.sort_unstable_by_key.ensures.permutation;
  order = IsNonDecreasingBy-from_sort_by_key (λ (e : NearEdge). e.place) _ c.sort_unstable_by_key.ensures.sorted (λ a r q k. search rules);
}
