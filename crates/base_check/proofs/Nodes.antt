-- The nodes in order, and the sorted spokes as the rings of these nodes, one after the other.
use Rattle.std.proofs.Common.{◌≡◌, true, List, [], ◌∷◌, filter, flat_map, All, Contains, refl, sym, subst, arith}
use Rattle.std.specs.Prelude.{⊤}
use Rattle.std.proofs.lemmas.Bool.{or_left}
use Rattle.std.proofs.lemmas.List.Elements.{All-weaker, All-filter, All-contains, All-contains_itself, filter_passes}
use Rattle.std.proofs.lemmas.List.Sorted.{Contains-permutation, IsPermutation-sym}
use Rattle.lemmas.specs.Sorting.{is_sorted_by}
use Rattle.lemmas.proofs.Sorting.{sorted_tail, sorted_head, append-is_sorted, filter-is_sorted, sorted_same}
use Rattle.lemmas.proofs.Members.{Contains-filter, Contains-map, Contains-from_map, Contains-flat_map, All-flat_map}
use Rattle.lemmas.proofs.Ascending.{distinct_by-is_sorted}
use Rattle.tgap_model.specs.declared.geometry.Point.{Point}
use Rattle.tgap_model.specs.declared.segment.LabelledSegment.{LabelledSegment}
use Rattle.tgap_model.specs.Segment.{point_before}
use Rattle.tgap_model.specs.Partition.{end_points, nodes, spokes_of}
use Rattle.grid_geo.proofs.PointOrder.{points}
use Rattle.base_check.specs.declared.spoke.NodeSpoke.{NodeSpoke}
use Rattle.base_check.specs.Spokes.{spoke, is_at_node, spokes_in, before, AreSpokesOf}
use Rattle.base_check.proofs.Order.{before_strict}
use Rattle.base_check.proofs.Spokes.{spoke_has_node, node_has_spoke}
use Rattle.base_check.proofs.Rings.{IsRing}

pub nodes_sorted : (segments : List LabelledSegment) → is_sorted_by point_before (nodes segments) ≡ true
nodes_sorted segments = distinct_by-is_sorted point_before (flat_map end_points segments)

-- the spokes of a list at a point leave it
pub at_node : (v : Point) (spokes : List NodeSpoke) → All (λ (p : NodeSpoke). p.node ≡ v) (filter (is_at_node v) spokes)
at_node v spokes = All-weaker (λ (p : NodeSpoke). is_at_node v p ≡ true) (λ (p : NodeSpoke). p.node ≡ v) (λ p e. points.same p.node v e) (filter (is_at_node v) spokes) (filter_passes (is_at_node v) spokes)

module _ (segments : List LabelledSegment) (spokes : List NodeSpoke) (same : AreSpokesOf segments spokes) where
  -- the point that a spoke leaves is a node
  node_of : (p : NodeSpoke) → Contains spokes p → Contains (nodes segments) p.node
  node_of p c =
      let v = p.node in
      let here = Contains-map spoke (filter (is_at_node v) spokes) p (Contains-filter (is_at_node v) spokes p c (points.itself v)) in
      spoke_has_node segments v (spoke p)
      (Contains-permutation (spokes_in v spokes) (flat_map (spokes_of v) segments) (spoke p) (IsPermutation-sym (flat_map (spokes_of v) segments) (spokes_in v spokes) (same v)) here)

  -- the spokes at a node are a ring
  pub rings : All (λ (v : Point). IsRing v (filter (is_at_node v) spokes)) (nodes segments)
  rings = All-weaker (Contains (nodes segments)) (λ (v : Point). IsRing v (filter (is_at_node v) spokes)) ring (nodes segments) (All-contains_itself (nodes segments))
    where
      ring : (v : Point) → Contains (nodes segments) v → IsRing v (filter (is_at_node v) spokes)
      ring v c =
          let q = node_has_spoke segments v c in
          let here = Contains-permutation (flat_map (spokes_of v) segments) (spokes_in v spokes) q.0 (same v) q.1 in
          let p = Contains-from_map spoke (filter (is_at_node v) spokes) q.0 here in
          by (filter (is_at_node v) spokes) refl p.0 p.1
        where
          by : (ps : List NodeSpoke) → filter (is_at_node v) spokes ≡ ps → (q : NodeSpoke) → Contains (filter (is_at_node v) spokes) q → IsRing v (filter (is_at_node v) spokes)
          by [] e q c = let none = subst (λ (ps : List NodeSpoke). Contains ps q) e c in absurd (omega (arith, none.1))
          by (p ∷ ps) e q c = record { head = p; tail = ps; is = e; at = at_node v spokes }

  module _ (sorted : is_sorted_by before spokes ≡ true) where
    everything : (ps : List NodeSpoke) → All (λ (p : NodeSpoke). ⊤) ps
    everything ps = λ k d l. tt

    abbrev ring_at : Point → List NodeSpoke
    ring_at v = filter (is_at_node v) spokes

    rings_sorted : (vs : List Point) → is_sorted_by point_before vs ≡ true → is_sorted_by before (flat_map ring_at vs) ≡ true
    rings_sorted [] s = refl
    rings_sorted (v ∷ vs) s = append-is_sorted before (ring_at v) (flat_map ring_at vs)
        (All-weaker (λ (p : NodeSpoke). p.node ≡ v) (λ (p : NodeSpoke). All (λ (q : NodeSpoke). before p q ≡ true) (flat_map ring_at vs))
        (λ p e. All-weaker (λ (q : NodeSpoke). point_before v q.node ≡ true) (λ (q : NodeSpoke). before p q ≡ true)
        (λ q f. or_left _ _ (subst (λ (w : Point). point_before w q.node ≡ true) (sym e) f)) (flat_map ring_at vs) later) (ring_at v) (at_node v spokes))
        (filter-is_sorted before_strict (is_at_node v) spokes (everything spokes) sorted) (rings_sorted vs (sorted_tail point_before v vs s))
      where
        later : All (λ (q : NodeSpoke). point_before v q.node ≡ true) (flat_map ring_at vs)
        later = All-flat_map (λ (q : NodeSpoke). point_before v q.node ≡ true) ring_at vs
            (All-weaker (λ (w : Point). point_before v w ≡ true) (λ (w : Point). All (λ (q : NodeSpoke). point_before v q.node ≡ true) (ring_at w))
            (λ w e. All-weaker (λ (q : NodeSpoke). q.node ≡ w) (λ (q : NodeSpoke). point_before v q.node ≡ true) (λ q f. subst (λ (u : Point). point_before v u ≡ true) (sym f) e) (ring_at w) (at_node w spokes))
            vs (sorted_head point_before points.order v vs tt (λ k d l. tt) s))

    -- the sorted spokes are the rings of the nodes
    pub in_rings : spokes ≡ flat_map ring_at (nodes segments)
    in_rings = sorted_same before_strict spokes (flat_map ring_at (nodes segments)) (everything spokes) (everything (flat_map ring_at (nodes segments)))
        sorted (rings_sorted (nodes segments) (nodes_sorted segments))
        (λ p c. Contains-flat_map ring_at (nodes segments) p.node p (node_of p c) (Contains-filter (is_at_node p.node) spokes p c (points.itself p.node)))
        (λ p c. All-contains (Contains spokes) (flat_map ring_at (nodes segments)) p
        (All-flat_map (Contains spokes) ring_at (nodes segments) (λ k d l. All-filter (is_at_node _) (Contains spokes) spokes (All-contains_itself spokes))) c)
