-- The first gap of the sorted spokes is the fault of the least node by the definition.
use Rattle.std.proofs.Common.{◌≡◌, ◌≢◌, inl, inr, ℕ, ◌+◌, Bool, true, false, ◌&&◌, ◌||◌, ◌==◌, if◌then◌else◌, List, [], ◌∷◌, map, filter, flat_map, get_or, All, AllPairs, Contains, Option, Some, None, option_map, refl, sym, ap, ◌∙◌, subst, subst₂, true≢false, arith}
use Rattle.std.specs.List.{list_all}
use Rattle.std.specs.List.Sorted.{IsSortedBy}
use Rattle.std.proofs.lemmas.Bool.{or_left}
use Rattle.std.proofs.lemmas.List.Elements.{All-head, All-tail, All-weaker, All-contains}
use Rattle.std.proofs.lemmas.List.Sums.{AllPass-from_list_all}
use Rattle.lemmas.specs.Sorting.{is_sorted_by}
use Rattle.lemmas.proofs.Sorting.{sorted_from_adjacent, sort_by-permuted, filter-is_sorted, map-is_sorted, AllPairs-permutation, Contains-from_sort_by}
use Rattle.lemmas.proofs.Orders.{order_by_key}
use Rattle.lemmas.proofs.Members.{in_head, All-flat_map, AllPairs-from_map, AllPairs-from_classes}
use Rattle.tgap_model.specs.declared.geometry.Point.{Point}
use Rattle.tgap_model.specs.declared.segment.LabelledSegment.{LabelledSegment}
use Rattle.tgap_model.specs.declared.fault.MapFault.{MapFault}
use Rattle.tgap_model.specs.declared.fault.MapFault.TheVariants.{NodeDisagrees}
use Rattle.tgap_model.specs.Base.{same_point}
use Rattle.tgap_model.specs.Segment.{point_before, turns_before}
use Rattle.tgap_model.specs.Partition.{AreApart, Spoke, is_proper, spokes_of, spokes_at, ring_fault, node_fault, nodes, first_fault}
use Rattle.tgap_model.proofs.Proper.{proper_parts}
use Rattle.tgap_model.proofs.FirstFault.{faults_none}
use Rattle.grid_geo.proofs.PointOrder.{points}
use Rattle.grid_geo.proofs.Turns.{turns_strict}
use Rattle.base_check.specs.declared.spoke.NodeSpoke.{NodeSpoke}
use Rattle.base_check.specs.Spokes.{disagrees, spoke, is_at_node, spokes_in, before, AreSpokesOf, or_gap, gap_of}
use Rattle.base_check.proofs.Order.{before_strict}
use Rattle.base_check.proofs.Rings.{ring_from, ring_of, through_all, first_fault-first_of}
use Rattle.base_check.proofs.Spokes.{spoke_has_node}
use Rattle.base_check.proofs.Nodes.{nodes_sorted, at_node, rings, in_rings}
use Rattle.base_check.proofs.Apart.{IsDecided, GoesAlong, all_along, all_decided}

-- ---- the fault of a node

ring_fault-ring_from : (v : Point) (first : NodeSpoke) (i : ℕ) (ps : List NodeSpoke) → All (λ (p : NodeSpoke). p.node ≡ v) ps
    → ring_fault v (spoke first) i (map spoke ps) ≡ option_map disagrees (ring_from first i ps)
ring_fault-ring_from v first i [] at = refl
ring_fault-ring_from v first i (p ∷ []) at = by (p.left == first.right)
  where
    node : p.node ≡ v
    node = All-head (λ (q : NodeSpoke). q.node ≡ v) p [] at

    by : (b : Bool) → (if b then None else Some (NodeDisagrees v i 0 p.left first.right))
        ≡ option_map disagrees (if b then None else Some (record { node = p.node; spoke = i; next = 0; left = p.left; right = first.right }))
    by true = refl
    by false = ap (λ (u : Point). Some (NodeDisagrees u i 0 p.left first.right)) (sym node)
ring_fault-ring_from v first i (p ∷ q ∷ ps) at = by (p.left == q.right) (ring_fault-ring_from v first (i + 1) (q ∷ ps) (All-tail (λ (r : NodeSpoke). r.node ≡ v) p (q ∷ ps) at))
  where
    node : p.node ≡ v
    node = All-head (λ (r : NodeSpoke). r.node ≡ v) p (q ∷ ps) at

    by : (b : Bool) → ring_fault v (spoke first) (i + 1) (map spoke (q ∷ ps)) ≡ option_map disagrees (ring_from first (i + 1) (q ∷ ps))
        → elim b [ true ↦ ring_fault v (spoke first) (i + 1) (map spoke (q ∷ ps)) | false ↦ Some (NodeDisagrees v i (i + 1) p.left q.right) ]
        ≡ option_map disagrees (or_gap (if b then None else Some (record { node = p.node; spoke = i; next = i + 1; left = p.left; right = q.right })) (ring_from first (i + 1) (q ∷ ps)))
    by true e = e
    by false e = ap (λ (u : Point). Some (NodeDisagrees u i (i + 1) p.left q.right)) (sym node)

-- the fault of the spokes of a node
abbrev pub fault_of : Point → List Spoke → Option MapFault
fault_of v ps = elim ps [ [] ↦ None | p ∷ rest ↦ ring_fault v p 0 (p ∷ rest) ]

fault_of-ring : (v : Point) (ps : List NodeSpoke) → All (λ (p : NodeSpoke). p.node ≡ v) ps → fault_of v (map spoke ps) ≡ option_map disagrees (ring_of ps)
fault_of-ring v [] at = refl
fault_of-ring v (p ∷ ps) at = ring_fault-ring_from v p 0 (p ∷ ps) at

-- ---- the order of the spokes of one node

alike : (v : Point) (x y : NodeSpoke) → x.node ≡ v → y.node ≡ v → turns_before v x.toward y.toward ≡ before x y
alike v x y ex ey = sym (
    ap (λ (b : Bool). b || (same_point x.node y.node && turns_before x.node x.toward y.toward)) (subst₂ (λ (a b : Point). point_before a b ≡ false) (sym ex) (sym ey) (points.order.itself v tt))
    ∙ ap (λ (b : Bool). b && turns_before x.node x.toward y.toward) (subst₂ (λ (a b : Point). same_point a b ≡ true) (sym ex) (sym ey) (points.itself v))
    ∙ ap (λ (u : Point). turns_before u x.toward y.toward) ex)

module _ (segments : List LabelledSegment) (spokes : List NodeSpoke) (all_proper : list_all is_proper segments ≡ true) (apart : AllPairs AreApart segments)
    (same : AreSpokesOf segments spokes) (in_order : IsSortedBy before spokes) where
  proper : All (λ (s : LabelledSegment). is_proper s ≡ true) segments
  proper = AllPass-from_list_all is_proper segments all_proper

  turned : (a b : Bool) → (a || b) ≡ true → (b || a) ≡ true
  turned a true e = refl
  turned true false e = refl
  turned false false e = e

  -- two spokes of one node are in one order or the other
  pairs_at : (v : Point) → AllPairs (IsDecided v) (spokes_in v spokes)
  pairs_at v = AllPairs-permutation (IsDecided v) (λ p q. turned (turns_before v p.toward q.toward) (turns_before v q.toward p.toward)) (flat_map (spokes_of v) segments) (spokes_in v spokes)
      (same v) (all_decided v segments proper apart)

  pairs : AllPairs (λ (p q : NodeSpoke). p.node ≡ q.node → IsDecided p.node (spoke p) (spoke q)) spokes
  pairs = AllPairs-from_classes (λ (p q : NodeSpoke). IsDecided p.node (spoke p) (spoke q)) (λ (p : NodeSpoke). p.node) is_at_node (λ p. points.itself p.node) spokes (λ v i j d less short.
      subst (λ (u : Point). IsDecided u (spoke (get_or (filter (is_at_node v) spokes) i d)) (spoke (get_or (filter (is_at_node v) spokes) j d)))
      (sym (at_node v spokes i d (omega (arith, less, short))))
      (AllPairs-from_map (IsDecided v) spoke (filter (is_at_node v) spokes) (pairs_at v) i j d less short))

  -- no two spokes stand at one place of the order
  sorted : is_sorted_by before spokes ≡ true
  sorted = sorted_from_adjacent before spokes (λ k d lt.
      strictly (get_or spokes k d) (get_or spokes (k + 1) d) (in_order k d (omega arith) lt) (pairs k (k + 1) d (omega arith) lt))
    where
      either : (a b : Bool) → (a || b) ≡ true → b ≡ false → a ≡ true
      either true b e f = refl
      either false b e f = absurd (true≢false (sym e ∙ f))

      strictly : (p q : NodeSpoke) → before q p ≡ false → (p.node ≡ q.node → IsDecided p.node (spoke p) (spoke q)) → before p q ≡ true
      strictly p q not_after one = elim (points.cases p.node q.node) [
        | inl less ↦ or_left _ _ less
        | inr (inl e) ↦
            let not_back = alike p.node q p (sym e) refl ∙ not_after in
            sym (alike p.node p q refl (sym e)) ∙ either (turns_before p.node p.toward q.toward) (turns_before p.node q.toward p.toward) (one e) not_back
        | inr (inr more) ↦ absurd (true≢false (sym (or_left _ _ more) ∙ not_after))
      ]

  -- the spokes of a node, by the definition
  spokes_at-is : (v : Point) → spokes_at v segments ≡ spokes_in v spokes
  spokes_at-is v = sort_by-permuted (order_by_key (λ (q : Spoke). q.toward) (turns_strict v)) (flat_map (spokes_of v) segments) (spokes_in v spokes) leave sorted_at (same v)
    where
      leave : All (λ (q : Spoke). v ≢ q.toward) (flat_map (spokes_of v) segments)
      leave = All-flat_map (λ (q : Spoke). v ≢ q.toward) (spokes_of v) segments (λ k d lt.
          let s = get_or segments k d in
          All-weaker (GoesAlong s v) (λ (q : Spoke). v ≢ q.toward) (λ q along. along.away) (spokes_of v s) (all_along v s (proper_parts s (proper k d lt)).apart))

      sorted_at : is_sorted_by (λ (p q : Spoke). turns_before v p.toward q.toward) (spokes_in v spokes) ≡ true
      sorted_at =
          map-is_sorted (λ (p : NodeSpoke). p.node ≡ v) before (λ (p q : Spoke). turns_before v p.toward q.toward) spoke (alike v) (filter (is_at_node v) spokes) (at_node v spokes)
          ∙ filter-is_sorted before_strict (is_at_node v) spokes (λ k d l. tt) sorted

  pub node_fault-is : (v : Point) → node_fault segments v ≡ option_map disagrees (ring_of (filter (is_at_node v) spokes))
  node_fault-is v = ap (fault_of v) (spokes_at-is v) ∙ fault_of-ring v (filter (is_at_node v) spokes) (at_node v spokes)

  -- the pass finds the fault of the least node
  pub pass_finds : option_map disagrees (gap_of spokes) ≡ first_fault (node_fault segments) (nodes segments)
  pass_finds =
      ap (λ (ps : List NodeSpoke). option_map disagrees (gap_of ps)) (in_rings segments spokes same sorted)
      ∙ ap (option_map disagrees) (through_all (λ v. filter (is_at_node v) spokes) (nodes segments) (rings segments spokes same) (nodes_sorted segments))
      ∙ sym (first_fault-first_of (node_fault segments) (λ v. filter (is_at_node v) spokes) node_fault-is (nodes segments))

-- what holds of each node holds of each point, of which the others have no spoke
pub at_each_point : (segments : List LabelledSegment) (v : Point) (P : List Spoke → Type 0) → P [] → (Contains (nodes segments) v → P (spokes_at v segments)) → P (spokes_at v segments)
at_each_point segments v P none some = by (spokes_at v segments) refl none some
  where
    by : (ps : List Spoke) → spokes_at v segments ≡ ps → P [] → (Contains (nodes segments) v → P (spokes_at v segments)) → P (spokes_at v segments)
    by [] e none some = subst P (sym e) none
    by (p ∷ ps) e none some =
        let here : Contains (spokes_at v segments) p = subst (λ (qs : List Spoke). Contains qs p) (sym e) (in_head p ps) in
        some (spoke_has_node segments v p (Contains-from_sort_by (λ (p q : Spoke). turns_before v p.toward q.toward) (flat_map (spokes_of v) segments) p here))

-- where no node has a fault, no point has
pub no_fault : (segments : List LabelledSegment) → first_fault (node_fault segments) (nodes segments) ≡ None → (v : Point) → node_fault segments v ≡ None
no_fault segments none v = at_each_point segments v (λ (ps : List Spoke). fault_of v ps ≡ None) refl
    (λ c. All-contains (λ (u : Point). node_fault segments u ≡ None) (nodes segments) v (faults_none (node_fault segments) (nodes segments) none) c)
