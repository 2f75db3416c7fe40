-- Round a node whose faces agree: where no link parts faces with a property from others, all faces there have it, or none.
use Rattle.std.proofs.Common.{◌≡◌, inl, inr, ℕ, ◌+◌, ◌==◌, Bool, true, false, List, [], ◌∷◌, map, refl, sym, ap, ◌∙◌, subst, if◌then◌else◌}
use Rattle.std.specs.Prelude.{flat_map, Option, None, Some}
use Rattle.std.proofs.lemmas.Bool.{eqb-true}
use Rattle.tgap_model.specs.declared.geometry.Point.{Point}
use Rattle.tgap_model.specs.declared.fault.MapFault.{MapFault}
use Rattle.tgap_model.specs.declared.segment.LabelledSegment.{LabelledSegment}
use Rattle.tgap_model.specs.Base.{BaseMap, is_base}
use Rattle.tgap_model.specs.Segment.{turns_before}
use Rattle.tgap_model.specs.Partition.{Spoke, spokes_of, spokes_at, ring_fault, node_fault, base_segments}
use Rattle.tgap_model.specs.Merged.{merged, label_at}
use Rattle.tgap_model.specs.Chains.{Link, arc_number}
use Rattle.tgap_model.specs.Slice.{left_of, right_of}
use Rattle.map_laws.proofs.ChainMembers.{Among}
use Rattle.map_laws.proofs.Lists.{among_sort, sort_among, among_map, map_among}
use Rattle.slice_laws.proofs.BaseParts.{arcs_have_segments}
use Rattle.slice_laws.proofs.NodeLinks.{arc_spoke, links_at, arc_spokes, numbers_lead_all}
use Rattle.slice_laws.proofs.NodeRings.{IsRing}

-- ---- the ring of spokes

no_fault_next : (b : Bool) (rest : Option MapFault) (fault : MapFault) → ◌≡◌ {A = Option MapFault} (elim b [ true ↦ rest | false ↦ Some fault ]) None
    → (b ≡ true) × (rest ≡ None)
no_fault_next true rest fault e = (refl, e)
no_fault_next false rest fault e = absurd cc

no_fault_last : (b : Bool) (fault : MapFault) → (if b then None else Some fault) ≡ None → b ≡ true
no_fault_last true fault e = refl
no_fault_last false fault e = absurd cc

ring_agrees : (v : Point) (first : Spoke) (i : ℕ) (p : Spoke) (spokes : List Spoke) → ring_fault v first i (p ∷ spokes) ≡ None
    → IsRing first.right p spokes
ring_agrees v first i p [] e = eqb-true _ _ (no_fault_last (p.left == first.right) _ e)
ring_agrees v first i p (q ∷ spokes) e =
    let both = no_fault_next (p.left == q.right) (ring_fault v first (i + 1) (q ∷ spokes)) _ e in
    (eqb-true _ _ both.0, ring_agrees v first (i + 1) q spokes both.1)

module _ (g : ℕ → Bool) where
  ring_same : (r : ℕ) (p : Spoke) (spokes : List Spoke) → IsRing r p spokes → ((s : Spoke) → Among s spokes → g s.left ≡ g s.right)
      → (s : Spoke) → Among s (p ∷ spokes) → g s.left ≡ g p.left
  ring_same r p spokes ring keeps s (inl e) = ap (λ (t : Spoke). g t.left) (sym e)
  ring_same r p [] ring keeps s (inr m) = absurd m
  ring_same r p (q ∷ spokes) ring keeps s (inr m) =
      ring_same r q spokes ring.1 (λ t n. keeps t (inr n)) s m ∙ keeps q (inl refl) ∙ ap g (sym ring.0)

  spokes_same : (v : Point) (spokes : List Spoke)
      → ◌≡◌ {A = Option MapFault} (elim spokes [ [] ↦ None | p ∷ rest ↦ ring_fault v p 0 (p ∷ rest) ]) None
      → ((s : Spoke) → Among s spokes → g s.left ≡ g s.right) → (s t : Spoke) → Among s spokes → Among t spokes → g s.left ≡ g t.left
  spokes_same v [] e keeps s t m n = absurd m
  spokes_same v (p ∷ spokes) e keeps s t m n =
      let ring = ring_agrees v p 0 p spokes e in
      ring_same p.right p spokes ring (λ q o. keeps q (inr o)) s m ∙ sym (ring_same p.right p spokes ring (λ q o. keeps q (inr o)) t n)

  node_same : (segments : List LabelledSegment) (v : Point) → node_fault segments v ≡ None
      → ((s : Spoke) → Among s (flat_map (spokes_of v) segments) → g s.left ≡ g s.right)
      → (s t : Spoke) → Among s (flat_map (spokes_of v) segments) → Among t (flat_map (spokes_of v) segments) → g s.left ≡ g t.left
  node_same segments v e keeps s t m n =
      let before : Spoke → Spoke → Bool = λ (p q : Spoke). turns_before v p.toward q.toward in
      spokes_same v (spokes_at v segments) e (λ q o. keeps q (sort_among before (flat_map (spokes_of v) segments) q o)) s t
      (among_sort before (flat_map (spokes_of v) segments) s m) (among_sort before (flat_map (spokes_of v) segments) t n)

-- ---- the links at a node

-- Where each link that starts at the node has the property at both sides or at none, all have it alike.
pub links_same : (m : BaseMap) → is_base m ≡ true → (k : ℕ) (g : ℕ → Bool) (v : Point) → node_fault (base_segments m) v ≡ None
    → ((d : Link) → Among d (links_at v 0 m.arcs) → g (left_of (merged m) k d) ≡ g (right_of (merged m) k d))
    → (d e : Link) → Among d (links_at v 0 m.arcs) → Among e (links_at v 0 m.arcs) → g (left_of (merged m) k d) ≡ g (left_of (merged m) k e)
links_same m base k g v node keeps d e o n =
    let spoke : Link → Spoke = λ (d : Link). arc_spoke (arc_number m.arcs d.arc) d.turned in
    let spokes : flat_map (spokes_of v) (base_segments m) ≡ map spoke (links_at v 0 m.arcs)
    = arc_spokes v (arc_number m.arcs) 0 m.arcs (numbers_lead_all m.arcs) (arcs_have_segments m base) in
    let f : ℕ → Bool = λ (x : ℕ). g (label_at (merged m) k x) in
    node_same f (base_segments m) v node
    (λ s l.
    let a = map_among spoke (links_at v 0 m.arcs) s (subst (Among s) spokes l) in
    subst (λ (t : Spoke). f t.left ≡ f t.right) a.2 (keeps a.0 a.1))
    (spoke d) (spoke e)
    (subst (Among (spoke d)) (sym spokes) (among_map spoke (links_at v 0 m.arcs) d o))
    (subst (Among (spoke e)) (sym spokes) (among_map spoke (links_at v 0 m.arcs) e n))
