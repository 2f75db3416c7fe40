-- The ring of the spokes at a node: which spokes it has, and that the faces still agree round it with other labels, where spokes
-- with one face on both sides are left out.
use Rattle.std.proofs.Common.{◌≡◌, ◌≢◌, ◌⊎◌, inl, inr, ℕ, ◌+◌, Bool, true, false, not, cond, ◌&&◌, ◌==◌, List, [], ◌∷◌, map, filter, flat_map, get_or, All, AllPairs, Contains, Option, Some, None, refl, sym, ap, ◌∙◌, subst, eq-eqb, if◌then◌else◌}
use Rattle.std.specs.List.{list_all}
use Rattle.std.proofs.lemmas.Bool.{and_from, eqb-true}
use Rattle.std.proofs.lemmas.List.Elements.{All-weaker, All-contains, Contains-append_left, Contains-append_right}
use Rattle.std.proofs.lemmas.List.Sums.{AllPass-from_list_all}
use Rattle.lemmas.specs.Sorting.{is_sorted_by, IsStrictOrderOn}
use Rattle.lemmas.proofs.Sorting.{sort_by-is_sorted, All-sort_by, Contains-sort_by, Contains-from_sort_by}
use Rattle.lemmas.proofs.Orders.{order_by_key}
use Rattle.lemmas.proofs.Members.{in_head, All-flat_map, Contains-flat_map, Contains-from_flat_map}
use Rattle.tgap_model.specs.declared.geometry.Point.{Point}
use Rattle.tgap_model.specs.declared.segment.LabelledSegment.{LabelledSegment}
use Rattle.tgap_model.specs.declared.fault.MapFault.{MapFault}
use Rattle.tgap_model.specs.declared.fault.MapFault.TheVariants.{NodeDisagrees}
use Rattle.tgap_model.specs.Base.{same_point}
use Rattle.tgap_model.specs.Segment.{turns_before}
use Rattle.tgap_model.specs.Partition.{AreApart, Spoke, is_proper, spokes_of, spokes_at, ring_fault}
use Rattle.tgap_model.proofs.Points.{same_point-from}
use Rattle.tgap_model.proofs.Proper.{proper_parts}
use Rattle.grid_geo.proofs.Turns.{turns_strict}
use Rattle.base_check.proofs.Spokes.{first_spoke, last_spoke, at_first, at_last, each_spoke}
use Rattle.base_check.proofs.Apart.{GoesAlong, all_along, all_decided}
use Rattle.base_check.proofs.Faults.{fault_of}
use Rattle.slice_laws.proofs.Places.{At}
use Rattle.slice_laws.proofs.SliceStacks.{contains_at, at_contains}

-- ---- rings as paths

-- each spoke's right face is the left face of the one before; that before the first one is a, and that of the last one is e
abbrev pub IsPath : ℕ → ℕ → List Spoke → Type 0
IsPath a e [] = a ≡ e
IsPath a e (p ∷ ps) = (p.right ≡ a) × IsPath p.left e ps

-- a spoke with other labels, and whether it has two
abbrev pub with_faces : (ℕ → ℕ) → Spoke → Spoke
with_faces g p = record p { left = g p.left; right = g p.right }

abbrev pub has_two : (ℕ → ℕ) → Spoke → Bool
has_two g p = not (g p.left == g p.right)

-- with other labels a path stays one, also where those that have one label are left out
pub path_relabelled : (g : ℕ → ℕ) (a e : ℕ) (ps : List Spoke) → IsPath a e ps → IsPath (g a) (g e) (map (with_faces g) (filter (has_two g) ps))
path_relabelled g a e [] h = ap g h
path_relabelled g a e (p ∷ ps) h = by (g p.left == g p.right) refl (path_relabelled g p.left e ps h.1)
  where
    by : (b : Bool) → (g p.left == g p.right) ≡ b → IsPath (g p.left) (g e) (map (with_faces g) (filter (has_two g) ps))
        → IsPath (g a) (g e) (map (with_faces g) (cond (not b) (p ∷ filter (has_two g) ps) (filter (has_two g) ps)))
    by true f k = subst (λ x. IsPath x (g e) (map (with_faces g) (filter (has_two g) ps))) (eqb-true _ _ f ∙ ap g h.0) k
    by false f k = (ap g h.0, k)

-- a ring without a fault is a path that closes
path_from_ring : (v : Point) (first : Spoke) (i : ℕ) (p : Spoke) (ps : List Spoke) → ring_fault v first i (p ∷ ps) ≡ None → IsPath p.left first.right ps
path_from_ring v first i p [] e = by (p.left == first.right) refl e
  where
    by : (b : Bool) → (p.left == first.right) ≡ b
        → ◌≡◌ {A = Option MapFault} (if b then None else Some (NodeDisagrees v i 0 p.left first.right)) None → p.left ≡ first.right
    by true f e = eqb-true _ _ f
    by false f e = absurd cc
path_from_ring v first i p (q ∷ ps) e = by (p.left == q.right) refl e (λ h. path_from_ring v first (i + 1) q ps h)
  where
    by : (b : Bool) → (p.left == q.right) ≡ b
        → ◌≡◌ {A = Option MapFault}
        (elim b [ true ↦ ring_fault v first (i + 1) (q ∷ ps) | false ↦ Some (NodeDisagrees v i (i + 1) p.left q.right) ]) None
        → (ring_fault v first (i + 1) (q ∷ ps) ≡ None → IsPath q.left first.right ps)
        → IsPath p.left first.right (q ∷ ps)
    by true f e rest = (sym (eqb-true _ _ f), rest e)
    by false f e rest = absurd cc

ring_from_path : (v : Point) (first : Spoke) (i : ℕ) (p : Spoke) (ps : List Spoke) → IsPath p.left first.right ps → ring_fault v first i (p ∷ ps) ≡ None
ring_from_path v first i p [] h =
    ap (λ (b : Bool). if b then None else Some (NodeDisagrees v i 0 p.left first.right)) (eq-eqb _ _ h)
ring_from_path v first i p (q ∷ ps) h =
    ap (λ (b : Bool). elim b [ true ↦ ring_fault v first (i + 1) (q ∷ ps) | false ↦ Some (NodeDisagrees v i (i + 1) p.left q.right) ])
    (eq-eqb _ _ (sym h.0)) ∙ ring_from_path v first (i + 1) q ps h.1

-- some label before the first one is that of the last one
pub closed_from_ring : (v : Point) (ps : List Spoke) → fault_of v ps ≡ None → (a : ℕ) × IsPath a a ps
closed_from_ring v [] e = (0, refl)
closed_from_ring v (p ∷ ps) e = (p.right, (refl, path_from_ring v p 0 p ps e))

pub ring_from_closed : (v : Point) (ps : List Spoke) (a : ℕ) → IsPath a a ps → fault_of v ps ≡ None
ring_from_closed v [] a h = refl
ring_from_closed v (p ∷ ps) a h = ring_from_path v p 0 p ps (subst (λ e. IsPath p.left e ps) (sym h.0) h.1)

-- ---- the spokes at a node

-- a spoke toward a point, with the faces at its left and at its right
abbrev pub spoke : Point → ℕ → ℕ → Spoke
spoke toward left right = record { toward = toward; left = left; right = right }

-- whether a spoke of the node comes before another one
abbrev pub comes_before : Point → Spoke → Spoke → Bool
comes_before v p q = turns_before v p.toward q.toward

pub order_of_spokes : (v : Point) → IsStrictOrderOn (λ (q : Spoke). v ≢ q.toward) (comes_before v)
order_of_spokes v = order_by_key (λ (q : Spoke). q.toward) (turns_strict v)

-- a segment starts or ends an arc or edge at the node, and has the spoke there
abbrev pub HasSpoke : LabelledSegment → Point → Spoke → Type 0
HasSpoke s v q =
    ((s.starts ≡ true) × (s.segment.a ≡ v) × (first_spoke s ≡ q)) ⊎ ((s.ends ≡ true) × (s.segment.b ≡ v) × (last_spoke s ≡ q))

-- what the ring has: an end of an arc at the node, seen from there
abbrev pub IsSpokeAt : List LabelledSegment → Point → Spoke → Type 0
IsSpokeAt segments v q =
    (n : ℕ) × (s : LabelledSegment) × At segments n s
    × HasSpoke s v q

pub spoke_from_ring : (segments : List LabelledSegment) (v : Point) (q : Spoke) → Contains (spokes_at v segments) q → IsSpokeAt segments v q
spoke_from_ring segments v q c =
    let s = Contains-from_flat_map (spokes_of v) segments q (Contains-from_sort_by (comes_before v) (flat_map (spokes_of v) segments) q c) in
    let n = at_contains segments s.0 s.1 in
    let each = each_spoke v s.0 (HasSpoke s.0 v) (λ b e. inl (b, e, refl)) (λ b e. inr (b, e, refl)) in
    (n.0, s.0, n.1, All-contains (HasSpoke s.0 v) (spokes_of v s.0) q each s.2)

pub ring_has_spoke : (segments : List LabelledSegment) (v : Point) (q : Spoke) → IsSpokeAt segments v q → Contains (spokes_at v segments) q
ring_has_spoke segments v q (n, s, a, e) =
    Contains-sort_by (comes_before v) (flat_map (spokes_of v) segments) q (Contains-flat_map (spokes_of v) segments s q (contains_at segments n s a) (by e))
  where
    here : (b : Bool) (u : Point) (p : Spoke) → b ≡ true → u ≡ v → p ≡ q → Contains (if b && same_point u v then p ∷ [] else []) q
    here b u p x w f =
        subst (λ (t : Bool). Contains (if t then p ∷ [] else []) q) (sym (and_from b (same_point u v) x (same_point-from u v w)))
        (subst (λ (r : Spoke). Contains (p ∷ []) r) f (in_head p []))

    by : HasSpoke s v q → Contains (spokes_of v s) q
    by (inl (x, w, f)) = Contains-append_left (at_first s v s.starts) (at_last s v s.ends) q (here s.starts s.segment.a (first_spoke s) x w f)
    by (inr (x, w, f)) = Contains-append_right (at_first s v s.starts) (at_last s v s.ends) q (here s.ends s.segment.b (last_spoke s) x w f)

-- ---- segments that are apart

module _ (segments : List LabelledSegment) (all_proper : list_all is_proper segments ≡ true) where
  proper : All (λ (s : LabelledSegment). is_proper s ≡ true) segments
  proper = AllPass-from_list_all is_proper segments all_proper

  -- the spokes leave the node
  pub ring_leaves : (v : Point) → All (λ (q : Spoke). v ≢ q.toward) (spokes_at v segments)
  ring_leaves v =
      All-sort_by (comes_before v) (λ (q : Spoke). v ≢ q.toward) (flat_map (spokes_of v) segments)
      (All-flat_map (λ (q : Spoke). v ≢ q.toward) (spokes_of v) segments (λ n d l.
      let s = get_or segments n d in
      All-weaker (GoesAlong s v) (λ (q : Spoke). v ≢ q.toward) (λ q along. along.away) (spokes_of v s)
      (all_along v s (proper_parts s (proper n d l)).apart)))

  pub ring_is_sorted : AllPairs AreApart segments → (v : Point) → is_sorted_by (comes_before v) (spokes_at v segments) ≡ true
  ring_is_sorted apart v = sort_by-is_sorted (comes_before v) (flat_map (spokes_of v) segments) (all_decided v segments proper apart)
