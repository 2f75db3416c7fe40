-- The spokes that one segment adds, and the spokes of all segments at one node: where they go, and that they leave the node.
use Rattle.std.proofs.Common.{◌≡◌, inl, inr, Bool, true, false, ◌&&◌, if◌then◌else◌, List, [], ◌∷◌, ◌++◌, map, filter, flat_map, All, Contains, refl, sym, ap, ap₂, ◌∙◌, subst}
use Rattle.std.proofs.lemmas.List.{map-append, append_assoc}
use Rattle.std.proofs.lemmas.List.Elements.{All-nil, All-cons, All-append, All-contains, Contains-append_left, Contains-append_right, Contains-append_cases, filter-append}
use Rattle.lemmas.proofs.Members.{in_head, in_cases, in_none, Contains-flat_map, Contains-from_flat_map}
use Rattle.lemmas.proofs.Ascending.{Contains-distinct_by, Contains-from_distinct_by}
use Rattle.lemmas.proofs.Keys.{decided}
use Rattle.tgap_model.specs.declared.geometry.Point.{Point}
use Rattle.tgap_model.specs.declared.segment.LabelledSegment.{LabelledSegment}
use Rattle.tgap_model.specs.Base.{same_point}
use Rattle.tgap_model.specs.Segment.{point_before}
use Rattle.tgap_model.specs.Partition.{Spoke, spokes_of, end_points, nodes}
use Rattle.grid_geo.proofs.PointOrder.{points}
use Rattle.base_check.specs.declared.spoke.NodeSpoke.{NodeSpoke}
use Rattle.base_check.specs.Spokes.{spoke, is_at_node, spokes_in, AddsSpokesOf}

-- ---- a spoke that comes last

pub spokes_in-push : (v : Point) (xs : List NodeSpoke) (p : NodeSpoke) → spokes_in v (xs ++ p ∷ []) ≡ spokes_in v xs ++ (if same_point p.node v then spoke p ∷ [] else [])
spokes_in-push v xs p =
    ap (map spoke) (filter-append (is_at_node v) xs (p ∷ [])) ∙ map-append spoke (filter (is_at_node v) xs) (filter (is_at_node v) (p ∷ []))
    ∙ ap (λ (ps : List Spoke). spokes_in v xs ++ ps) (by (same_point p.node v))
  where
    by : (b : Bool) → map spoke (if b then p ∷ [] else []) ≡ (if b then spoke p ∷ [] else [])
    by true = refl
    by false = refl

module _ (s : LabelledSegment) where
  -- the spokes that leave the first point and the last one
  abbrev pub first_spoke : Spoke
  first_spoke = record { toward = s.segment.b; left = s.left; right = s.right }

  abbrev pub last_spoke : Spoke
  last_spoke = record { toward = s.segment.a; left = s.right; right = s.left }

  abbrev pub at_first : Point → Bool → List Spoke
  at_first v b = if b && same_point s.segment.a v then first_spoke ∷ [] else []

  abbrev pub at_last : Point → Bool → List Spoke
  at_last v c = if c && same_point s.segment.b v then last_spoke ∷ [] else []

  of_ends : (v : Point) {b c : Bool} → s.starts ≡ b → s.ends ≡ c → spokes_of v s ≡ at_first v b ++ at_last v c
  of_ends v e f = ap₂ (λ (b c : Bool). at_first v b ++ at_last v c) e f

  -- what one push adds
  added_one : (v n : Point) (xs ys : List NodeSpoke) (p : NodeSpoke) (q : Spoke) → ys ≡ xs ++ p ∷ [] → p.node ≡ n → spoke p ≡ q
      → spokes_in v ys ≡ spokes_in v xs ++ (if same_point n v then q ∷ [] else [])
  added_one v n xs ys p q e f g =
      ap (spokes_in v) e ∙ spokes_in-push v xs p
      ∙ ap₂ (λ (m : Point) (r : Spoke). spokes_in v xs ++ (if same_point m v then r ∷ [] else [])) f g

  -- both ends of the segment are ends of the arc, or the last one alone
  pub adds_both : (old mid new : List NodeSpoke) (p q : NodeSpoke) → s.starts ≡ true → s.ends ≡ true → mid ≡ old ++ p ∷ [] → new ≡ mid ++ q ∷ []
      → p.node ≡ s.segment.a → spoke p ≡ first_spoke → q.node ≡ s.segment.b → spoke q ≡ last_spoke → AddsSpokesOf s old new
  adds_both old mid new p q b c e f pn ps qn qs v =
      added_one v s.segment.b mid new q last_spoke f qn qs
      ∙ ap (λ (xs : List Spoke). xs ++ at_last v true) (added_one v s.segment.a old mid p first_spoke e pn ps)
      ∙ append_assoc (spokes_in v old) (at_first v true) (at_last v true)
      ∙ ap (λ (xs : List Spoke). spokes_in v old ++ xs) (sym (of_ends v b c))

  pub adds_last : (old new : List NodeSpoke) (q : NodeSpoke) → s.starts ≡ false → s.ends ≡ true → new ≡ old ++ q ∷ []
      → q.node ≡ s.segment.b → spoke q ≡ last_spoke → AddsSpokesOf s old new
  adds_last old new q b c f qn qs v =
      added_one v s.segment.b old new q last_spoke f qn qs ∙ ap (λ (xs : List Spoke). spokes_in v old ++ xs) (sym (of_ends v b c))

-- ---- the nodes of the spokes

-- what holds of the spoke of an end, where that is an end of the arc at the point
pub of_end : (v u : Point) (b : Bool) (q : Spoke) (P : Spoke → Type 0) → (b ≡ true → u ≡ v → P q) → All P (if b && same_point u v then q ∷ [] else [])
of_end v u false q P h = All-nil P
of_end v u true q P h = by (same_point u v) refl
  where
    by : (c : Bool) → same_point u v ≡ c → All P (if c then q ∷ [] else [])
    by true e = All-cons P q [] (h refl (points.same u v e)) (All-nil P)
    by false e = All-nil P

pub each_spoke : (v : Point) (s : LabelledSegment) (P : Spoke → Type 0) → (s.starts ≡ true → s.segment.a ≡ v → P (first_spoke s)) → (s.ends ≡ true → s.segment.b ≡ v → P (last_spoke s))
    → All P (spokes_of v s)
each_spoke v s P first last = All-append P (at_first s v s.starts) (at_last s v s.ends)
    (of_end v s.segment.a s.starts (first_spoke s) P first) (of_end v s.segment.b s.ends (last_spoke s) P last)

-- a point that a spoke leaves is an end of the arc
spoke_leaves_end : (v : Point) (s : LabelledSegment) → All (λ q. Contains (end_points s) v) (spokes_of v s)
spoke_leaves_end v s = each_spoke v s (λ q. Contains (end_points s) v)
    (λ b e. Contains-append_left (ends s.starts s.segment.a) (ends s.ends s.segment.b) v (one b e))
    (λ c e. Contains-append_right (ends s.starts s.segment.a) (ends s.ends s.segment.b) v (one c e))
  where
    ends : Bool → Point → List Point
    ends b u = if b then u ∷ [] else []

    one : {b : Bool} {u : Point} → b ≡ true → u ≡ v → Contains (ends b u) v
    one {b} {u} f e = subst (λ (c : Bool). Contains (ends c u) v) (sym f) (subst (λ (w : Point). Contains (w ∷ []) v) (sym e) (in_head v []))

-- and a spoke leaves each end of an arc
end_has_spoke : (v : Point) (s : LabelledSegment) → Contains (end_points s) v → (q : Spoke) × Contains (spokes_of v s) q
end_has_spoke v s c = elim (Contains-append_cases (ends s.starts s.segment.a) (ends s.ends s.segment.b) v c) [
  | inl d ↦ (first_spoke s, Contains-append_left (at_first s v s.starts) (at_last s v s.ends) (first_spoke s) (one s.starts s.segment.a (first_spoke s) d))
  | inr d ↦ (last_spoke s, Contains-append_right (at_first s v s.starts) (at_last s v s.ends) (last_spoke s) (one s.ends s.segment.b (last_spoke s) d))
]
  where
    ends : Bool → Point → List Point
    ends b u = if b then u ∷ [] else []

    one : (b : Bool) (u : Point) (q : Spoke) → Contains (ends b u) v → Contains (if b && same_point u v then q ∷ [] else []) q
    one false u q d = absurd (in_none v d)
    one true u q d = elim (in_cases u [] v d) [
      | inl e ↦ subst (λ (t : Bool). Contains (if t then q ∷ [] else []) q) (sym (subst (λ (w : Point). same_point u w ≡ true) e (points.itself u))) (in_head q [])
      | inr r ↦ absurd (in_none v r)
    ]

module _ (segments : List LabelledSegment) where
  -- a point that a spoke leaves is a node
  pub spoke_has_node : (v : Point) (q : Spoke) → Contains (flat_map (spokes_of v) segments) q → Contains (nodes segments) v
  spoke_has_node v q c =
      let r = Contains-from_flat_map (spokes_of v) segments q c in
      let end = All-contains (λ (p : Spoke). Contains (end_points r.0) v) (spokes_of v r.0) q (spoke_leaves_end v r.0) r.2 in
      Contains-distinct_by point_before (decided points) (flat_map end_points segments) v (Contains-flat_map end_points segments r.0 v r.1 end)

  -- and a spoke leaves each node
  pub node_has_spoke : (v : Point) → Contains (nodes segments) v → (q : Spoke) × Contains (flat_map (spokes_of v) segments) q
  node_has_spoke v c =
      let r = Contains-from_flat_map end_points segments v (Contains-from_distinct_by point_before (flat_map end_points segments) v c) in
      let q = end_has_spoke v r.0 r.2 in
      (q.0, Contains-flat_map (spokes_of v) segments r.0 q.0 r.1 q.1)
