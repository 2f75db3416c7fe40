-- The spokes of edges at a node: they are those of the ends of edges there, and stay so where an edge is turned round, or two become one
-- at a point where no other edge ends.
use Rattle.std.proofs.Common.{append-nil, ◌≡◌, ◌≢◌, ◌⊎◌, inl, inr, ⊎_elim, ℕ, ◌≤◌, Bool, true, false, if◌then◌else◌, List, [], ◌∷◌, ◌++◌, map, flat_map, length, reverse, drop, Contains, refl, sym, ap, ap₂, ◌∙◌, subst, arith}
use Rattle.std.proofs.lemmas.Bool.{and_from, le-leb, true≢false}
use Rattle.std.proofs.lemmas.List.{length-reverse, reverse-reverse}
use Rattle.std.proofs.lemmas.List.Elements.{Contains-append_left, Contains-append_right, Contains-append_cases}
use Rattle.lemmas.proofs.Members.{in_head, in_cases, in_none, Contains-map, Contains-from_map, Contains-flat_map, Contains-from_flat_map}
use Rattle.tgap_model.specs.declared.geometry.Point.{Point}
use Rattle.tgap_model.specs.declared.segment.LabelledSegment.{LabelledSegment}
use Rattle.tgap_model.specs.declared.slice.Edge.{Edge}
use Rattle.tgap_model.specs.Base.{same_point}
use Rattle.tgap_model.specs.Partition.{Spoke, spokes_of, path_segments, edge_segments}
use Rattle.tgap_model.specs.Chains.{Link, first_point, last_point}
use Rattle.tgap_model.proofs.Points.{same_point-true, same_point-from}
use Rattle.map_laws.proofs.ChainMembers.{Among}
use Rattle.map_laws.proofs.Lists.{members_all}
use Rattle.removal_laws.specs.StandLaws.{AreSound}
use Rattle.removal_laws.proofs.ChainEnds.{among_contained, contained}
use Rattle.slice_laws.proofs.NodeLinks.{next_to_last, second_point, arc_spoke, arc_start, ahead, back, links_of, arc_spokes}
use Rattle.slice_laws.proofs.Paths.{reverse_cons, last_after}
use Rattle.slice_laws.proofs.SpokeRings.{spoke}
use Rattle.step_laws.proofs.StepEdges.{turned_edge, joined_edge, arc_of, HasEnd, IsSpoke, SameSpokes}
use Rattle.step_laws.proofs.SpokesApart.{all_spokes}

-- ---- rows of points that are turned round

last_reversed : (ps : List Point) → last_point (reverse ps) ≡ first_point ps
last_reversed [] = refl
last_reversed (p ∷ ps) = ap last_point (reverse_cons p ps) ∙ last_after (reverse ps) p

first_reversed : (ps : List Point) → first_point (reverse ps) ≡ last_point ps
first_reversed ps = sym (last_reversed (reverse ps)) ∙ ap last_point (reverse-reverse ps)

second_append : (xs ys : List Point) → 2 ≤ length xs → second_point (xs ++ ys) ≡ second_point xs
second_append [] ys h = absurd (omega (arith, h))
second_append (x ∷ []) ys h = absurd (omega (arith, h))
second_append (x ∷ y ∷ xs) ys h = refl

second_reversed : (ps : List Point) → second_point (reverse ps) ≡ next_to_last ps
second_reversed [] = refl
second_reversed (p ∷ []) = refl
second_reversed (p ∷ q ∷ []) = refl
second_reversed (p ∷ q ∷ r ∷ ps) =
    ap second_point (reverse_cons p (q ∷ r ∷ ps))
    ∙ second_append (reverse (q ∷ r ∷ ps)) (p ∷ []) (omega (arith, length-reverse (q ∷ r ∷ ps)))
    ∙ second_reversed (q ∷ r ∷ ps)

next_reversed : (ps : List Point) → next_to_last (reverse ps) ≡ second_point ps
next_reversed ps = sym (second_reversed (reverse ps)) ∙ ap second_point (reverse-reverse ps)

-- ---- an edge that is turned round

pub turned_end : (e : Edge) (v : Point) (q : Spoke) → HasEnd e v q → HasEnd (turned_edge e) v q
turned_end e v q (false, s, f) = (true, last_reversed e.points ∙ s, ap (λ (p : Point). spoke p e.left e.right) (next_reversed e.points) ∙ f)
turned_end e v q (true, s, f) = (false, first_reversed e.points ∙ s, ap (λ (p : Point). spoke p e.right e.left) (second_reversed e.points) ∙ f)

pub end_turned : (e : Edge) (v : Point) (q : Spoke) → HasEnd (turned_edge e) v q → HasEnd e v q
end_turned e v q (false, s, f) = (true, sym (first_reversed e.points) ∙ s, ap (λ (p : Point). spoke p e.right e.left) (sym (second_reversed e.points)) ∙ f)
end_turned e v q (true, s, f) = (false, sym (last_reversed e.points) ∙ s, ap (λ (p : Point). spoke p e.left e.right) (sym (next_reversed e.points)) ∙ f)

-- ---- two rows of which the second starts where the first ends

first_joined : (ps qs : List Point) → 1 ≤ length ps → first_point (ps ++ qs) ≡ first_point ps
first_joined [] qs h = absurd (omega (arith, h))
first_joined (p ∷ ps) qs h = refl

last_joined : (ps qs : List Point) → 1 ≤ length ps → 2 ≤ length qs → last_point ps ≡ first_point qs → last_point (ps ++ drop 1 qs) ≡ last_point qs
last_joined [] qs h k e = absurd (omega (arith, h))
last_joined (p ∷ ps) [] h k e = absurd (omega (arith, k))
last_joined (p ∷ []) (q ∷ qs) h k e = ap (λ (o : Point). last_point (o ∷ qs)) e
last_joined (p ∷ o ∷ ps) (q ∷ qs) h k e = last_joined (o ∷ ps) (q ∷ qs) (omega arith) k e

next_joined : (ps qs : List Point) → 1 ≤ length ps → 2 ≤ length qs → last_point ps ≡ first_point qs → next_to_last (ps ++ drop 1 qs) ≡ next_to_last qs
next_joined [] qs h k e = absurd (omega (arith, h))
next_joined (p ∷ ps) [] h k e = absurd (omega (arith, k))
next_joined (p ∷ ps) (q ∷ []) h k e = absurd (omega (arith, k))
next_joined (p ∷ []) (q ∷ r ∷ qs) h k e = ap (λ (o : Point). next_to_last (o ∷ r ∷ qs)) e
next_joined (p ∷ o ∷ []) (q ∷ r ∷ qs) h k e = next_joined (o ∷ []) (q ∷ r ∷ qs) (omega arith) k e
next_joined (p ∷ o ∷ n ∷ ps) (q ∷ r ∷ qs) h k e = next_joined (o ∷ n ∷ ps) (q ∷ r ∷ qs) (omega arith) k e

-- ---- two edges that become one

module _ (c d : Edge) (es : List Edge) (left : c.left ≡ d.left) (right : c.right ≡ d.right) (meet : last_point c.points ≡ first_point d.points)
    (c_long : 2 ≤ length c.points) (d_long : 2 ≤ length d.points)
    (c_first : first_point c.points ≢ last_point c.points) (d_last : last_point d.points ≢ last_point c.points)
    (away : (e : Edge) → Among e es → (first_point e.points ≢ last_point c.points) × (last_point e.points ≢ last_point c.points)) where
  starts_there : first_point (joined_edge c d).points ≡ first_point c.points
  starts_there = first_joined c.points (drop 1 d.points) (omega (arith, c_long))

  ends_there : last_point (joined_edge c d).points ≡ last_point d.points
  ends_there = last_joined c.points d.points (omega (arith, c_long)) d_long meet

  first_spoke : arc_spoke (arc_of (joined_edge c d)) false ≡ arc_spoke (arc_of c) false
  first_spoke = ap (λ (p : Point). spoke p c.left c.right) (second_append c.points (drop 1 d.points) c_long)

  last_spoke : arc_spoke (arc_of (joined_edge c d)) true ≡ arc_spoke (arc_of d) true
  last_spoke =
      ap (λ (p : Point). spoke p c.right c.left) (next_joined c.points d.points (omega (arith, c_long)) d_long meet)
      ∙ ap₂ (λ (l r : ℕ). spoke (next_to_last d.points) r l) left right

  -- away from the point where they meet
  there : (v : Point) → v ≢ last_point c.points → (q : Spoke) → IsSpoke (c ∷ d ∷ es) v q → IsSpoke (joined_edge c d ∷ es) v q
  there v other q (e, inl same, end) = by (subst (λ (f : Edge). HasEnd f v q) (sym same) end)
    where
      by : HasEnd c v q → IsSpoke (joined_edge c d ∷ es) v q
      by (false, s, f) = (joined_edge c d, inl refl, (false, starts_there ∙ s, first_spoke ∙ f))
      by (true, s, f) = absurd (other (sym s))
  there v other q (e, inr (inl same), end) = by (subst (λ (f : Edge). HasEnd f v q) (sym same) end)
    where
      by : HasEnd d v q → IsSpoke (joined_edge c d ∷ es) v q
      by (false, s, f) = absurd (other (sym s ∙ sym meet))
      by (true, s, f) = (joined_edge c d, inl refl, (true, ends_there ∙ s, last_spoke ∙ f))
  there v other q (e, inr (inr m), end) = (e, inr m, end)

  before : (v : Point) (q : Spoke) → IsSpoke (joined_edge c d ∷ es) v q → IsSpoke (c ∷ d ∷ es) v q
  before v q (e, inl same, end) = by (subst (λ (f : Edge). HasEnd f v q) (sym same) end)
    where
      by : HasEnd (joined_edge c d) v q → IsSpoke (c ∷ d ∷ es) v q
      by (false, s, f) = (c, inl refl, (false, sym starts_there ∙ s, sym first_spoke ∙ f))
      by (true, s, f) = (d, inr (inl refl), (true, sym ends_there ∙ s, sym last_spoke ∙ f))
  before v q (e, inr m, end) = (e, inr (inr m), end)

  -- no spoke is left there
  none_left : (q : Spoke) → IsSpoke (joined_edge c d ∷ es) (last_point c.points) q → ⊥
  none_left q (e, inl same, end) = by (subst (λ (f : Edge). HasEnd f (last_point c.points) q) (sym same) end)
    where
      by : HasEnd (joined_edge c d) (last_point c.points) q → ⊥
      by (false, s, f) = c_first (sym starts_there ∙ s)
      by (true, s, f) = d_last (sym ends_there ∙ s)
  none_left q (e, inr m, (false, s, f)) = (away e m).0 s
  none_left q (e, inr m, (true, s, f)) = (away e m).1 s

  pub joined_spokes : (v : Point) → SameSpokes (c ∷ d ∷ es) (joined_edge c d ∷ es) v ⊎ ((q : Spoke) → IsSpoke (joined_edge c d ∷ es) v q → ⊥)
  joined_spokes v = by (same_point v (last_point c.points)) refl
    where
      by : (b : Bool) → same_point v (last_point c.points) ≡ b
          → SameSpokes (c ∷ d ∷ es) (joined_edge c d ∷ es) v ⊎ ((q : Spoke) → IsSpoke (joined_edge c d ∷ es) v q → ⊥)
      by true e = inr (subst (λ (w : Point). (q : Spoke) → IsSpoke (joined_edge c d ∷ es) w q → ⊥) (sym (same_point-true v (last_point c.points) e)) none_left)
      by false e = inl (λ q. (there v (λ f. true≢false (sym (same_point-from v (last_point c.points) f) ∙ e)) q, before v q))

-- ---- the spokes of the segments of edges

-- those of one edge
row_spokes : (v : Point) (e : Edge) → 2 ≤ length e.points
    → flat_map (spokes_of v) (path_segments e.key e.left e.right 0 e.points) ≡ map (λ (d : Link). arc_spoke (arc_of e) d.turned) (links_of v e.key (arc_of e))
row_spokes v e long =
    ap (flat_map (spokes_of v)) (sym (append-nil (path_segments e.key e.left e.right 0 e.points)))
    ∙ arc_spokes v (λ n. arc_of e) e.key (arc_of e ∷ []) (refl, tt) (and_from _ true (le-leb 2 (length e.points) long) refl)
    ∙ ap (map (λ (d : Link). arc_spoke (arc_of e) d.turned)) (append-nil (links_of v e.key (arc_of e)))

module _ (v : Point) (e : Edge) where
  -- a link that is there by a test
  by_test : (d l : Link) (b : Bool) → Contains (if b then l ∷ [] else []) d → (b ≡ true) × (l ≡ d)
  by_test d l true c = (refl, ⊎_elim (λ f. f) (λ n. absurd (in_none d n)) (in_cases l [] d c))
  by_test d l false c = absurd (in_none d c)

  link_end : (d : Link) → Contains (links_of v e.key (arc_of e)) d → arc_start (arc_of e) d.turned ≡ v
  link_end d c = elim (Contains-append_cases
      (if same_point (first_point e.points) v then ahead e.key ∷ [] else [])
      (if same_point (last_point e.points) v then back e.key ∷ [] else []) d c) [
        | inl m ↦ (let t = by_test d (ahead e.key) (same_point (first_point e.points) v) m in subst (λ (l : Link). arc_start (arc_of e) l.turned ≡ v) t.1 (same_point-true _ _ t.0))
        | inr m ↦ (let t = by_test d (back e.key) (same_point (last_point e.points) v) m in subst (λ (l : Link). arc_start (arc_of e) l.turned ≡ v) t.1 (same_point-true _ _ t.0))
      ]

  end_link : (turned : Bool) → arc_start (arc_of e) turned ≡ v → (d : Link) × Contains (links_of v e.key (arc_of e)) d × (d.turned ≡ turned)
  end_link false s = (
    ahead e.key,
    Contains-append_left (if same_point (first_point e.points) v then ahead e.key ∷ [] else [])
        (if same_point (last_point e.points) v then back e.key ∷ [] else []) (ahead e.key)
        (subst (λ (b : Bool). Contains (if b then ahead e.key ∷ [] else []) (ahead e.key)) (sym (same_point-from (first_point e.points) v s)) (in_head (ahead e.key) [])),
    refl,
  )
  end_link true s = (
    back e.key,
    Contains-append_right (if same_point (first_point e.points) v then ahead e.key ∷ [] else [])
        (if same_point (last_point e.points) v then back e.key ∷ [] else []) (back e.key)
        (subst (λ (b : Bool). Contains (if b then back e.key ∷ [] else []) (back e.key)) (sym (same_point-from (last_point e.points) v s)) (in_head (back e.key) [])),
    refl,
  )

  spoke_end : 2 ≤ length e.points → (q : Spoke) → Contains (flat_map (spokes_of v) (path_segments e.key e.left e.right 0 e.points)) q → HasEnd e v q
  spoke_end long q c =
      let d = Contains-from_map (λ (d : Link). arc_spoke (arc_of e) d.turned) (links_of v e.key (arc_of e)) q (subst (λ qs. Contains qs q) (row_spokes v e long) c) in
      (d.0.turned, link_end d.0 d.1, d.2)

  end_spoke : 2 ≤ length e.points → (q : Spoke) → HasEnd e v q → Contains (flat_map (spokes_of v) (path_segments e.key e.left e.right 0 e.points)) q
  end_spoke long q (turned, s, f) =
      let d = end_link turned s in
      subst (λ qs. Contains qs q) (sym (row_spokes v e long))
      (subst (Contains (map (λ (d : Link). arc_spoke (arc_of e) d.turned) (links_of v e.key (arc_of e)))) (ap (arc_spoke (arc_of e)) d.2 ∙ f)
      (Contains-map (λ (d : Link). arc_spoke (arc_of e) d.turned) (links_of v e.key (arc_of e)) d.0 d.1))

-- those of all edges
abbrev row : Edge → List LabelledSegment
row e = path_segments e.key e.left e.right 0 e.points

pub spoke_is_end : (es : List Edge) → AreSound es → (v : Point) (q : Spoke) → Contains (all_spokes v es) q → IsSpoke es v q
spoke_is_end es sound v q c =
    let s = Contains-from_flat_map (spokes_of v) (edge_segments es) q c in
    let e = Contains-from_flat_map row es s.0 s.1 in
    let m = among_contained es e.0 e.1 in
    (e.0, m, spoke_end v e.0 (members_all (λ (f : Edge). 2 ≤ length f.points) es e.0 sound.points m) q (Contains-flat_map (spokes_of v) (row e.0) s.0 q e.2 s.2))

pub end_is_spoke : (es : List Edge) → AreSound es → (v : Point) (q : Spoke) → IsSpoke es v q → Contains (all_spokes v es) q
end_is_spoke es sound v q (e, m, end) =
    let c = end_spoke v e (members_all (λ (f : Edge). 2 ≤ length f.points) es e sound.points m) q end in
    let s = Contains-from_flat_map (spokes_of v) (row e) q c in
    Contains-flat_map (spokes_of v) (edge_segments es) s.0 q (Contains-flat_map row es e s.0 (contained es e m) s.1) s.2
