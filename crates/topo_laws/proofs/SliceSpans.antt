-- The edges of a slice leave their nodes in the base map as they do where no vertex is removed, so the faces of a side and its next one
-- are those of the slice with all vertices.
use Rattle.std.proofs.Common.{◌≡◌, inl, inr, ℕ, zero, suc, ◌+◌, ◌<◌, ◌≤◌, nat_lt, Bool, true, if◌then◌else◌, List, [], ◌∷◌, ◌++◌, length, map, reverse, drop, get_or, All, refl, sym, ap, ap₂, ◌∙◌, subst, arith}
use Rattle.std.proofs.lemmas.Bool.Decides.{nat_tests}
use Rattle.std.proofs.lemmas.List.{length-reverse}
use Rattle.std.proofs.lemmas.List.Elements.{All-contains, Contains-get_or}
use Rattle.lemmas.proofs.Members.{Contains-flat_map}
use Rattle.tgap_model.specs.declared.geometry.Point.{Point}
use Rattle.tgap_model.specs.declared.base.BaseArc.{BaseArc}
use Rattle.tgap_model.specs.declared.slice.Removal.{Removal}
use Rattle.tgap_model.specs.Base.{BaseMap, is_base}
use Rattle.tgap_model.specs.Partition.{IsPartition, base_segments}
use Rattle.tgap_model.specs.History.{history_of}
use Rattle.tgap_model.specs.Merged.{merged}
use Rattle.tgap_model.specs.Chains.{Link, Chain, arc_number, first_point, last_point, link_points, link_start, link_end, chain_start, chain_end, chain_points, chains_at}
use Rattle.tgap_model.specs.Removals.{is_removed, without, edge_of, edges_of, removals_to}
use Rattle.tgap_model.specs.Slice.{slice}
use Rattle.map_laws.proofs.ChainMembers.{Among}
use Rattle.map_laws.proofs.ChainWalks.{IsRow}
use Rattle.map_laws.proofs.ChainLinks.{chains_whole}
use Rattle.map_laws.proofs.ChainsExist.{chains_exist}
use Rattle.slice_laws.proofs.EdgeSums.{without_none, chain_meets}
use Rattle.slice_laws.proofs.NodeLinks.{next_to_last, second_point}
use Rattle.slice_laws.proofs.Paths.{reverse_cons}
use Rattle.slice_laws.proofs.SliceNodes.{slice_nodes}
use Rattle.removal_laws.proofs.ChainEnds.{AreLong, link_last, link_length, chain_length, chain_first, chain_last, chain_links, chain_arcs, contained}
use Rattle.step_laws.proofs.ChainPoints.{without_first, without_last}
use Rattle.step_laws.proofs.FirstSlice.{all_sound}
use Rattle.record_laws.proofs.MapFacts.{long, ends_stay}
use Rattle.ring_walk.specs.declared.span.Span.{Span}
use Rattle.ring_walk.specs.declared.side.Side.{Side}
use Rattle.ring_walk.specs.Sides.{face_of}
use Rattle.ring_walk.specs.Rings.{next_side, rings_of}
use Rattle.ring_walk.specs.Spans.{IsSide}
use Rattle.slice_read.specs.Ends.{second_point as point_after, last_link, chain_ends, slice_ends}
use Rattle.topo_write.specs.Polygons.{span_of, spans_of}
use Rattle.ring_walk.specs.Orbits.{IsRound, sides_of}
use Rattle.topo_laws.specs.RingFaces.{slice_spans, HasOneFace, NextHasTheFace, RingsHaveOneFace}
use Rattle.ring_walk.proofs.RingOrbits.{rings_are_orbits}
use Rattle.topo_laws.proofs.OwnSpans.{own_span, next_face}

-- ---- rows of points

second_append : (ps qs : List Point) → 2 ≤ length ps → second_point (ps ++ qs) ≡ second_point ps
second_append [] qs h = absurd (omega (arith, h))
second_append (p ∷ []) qs h = absurd (omega (arith, h))
second_append (p ∷ q ∷ ps) qs h = refl

second_reversed : (ps : List Point) → second_point (reverse ps) ≡ next_to_last ps
second_reversed [] = refl
second_reversed (p ∷ []) = refl
second_reversed (p ∷ q ∷ []) = refl
second_reversed (p ∷ q ∷ r ∷ ps) =
    ap second_point (reverse_cons p (q ∷ r ∷ ps))
    ∙ second_append (reverse (q ∷ r ∷ ps)) (p ∷ []) (omega (arith, length-reverse (q ∷ r ∷ ps)))
    ∙ second_reversed (q ∷ r ∷ ps)

next_joined : (ps qs : List Point) → 1 ≤ length ps → 2 ≤ length qs → last_point ps ≡ first_point qs → next_to_last (ps ++ drop 1 qs) ≡ next_to_last qs
next_joined [] qs h k e = absurd (omega (arith, h))
next_joined (p ∷ ps) [] h k e = absurd (omega (arith, k))
next_joined (p ∷ ps) (q ∷ []) h k e = absurd (omega (arith, k))
next_joined (p ∷ []) (q ∷ r ∷ qs) h k e = ap (λ (o : Point). next_to_last (o ∷ r ∷ qs)) e
next_joined (p ∷ o ∷ []) (q ∷ r ∷ qs) h k e = next_joined (o ∷ []) (q ∷ r ∷ qs) (omega arith) k e
next_joined (p ∷ o ∷ n ∷ ps) (q ∷ r ∷ qs) h k e = next_joined (o ∷ n ∷ ps) (q ∷ r ∷ qs) (omega arith) k e

same_second : (ps : List Point) → 2 ≤ length ps → point_after ps ≡ second_point ps
same_second [] h = absurd (omega (arith, h))
same_second (p ∷ []) h = absurd (omega (arith, h))
same_second (p ∷ q ∷ ps) h = refl

-- ---- where a chain leaves its ends

module _ (arcs : List BaseArc) where
  leaves_start : (d : Link) (c : Chain) → AreLong arcs (d ∷ c) → point_after (link_points arcs d) ≡ second_point (chain_points arcs (d ∷ c))
  leaves_start d [] h = same_second (link_points arcs d) (link_length arcs d (h d (inl refl)))
  leaves_start d (e ∷ c) h =
      same_second (link_points arcs d) (link_length arcs d (h d (inl refl)))
      ∙ sym (second_append (link_points arcs d) (drop 1 (chain_points arcs (e ∷ c))) (link_length arcs d (h d (inl refl))))

  leaves_end : (d : Link) (c : Chain) → AreLong arcs (d ∷ c) → IsRow (λ x y. link_end arcs x ≡ link_start arcs y) (d ∷ c)
      → point_after (reverse (link_points arcs (last_link d c))) ≡ next_to_last (chain_points arcs (d ∷ c))
  leaves_end d [] h row =
      same_second (reverse (link_points arcs d)) (omega (arith, length-reverse (link_points arcs d), link_length arcs d (h d (inl refl))))
      ∙ second_reversed (link_points arcs d)
  leaves_end d (e ∷ c) h row =
      let rest = λ (f : Link) (n : Among f (e ∷ c)). h f (inr n) in
      leaves_end e c rest row.1
      ∙ sym (next_joined (link_points arcs d) (chain_points arcs (e ∷ c)) (omega (arith, link_length arcs d (h d (inl refl))))
      (chain_length arcs (e ∷ c) refl rest)
      (link_last arcs d ∙ row.0 ∙ sym (chain_first arcs (e ∷ c) refl rest)))

-- ---- the spans of a slice

abbrev span : Point → Point → Point → Point → ℕ → ℕ → Span
span p q a b l r = record { first = p; last = q; ends = record { after_first = a; before_last = b }; left = l; right = r }

module _ (m : BaseMap) (base : is_base m ≡ true) (planar : IsPartition (base_segments m)) (k : ℕ) (within : k ≤ length (history_of m)) where
  abbrev chains : List Chain
  chains = chains_at (merged m) k

  abbrev rs : List Removal
  rs = removals_to (merged m) k

  arcs_long : (c : Chain) → Among c chains → AreLong m.arcs c
  arcs_long c n d l = long m base planar d.arc (arc_number [] 0) (chain_arcs (merged m) k c n d l)

  -- no end of a chain is removed
  first_stays : (c : Chain) → Among c chains → first_point (without rs (chain_points m.arcs c)) ≡ first_point (chain_points m.arcs c)
  first_stays c n =
      let links = chain_links (merged m) k c n in
      without_first rs (chain_points m.arcs c) (omega (arith, chain_length m.arcs c links (arcs_long c n)))
      (ap (is_removed rs) (chain_first m.arcs c links (arcs_long c n))
      ∙ ends_stay m base planar k within (chain_start m.arcs c) (c, contained chains c n, inl refl))

  last_stays : (c : Chain) → Among c chains → last_point (without rs (chain_points m.arcs c)) ≡ last_point (chain_points m.arcs c)
  last_stays c n =
      let links = chain_links (merged m) k c n in
      (without_last rs (chain_points m.arcs c) (omega (arith, chain_length m.arcs c links (arcs_long c n)))
      (ap (is_removed rs) (chain_last m.arcs c links (arcs_long c n))
      ∙ ends_stay m base planar k within (chain_end m.arcs c) (c, contained chains c n, inr refl))).1

  -- it leaves its ends as its points do
  leaves : (c : Chain) → Among c chains
      → ((chain_ends m.arcs c).after_first ≡ second_point (chain_points m.arcs c)) × ((chain_ends m.arcs c).before_last ≡ next_to_last (chain_points m.arcs c))
  leaves c n =
      let w = chains_whole (merged m) k chains (chains_exist (merged m) k) c n in
      let row = chain_meets m k w.0 w.1 w.3 in
      let arcs = subst (AreLong m.arcs) w.2 (arcs_long c n) in
      subst (λ (e : Chain). ((chain_ends m.arcs e).after_first ≡ second_point (chain_points m.arcs e)) × ((chain_ends m.arcs e).before_last ≡ next_to_last (chain_points m.arcs e))) (sym w.2)
      (leaves_start m.arcs w.0 w.1 arcs, leaves_end m.arcs w.0 w.1 arcs row)

  -- the span of an edge is that of the edge with all its vertices
  one_span : (c : Chain) → Among c chains → span_of (edge_of (merged m) k rs c, chain_ends m.arcs c) ≡ own_span (edge_of (merged m) k [] c)
  one_span c n =
      let e = edge_of (merged m) k [] c in
      let all : chain_points m.arcs c ≡ e.points = sym (without_none (chain_points m.arcs c)) in
      let ways = leaves c n in
      ap₂ (λ (p q : Point). span p q (chain_ends m.arcs c).after_first (chain_ends m.arcs c).before_last e.left e.right)
      (first_stays c n ∙ ap first_point all) (last_stays c n ∙ ap last_point all)
      ∙ ap₂ (λ (p q : Point). span (first_point e.points) (last_point e.points) p q e.left e.right)
      (ways.0 ∙ ap second_point all) (ways.1 ∙ ap next_to_last all)

spans_match : (m : BaseMap) (k : ℕ) (gone : List Removal) (cs : List Chain)
    → ((c : Chain) → Among c cs → span_of (edge_of (merged m) k gone c, chain_ends m.arcs c) ≡ own_span (edge_of (merged m) k [] c))
    → spans_of (edges_of (merged m) k gone cs) (map (chain_ends m.arcs) cs) ≡ map own_span (edges_of (merged m) k [] cs)
spans_match m k gone [] h = refl
spans_match m k gone (c ∷ cs) h = ap₂ (λ (s : Span) (ss : List Span). s ∷ ss) (h c (inl refl)) (spans_match m k gone cs (λ d n. h d (inr n)))

-- the spans of a slice are its edges with all their vertices
pub slice_spans_are : (m : BaseMap) → is_base m ≡ true → IsPartition (base_segments m) → (k : ℕ) → k ≤ length (history_of m)
    → slice_spans m k ≡ map own_span (edges_of (merged m) k [] (chains_at (merged m) k))
unfolding slice slice_ends
slice_spans_are m base planar k within = spans_match m k (removals_to (merged m) k) (chains_at (merged m) k) (one_span m base planar k within)

pub next_has_the_face : NextHasTheFace
next_has_the_face m base planar k within =
    subst (λ (spans : List Span). (s : Side) → IsSide (length spans) s → face_of spans (next_side spans s) ≡ face_of spans s)
    (sym (slice_spans_are m base planar k within))
    (next_face (edges_of (merged m) k [] (chains_at (merged m) k)) (all_sound m base planar k)
    (slice_nodes m base planar k (chains_at (merged m) k) (chains_exist (merged m) k)))

-- ---- rings

along_ring : (spans : List Span) (ring : List Side) → IsRound (next_side spans) ring → All (IsSide (length spans)) ring
    → ((s : Side) → IsSide (length spans) s → face_of spans (next_side spans s) ≡ face_of spans s)
    → (k : ℕ) (d : Side) → k < length ring → face_of spans (get_or ring k d) ≡ face_of spans (get_or ring 0 d)
along_ring spans ring round valid same zero d l = refl
along_ring spans ring round valid same (suc k) d l =
    let less : k < length ring = omega (arith, l) in
    let one_more : k + 1 ≡ suc k = omega arith in
    let test : nat_lt (k + 1) (length ring) ≡ true = grind (arith, nat_tests) in
    ap (λ j. face_of spans (get_or ring j d)) (sym (ap (λ (b : Bool). if b then k + 1 else 0) test ∙ one_more))
    ∙ ap (face_of spans) (round k d less) ∙ same (get_or ring k d) (valid k d less) ∙ along_ring spans ring round valid same k d less

one_face : (spans : List Span) (ring : List Side) → 0 < length ring → ((k : ℕ) (d : Side) → k < length ring → face_of spans (get_or ring k d) ≡ face_of spans (get_or ring 0 d))
    → HasOneFace spans ring
one_face spans [] some h = λ k d l. absurd (omega (arith, l))
one_face spans (s ∷ ring) some h = h

pub rings_have_one_face : RingsHaveOneFace
rings_have_one_face m base planar k within = λ r d l.
    let spans = slice_spans m k in
    let orbits = rings_are_orbits spans in
    let ring = get_or (rings_of spans) r d in
    one_face spans ring (orbits.some r d l)
    (along_ring spans ring (orbits.round r d l) (λ j e n. All-contains (IsSide (length spans)) (sides_of (rings_of spans)) (get_or ring j e) orbits.within
    (Contains-flat_map (λ (q : List Side). q) (rings_of spans) ring (get_or ring j e) (Contains-get_or (rings_of spans) r d l) (Contains-get_or ring j e n)))
    (next_has_the_face m base planar k within))
