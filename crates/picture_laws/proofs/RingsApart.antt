-- Of two rings without a common node, one goes equally often round all points of the other.
use Rattle.std.proofs.Common.{◌≡◌, ◌≢◌, ◌⊎◌, inl, inr, ⊎_elim, ℕ, zero, suc, ◌+◌, ◌<◌, ◌≤◌, nat_lt, cond, Bool, true, false, List, [], ◌∷◌, reverse, get_or, length, Contains, ℤ, pos, ◌-ℤ◌, ◌*ℤ◌, ◌<ℤ◌, refl, sym, ap, ◌∙◌, subst, eqb-true, true≢false, arith}
use Rattle.std.proofs.lemmas.Int.{ints}
use Rattle.std.proofs.lemmas.Bool.{lt-ltb, cases_eq}
use Rattle.std.proofs.lemmas.List.{reverse-reverse, get_or_default}
use Rattle.std.proofs.lemmas.List.Elements.{All-contains, Contains-get_or}
use Rattle.lemmas.proofs.Members.{All-from_members, Contains-flat_map, Contains-from_flat_map}
use Rattle.lemmas.proofs.Signs.{apart_from_lt, same_from_mul_left}
use Rattle.tgap_model.specs.declared.geometry.Fraction.{Fraction}
use Rattle.tgap_model.specs.declared.geometry.Point.{Point}
use Rattle.tgap_model.specs.declared.geometry.Seg.{Seg}
use Rattle.tgap_model.specs.declared.segment.LabelledSegment.{LabelledSegment}
use Rattle.tgap_model.specs.declared.slice.Edge.{Edge}
use Rattle.std.specs.Ordering.{int_eq}
use Rattle.std.proofs.lemmas.Bool.{and_parts}
use Rattle.std.proofs.lemmas.Bool.Decides.{Decides-int_eq, nat_tests}
use Rattle.tgap_model.specs.Base.{BaseMap, is_base}
use Rattle.tgap_model.specs.Chains.{first_point, last_point}
use Rattle.tgap_model.specs.History.{history_of}
use Rattle.tgap_model.specs.Partition.{IsPartition, base_segments, path_segments}
use Rattle.tgap_model.specs.Segment.{is_at, is_on}
use Rattle.tgap_model.specs.Slice.{slice}
use Rattle.tgap_model.proofs.Points.{point_same}
use Rattle.map_laws.proofs.ChainMembers.{Among}
use Rattle.removal_laws.proofs.ChainEnds.{contained}
use Rattle.removal_laws.proofs.Apart.{apart_turned, at_first, at_last}
use Rattle.slice_laws.proofs.Paths.{reverse_cons, last_after}
use Rattle.slice_read.specs.Ends.{slice_ends}
use Rattle.ring_walk.specs.declared.span.Span.{Span}
use Rattle.ring_walk.specs.declared.side.Side.{Side}
use Rattle.ring_walk.specs.declared.side.Way.{Way}
use Rattle.ring_walk.specs.declared.side.Way.TheVariants.{Along, Against}
use Rattle.ring_walk.specs.Areas.{points_of, segments_of, ring_segments}
use Rattle.ring_walk.specs.Orbits.{IsRound, place_after, sides_of}
use Rattle.ring_walk.specs.Rings.{next_side, rings_of}
use Rattle.ring_walk.specs.Sides.{start_of, end_of}
use Rattle.ring_walk.specs.Spans.{IsSide}
use Rattle.ring_walk.proofs.NextSides.{next_starts}
use Rattle.ring_walk.proofs.RingOrbits.{rings_are_orbits}
use Rattle.topo_write.specs.Polygons.{lines_of}
use Rattle.topo_laws.specs.RingFaces.{slice_spans}
use Rattle.picture_laws.specs.FaceRings.{IsOnWay, HaveNoCommonNode, RingsApartPass}
use Rattle.picture_laws.proofs.Sums.{int_sum}
use Rattle.picture_laws.proofs.SameMembers.{among}
use Rattle.picture_laws.proofs.RingSums.{length-spans, line_points}
use Rattle.picture_laws.proofs.RingWinds.{paired}
use Rattle.picture_laws.proofs.ClosedRings.{closed_ring, span_ends}
use Rattle.picture_laws.proofs.AlongSegment.{seen, way_on, wound_alike, winding_is_seen}
use Rattle.picture_laws.proofs.PassedEdges.{whole, is_whole, IsEnd, labelled_in, meets_at_end, side_segment, row_of, edges_apart}

no_edge : Edge
no_edge = record { key = 0; left = 0; right = 0; points = [] }

one : pos 0 <ℤ pos 1
one = omega (arith, ints)

-- ---- a path that closed segments do not meet

module _ (segments : List Seg) (closed : (value : Point → ℤ) → int_sum (λ s. value s.b -ℤ value s.a) segments ≡ pos 0) where
  abbrev total : Fraction → ℤ
  total z = int_sum (seen z) segments

  abbrev IsClear : Seg → Type 0
  IsClear x = (c : Seg) → Contains segments c → (z : Fraction) → pos 0 <ℤ z.d → is_on z x ≡ true → is_on z c ≡ true → ⊥

  on_one : (x : Seg) → IsClear x → (p z : Fraction) → pos 0 <ℤ p.d → pos 0 <ℤ z.d → is_on p x ≡ true → is_on z x ≡ true → total p ≡ total z
  on_one x clear p z i j e f = wound_alike p z i j segments
      (All-from_members (λ c. (w : Fraction) → IsOnWay p z w → is_on w c ≡ true → ⊥) segments (λ c m w way on. clear c m w way.rational (way_on x p z w i j e f way) on)) closed

  from_first : (points : List Point) → ((s : Seg) → Among s (segments_of points) → IsClear s) → (s : Seg) → Among s (segments_of points) → (p : Fraction) → pos 0 <ℤ p.d → is_on p s ≡ true
      → total p ≡ total (whole (first_point points))
  from_first [] clear s m p i on = absurd m
  from_first (a ∷ []) clear s m p i on = absurd m
  from_first (a ∷ b ∷ points) clear s (inl e) p i on =
      let x : Seg = record { a = a; b = b } in
      on_one x (clear x (inl refl)) p (whole a) i one (subst (λ (t : Seg). is_on p t ≡ true) (sym e) on) (at_first (whole a) a b one (is_whole a))
  from_first (a ∷ b ∷ points) clear s (inr m) p i on =
      let x : Seg = record { a = a; b = b } in
      from_first (b ∷ points) (λ t n. clear t (inr n)) s m p i on
      ∙ on_one x (clear x (inl refl)) (whole b) (whole a) one one (at_last (whole b) a b one (is_whole b)) (at_first (whole a) a b one (is_whole a))

  to_last : (points : List Point) → ((s : Seg) → Among s (segments_of points) → IsClear s) → total (whole (last_point points)) ≡ total (whole (first_point points))
  to_last [] clear = refl
  to_last (a ∷ []) clear = refl
  to_last (a ∷ b ∷ points) clear =
      let x : Seg = record { a = a; b = b } in
      to_last (b ∷ points) (λ t n. clear t (inr n))
      ∙ on_one x (clear x (inl refl)) (whole b) (whole a) one one (at_last (whole b) a b one (is_whole b)) (at_first (whole a) a b one (is_whole a))

-- ---- ends of sides

last_reversed : (points : List Point) → last_point (reverse points) ≡ first_point points
last_reversed [] = refl
last_reversed (p ∷ points) = ap last_point (reverse_cons p points) ∙ last_after (reverse points) p

first_reversed : (points : List Point) → first_point (reverse points) ≡ last_point points
first_reversed points = sym (last_reversed (reverse points)) ∙ ap last_point (reverse-reverse points)

module _ (m : BaseMap) (k : ℕ) where
  abbrev spans : List Span
  spans = slice_spans m k

  abbrev lines : List (List Point)
  lines = lines_of (slice m k).edges

  abbrev edge_of : Side → Edge
  edge_of a = get_or (slice m k).edges a.span no_edge

  side_first_by : (j : ℕ) (w : Way) → j < length (slice m k).edges → first_point (points_of lines (record { span = j; way = w })) ≡ start_of spans (record { span = j; way = w })
  side_first_by j Along l =
      ap first_point (line_points (slice m k).edges j no_edge l) ∙ sym (span_ends (slice m k).edges (slice_ends m k) j no_edge (paired m k) l).0
  side_first_by j Against l =
      ap (λ (ps : List Point). first_point (reverse ps)) (line_points (slice m k).edges j no_edge l) ∙ first_reversed (get_or (slice m k).edges j no_edge).points
      ∙ sym (span_ends (slice m k).edges (slice_ends m k) j no_edge (paired m k) l).1

  side_last_by : (j : ℕ) (w : Way) → j < length (slice m k).edges → last_point (points_of lines (record { span = j; way = w })) ≡ end_of spans (record { span = j; way = w })
  side_last_by j Along l =
      ap last_point (line_points (slice m k).edges j no_edge l) ∙ sym (span_ends (slice m k).edges (slice_ends m k) j no_edge (paired m k) l).1
  side_last_by j Against l =
      ap (λ (ps : List Point). last_point (reverse ps)) (line_points (slice m k).edges j no_edge l) ∙ last_reversed (get_or (slice m k).edges j no_edge).points
      ∙ sym (span_ends (slice m k).edges (slice_ends m k) j no_edge (paired m k) l).0

  -- an end of the edge is an end of the side
  node_by : (j : ℕ) (w : Way) → j < length (slice m k).edges → (v : Point) → (v ≡ first_point (get_or (slice m k).edges j no_edge).points) ⊎ (v ≡ last_point (get_or (slice m k).edges j no_edge).points)
      → (v ≡ start_of spans (record { span = j; way = w })) ⊎ (v ≡ end_of spans (record { span = j; way = w }))
  node_by j Along l v h =
      let at = span_ends (slice m k).edges (slice_ends m k) j no_edge (paired m k) l in
      ⊎_elim (λ e. inl (e ∙ sym at.0)) (λ e. inr (e ∙ sym at.1)) h
  node_by j Against l v h =
      let at = span_ends (slice m k).edges (slice_ends m k) j no_edge (paired m k) l in
      ⊎_elim (λ e. inr (e ∙ sym at.0)) (λ e. inl (e ∙ sym at.1)) h

  side_first : (a : Side) → a.span < length (slice m k).edges → first_point (points_of lines a) ≡ start_of spans a
  side_first a l = side_first_by a.span a.way l

  side_last : (a : Side) → a.span < length (slice m k).edges → last_point (points_of lines a) ≡ end_of spans a
  side_last a l = side_last_by a.span a.way l

  node_of : (a : Side) → a.span < length (slice m k).edges → (v : Point) → (v ≡ first_point (edge_of a).points) ⊎ (v ≡ last_point (edge_of a).points) → (v ≡ start_of spans a) ⊎ (v ≡ end_of spans a)
  node_of a l v h = node_by a.span a.way l v h

-- the ends of a path at its first and last segments
first_of : (key l r place : ℕ) (points : List Point) (x : LabelledSegment) → Among x (path_segments key l r (place + 1) points) → x.starts ≡ true → ⊥
first_of key l r place [] x m s = absurd m
first_of key l r place (a ∷ []) x m s = absurd m
first_of key l r place (a ∷ b ∷ points) x (inl e) s = let f = eqb-true (place + 1) 0 (ap (λ (t : LabelledSegment). t.starts) e ∙ s) in absurd (omega (arith, f))
first_of key l r place (a ∷ b ∷ points) x (inr m) s = first_of key l r (place + 1) (b ∷ points) x m s

start_is : (key l r : ℕ) (points : List Point) (x : LabelledSegment) → Among x (path_segments key l r 0 points) → x.starts ≡ true → x.segment.a ≡ first_point points
start_is key l r [] x m s = absurd m
start_is key l r (a ∷ []) x m s = absurd m
start_is key l r (a ∷ b ∷ points) x (inl e) s = ap (λ (t : LabelledSegment). t.segment.a) (sym e)
start_is key l r (a ∷ b ∷ points) x (inr m) s = absurd (first_of key l r 0 (b ∷ points) x m s)

end_is : (key l r place : ℕ) (points : List Point) (x : LabelledSegment) → Among x (path_segments key l r place points) → x.ends ≡ true → x.segment.b ≡ last_point points
end_is key l r place [] x m s = absurd m
end_is key l r place (a ∷ []) x m s = absurd m
end_is key l r place (a ∷ b ∷ []) x (inl e) s = ap (λ (t : LabelledSegment). t.segment.b) (sym e)
end_is key l r place (a ∷ b ∷ []) x (inr m) s = absurd m
end_is key l r place (a ∷ b ∷ c ∷ points) x (inl e) s = absurd (true≢false (sym s ∙ ap (λ (t : LabelledSegment). t.ends) (sym e)))
end_is key l r place (a ∷ b ∷ c ∷ points) x (inr m) s = end_is key l r (place + 1) (b ∷ c ∷ points) x m s

end_node : (e : Edge) (x : LabelledSegment) (v : Point) → Among x (row_of e) → IsEnd x v → (v ≡ first_point e.points) ⊎ (v ≡ last_point e.points)
end_node e x v m (inl (s, f)) = inl (sym f ∙ start_is e.key e.left e.right e.points x m s)
end_node e x v m (inr (s, f)) = inr (sym f ∙ end_is e.key e.left e.right 0 e.points x m s)

-- two grid points at one place are one
one_place : (z : Fraction) (v w : Point) → pos 0 <ℤ z.d → is_at z v ≡ true → is_at z w ≡ true → v ≡ w
one_place z v w i e f =
    let a = and_parts (int_eq z.nx (z.d *ℤ v.x)) (int_eq z.ny (z.d *ℤ v.y)) e in
    let b = and_parts (int_eq z.nx (z.d *ℤ w.x)) (int_eq z.ny (z.d *ℤ w.y)) f in
    let ne : z.d ≢ pos 0 = λ h. apart_from_lt i (sym h) in
    point_same v w
    (same_from_mul_left z.d ne (sym ((Decides-int_eq z.nx (z.d *ℤ v.x)).0 a.0) ∙ (Decides-int_eq z.nx (z.d *ℤ w.x)).0 b.0))
    (same_from_mul_left z.d ne (sym ((Decides-int_eq z.ny (z.d *ℤ v.y)).0 a.1) ∙ (Decides-int_eq z.ny (z.d *ℤ w.y)).0 b.1))

-- ---- the law

module _ (m : BaseMap) (base : is_base m ≡ true) (planar : IsPartition (base_segments m)) (k : ℕ) (within : k ≤ length (history_of m))
    (q r : List Side) (in_q : Contains (rings_of (slice_spans m k)) q) (in_r : Contains (rings_of (slice_spans m k)) r) (none : HaveNoCommonNode (slice_spans m k) q r) where
  valid : (ring : List Side) → Contains (rings_of (slice_spans m k)) ring → (b : Side) → Contains ring b → IsSide (length (slice_spans m k)) b
  valid ring has b c = All-contains (IsSide (length (slice_spans m k))) (sides_of (rings_of (slice_spans m k))) b (rings_are_orbits (slice_spans m k)).within
      (Contains-flat_map (λ (r : List Side). r) (rings_of (slice_spans m k)) ring b has c)

  short : (ring : List Side) → Contains (rings_of (slice_spans m k)) ring → (b : Side) → Contains ring b → b.span < length (slice m k).edges
  short ring has b c = let v = valid ring has b c in let long = length-spans (slice m k).edges (slice_ends m k) (paired m k) in omega (arith, v, long)

  round : (ring : List Side) → Contains (rings_of (slice_spans m k)) ring → IsRound (next_side (slice_spans m k)) ring
  round ring has = All-contains (IsRound (next_side (slice_spans m k))) (rings_of (slice_spans m k)) ring (rings_are_orbits (slice_spans m k)).round has

  -- the next side of a side of a ring is one of it
  next_in : (ring : List Side) → Contains (rings_of (slice_spans m k)) ring → (b : Side) → Contains ring b → Contains ring (next_side (slice_spans m k) b)
  next_in ring has b c =
      subst (Contains ring) (round ring has c.0 b c.1 ∙ ap (next_side (slice_spans m k)) c.2)
      (Contains-get_or ring (place_after (length ring) c.0) b (below (length ring) c.0 c.1))
    where
      below : (n i : ℕ) → i < n → place_after n i < n
      below n i l = by (nat_lt (i + 1) n) refl
        where
          by : (b : Bool) → nat_lt (i + 1) n ≡ b → cond b (i + 1) 0 < n
          by true e = grind (arith, nat_tests)
          by false e = omega (arith, l)

  -- no end of a side of the one is one of a side of the other
  no_node : (a b : Side) → Contains r a → Contains q b → (v : Point) → (v ≡ start_of (slice_spans m k) a) ⊎ (v ≡ end_of (slice_spans m k) a)
      → (v ≡ start_of (slice_spans m k) b) ⊎ (v ≡ end_of (slice_spans m k) b) → ⊥
  no_node a b c d v (inl e) (inl f) = none b a d c (sym f ∙ e)
  no_node a b c d v (inl e) (inr f) = none (next_side (slice_spans m k) b) a (next_in q in_q b d) c (next_starts (slice_spans m k) b (valid q in_q b d) ∙ sym f ∙ e)
  no_node a b c d v (inr e) (inl f) = none b (next_side (slice_spans m k) a) d (next_in r in_r a c) (sym f ∙ e ∙ sym (next_starts (slice_spans m k) a (valid r in_r a c)))
  no_node a b c d v (inr e) (inr f) = none (next_side (slice_spans m k) b) (next_side (slice_spans m k) a) (next_in q in_q b d) (next_in r in_r a c)
      (next_starts (slice_spans m k) b (valid q in_q b d) ∙ sym f ∙ e ∙ sym (next_starts (slice_spans m k) a (valid r in_r a c)))

  abbrev segments : List Seg
  segments = ring_segments (lines_of (slice m k).edges) q

  -- so no segment of the one meets one of the other
  clear : (a : Side) → Contains r a → (s : Seg) → Contains (segments_of (points_of (lines_of (slice m k).edges) a)) s → IsClear segments (closed_ring m k q in_q) s
  clear a c s n t in_t z positive on_s on_t =
      let side = Contains-from_flat_map (λ (b : Side). segments_of (points_of (lines_of (slice m k).edges) b)) q t in_t in
      let b = side.0 in
      let la = short r in_r a c in
      let lb = short q in_q b side.1 in
      let e = edge_of m k a in
      let f = edge_of m k b in
      let there = side_segment (slice m k).edges a.span a.way no_edge la s n in
      let other = side_segment (slice m k).edges b.span b.way no_edge lb t side.2 in
      let x = labelled_in e.key e.left e.right 0 e.points there.0 there.1 in
      let u = labelled_in f.key f.left f.right 0 f.points other.0 other.1 in
      let on_x = subst (λ (g : Seg). is_on z g ≡ true) (sym x.2) (there.2 z on_s) in
      let on_u = subst (λ (g : Seg). is_on z g ≡ true) (sym u.2) (other.2 z on_t) in
      elim (cases_eq b.span a.span) [
        | inl same ↦ no_node a b c side.1 (first_point e.points) (node_of m k a la (first_point e.points) (inl refl))
            (node_of m k b lb (first_point e.points) (inl (ap (λ (j : ℕ). first_point (get_or (slice m k).edges j no_edge).points) (sym same))))
        | inr differ ↦
            let apart = edges_apart m base planar k within a.span b.span no_edge la lb differ x.0 u.0 x.1 u.1 in
            let v = meets_at_end x.0 u.0 apart.0 apart.1 z positive on_x on_u in
            let w = meets_at_end u.0 x.0 (apart_turned x.0 u.0 apart.0) (λ h. apart.1 (sym h)) z positive on_u on_x in
            no_node a b c side.1 v.0 (node_of m k a la v.0 (end_node e x.0 v.0 x.1 v.2))
            (node_of m k b lb v.0 (end_node f u.0 v.0 u.1 (subst (IsEnd u.0) (one_place z w.0 v.0 positive w.1 v.1) w.2)))
      ]

  abbrev level : Fraction → ℤ
  level z = int_sum (seen z) segments

  side_clear : (a : Side) → Contains r a → (s : Seg) → Among s (segments_of (points_of (lines_of (slice m k).edges) a)) → IsClear segments (closed_ring m k q in_q) s
  side_clear a c s n = clear a c s (contained (segments_of (points_of (lines_of (slice m k).edges) a)) s n)

  -- from side to side round the ring
  starts_alike : (i : ℕ) (d : Side) → i < length r → level (whole (start_of (slice_spans m k) (get_or r i d))) ≡ level (whole (start_of (slice_spans m k) (get_or r 0 d)))
  starts_alike zero d l = refl
  starts_alike (suc i) d l =
      let less : i < length r = omega (arith, l) in
      let a = get_or r i d in
      let c = Contains-get_or r i d less in
      let one_more : i + 1 ≡ suc i = omega arith in
      let next : get_or r (suc i) d ≡ next_side (slice_spans m k) a
      = ap (λ n. get_or r n d) (sym one_more) ∙ ap (λ (b : Bool). get_or r (cond b (i + 1) 0) d) (sym (lt-ltb (i + 1) (length r) (omega (arith, l)))) ∙ round r in_r i d less in
      ap (λ (v : Point). level (whole v)) (ap (start_of (slice_spans m k)) next ∙ next_starts (slice_spans m k) a (valid r in_r a c) ∙ sym (side_last m k a (short r in_r a c)))
      ∙ to_last segments (closed_ring m k q in_q) (points_of (lines_of (slice m k).edges) a) (side_clear a c)
      ∙ ap (λ (v : Point). level (whole v)) (side_first m k a (short r in_r a c))
      ∙ starts_alike i d less

  -- so at any point of it
  at_point : (s : Seg) → Contains (ring_segments (lines_of (slice m k).edges) r) s → (d : Side) (p : Fraction) → pos 0 <ℤ p.d → is_on p s ≡ true
      → level p ≡ level (whole (start_of (slice_spans m k) (get_or r 0 d)))
  at_point s n d p i on =
      let side = Contains-from_flat_map (λ (b : Side). segments_of (points_of (lines_of (slice m k).edges) b)) r s n in
      let a = side.0 in
      let place = side.1 in
      from_first segments (closed_ring m k q in_q) (points_of (lines_of (slice m k).edges) a) (side_clear a place) s (among (segments_of (points_of (lines_of (slice m k).edges) a)) s side.2) p i on
      ∙ ap (λ (v : Point). level (whole v)) (side_first m k a (short r in_r a place) ∙ ap (start_of (slice_spans m k)) (sym (get_or_default r place.0 d a place.1 ∙ place.2)))
      ∙ starts_alike place.0 d place.1

pub rings_apart_pass : RingsApartPass
rings_apart_pass m base planar k within q r in_q in_r none s t in_s in_t p z h g on_p on_z =
    winding_is_seen p h (ring_segments (lines_of (slice m k).edges) q)
    ∙ at_point m base planar k within q r in_q in_r none s in_s no_side p h.rational on_p
    ∙ sym (at_point m base planar k within q r in_q in_r none t in_t no_side z g.rational on_z)
    ∙ sym (winding_is_seen z g (ring_segments (lines_of (slice m k).edges) q))
  where
    no_side : Side
    no_side = record { span = 0; way = Along }
