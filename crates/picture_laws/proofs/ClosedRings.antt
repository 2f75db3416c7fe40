-- A ring is closed: what its segments gain of any value of points is nothing.
use Rattle.std.proofs.Common.{◌≡◌, ℕ, zero, suc, ◌+◌, ◌<◌, Bool, false, cond, nat_lt, ℤ, pos, ◌+ℤ◌, ◌-ℤ◌, List, [], ◌∷◌, map, get_or, length, reverse, All, Contains, refl, sym, ap, ap₂, ◌∙◌, arith}
use Rattle.std.proofs.lemmas.Int.{ints}
use Rattle.std.proofs.lemmas.Bool.{lt-ltb}
use Rattle.std.proofs.lemmas.Bool.Decides.{nat_tests}
use Rattle.std.proofs.lemmas.List.Elements.{All-contains, Contains-get_or}
use Rattle.lemmas.proofs.Members.{All-from_members, Contains-flat_map}
use Rattle.tgap_model.specs.declared.geometry.Point.{Point}
use Rattle.tgap_model.specs.declared.geometry.Seg.{Seg}
use Rattle.tgap_model.specs.declared.slice.Edge.{Edge}
use Rattle.tgap_model.specs.Base.{BaseMap, same_point}
use Rattle.tgap_model.specs.Chains.{first_point, last_point}
use Rattle.tgap_model.specs.Removals.{path}
use Rattle.tgap_model.specs.Slice.{slice}
use Rattle.slice_laws.proofs.Paths.{flip, path_reversed}
use Rattle.slice_read.specs.Ends.{slice_ends}
use Rattle.ring_walk.specs.declared.span.Span.{Span}
use Rattle.ring_walk.specs.declared.span.EdgeEnds.{EdgeEnds}
use Rattle.ring_walk.specs.declared.side.Side.{Side}
use Rattle.ring_walk.specs.declared.side.Way.{Way}
use Rattle.ring_walk.specs.declared.side.Way.TheVariants.{Along, Against}
use Rattle.ring_walk.specs.Sides.{span_number, start_of, end_of}
use Rattle.ring_walk.specs.Rings.{next_side, rings_of}
use Rattle.ring_walk.specs.Areas.{points_of, segments_of, ring_segments}
use Rattle.ring_walk.specs.Spans.{IsSide}
use Rattle.ring_walk.specs.Orbits.{IsRound, sides_of}
use Rattle.ring_walk.proofs.NextSides.{next_starts}
use Rattle.ring_walk.proofs.RingOrbits.{rings_are_orbits}
use Rattle.topo_write.specs.Polygons.{spans_of, lines_of}
use Rattle.topo_laws.specs.RingFaces.{slice_spans}
use Rattle.picture_laws.specs.FaceRings.{RingsAreClosed}
use Rattle.picture_laws.proofs.Sums.{int_sum, int_sum-agree, int_sum-flat_map, int_sum-map, int_sum-sub}
use Rattle.picture_laws.proofs.RingSums.{segments_are, reversed_sum, length-spans, line_points}
use Rattle.picture_laws.proofs.RingWinds.{one_if, count_is_sum, paired}

-- ---- a cyclic row

module _ (next : Side → Side) (value : Side → ℤ) where
  -- a row in which each is followed by its next one, and the last one's next is `first`
  row_sum : (first x : Side) (xs : List Side)
      → ((k : ℕ) (d : Side) → k < length xs → get_or (x ∷ xs) (suc k) d ≡ next (get_or (x ∷ xs) k d))
      → ((n : ℕ) (d : Side) → n ≡ length xs → next (get_or (x ∷ xs) n d) ≡ first)
      → int_sum (λ s. value (next s)) (x ∷ xs) ≡ int_sum value xs +ℤ value first
  row_sum first x [] follow last = let e = ap value (last 0 x refl) in omega (arith, ints, e)
  row_sum first x (y ∷ ys) follow last =
      let here = ap value (follow 0 x (omega arith)) in
      let rest = row_sum first y ys (λ k d l. follow (suc k) d (omega (arith, l))) (λ n d e. last (suc n) d (omega (arith, e))) in
      joined _ _ _ _ _ here rest
    where
      joined : (y n more s f : ℤ) → y ≡ n → more ≡ s +ℤ f → n +ℤ more ≡ (y +ℤ s) +ℤ f
      joined y n more s f e g = omega (arith, ints, e, g)

  -- so the next ones of a ring have the sum of the ring
  round_sum : (ring : List Side) → IsRound next ring → int_sum (λ s. value (next s)) ring ≡ int_sum value ring
  round_sum [] round = refl
  round_sum (x ∷ xs) round = let e = row_sum x x xs follow last in omega (arith, ints, e)
    where
      follow : (k : ℕ) (d : Side) → k < length xs → get_or (x ∷ xs) (suc k) d ≡ next (get_or (x ∷ xs) k d)
      follow k d l =
          let one_more : k + 1 ≡ suc k = omega arith in
          ap (λ n. get_or (x ∷ xs) n d) (sym one_more)
          ∙ ap (λ (b : Bool). get_or (x ∷ xs) (cond b (k + 1) 0) d) (sym (lt-ltb (k + 1) (length (x ∷ xs)) (omega (arith, l))))
          ∙ round k d (omega (arith, l))

      last : (n : ℕ) (d : Side) → n ≡ length xs → next (get_or (x ∷ xs) n d) ≡ x
      last n d e =
          let test : nat_lt (n + 1) (length (x ∷ xs)) ≡ false = grind (arith, nat_tests) in
          sym (round n d (omega (arith, e))) ∙ ap (λ (b : Bool). get_or (x ∷ xs) (cond b (n + 1) 0) d) test

-- ---- rows of points

module _ (value : Point → ℤ) where
  -- what a segment gains
  abbrev gain : Seg → ℤ
  gain s = value s.b -ℤ value s.a

  further : (x y z more : ℤ) → more ≡ z -ℤ y → (y -ℤ x) +ℤ more ≡ z -ℤ x
  further x y z more e = omega (arith, ints, e)

  nothing : (z : ℤ) → pos 0 ≡ z -ℤ z
  nothing z = omega (arith, ints)

  row_gain : (points : List Point) → int_sum gain (segments_of points) ≡ value (last_point points) -ℤ value (first_point points)
  row_gain [] = nothing (value (first_point []))
  row_gain (a ∷ []) = nothing (value a)
  row_gain (a ∷ b ∷ points) = further (value a) (value b) (value (last_point (b ∷ points))) _ (row_gain (b ∷ points))

  back_gain : (points : List Point) → int_sum (λ s. gain (flip s)) (path points) ≡ value (first_point points) -ℤ value (last_point points)
  back_gain [] = nothing (value (first_point []))
  back_gain (a ∷ []) = nothing (value a)
  back_gain (a ∷ b ∷ points) = nearer (value a) (value b) (value (last_point (b ∷ points))) _ (back_gain (b ∷ points))
    where
      nearer : (x y z more : ℤ) → more ≡ y -ℤ z → (x -ℤ y) +ℤ more ≡ x -ℤ z
      nearer x y z more e = omega (arith, ints, e)

  turned_gain : (points : List Point) → int_sum gain (segments_of (reverse points)) ≡ value (first_point points) -ℤ value (last_point points)
  turned_gain points =
      ap (int_sum gain) (segments_are (reverse points) ∙ path_reversed points) ∙ reversed_sum gain (map flip (path points))
      ∙ int_sum-map gain flip (path points) ∙ back_gain points

-- ---- rings

-- a span has the ends of its edge
pub span_ends : (edges : List Edge) (ends : List EdgeEnds) (j : ℕ) (d : Edge) → length ends ≡ length edges → j < length edges
    → ((span_number (spans_of edges ends) j).first ≡ first_point (get_or edges j d).points) × ((span_number (spans_of edges ends) j).last ≡ last_point (get_or edges j d).points)
span_ends [] ends j d e l = absurd (omega (arith, l))
span_ends (x ∷ edges) [] j d e l = absurd (omega (arith, e))
span_ends (x ∷ edges) (y ∷ ends) zero d e l = (refl, refl)
span_ends (x ∷ edges) (y ∷ ends) (suc j) d e l = span_ends edges ends j d (omega (arith, e)) (omega (arith, l))

module _ (value : Point → ℤ) (edges : List Edge) (ends : List EdgeEnds) (same : length ends ≡ length edges) where
  abbrev spans : List Span
  spans = spans_of edges ends

  side_gain : (j : ℕ) (w : Way) → j < length edges
      → int_sum (gain value) (segments_of (points_of (lines_of edges) (record { span = j; way = w }))) ≡ value (end_of spans (record { span = j; way = w })) -ℤ value (start_of spans (record { span = j; way = w }))
  side_gain j Along l =
      let d : Edge = record { key = 0; left = 0; right = 0; points = [] } in
      let at = span_ends edges ends j d same l in
      ap (λ ps. int_sum (gain value) (segments_of ps)) (line_points edges j d l) ∙ row_gain value (get_or edges j d).points
      ∙ ap₂ (λ p q. value p -ℤ value q) (sym at.1) (sym at.0)
  side_gain j Against l =
      let d : Edge = record { key = 0; left = 0; right = 0; points = [] } in
      let at = span_ends edges ends j d same l in
      ap (λ ps. int_sum (gain value) (segments_of (reverse ps))) (line_points edges j d l) ∙ turned_gain value (get_or edges j d).points
      ∙ ap₂ (λ p q. value p -ℤ value q) (sym at.0) (sym at.1)

  ring_gain : (ring : List Side) → All (IsSide (length spans)) ring → IsRound (next_side spans) ring → int_sum (gain value) (ring_segments (lines_of edges) ring) ≡ pos 0
  ring_gain ring within round =
      let long = length-spans edges ends same in
      let flat = int_sum-flat_map (gain value) (λ s. segments_of (points_of (lines_of edges) s)) ring in
      let sides = int_sum-agree (λ s. int_sum (gain value) (segments_of (points_of (lines_of edges) s))) (λ s. value (end_of spans s) -ℤ value (start_of spans s)) ring
      (λ k d l. let w = within k d l in side_gain (get_or ring k d).span (get_or ring k d).way (omega (arith, w, long))) in
      let apart = int_sum-sub (λ s. value (end_of spans s)) (λ s. value (start_of spans s)) ring in
      let starts = int_sum-agree (λ s. value (end_of spans s)) (λ s. value (start_of spans (next_side spans s))) ring
      (λ k d l. ap value (sym (next_starts spans (get_or ring k d) (within k d l)))) in
      let turned = round_sum (next_side spans) (λ s. value (start_of spans s)) ring round in
      cancelled _ _ _ _ _ _ flat sides apart starts turned
    where
      cancelled : (whole flat both ends next starts : ℤ) → whole ≡ flat → flat ≡ both → both ≡ ends -ℤ starts → ends ≡ next → next ≡ starts → whole ≡ pos 0
      cancelled whole flat both ends next starts e f g h i = omega (arith, ints, e, f, g, h, i)

-- the segments of a ring of a slice gain nothing
pub closed_ring : (m : BaseMap) (k : ℕ) (ring : List Side) → Contains (rings_of (slice_spans m k)) ring → (value : Point → ℤ)
    → int_sum (λ s. value s.b -ℤ value s.a) (ring_segments (lines_of (slice m k).edges) ring) ≡ pos 0
closed_ring m k ring has value =
    let spans = slice_spans m k in
    let orbits = rings_are_orbits spans in
    let within : All (IsSide (length spans)) ring = All-from_members (IsSide (length spans)) ring (λ s c.
    All-contains (IsSide (length spans)) (sides_of (rings_of spans)) s orbits.within (Contains-flat_map (λ (q : List Side). q) (rings_of spans) ring s has c)) in
    ring_gain value (slice m k).edges (slice_ends m k) (paired m k) ring within (All-contains (IsRound (next_side spans)) (rings_of spans) ring orbits.round has)

-- ---- the law

pub rings_are_closed : RingsAreClosed
rings_are_closed m base planar k l = λ i d n v.
    let edges = (slice m k).edges in
    let spans = slice_spans m k in
    let ring = get_or (rings_of spans) i d in
    let segments = ring_segments (lines_of edges) ring in
    let gained = closed_ring m k ring (Contains-get_or (rings_of spans) i d n) (λ p. one_if (same_point p v)) in
    let parts = int_sum-sub (λ (s : Seg). one_if (same_point s.b v)) (λ s. one_if (same_point s.a v)) segments in
    let begun = count_is_sum (λ (s : Seg). same_point s.a v) segments in
    let ended = count_is_sum (λ (s : Seg). same_point s.b v) segments in
    as_many _ _ _ _ _ gained parts begun ended
  where
    as_many : (whole begins ends : ℤ) (a b : ℕ) → whole ≡ pos 0 → whole ≡ ends -ℤ begins → begins ≡ pos a → ends ≡ pos b → a ≡ b
    as_many whole begins ends a b e f g h = omega (arith, ints, e, f, g, h)
