-- The base map that is read of the polygons of a drawn slice: each side of an arc has the part that has the side.
use Rattle.std.proofs.Common.{◌≡◌, ◌≢◌, ◌⊎◌, inl, inr, ℕ, zero, suc, ◌+◌, ◌-◌, ◌*◌, ◌^◌, ◌<◌, ◌≤◌, nat_lt, Bool, true, false, if◌then◌else◌, List, [], ◌∷◌, length, map, sum_by, count_by, get_or, All, AllPairs, Contains, Result, Ok, Err, bytes_eq, refl, sym, ap, ap₂, ◌∙◌, subst, true≢false, arith}
use Rattle.std.specs.Prelude.{pos, int_lt, decimal, IsTrue}
use Rattle.std.specs.List.{AllZip, list_all, range_with_len}
use Rattle.std.proofs.lemmas.Bool.{and_from, cases_eq, le-leb, lt-ltb, false_from_ne_true}
use Rattle.std.proofs.lemmas.Bool.Decides.{nat_tests}
use Rattle.std.proofs.lemmas.Fmt.{decimal_injective}
use Rattle.std.proofs.lemmas.List.{get_or-map, length-map}
use Rattle.std.proofs.lemmas.List.FromFn.{length-range_with_len, get_or-range_with_len}
use Rattle.std.proofs.lemmas.List.Sums.{list_all-from_AllPass, count_by-le-length}
use Rattle.std.proofs.lemmas.List.Elements.{All-head, All-tail, All-map, All-contains, Contains-get_or}
use Rattle.std.proofs.lemmas.Slice.Eq.{bytes_eq-Decides}
use Rattle.lemmas.proofs.Members.{in_cases, All-from_members, Contains-map, Contains-flat_map, Contains-from_flat_map}
use Rattle.tgap_model.specs.declared.geometry.Point.{Point}
use Rattle.tgap_model.specs.declared.base.BaseArc.{BaseArc}
use Rattle.tgap_model.specs.declared.base.Transform.{Transform}
use Rattle.tgap_model.specs.declared.slice.Edge.{Edge}
use Rattle.tgap_model.specs.declared.slice.FaceRow.{FaceRow}
use Rattle.tgap_model.specs.declared.topology.NamedRules.{NamedRules}
use Rattle.tgap_model.specs.declared.topology.RawMap.{RawMap}
use Rattle.tgap_model.specs.declared.fault.MapFault.{MapFault}
use Rattle.tgap_model.specs.declared.limits.TheConstants.{MAX_ARCS, MAX_POINTS, MAX_FACES}
use Rattle.tgap_model.specs.Base.{BaseMap, in_limits}
use Rattle.tgap_model.specs.Chains.{first_point, last_point}
use Rattle.ring_walk.specs.declared.span.Span.{Span}
use Rattle.ring_walk.specs.declared.span.EdgeEnds.{EdgeEnds}
use Rattle.ring_walk.specs.declared.side.Side.{Side}
use Rattle.ring_walk.specs.declared.side.Way.{Way}
use Rattle.ring_walk.specs.declared.side.Way.TheVariants.{Along, Against}
use Rattle.ring_walk.specs.Sides.{span_number, start_by, start_of, end_of, face_by, face_of}
use Rattle.ring_walk.specs.Rings.{next_side, rings_of, ring_face}
use Rattle.ring_walk.specs.Areas.{ring_area as area_of}
use Rattle.ring_walk.specs.Spans.{IsSide}
use Rattle.ring_walk.proofs.Examples.{along, against}
use Rattle.topology_forms.specs.Topology.{names_arc, has_ring}
use Rattle.topology_forms.specs.Rings.{start_named, end_named, ring_area, class_from, class_named, is_raw_arc, is_raw_ring, is_raw_map, based}
use Rattle.ring_sides.specs.FaceRings.{IsClosed, IsWhole}
use Rattle.ring_sides.specs.Places.{Taking, face_rings, sides_taken, AreTakenOnce}
use Rattle.ring_sides.specs.Sides.{TakesSide, IsFaceAt, IsSidedArc, AreArcsTaken, HasRingSides}
use Rattle.ring_sides.proofs.OneBase.{one_base, fault_has_none}
use Rattle.ring_sides.proofs.RingSides.{based_has_sides, based_fault_is_first}
use Rattle.ring_sides.proofs.RingTakings.{each_whole, taken_is_side, side_is_taken}
use Rattle.topo_write.specs.Polygons.{spans_of, lines_of, of_face, is_outer, is_inner, Polygon}
use Rattle.topo_write.specs.Topology.{index_by}
use Rattle.ring_walk.specs.Orbits.{place_after, IsRound, sides_of, AreOrbits}
use Rattle.topo_laws.specs.RingFaces.{HasOneFace}
use Rattle.topo_laws.specs.Told.{index_of, indexes_of, after_rings, told_from, told}
use Rattle.topo_laws.specs.ReadBack.{part_from, part_face, IsArcOf}
use Rattle.ring_walk.proofs.NextSides.{next_starts}
use Rattle.ring_walk.proofs.RingOrbits.{rings_are_orbits}
use Rattle.topo_laws.proofs.PartRings.{rings_in, IsPart, in_face, ArePolygons}
use Rattle.topo_laws.proofs.PartSides.{AreRows, IsRinged, taking_of, takes_from, area_told, sides_read, faces_read, all_rings_read}
use Rattle.topo_laws.proofs.PartFaces.{side_in, rings_differ, sides_once, sides_taken_are, taken_once, taken_by_part, part_takes, part_at, part_found, face_of_place}
use Rattle.topo_laws.proofs.ReadTree.{named as named_arc}

abbrev pub HasRow : List FaceRow → ℕ → Type 0
HasRow rows f = (row : FaceRow) × Contains rows row × (row.face ≡ f)

-- Edges with their ends, whose rings have one face, and rows of their faces.
pub record IsDrawn (edges : List Edge) (ends : List EdgeEnds) (rows : List FaceRow) : Type 0 where
  pub paired : length ends ≡ length edges
  pub lines : AreRows (lines_of edges)
  pub two_faces : All (λ e. e.left ≢ e.right) edges
  pub one_face : All (HasOneFace (spans_of edges ends)) (rings_of (spans_of edges ends))
  pub differ : AllPairs (λ q r. q.face ≢ r.face) rows
  pub left : All (λ e. e.left ≢ 0 → HasRow rows e.left) edges
  pub right : All (λ e. e.right ≢ 0 → HasRow rows e.right) edges

-- ---- spans and lines by their numbers

-- a span has the end points and the faces of its edge
record IsSpanOf (lines : List (List Point)) (s : Span) (e : Edge) (i : ℕ) : Type 0 where
  first : s.first ≡ first_point (get_or lines i [])
  last : s.last ≡ last_point (get_or lines i [])
  left : s.left ≡ e.left
  right : s.right ≡ e.right

span_at : (edges : List Edge) (ends : List EdgeEnds) (i : ℕ) (d : Edge) → length ends ≡ length edges → i < length edges
    → IsSpanOf (lines_of edges) (span_number (spans_of edges ends) i) (get_or edges i d) i
span_at [] ends i d same l = absurd (omega (arith, l))
span_at (e ∷ edges) [] i d same l = absurd (omega (arith, same))
span_at (e ∷ edges) (x ∷ ends) zero d same l = record { first = refl; last = refl; left = refl; right = refl }
span_at (e ∷ edges) (x ∷ ends) (suc i) d same l =
    let h = span_at edges ends i d (omega (arith, same)) (omega (arith, l)) in
    record { first = h.first; last = h.last; left = h.left; right = h.right }

length-spans : (edges : List Edge) (ends : List EdgeEnds) → length ends ≡ length edges → length (spans_of edges ends) ≡ length edges
length-spans [] ends same = refl
length-spans (e ∷ edges) [] same = absurd (omega (arith, same))
length-spans (e ∷ edges) (x ∷ ends) same = ap suc (length-spans edges ends (omega (arith, same)))

-- the numbers below n, by their places
pub range_at : (n k d : ℕ) → k < n → get_or (range_with_len 0 n) k d ≡ k
range_at n k d l = let same : 0 + k ≡ k = omega arith in get_or-range_with_len 0 n k d l ∙ same

all_zip_map : {A B : Type 0} (R : A → B → Type 0) (f : A → B) (xs : List A) → All (λ x. R x (f x)) xs → AllZip R xs (map f xs)
all_zip_map R f [] h = tt
all_zip_map R f (x ∷ xs) h = (All-head (λ y. R y (f y)) x xs h, all_zip_map R f xs (All-tail (λ y. R y (f y)) x xs h))

all_zip_at : {A B : Type 0} (R : A → B → Type 0) (xs : List A) (ys : List B) (d : A) (e : B) → length xs ≡ length ys → ((k : ℕ) → k < length xs → R (get_or xs k d) (get_or ys k e)) → AllZip R xs ys
all_zip_at R [] [] d e same h = tt
all_zip_at R [] (y ∷ ys) d e same h = absurd (omega (arith, same))
all_zip_at R (x ∷ xs) [] d e same h = absurd (omega (arith, same))
all_zip_at R (x ∷ xs) (y ∷ ys) d e same h = (h 0 (omega arith), all_zip_at R xs ys d e (omega (arith, same)) (λ k l. h (suc k) (omega (arith, l))))

-- ---- the classes

pub class_of_decimal : (default k m c : ℕ) → k ≤ c → c < k + m → k + m < 2 ^ 64 → class_from default k (map decimal (range_with_len k m)) (decimal c) ≡ c
class_of_decimal default k zero c low high small = absurd (omega (arith, low, high))
class_of_decimal default k (suc m) c low high small = elim (cases_eq k c) [
  | inl same ↦ ap (λ (b : Bool). if b then k else class_from default (k + 1) (map decimal (range_with_len (k + 1) m)) (decimal c))
      ((bytes_eq-Decides (decimal k) (decimal c)).1 (ap decimal same)) ∙ same
  | inr ne ↦ ap (λ (b : Bool). if b then k else class_from default (k + 1) (map decimal (range_with_len (k + 1) m)) (decimal c))
      (false_from_ne_true (bytes_eq (decimal k) (decimal c)) (λ e. ne (decimal_injective k c (omega (arith, small)) (omega (arith, high, small)) ((bytes_eq-Decides (decimal k) (decimal c)).0 e))))
      ∙ class_of_decimal default (k + 1) m c (omega (arith, low, ne)) (omega (arith, high)) (omega (arith, small))
]

classes_told : (named : NamedRules) (count r : ℕ) (polygons : List Polygon) → named.names ≡ map decimal (range_with_len 0 count) → count < 2 ^ 32 → All (λ p. p.row.class < count) polygons
    → map (λ q. class_named named q.kind) (told_from r polygons) ≡ map (λ p. p.row.class) polygons
classes_told named count r [] names few h = refl
classes_told named count r (p ∷ polygons) names few h =
    ap₂ (λ (c : ℕ) cs. c ∷ cs)
    (ap (λ ns. class_from named.default 0 ns (decimal p.row.class)) names
    ∙ class_of_decimal named.default 0 count p.row.class (omega arith) (let l = All-head (λ (q : Polygon). q.row.class < count) p polygons h in omega (arith, l)) (omega (arith, few)))
    (classes_told named count (after_rings r p.rings) polygons names few (All-tail (λ (q : Polygon). q.row.class < count) p polygons h))

-- ---- what is read of a drawn slice

module _ (edges : List Edge) (ends : List EdgeEnds) (rows : List FaceRow) (polygons : List Polygon) (drawn : IsDrawn edges ends rows)
    (are : ArePolygons (lines_of edges) (spans_of edges ends) rows polygons) where
  abbrev spans : List Span
  spans = spans_of edges ends

  abbrev lines : List (List Point)
  lines = lines_of edges

  abbrev rings : List (List Side)
  rings = rings_of spans

  orbits : AreOrbits (length spans) (next_side spans) rings
  orbits = rings_are_orbits spans

  as_many : length spans ≡ length edges
  as_many = length-spans edges ends drawn.paired

  many_lines : length lines ≡ length edges
  many_lines = length-map edges (λ (e : Edge). e.points)

  in_lines : (s : Side) → IsSide (length spans) s → IsSide (length lines) s
  in_lines s l = omega (arith, l, as_many, many_lines)

  abbrev no_edge : Edge
  no_edge = record { key = 0; left = 0; right = 0; points = [] }

  at : (s : Side) → IsSide (length spans) s → IsSpanOf lines (span_number spans s.span) (get_or edges s.span no_edge) s.span
  at s l = span_at edges ends s.span no_edge drawn.paired (omega (arith, l, as_many))

  start_told : (s : Side) → IsSide (length spans) s → start_named lines (index_of s) ≡ start_of spans s
  start_told s l = by s.way
    where
      by : (w : Way) → start_named lines (index_by w s.span) ≡ start_by w (span_number spans s.span)
      by Along = sym (at s l).first
      by Against = sym (at s l).last

  end_told : (s : Side) → IsSide (length spans) s → end_named lines (index_of s) ≡ end_of spans s
  end_told s l = by s.way
    where
      by : (w : Way) → end_named lines (index_by w s.span) ≡ end_of spans (record { span = s.span; way = w })
      by Along = sym (at s l).last
      by Against = sym (at s l).first

  -- the sides of a ring
  ring_sides : (r : List Side) → Contains rings r → All (IsSide (length spans)) r
  ring_sides r c = λ k d l. All-contains (IsSide (length spans)) (sides_of rings) (get_or r k d) orbits.within
      (Contains-flat_map (λ (q : List Side). q) rings r (get_or r k d) c (Contains-get_or r k d l))

  -- each arc of a ring ends where the next one starts
  ring_closed : (r : List Side) → Contains rings r → IsClosed lines (map index_of r)
  ring_closed r c k l =
      let s : Side = along 0 in
      let long : length (map index_of r) ≡ length r = length-map r index_of in
      let short : k < length r = omega (arith, l, long) in
      let valid = ring_sides r c in
      let round = All-contains (IsRound (next_side spans)) rings r orbits.round c in
      let told : (j : ℕ) → j < length r → get_or (map index_of r) j (pos 0) ≡ index_of (get_or r j s) = λ j m. get_or-map index_of r j s (pos 0) m in
      ap (end_named lines) (told k short) ∙ end_told (get_or r k s) (valid k s short)
      ∙ sym (next_starts spans (get_or r k s) (valid k s short)) ∙ ap (start_of spans) (sym (round k s short))
      ∙ by (nat_lt (k + 1) (length r)) refl
      ∙ ap (λ (n : ℕ). start_named lines (if nat_lt (k + 1) n then get_or (map index_of r) (k + 1) (pos 0) else get_or (map index_of r) 0 (pos 0))) (sym long)
    where
      by : (b : Bool) → nat_lt (k + 1) (length r) ≡ b → start_of spans (get_or r (place_after (length r) k) (along 0))
          ≡ start_named lines (if nat_lt (k + 1) (length r) then get_or (map index_of r) (k + 1) (pos 0) else get_or (map index_of r) 0 (pos 0))
      by b e =
          ap (λ (x : Bool). start_of spans (get_or r (if x then k + 1 else 0) (along 0))) e ∙ cases b e
          ∙ ap (λ (x : Bool). start_named lines (if x then get_or (map index_of r) (k + 1) (pos 0) else get_or (map index_of r) 0 (pos 0))) (sym e)
        where
          here : (j : ℕ) → j < length r → start_of spans (get_or r j (along 0)) ≡ start_named lines (get_or (map index_of r) j (pos 0))
          here j m = sym (ap (start_named lines) (get_or-map index_of r j (along 0) (pos 0) m) ∙ start_told (get_or r j (along 0)) (ring_sides r c j (along 0) m))

          cases : (b : Bool) → nat_lt (k + 1) (length r) ≡ b → start_of spans (get_or r (if b then k + 1 else 0) (along 0))
              ≡ start_named lines (if b then get_or (map index_of r) (k + 1) (pos 0) else get_or (map index_of r) 0 (pos 0))
          cases true f = here (k + 1) (grind (arith, nat_tests))
          cases false f = here 0 (All-contains (λ q. 0 < length q) rings r orbits.some c)

  -- ---- the rings of the parts

  part_of : (p : Polygon) → Contains polygons p → (row : FaceRow) × Contains rows row × IsPart lines row (of_face spans row.face rings) p
  part_of p c = are.parts p c

  -- a ring of a part is one of the face, and has an area
  ring_in : (p : Polygon) → Contains polygons p → (r : List Side) → Contains p.rings r → Contains rings r × (ring_face spans r ≡ p.row.face) × ((is_outer lines r ≡ true) ⊎ (is_inner lines r ≡ true))
  ring_in p c r d =
      let h = part_of p c in
      let part = h.2 in
      let face : h.0.face ≡ p.row.face = ap (λ (row : FaceRow). row.face) (sym part.row_is) in
      elim (in_cases part.first part.holes r (subst (λ rs. Contains rs r) part.rings d)) [
        | inl e ↦
            let first = in_face lines spans rings h.0 part.first part.round.0 in
            subst (λ q. Contains rings q × (ring_face spans q ≡ p.row.face) × ((is_outer lines q ≡ true) ⊎ (is_inner lines q ≡ true))) e
            (first.0, first.1 ∙ face, inl part.round.1)
        | inr hole ↦
            let inner = All-contains (λ i. Contains (of_face spans h.0.face rings) i × (is_inner lines i ≡ true)) part.holes r part.inside hole in
            let here = in_face lines spans rings h.0 r inner.0 in
            (here.0, here.1 ∙ face, inr inner.1)
      ]

  pub ringed : All (IsRinged lines drawn.lines) polygons
  ringed = All-from_members (IsRinged lines drawn.lines) polygons (λ p c.
      let h = (part_of p c).2 in
      record {
        first = h.first;
        holes = h.holes;
        rings = h.rings;
        outer = h.round.1;
        inner = λ k d l. (h.inside k d l).1;
        some = All-from_members (λ r. 0 < length r) p.rings (λ r d. All-contains (λ q. 0 < length q) rings r orbits.some (ring_in p c r d).0);
        sides = All-from_members (All (IsSide (length lines))) p.rings (λ r d k e l. in_lines (get_or r k e) (ring_sides r (ring_in p c r d).0 k e l));
      })

  has_area : (r : List Side) → ((is_outer lines r ≡ true) ⊎ (is_inner lines r ≡ true)) → ring_area lines (map index_of r) ≢ pos 0
  has_area r h flat = by h
    where
      zero_area : area_of lines r ≡ pos 0
      zero_area = sym (area_told lines drawn.lines r) ∙ flat

      by : (is_outer lines r ≡ true) ⊎ (is_inner lines r ≡ true) → ⊥
      by (inl e) = true≢false (sym e ∙ ap (λ z. int_lt (pos 0) z) zero_area)
      by (inr e) = true≢false (sym e ∙ ap (λ z. int_lt z (pos 0)) zero_area)

  rings_within : All (Contains rings) (rings_in polygons)
  rings_within = All-from_members (Contains rings) (rings_in polygons) (λ r c.
      let p = Contains-from_flat_map (λ (q : Polygon). q.rings) polygons r c in (ring_in p.0 p.1 r p.2).0)

  once : AllPairs (λ s t. s ≢ t) (sides_of (rings_in polygons))
  once = sides_once rings (rings_in polygons) orbits.once rings_within (are.once (rings_differ rings orbits.once orbits.some) drawn.differ)

  -- ---- which part is at a side

  abbrev part : Side → ℕ
  part s = part_from 1 polygons s

  has_row : (s : Side) → IsSide (length spans) s → face_of spans s ≢ 0 → HasRow rows (face_of spans s)
  has_row s l = by s.way
    where
      short : s.span < length edges
      short = omega (arith, l, as_many)

      by : (w : Way) → face_by w (span_number spans s.span) ≢ 0 → HasRow rows (face_by w (span_number spans s.span))
      by Along ne = subst (HasRow rows) (sym (at s l).left) (drawn.left s.span no_edge short (subst (λ f. f ≢ 0) (at s l).left ne))
      by Against ne = subst (HasRow rows) (sym (at s l).right) (drawn.right s.span no_edge short (subst (λ f. f ≢ 0) (at s l).right ne))

  -- a side has the face of its ring
  face_in : (r : List Side) (s : Side) → Contains rings r → Contains r s → face_of spans s ≡ ring_face spans r
  face_in r s c d = All-contains (λ t. face_of spans t ≡ ring_face spans r) r s (All-contains (HasOneFace spans) rings r drawn.one_face c) d

  -- the part at a side is one of the face there
  face_of_part : (s : Side) → IsSide (length spans) s → part_face polygons (part s) ≡ face_of spans s
  face_of_part s l = elim (cases_eq (part s) 0) [
    | inr some ↦
        let h = part_at 1 polygons s some in
        let none : Polygon = record { row = record { face = 0; class = 0 }; rings = [] } in
        let p = get_or polygons h.place none in
        let r = Contains-from_flat_map (λ (q : List Side). q) p.rings s (h.has none) in
        let ring = ring_in p (Contains-get_or polygons h.place none h.within) r.0 r.1 in
        ap (part_face polygons) h.number ∙ face_of_place polygons h.place none h.within ∙ sym (face_in r.0 s ring.0 r.2 ∙ ring.1)
    | inl none ↦ ap (part_face polygons) none ∙ elim (cases_eq (face_of spans s) 0) [
      | inl outside ↦ sym outside
      | inr some ↦
          let r = Contains-from_flat_map (λ (q : List Side). q) rings s (orbits.each s l) in
          let row = has_row s l some in
          let p = are.each row.0 row.1 r.0 r.1 (sym (face_in r.0 s r.1 r.2) ∙ sym row.2) in
          absurd (part_found 1 polygons s p.0 (omega arith) p.1 (Contains-flat_map (λ (q : List Side). q) p.0.rings r.0 s p.2 r.2) none)
    ]
  ]

  -- ---- the base map

  abbrev pub read_arc : ℕ → BaseArc
  read_arc i = record { left = part (along i); right = part (against i); points = get_or lines i [] }

  abbrev pub read_arcs : List BaseArc
  read_arcs = map read_arc (range_with_len 0 (length edges))

  module _ (t : Transform) where
    abbrev raw : RawMap
    raw = told t lines polygons

    takings : sides_taken raw ≡ takes_from 1 polygons
    takings = sides_read lines drawn.lines t polygons ringed

    known : (a : ℕ) (left : Bool) (f : ℕ) → TakesSide raw a left f → (f ≡ part (side_in (record { arc = a; left = left; face = f }))) × (1 ≤ f) × (a < length edges)
    known a left f h =
        let t : Taking = record { arc = a; left = left; face = f } in
        let c = subst (λ ts. Contains ts t) takings (side_is_taken raw a left f h) in
        let part = taken_by_part 1 polygons once t c in
        let side = subst (λ ss. Contains ss (side_in t)) (sides_taken_are 1 polygons) (Contains-map side_in (takes_from 1 polygons) t c) in
        let r = Contains-from_flat_map (λ (q : List Side). q) (rings_in polygons) (side_in t) side in
        let ring = All-contains (Contains rings) (rings_in polygons) r.0 rings_within r.1 in
        let within = All-contains (IsSide (length spans)) r.0 (side_in t) (ring_sides r.0 ring) r.2 in
        (part.0, part.1, omega (arith, within, as_many))

    takes : (s : Side) (left : Bool) → part s ≢ 0 → taking_of (part s) s ≡ record { arc = s.span; left = left; face = part s } → TakesSide raw s.span left (part s)
    takes s left some same =
        taken_is_side raw s.span left (part s)
        (subst (λ ts. Contains ts (record { arc = s.span; left = left; face = part s })) (sym takings)
        (subst (Contains (takes_from 1 polygons)) same (part_takes 1 polygons s some)))

    left_face : (a : ℕ) → IsFaceAt raw a true (part (along a))
    left_face a = record {
      taken = λ some. takes (along a) true some refl;
      free = λ none g h. let k = known a true g h in let first = k.0 in let low = k.1 in absurd (omega (arith, first, low, none));
      alone = λ g h. (known a true g h).0;
    }

    right_face : (a : ℕ) → IsFaceAt raw a false (part (against a))
    right_face a = record {
      taken = λ some. takes (against a) false some refl;
      free = λ none g h. let k = known a false g h in let first = k.0 in let low = k.1 in absurd (omega (arith, first, low, none));
      alone = λ g h. (known a false g h).0;
    }

    valid : (a : ℕ) → a < length edges → (IsSide (length spans) (along a)) × (IsSide (length spans) (against a))
    valid a l = (omega (arith, l, as_many), omega (arith, l, as_many))

    pub left_is : (a : ℕ) → a < length edges → part_face polygons (part (along a)) ≡ (get_or edges a no_edge).left
    left_is a l = face_of_part (along a) (valid a l).0 ∙ (at (along a) (valid a l).0).left

    pub right_is : (a : ℕ) → a < length edges → part_face polygons (part (against a)) ≡ (get_or edges a no_edge).right
    right_is a l = face_of_part (against a) (valid a l).1 ∙ (at (against a) (valid a l).1).right

    -- the parts at the sides of an edge differ
    parts_differ : (a : ℕ) → a < length edges → part (along a) ≢ part (against a)
    parts_differ a l same = drawn.two_faces a no_edge l (sym (left_is a l) ∙ ap (part_face polygons) same ∙ right_is a l)

    kept : AreArcsTaken raw (range_with_len 0 (length edges))
    kept = record {
      ascending = λ i j d less short.
          let long = length-range_with_len 0 (length edges) in
          let first = range_at (length edges) i d (omega (arith, less, short, long)) in
          let second = range_at (length edges) j d (omega (arith, short, long)) in
          omega (arith, first, second, less);
      taken = λ a c.
          let long = length-range_with_len 0 (length edges) in
          let l : a < length edges = in_range a c in
          elim (cases_eq (part (along a)) 0) [
            | inr some ↦ (true, part (along a), takes (along a) true some refl)
            | inl none ↦ (false, part (against a), takes (against a) false (λ z. parts_differ a l (none ∙ sym z)) refl)
          ];
      all = λ a left f h.
          let l = (known a left f h).2 in
          let long = length-range_with_len 0 (length edges) in
          (a, omega (arith, l, long), range_at (length edges) a a l);
    }
      where
        in_range : (a : ℕ) → Contains (range_with_len 0 (length edges)) a → a < length edges
        in_range a (k, l, e) =
            let long = length-range_with_len 0 (length edges) in
            let place = range_at (length edges) k a (omega (arith, l, long)) in
            omega (arith, l, long, e, place)

    sided : All (λ a. IsSidedArc raw a (read_arc a)) (range_with_len 0 (length edges))
    sided = λ k d l.
        let long = length-range_with_len 0 (length edges) in
        let short : k < length edges = omega (arith, l, long) in
        let place : get_or (range_with_len 0 (length edges)) k d ≡ k = range_at (length edges) k d short in
        subst (λ a. IsSidedArc raw a (read_arc a)) (sym place)
        (record { points = refl; left = left_face k; right = right_face k; apart = parts_differ k short })

    -- the rings are whole
    rings_whole : All (λ ring. IsWhole lines ring.indexes) (face_rings raw)
    rings_whole = all_rings_read lines drawn.lines (IsWhole lines) t polygons ringed
        (All-from_members (λ p. All (λ q. IsWhole lines (map index_of q)) p.rings) polygons (λ p c.
        All-from_members (λ q. IsWhole lines (map index_of q)) p.rings (λ r d.
        let h = ring_in p c r d in
        record { closed = ring_closed r h.0; wide = has_area r h.2 })))

    module _ (named : NamedRules) (count : ℕ) (names : named.names ≡ map decimal (range_with_len 0 count)) (few : count < 2 ^ 32) (classes : All (λ r. r.class < count) rows) where
      abbrev pub read_base : BaseMap
      read_base = record { transform = t; rules = named.rules; classes = map (λ p. p.row.class) polygons; arcs = read_arcs }

      small_classes : All (λ p. p.row.class < count) polygons
      small_classes = All-from_members (λ p. p.row.class < count) polygons (λ p c.
          let h = part_of p c in
          subst (λ (row : FaceRow). row.class < count) (sym h.2.row_is) (All-contains (λ r. r.class < count) rows h.0 classes h.1))

      pub has_sides : HasRingSides raw named read_base
      has_sides = record {
        transform = refl;
        rules = refl;
        classes = sym (ap (map (λ q. class_named named q.kind)) (faces_read lines drawn.lines t polygons ringed) ∙ classes_told named count 0 polygons names few small_classes);
        rings = each_whole raw rings_whole;
        once = subst (λ ts. AreTakenOnce ts) (sym takings) (taken_once 1 polygons once);
        numbers = range_with_len 0 (length edges);
        kept = kept;
        arcs = all_zip_map (IsSidedArc raw) read_arc (range_with_len 0 (length edges)) sided;
      }

      -- so it is what is read
      pub is_read : IsTrue (is_raw_map raw) → based raw named ≡ Ok read_base
      is_read formed = by (based raw named) refl
        where
          by : (r : Result BaseMap MapFault) → based raw named ≡ r → r ≡ Ok read_base
          by (Ok b) e = ap Ok (one_base raw named b read_base (based_has_sides raw named b formed e) has_sides)
          by (Err f) e = absurd (fault_has_none raw named read_base has_sides f (based_fault_is_first raw named f formed e))

      -- its arcs are the edges
      pub arcs_read : AllZip (IsArcOf polygons) edges read_arcs
      arcs_read = all_zip_at (IsArcOf polygons) edges read_arcs no_edge (read_arc 0)
          (sym (length-map (range_with_len 0 (length edges)) read_arc ∙ length-range_with_len 0 (length edges)))
          (λ k l.
          let long = length-range_with_len 0 (length edges) in
          subst (IsArcOf polygons (get_or edges k no_edge))
          (sym (get_or-map read_arc (range_with_len 0 (length edges)) k 0 (read_arc 0) (omega (arith, l, long)) ∙ ap read_arc (range_at (length edges) k 0 l)))
          (record { points = get_or-map (λ (e : Edge). e.points) edges k no_edge [] l; left = left_is k l; right = right_is k l }))

  -- ---- the form of what is told

  few_rings : (r : ℕ) (ps : List Polygon) → count_by has_ring (told_from r ps) ≤ length ps
  few_rings r ps = let le = count_by-le-length has_ring (told_from r ps) in let long = length-told r ps in omega (arith, le, long)
    where
      length-told : (r : ℕ) (ps : List Polygon) → length (told_from r ps) ≡ length ps
      length-told r [] = refl
      length-told r (p ∷ ps) = ap suc (length-told (after_rings r p.rings) ps)

  -- each ring names arcs, and no more than 32 bits number
  raw_ring : (r : List Side) → All (IsSide (length lines)) r → length r < 2 ^ 32 - 1 → is_raw_ring (length lines) (map index_of r) ≡ true
  raw_ring r h short =
      and_from _ _
      (list_all-from_AllPass (names_arc (length lines)) (map index_of r) (All-map (λ i. names_arc (length lines) i ≡ true) index_of r (λ k d l. named_arc (length lines) (get_or r k d) (h k d l))))
      (lt-ltb (length (map index_of r)) (2 ^ 32 - 1) (omega (arith, short, length-map r index_of)))

  raw_rings : (rings : List (List Side)) → All (λ r. is_raw_ring (length lines) (map index_of r) ≡ true) rings → list_all (is_raw_ring (length lines)) (indexes_of rings) ≡ true
  raw_rings rings h = list_all-from_AllPass (is_raw_ring (length lines)) (indexes_of rings) (All-map (λ i. is_raw_ring (length lines) i ≡ true) (map index_of) rings h)

  told_rings : (r : ℕ) (ps : List Polygon) → All (λ p. All (λ q. is_raw_ring (length lines) (map index_of q) ≡ true) p.rings) ps → list_all (λ p. list_all (is_raw_ring (length lines)) p.rings) (told_from r ps) ≡ true
  told_rings r [] h = refl
  told_rings r (p ∷ ps) h =
      and_from _ _ (raw_rings p.rings (All-head (λ (p : Polygon). All (λ q. is_raw_ring (length lines) (map index_of q) ≡ true) p.rings) p ps h))
      (told_rings (after_rings r p.rings) ps (All-tail (λ (p : Polygon). All (λ q. is_raw_ring (length lines) (map index_of q) ≡ true) p.rings) p ps h))

  rings_short : length lines ≤ MAX_ARCS → All (λ p. All (λ q. is_raw_ring (length lines) (map index_of q) ≡ true) p.rings) polygons
  rings_short few = All-from_members (λ p. All (λ q. is_raw_ring (length lines) (map index_of q) ≡ true) p.rings) polygons (λ p c.
      All-from_members (λ q. is_raw_ring (length lines) (map index_of q) ≡ true) p.rings (λ r d.
      let h = ring_in p c r d in
      let short = All-contains (λ q. length q ≤ 2 * length spans) rings r orbits.short h.0 in
      raw_ring r (λ k e l. in_lines (get_or r k e) (ring_sides r h.0 k e l)) (omega (arith, short, few, as_many, many_lines))))

  pub is_raw : (t : Transform) → length lines ≤ MAX_ARCS → sum_by length lines ≤ MAX_POINTS → length polygons ≤ MAX_FACES → All (λ ps. list_all in_limits ps ≡ true) lines → is_raw_map (told t lines polygons) ≡ true
  unfolding is_raw_map
  is_raw t arcs points parts near =
      and_from _ _ (and_from _ _ (and_from _ _ (and_from _ _ (le-leb (length lines) MAX_ARCS arcs) (le-leb (sum_by length lines) MAX_POINTS points)) formed)
      (le-leb (count_by has_ring (told_from 0 polygons)) MAX_FACES (omega (arith, few_rings 0 polygons, parts)))) (told_rings 0 polygons (rings_short arcs))
    where
      formed : list_all is_raw_arc lines ≡ true
      formed = list_all-from_AllPass is_raw_arc lines (λ k d l.
          let row = drawn.lines k d l in
          let long = row.0 in
          and_from _ _ (and_from _ _ (le-leb 1 (length (get_or lines k d)) (omega (arith, long))) (near k d l)) row.1)
