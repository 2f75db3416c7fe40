-- What the polygons of a face give together is what its rings give: each ring of the face is in one of them, once.
use Rattle.std.proofs.Common.{◌≡◌, ◌≢◌, ◌≤◌, inl, inr, ℕ, ◌+◌, ◌==◌, Bool, true, false, cond, ℤ, pos, ◌+ℤ◌, List, [], ◌∷◌, filter, flat_map, fold, count_by, length, AllPairs, Contains, Ok, refl, sym, ap, ap₂, ◌∙◌, subst, eqb-true, arith}
use Rattle.std.proofs.lemmas.Int.{ints}
use Rattle.std.proofs.lemmas.List.Elements.{All-contains}
use Rattle.std.proofs.lemmas.List.Kept.{AllPairs-filter}
use Rattle.lemmas.specs.Parity.{is_odd, either_alone}
use Rattle.lemmas.proofs.Counts.{count_by-cons, is_odd-add, is_odd-count_by-append}
use Rattle.lemmas.proofs.Members.{All-from_members, in_cases, Contains-filter, Contains-from_filter, Contains-flat_map, Contains-from_flat_map}
use Rattle.tgap_model.specs.declared.geometry.Fraction.{Fraction}
use Rattle.tgap_model.specs.declared.geometry.Point.{Point}
use Rattle.tgap_model.specs.declared.geometry.Seg.{Seg}
use Rattle.tgap_model.specs.declared.slice.Edge.{Edge}
use Rattle.tgap_model.specs.declared.slice.FaceRow.{FaceRow}
use Rattle.tgap_model.specs.Base.{BaseMap, is_base}
use Rattle.tgap_model.specs.Partition.{IsPartition, base_segments}
use Rattle.tgap_model.specs.History.{history_of}
use Rattle.tgap_model.specs.Slice.{slice}
use Rattle.map_laws.proofs.ChainMembers.{Among}
use Rattle.removal_laws.proofs.ChainEnds.{contained}
use Rattle.removal_laws.specs.InsideLaws.{is_over}
use Rattle.ring_walk.specs.declared.span.Span.{Span}
use Rattle.ring_walk.specs.declared.side.Side.{Side}
use Rattle.ring_walk.specs.Rings.{rings_of, ring_face}
use Rattle.ring_walk.specs.Areas.{ring_segments}
use Rattle.ring_walk.proofs.RingOrbits.{rings_are_orbits}
use Rattle.slice_read.specs.Ends.{slice_ends}
use Rattle.topo_write.specs.Polygons.{Polygon, lines_of, of_face, is_inner, polygons_of}
use Rattle.topo_laws.specs.RingFaces.{slice_spans}
use Rattle.topo_laws.proofs.PartRings.{ArePolygons, are_polygons, rings_in}
use Rattle.topo_laws.proofs.PartFaces.{rings_differ}
use Rattle.topo_laws.proofs.SliceDrawn.{slice_drawn}
use Rattle.picture_laws.specs.FaceRings.{face_segments, winding, winding_part}
use Rattle.picture_laws.specs.FacePolygons.{polygon_segments, parts_of, is_in_polygon, PolygonsCoverFaces, PolygonsWindOnce, OnePolygonIsItsFace}
use Rattle.picture_laws.proofs.Sums.{int_sum, fold_is_sum, int_sum-agree, int_sum-same, int_sum-zero, int_sum-flat_map}
use Rattle.picture_laws.proofs.SameMembers.{among, differ, same_sum, int_sum-filter}
use Rattle.picture_laws.proofs.RingWinds.{one_if, count_is_sum, rings_cover_faces, rings_wind_once}

abbrev Ring : Type 0
Ring = List Side

-- ---- the rings of a face's polygons are the rings of the face

module _ (lines : List (List Point)) (spans : List Span) (rows : List FaceRow) (polygons : List Polygon) (are : ArePolygons lines spans rows polygons)
    (apart : AllPairs (λ q r. q.face ≢ r.face) rows) (row : FaceRow) (has_row : Contains rows row) where
  abbrev rings : List Ring
  rings = rings_of spans

  abbrev has_face : Ring → Bool
  has_face r = ring_face spans r == row.face

  -- the rings of a polygon have its face
  own_face : (p : Polygon) → Contains polygons p → (r : Ring) → Contains p.rings r → Contains rings r × (ring_face spans r ≡ p.row.face)
  own_face p c r d =
      let part = are.parts p c in
      let own = of_face spans part.0.face rings in
      let h = part.2 in
      let in_own : Contains own r = elim (in_cases h.first h.holes r (subst (λ (rs : List Ring). Contains rs r) h.rings d)) [
        | inl e ↦ subst (Contains own) e h.round.0
        | inr hole ↦ (All-contains (λ i. Contains own i × (is_inner lines i ≡ true)) h.holes r h.inside hole).0
      ] in
      let kept = Contains-from_filter (λ r. ring_face spans r == part.0.face) rings r in_own in
      (kept.0, eqb-true (ring_face spans r) part.0.face kept.1 ∙ ap (λ (w : FaceRow). w.face) (sym h.row_is))

  -- each ring of the face is in one of them, once
  there : (r : Ring) → Among r (filter has_face (rings_in polygons)) → Among r (of_face spans row.face rings)
  there r n =
      let h = Contains-from_filter has_face (rings_in polygons) r (contained (filter has_face (rings_in polygons)) r n) in
      let p = Contains-from_flat_map (λ (p : Polygon). p.rings) polygons r h.0 in
      among (of_face spans row.face rings) r (Contains-filter has_face rings r (own_face p.0 p.1 r p.2).0 h.1)

  back : (r : Ring) → Among r (of_face spans row.face rings) → Among r (filter has_face (rings_in polygons))
  back r n =
      let h = Contains-from_filter has_face rings r (contained (of_face spans row.face rings) r n) in
      let p = are.each row has_row r h.0 (eqb-true (ring_face spans r) row.face h.1) in
      among (filter has_face (rings_in polygons)) r (Contains-filter has_face (rings_in polygons) r (Contains-flat_map (λ (p : Polygon). p.rings) polygons p.0 r p.1 p.2) h.1)

  rings_once : AllPairs (λ q r. q ≢ r) rings
  rings_once = let orbits = rings_are_orbits spans in rings_differ rings orbits.once orbits.some

  module _ (value : Ring → ℤ) where
    abbrev face_value : Ring → ℤ
    face_value r = cond (has_face r) (value r) (pos 0)

    one_polygon : (p : Polygon) → Contains polygons p → cond (p.row.face == row.face) (int_sum value p.rings) (pos 0) ≡ int_sum face_value p.rings
    one_polygon p c =
        pulled (p.row.face == row.face)
        ∙ int_sum-agree (λ r. cond (p.row.face == row.face) (value r) (pos 0)) face_value p.rings
        (All-from_members (λ r. cond (p.row.face == row.face) (value r) (pos 0) ≡ face_value r) p.rings
        (λ r d. ap (λ (n : ℕ). cond (n == row.face) (value r) (pos 0)) (sym (own_face p c r d).1)))
      where
        pulled : (b : Bool) → cond b (int_sum value p.rings) (pos 0) ≡ int_sum (λ r. cond b (value r) (pos 0)) p.rings
        pulled true = refl
        pulled false = sym (int_sum-zero (λ r. pos 0) (λ r. refl) p.rings)

    pub parts_sum : int_sum (λ p. int_sum value p.rings) (parts_of row.face polygons) ≡ int_sum value (of_face spans row.face rings)
    parts_sum =
        int_sum-filter (λ p. int_sum value p.rings) (λ p. p.row.face == row.face) polygons
        ∙ int_sum-agree (λ p. cond (p.row.face == row.face) (int_sum value p.rings) (pos 0)) (λ p. int_sum face_value p.rings) polygons
        (All-from_members (λ p. cond (p.row.face == row.face) (int_sum value p.rings) (pos 0) ≡ int_sum face_value p.rings) polygons one_polygon)
        ∙ sym (int_sum-flat_map face_value (λ p. p.rings) polygons)
        ∙ sym (int_sum-filter value has_face (rings_in polygons))
        ∙ same_sum value (filter has_face (rings_in polygons)) (of_face spans row.face rings)
        (differ (filter has_face (rings_in polygons)) (AllPairs-filter (λ q r. q ≢ r) has_face (rings_in polygons) (are.once rings_once apart)))
        (differ (of_face spans row.face rings) (AllPairs-filter (λ q r. q ≢ r) has_face rings rings_once)) there back

-- ---- the polygons of a face of a slice

-- what their segments give is what those of the face's rings give
pub polygons_sum : (m : BaseMap) → is_base m ≡ true → IsPartition (base_segments m) → (k : ℕ) → k ≤ length (history_of m)
    → (polygons : List Polygon) → polygons_of (slice m k).edges (slice_ends m k) (slice m k).faces ≡ Ok polygons
    → (row : FaceRow) → Contains (slice m k).faces row → (g : Seg → ℤ)
    → int_sum (λ p. int_sum g (polygon_segments (slice m k).edges p)) (parts_of row.face polygons) ≡ int_sum g (face_segments m k row.face)
polygons_sum m base planar k l polygons made row has_row g =
    let edges = (slice m k).edges in
    let lines = lines_of edges in
    let spans = slice_spans m k in
    let drawn = slice_drawn m base planar k l in
    int_sum-same (λ p. int_sum g (polygon_segments edges p)) (λ p. int_sum (λ r. int_sum g (ring_segments lines r)) p.rings)
    (λ p. int_sum-flat_map g (ring_segments lines) p.rings) (parts_of row.face polygons)
    ∙ parts_sum lines spans (slice m k).faces polygons (are_polygons edges (slice_ends m k) (slice m k).faces polygons made) drawn.differ row has_row (λ r. int_sum g (ring_segments lines r))
    ∙ sym (int_sum-flat_map g (ring_segments lines) (of_face spans row.face (rings_of spans)))

-- ---- the laws

-- the parity of a count over polygons
odd_parts : (q : Fraction) (edges : List Edge) (ps : List Polygon)
    → is_odd (count_by (is_over q) (flat_map (polygon_segments edges) ps)) ≡ is_odd (count_by (is_in_polygon edges q) ps)
odd_parts q edges [] = refl
odd_parts q edges (p ∷ ps) =
    is_odd-count_by-append (is_over q) (polygon_segments edges p) (flat_map (polygon_segments edges) ps)
    ∙ ap₂ either_alone (sym (one (is_in_polygon edges q p))) (odd_parts q edges ps)
    ∙ sym (is_odd-add (cond (is_in_polygon edges q p) 1 0) (count_by (is_in_polygon edges q) ps))
    ∙ ap is_odd (sym (count_by-cons (is_in_polygon edges q) p ps))
  where
    one : (b : Bool) → is_odd (cond b 1 0) ≡ b
    one true = refl
    one false = refl

pub polygons_cover_faces : PolygonsCoverFaces
polygons_cover_faces m base planar k l polygons made row has_row q =
    let edges = (slice m k).edges in
    rings_cover_faces m base planar k l row.face q
    ∙ ap is_odd (same_count _ _ (
    sym (count_is_sum (is_over q) (face_segments m k row.face))
    ∙ sym (polygons_sum m base planar k l polygons made row has_row (λ s. one_if (is_over q s)))
    ∙ sym (int_sum-flat_map (λ s. one_if (is_over q s)) (polygon_segments edges) (parts_of row.face polygons))
    ∙ count_is_sum (is_over q) (flat_map (polygon_segments edges) (parts_of row.face polygons))))
    ∙ odd_parts q edges (parts_of row.face polygons)
  where
    same_count : (a b : ℕ) → pos a ≡ pos b → a ≡ b
    same_count a b e = omega (arith, ints, e)

pub polygons_wind_once : PolygonsWindOnce
polygons_wind_once m base planar k l polygons made row has_row other q between =
    let edges = (slice m k).edges in
    fold_is_sum (λ p. winding q (polygon_segments edges p)) (parts_of row.face polygons)
    ∙ int_sum-same (λ p. winding q (polygon_segments edges p)) (λ p. int_sum (winding_part q) (polygon_segments edges p))
    (λ p. fold_is_sum (winding_part q) (polygon_segments edges p)) (parts_of row.face polygons)
    ∙ polygons_sum m base planar k l polygons made row has_row (winding_part q)
    ∙ sym (fold_is_sum (winding_part q) (face_segments m k row.face))
    ∙ rings_wind_once m base planar k l row.face other q between

pub one_polygon_is_its_face : OnePolygonIsItsFace
one_polygon_is_its_face m base planar k l polygons made row has_row p alone q = (
  sym (polygons_cover_faces m base planar k l polygons made row has_row q ∙ ap (λ (ps : List Polygon). is_odd (count_by in_it ps)) alone
      ∙ ap is_odd (count_by-cons in_it p []) ∙ one (in_it p)),
  λ other between.
      sym (zero (winding q (polygon_segments (slice m k).edges p)))
      ∙ ap (λ (ps : List Polygon). fold (λ sum p. sum +ℤ winding q (polygon_segments (slice m k).edges p)) (pos 0) ps) (sym alone)
      ∙ polygons_wind_once m base planar k l polygons made row has_row other q between,
)
  where
    in_it : Polygon → Bool
    in_it = is_in_polygon (slice m k).edges q

    one : (b : Bool) → is_odd (cond b 1 0 + 0) ≡ b
    one true = refl
    one false = refl

    zero : (z : ℤ) → pos 0 +ℤ z ≡ z
    zero z = omega (arith, ints)
