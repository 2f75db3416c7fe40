-- Of two rings of one face, one winds equally often round all points of each edge of the other.
use Rattle.std.proofs.Common.{◌≡◌, ◌≢◌, inl, inr, ℕ, ◌<◌, List, [], ◌∷◌, ◌++◌, length, get_or, All, Contains, refl, sym, ap, ◌∙◌, subst, arith}
use Rattle.std.proofs.lemmas.List.{get_or_default}
use Rattle.std.proofs.lemmas.List.Elements.{All-contains}
use Rattle.lemmas.proofs.Members.{All-from_members, Contains-flat_map}
use Rattle.tgap_model.specs.declared.geometry.Seg.{Seg}
use Rattle.tgap_model.specs.declared.slice.Edge.{Edge}
use Rattle.tgap_model.specs.Removals.{path}
use Rattle.tgap_model.specs.Slice.{slice}
use Rattle.map_laws.proofs.ChainMembers.{Among, among_left, among_right}
use Rattle.removal_laws.proofs.ChainEnds.{contained}
use Rattle.slice_read.specs.Ends.{slice_ends}
use Rattle.ring_walk.specs.declared.span.Span.{Span}
use Rattle.ring_walk.specs.declared.side.Side.{Side}
use Rattle.ring_walk.specs.declared.side.Way.{Way}
use Rattle.ring_walk.specs.declared.side.Way.TheVariants.{Along, Against}
use Rattle.ring_walk.specs.Orbits.{sides_of}
use Rattle.ring_walk.specs.Rings.{rings_of, ring_face}
use Rattle.ring_walk.specs.Sides.{face_of, span_number}
use Rattle.ring_walk.specs.Spans.{IsSide}
use Rattle.ring_walk.proofs.RingOrbits.{rings_are_orbits}
use Rattle.topo_laws.specs.RingFaces.{slice_spans, HasOneFace}
use Rattle.topo_laws.proofs.SliceSpans.{rings_have_one_face}
use Rattle.step_laws.proofs.EachSlice.{slices_stay_planar}
use Rattle.picture_laws.specs.FaceRings.{RingsOfFacePass}
use Rattle.picture_laws.proofs.SameMembers.{Differ, among, differ as different}
use Rattle.picture_laws.proofs.RingSums.{segments_are, length-spans, span_faces}
use Rattle.picture_laws.proofs.RingWinds.{paired}
use Rattle.picture_laws.proofs.PassedEdges.{side_segment, rings_pass_edges}

-- ---- a side is in one ring

across : (xs ys : List Side) (b : Side) → Differ (xs ++ ys) → Among b xs → Among b ys → ⊥
across [] ys b d m n = absurd m
across (x ∷ xs) ys b d (inl e) n = d.0 b (among_right xs ys b n) e
across (x ∷ xs) ys b d (inr m) n = across xs ys b d.1 m n

others : (xs ys : List Side) → Differ (xs ++ ys) → Differ ys
others [] ys d = d
others (x ∷ xs) ys d = others xs ys d.1

in_sides : (rings : List (List Side)) (r : List Side) (b : Side) → Among r rings → Among b r → Among b (sides_of rings)
in_sides (x ∷ rings) r b (inl e) n = among_left x (sides_of rings) b (subst (Among b) (sym e) n)
in_sides (x ∷ rings) r b (inr m) n = among_right x (sides_of rings) b (in_sides rings r b m n)
in_sides [] r b m n = absurd m

one_ring : (rings : List (List Side)) → Differ (sides_of rings) → (q r : List Side) → Among q rings → Among r rings → (b : Side) → Among b q → Among b r → q ≡ r
one_ring [] d q r m n b c e = absurd m
one_ring (x ∷ rings) d q r (inl f) (inl g) b c e = sym f ∙ g
one_ring (x ∷ rings) d q r (inl f) (inr n) b c e = absurd (across x (sides_of rings) b d (subst (Among b) (sym f) c) (in_sides rings r b n e))
one_ring (x ∷ rings) d q r (inr m) (inl g) b c e = absurd (across x (sides_of rings) b d (subst (Among b) (sym g) e) (in_sides rings q b m c))
one_ring (x ∷ rings) d q r (inr m) (inr n) b c e = one_ring rings (others x (sides_of rings) d) q r m n b c e

-- ---- the law

pub rings_of_face_pass : RingsOfFacePass
rings_of_face_pass m base planar k within q r in_q in_r differ same a in_a s t in_s in_t p z h g on_p on_z =
    let edges = (slice m k).edges in
    let e = get_or edges a.span no_edge in
    let x = side_segment edges a.span a.way no_edge valid s in_s in
    let y = side_segment edges a.span a.way no_edge valid t in_t in
    rings_pass_edges m base planar k within q in_q a.span e valid own none x.0 y.0
    (subst (λ (ss : List Seg). Contains ss x.0) (sym (segments_are e.points)) (contained (path e.points) x.0 x.1))
    (subst (λ (ss : List Seg). Contains ss y.0) (sym (segments_are e.points)) (contained (path e.points) y.0 y.1))
    p z h g (x.2 p on_p) (y.2 z on_z)
  where
    no_edge : Edge
    no_edge = record { key = 0; left = 0; right = 0; points = [] }

    spans : List Span
    spans = slice_spans m k

    side_valid : (ring : List Side) → Contains (rings_of (slice_spans m k)) ring → (b : Side) → Contains ring b → IsSide (length (slice_spans m k)) b
    side_valid ring has b c = All-contains (IsSide (length (slice_spans m k))) (sides_of (rings_of (slice_spans m k))) b (rings_are_orbits (slice_spans m k)).within
        (Contains-flat_map (λ (r : List Side). r) (rings_of (slice_spans m k)) ring b has c)

    long : length (slice_spans m k) ≡ length (slice m k).edges
    long = length-spans (slice m k).edges (slice_ends m k) (paired m k)

    valid : a.span < length (slice m k).edges
    valid = let v = side_valid r in_r a in_a in omega (arith, v, long)

    own : get_or (slice m k).edges a.span (get_or (slice m k).edges a.span no_edge) ≡ get_or (slice m k).edges a.span no_edge
    own = get_or_default (slice m k).edges a.span (get_or (slice m k).edges a.span no_edge) no_edge valid

    one_face : (ring : List Side) → Contains (rings_of (slice_spans m k)) ring → (b : Side) → Contains ring b → face_of (slice_spans m k) b ≡ ring_face (slice_spans m k) ring
    one_face ring has b c = All-contains (λ s. face_of (slice_spans m k) s ≡ ring_face (slice_spans m k) ring) ring b
        (All-contains (HasOneFace (slice_spans m k)) (rings_of (slice_spans m k)) ring (rings_have_one_face m base planar k within) has) c

    -- a side of the first ring on the same edge is that side itself, or has another face
    none : All (λ s. s.span ≢ a.span) q
    none = All-from_members (λ s. s.span ≢ a.span) q (λ b c e.
        two_sides b.way a.way (subst (λ (j : ℕ). face_of (slice_spans m k) (record { span = j; way = b.way }) ≡ face_of (slice_spans m k) a) e (one_face q in_q b c ∙ same ∙ sym (one_face r in_r a in_a)))
        (λ w. apart b c (subst (λ (j : ℕ). record { span = j; way = b.way } ≡ a) (sym e) (ap (λ (v : Way). record { span = a.span; way = v }) w))))
      where
        faces : ((span_number (slice_spans m k) a.span).left ≡ (get_or (slice m k).edges a.span no_edge).left) × ((span_number (slice_spans m k) a.span).right ≡ (get_or (slice m k).edges a.span no_edge).right)
        faces = span_faces (slice m k).edges (slice_ends m k) a.span no_edge (paired m k) valid

        differing : (span_number (slice_spans m k) a.span).left ≡ (span_number (slice_spans m k) a.span).right → ⊥
        differing f = (slices_stay_planar m base planar k within).two_faces a.span no_edge valid (sym faces.0 ∙ f ∙ faces.1)

        two_sides : (v w : Way) → face_of (slice_spans m k) (record { span = a.span; way = v }) ≡ face_of (slice_spans m k) (record { span = a.span; way = w }) → (v ≡ w → ⊥) → ⊥
        two_sides Along Along f g = g refl
        two_sides Against Against f g = g refl
        two_sides Along Against f g = differing f
        two_sides Against Along f g = differing (sym f)

        apart : (b : Side) → Contains q b → b ≡ a → ⊥
        apart b c e = differ (one_ring (rings_of (slice_spans m k)) (different (sides_of (rings_of (slice_spans m k))) (rings_are_orbits (slice_spans m k)).once) q r
            (among (rings_of (slice_spans m k)) q in_q) (among (rings_of (slice_spans m k)) r in_r) a
            (among q a (subst (Contains q) e c)) (among r a in_a))
