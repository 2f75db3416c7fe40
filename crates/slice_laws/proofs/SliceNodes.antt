-- Round each node of a slice the faces agree: where an edge ends at a node, all border arcs there are ends of edges, and these are the
-- spokes of the base map with their labels, less those with one label.
use Rattle.std.proofs.Common.{◌≡◌, ◌≢◌, inl, inr, ℕ, suc, ◌<◌, Bool, true, false, not, cond, ◌&&◌, ◌==◌, List, [], ◌∷◌, map, filter, length, All, Contains, None, refl, sym, ap, ap₂, ◌∙◌, subst, eq-eqb, ne_eqb, arith}
use Rattle.std.specs.List.{list_all}
use Rattle.std.proofs.lemmas.Bool.{and_from, eqb-true, eqb-false, not-true, cases_eq}
use Rattle.std.proofs.lemmas.List.Elements.{All-filter, All-map}
use Rattle.std.proofs.lemmas.List.Sums.{AllPass-from_list_all, list_all-from_AllPass}
use Rattle.lemmas.proofs.Sorting.{filter-is_sorted, map-is_sorted, sorted_same}
use Rattle.lemmas.proofs.Members.{in_head, Contains-filter, Contains-from_filter, Contains-map, Contains-from_map}
use Rattle.tgap_model.specs.declared.geometry.Point.{Point}
use Rattle.tgap_model.specs.declared.geometry.Seg.{Seg}
use Rattle.tgap_model.specs.declared.segment.LabelledSegment.{LabelledSegment}
use Rattle.tgap_model.specs.Base.{BaseMap, is_base, in_limits, same_point}
use Rattle.tgap_model.specs.Partition.{Spoke, base_segments, spokes_at, node_fault, is_proper, IsPartition}
use Rattle.tgap_model.specs.Merged.{merged, label_at}
use Rattle.tgap_model.specs.Chains.{Chain, arc_number, first_point, last_point, link_start, link_end, are_chains}
use Rattle.tgap_model.proofs.Points.{same_point-true}
use Rattle.tgap_model.proofs.Proper.{proper_parts}
use Rattle.tgap_model.proofs.Segments.{proper_segments}
use Rattle.base_check.proofs.Spokes.{first_spoke, last_spoke}
use Rattle.base_check.proofs.Faults.{fault_of}
use Rattle.map_laws.proofs.ChainMembers.{Among}
use Rattle.slice_laws.proofs.Paths.{flip}
use Rattle.slice_laws.proofs.Places.{At, at_among, at_only, among_at, at_place, at_first, at_last}
use Rattle.slice_laws.proofs.Blocks.{starts_at, ends_at_last}
use Rattle.slice_laws.proofs.Pieces.{IsAtSide, Piece, shown, IsFront, IsBack, block, pieces}
use Rattle.slice_laws.proofs.ChainPlaces.{StandsAt, base_of, known_of}
use Rattle.slice_laws.proofs.Meetings.{IsEnd}
use Rattle.slice_laws.proofs.SlicesApart.{IsSegmentAt, before_front, after_back, before_first, after_first}
use Rattle.slice_laws.proofs.SliceSegments.{IsShownAt, shown_at, slice_apart}
use Rattle.slice_laws.proofs.Correspondence.{shown_labels, piece_among, labels_differ, base_piece, piece_shown}
use Rattle.slice_laws.proofs.SpokeRings.{with_faces, has_two, path_relabelled, closed_from_ring, ring_from_closed, spoke, comes_before, order_of_spokes, HasSpoke, IsSpokeAt, spoke_from_ring, ring_has_spoke, ring_leaves, ring_is_sorted}
use Rattle.map_laws.proofs.Lists.{all_members, members_all}
use Rattle.slice_laws.proofs.EdgeSums.{all_segments}

module _ (m : BaseMap) (base : is_base m ≡ true) (planar : IsPartition (base_segments m)) (k : ℕ) (cs : List Chain)
    (t : are_chains (merged m) k cs ≡ true) where
  -- ---- segments of the slice lie between two different points within the limits

  proper_base : (b : LabelledSegment) → Among b (base_segments m) → is_proper b ≡ true
  proper_base b n =
      members_all (λ s. is_proper s ≡ true) (base_segments m) b (AllPass-from_list_all is_proper (base_segments m) (proper_segments m base)) n

  -- the two points differ
  shown_points : {i n : ℕ} {c : Chain} {p : Piece} → StandsAt m base k cs t i n c p → (shown p).a ≢ (shown p).b
  shown_points {p = p} s =
      let apart = (proper_parts p.base (proper_base p.base (piece_among m base planar.arcs.nodes k cs t s))).apart in
      by p.link.turned apart
    where
      by : (b : Bool) → p.base.segment.a ≢ p.base.segment.b
          → (cond b (flip p.base.segment) p.base.segment).a ≢ (cond b (flip p.base.segment) p.base.segment).b
      by true n e = n (sym e)
      by false n e = n e

  differ_test : (a b : Point) → a ≢ b → not (same_point a b) ≡ true
  differ_test a b n = by (same_point a b) refl
    where
      by : (x : Bool) → same_point a b ≡ x → not x ≡ true
      by true e = absurd (n (same_point-true a b e))
      by false e = refl

  proper_shown : (n : ℕ) (s : LabelledSegment) → At (all_segments m k cs) n s → is_proper s ≡ true
  proper_shown n s a =
      let x = shown_at m base k cs t n s a in
      let b = proper_parts x.p.base (proper_base x.p.base (piece_among m base planar.arcs.nodes k cs t x.at.stands)) in
      ap (λ (g : Seg). (in_limits g.a && in_limits g.b) && not (same_point g.a g.b)) x.at.shows.segment
      ∙ by x.p.base x.p.link.turned b.first b.second b.apart
    where
      by : (b : LabelledSegment) (v : Bool) → in_limits b.segment.a ≡ true → in_limits b.segment.b ≡ true → b.segment.a ≢ b.segment.b
          → (let g : Seg = cond v (flip b.segment) b.segment in (in_limits g.a && in_limits g.b) && not (same_point g.a g.b)) ≡ true
      by b true e f n = and_from _ _ (and_from _ _ f e) (differ_test b.segment.b b.segment.a (λ w. n (sym w)))
      by b false e f n = and_from _ _ (and_from _ _ e f) (differ_test b.segment.a b.segment.b n)

  pub slice_proper : list_all is_proper (all_segments m k cs) ≡ true
  slice_proper =
      list_all-from_AllPass is_proper (all_segments m k cs) (all_members (λ s. is_proper s ≡ true) (all_segments m k cs)
      (λ s n. let a = among_at (all_segments m k cs) s n in proper_shown a.0 s a.1))

  -- ---- an end of an edge is an end of a link

  front_points : {i n : ℕ} {c : Chain} {p : Piece} → StandsAt m base k cs t i n c p → IsFront p → (shown p).a ≡ link_start m.arcs p.link
  front_points {p = p} s f = by p.link.turned (base_of m base k cs t s) f
    where
      by : (b : Bool) → Among p.base (block m p.link.arc) → cond b p.base.ends p.base.starts ≡ true
          → (cond b (flip p.base.segment) p.base.segment).a
          ≡ cond b (last_point (arc_number m.arcs p.link.arc).points) (first_point (arc_number m.arcs p.link.arc).points)
      by true n e = ends_at_last _ _ _ 0 _ p.base n e
      by false n e = starts_at _ _ _ _ p.base n e

  back_points : {i n : ℕ} {c : Chain} {p : Piece} → StandsAt m base k cs t i n c p → IsBack p → (shown p).b ≡ link_end m.arcs p.link
  back_points {p = p} s f = by p.link.turned (base_of m base k cs t s) f
    where
      by : (b : Bool) → Among p.base (block m p.link.arc) → cond b p.base.starts p.base.ends ≡ true
          → (cond b (flip p.base.segment) p.base.segment).b
          ≡ cond b (first_point (arc_number m.arcs p.link.arc).points) (last_point (arc_number m.arcs p.link.arc).points)
      by true n e = starts_at _ _ _ _ p.base n e
      by false n e = ends_at_last _ _ _ 0 _ p.base n e

  -- the segment that starts an edge shows the front of a link, and that which ends it the back of one
  start_front : {i n : ℕ} {c : Chain} {p : Piece} {s : LabelledSegment} → IsSegmentAt m base k cs t i n c p s → s.starts ≡ true → IsFront p
  start_front {i} {n} {c} {p} {s} x e =
      let w = (known_of m base k cs t x.stands).are in
      let first : n ≡ 0 = sym x.shows.place ∙ eqb-true _ _ (sym x.shows.starts ∙ e) in
      subst IsFront (sym (at_first w.row p (subst (λ o. At (pieces m c) o p) first x.stands.piece))) w.front

  end_back : {i n : ℕ} {c : Chain} {p : Piece} {s : LabelledSegment} → IsSegmentAt m base k cs t i n c p s → s.ends ≡ true → IsBack p
  end_back {i} {n} {c} {p} {s} x e =
      let w = (known_of m base k cs t x.stands).are in
      subst IsBack (sym (at_last w.row n p x.stands.piece (x.shows.last e))) w.back

  edge_side : {i n : ℕ} {c : Chain} {p : Piece} {s : LabelledSegment} → IsSegmentAt m base k cs t i n c p s → (v : Point) → IsEnd s v
      → IsAtSide m p v
  edge_side x v (inl (e, f)) =
      let front = start_front x e in
      let at = sym (ap (λ (g : Seg). g.a) x.shows.segment) ∙ f in
      inl (front, at, sym (front_points x.stands front) ∙ at)
  edge_side x v (inr (e, f)) =
      let back = end_back x e in
      let at = sym (ap (λ (g : Seg). g.b) x.shows.segment) ∙ f in
      inr (back, at, sym (back_points x.stands back) ∙ at)

  -- ---- where an edge ends at a node, each border arc that has an end there is the end of an edge

  module _ {i n j o : ℕ} {c e : Chain} {p q : Piece} {s u : LabelledSegment} (x : IsSegmentAt m base k cs t i n c p s)
      (y : IsSegmentAt m base k cs t j o e q u) (v : Point) (ends : IsEnd u v) where
    -- the segment u is not the next one after s, nor the one before, with v between them
    no_next : (c ≡ e) × (o ≡ suc n) × ((shown p).b ≡ v) × ((shown q).a ≡ v) → ⊥
    no_next (same, number, b, a) = by ends
      where
        by : IsEnd u v → ⊥
        by (inl (z, f)) =
            let first : u.place ≡ 0 = eqb-true _ _ (sym y.shows.starts ∙ z) in
            omega (arith, first, y.shows.place, number)
        by (inr (z, f)) = shown_points y.stands (a ∙ sym f ∙ ap (λ (g : Seg). g.b) y.shows.segment)

    no_last : (c ≡ e) × (n ≡ suc o) × ((shown q).b ≡ v) × ((shown p).a ≡ v) → ⊥
    no_last (same, number, b, a) = by ends
      where
        by : IsEnd u v → ⊥
        by (inl (z, f)) = shown_points y.stands (sym (ap (λ (g : Seg). g.a) y.shows.segment) ∙ f ∙ sym b)
        by (inr (z, f)) =
            let long : n < length (pieces m e) = subst (λ d. n < length (pieces m d)) same (at_place (pieces m c) n p p x.stands.piece).0 in
            omega (arith, y.shows.last z, number, long)

    -- at one place they are one
    one_segment : i ≡ j → n ≡ o → p ≡ q
    one_segment f g =
        let chains : c ≡ e = at_only cs j c e (subst (λ z. At cs z c) f x.stands.chain) y.stands.chain in
        at_only (pieces m e) o p q (subst (λ z. At (pieces m e) z p) g (subst (λ z. At (pieces m z) n p) chains x.stands.piece)) y.stands.piece

    starts_there : i ≡ j → n ≡ o → (shown p).a ≡ v → s.starts ≡ true
    starts_there f g a = by ends
      where
        by : IsEnd u v → s.starts ≡ true
        by (inl (z, w)) =
            let first : u.place ≡ 0 = eqb-true _ _ (sym y.shows.starts ∙ z) in
            x.shows.starts ∙ eq-eqb _ _ (omega (arith, x.shows.place, y.shows.place, g, first))
        by (inr (z, w)) =
            absurd
            (shown_points x.stands (a ∙ sym w ∙ ap (λ (h : Seg). h.b) y.shows.segment ∙ sym (ap (λ (r : Piece). (shown r).b) (one_segment f g))))

    ends_there : i ≡ j → n ≡ o → (shown p).b ≡ v → s.ends ≡ true
    ends_there f g b = by ends
      where
        chains : c ≡ e
        chains = at_only cs j c e (subst (λ z. At cs z c) f x.stands.chain) y.stands.chain

        by : IsEnd u v → s.ends ≡ true
        by (inl (z, w)) =
            absurd
            (shown_points x.stands (ap (λ (r : Piece). (shown r).a) (one_segment f g) ∙ sym (ap (λ (h : Seg). h.a) y.shows.segment) ∙ w ∙ sym b))
        by (inr (z, w)) = x.shows.ends (ap suc g ∙ y.shows.last z ∙ sym (ap (λ d. length (pieces m d)) chains))

    -- a front there starts an edge
    front_starts : IsFront p → (shown p).a ≡ v → link_start m.arcs p.link ≡ v → s.starts ≡ true
    front_starts f a l = elim (cases_eq i j) [
      | inr other ↦ elim (before_front m base k cs t x f) [
        | inl w ↦ w
        | inr (h, r, number, there, way, back) ↦
            absurd (no_last (before_first m base k cs t x y (λ g w. other g) v f a l h r number there way back (edge_side y v ends)))
      ]
      | inl same ↦ elim (cases_eq n o) [
        | inl g ↦ starts_there same g a
        | inr other ↦ elim (before_front m base k cs t x f) [
          | inl w ↦ w
          | inr (h, r, number, there, way, back) ↦
              absurd (no_last (before_first m base k cs t x y (λ g w. other w) v f a l h r number there way back (edge_side y v ends)))
        ]
      ]
    ]

    -- and a back there ends one
    back_ends : IsBack p → (shown p).b ≡ v → link_end m.arcs p.link ≡ v → s.ends ≡ true
    back_ends f b l = elim (cases_eq i j) [
      | inr other ↦ elim (after_back m base k cs t x f) [
        | inl w ↦ w
        | inr (r, there, way, front) ↦
            absurd (no_next (after_first m base k cs t x y (λ g w. other g) v f b l r there way front (edge_side y v ends)))
      ]
      | inl same ↦ elim (cases_eq n o) [
        | inl g ↦ ends_there same g b
        | inr other ↦ elim (after_back m base k cs t x f) [
          | inl w ↦ w
          | inr (r, there, way, front) ↦
              absurd (no_next (after_first m base k cs t x y (λ g w. other w) v f b l r there way front (edge_side y v ends)))
        ]
      ]
    ]

  -- ---- the spokes of the slice and those of the base map

  two_faces_test : (a b : ℕ) → a ≢ b → not (a == b) ≡ true
  two_faces_test a b n = ap not (ne_eqb a b n)

  -- a spoke of the slice is one of the base map with the labels, which differ
  spoke_there : (v : Point) (q : Spoke) → IsSpokeAt (all_segments m k cs) v q
      → (r : Spoke) × IsSpokeAt (base_segments m) v r × (has_two (label_at (merged m) k) r ≡ true) × (with_faces (label_at (merged m) k) r ≡ q)
  spoke_there v q (n, s, a, side) =
      let x = shown_at m base k cs t n s a in
      let labels = shown_labels m base planar.arcs.nodes k cs t n s x in
      let place = among_at (base_segments m) x.p.base (piece_among m base planar.arcs.nodes k cs t x.at.stands) in
      let differ = labels_differ m base planar.arcs.nodes k cs t n s x in
      elim side [
        | inl (e, f, g) ↦ at_start x.p.base place.0 place.1 s differ x.p.link.turned (start_front x.at e) x.at.shows.segment labels.0 labels.1 f g
        | inr (e, f, g) ↦ at_end x.p.base place.0 place.1 s differ x.p.link.turned (end_back x.at e) x.at.shows.segment labels.0 labels.1 f g
      ]
    where
      at_start : (b : LabelledSegment) (o : ℕ) → At (base_segments m) o b → (s : LabelledSegment)
          → label_at (merged m) k b.left ≢ label_at (merged m) k b.right
          → (w : Bool) → cond w b.ends b.starts ≡ true → s.segment ≡ cond w (flip b.segment) b.segment
          → s.left ≡ label_at (merged m) k (cond w b.right b.left) → s.right ≡ label_at (merged m) k (cond w b.left b.right) → s.segment.a ≡ v
          → first_spoke s ≡ q
          → (r : Spoke) × IsSpokeAt (base_segments m) v r × (has_two (label_at (merged m) k) r ≡ true) × (with_faces (label_at (merged m) k) r ≡ q)
      at_start b o at s differ true e g l r f h = (
        last_spoke b,
        (o, b, at, inr (e, ap (λ (z : Seg). z.a) (sym g) ∙ f, refl)),
        two_faces_test _ _ (λ z. differ (sym z)),
        sym (ap (λ (z : Seg). spoke z.b s.left s.right) g ∙ ap₂ (λ (y z : ℕ). spoke b.segment.a y z) l r) ∙ h,
      )
      at_start b o at s differ false e g l r f h = (
        first_spoke b,
        (o, b, at, inl (e, ap (λ (z : Seg). z.a) (sym g) ∙ f, refl)),
        two_faces_test _ _ differ,
        sym (ap (λ (z : Seg). spoke z.b s.left s.right) g ∙ ap₂ (λ (y z : ℕ). spoke b.segment.b y z) l r) ∙ h,
      )

      at_end : (b : LabelledSegment) (o : ℕ) → At (base_segments m) o b → (s : LabelledSegment)
          → label_at (merged m) k b.left ≢ label_at (merged m) k b.right
          → (w : Bool) → cond w b.starts b.ends ≡ true → s.segment ≡ cond w (flip b.segment) b.segment
          → s.left ≡ label_at (merged m) k (cond w b.right b.left) → s.right ≡ label_at (merged m) k (cond w b.left b.right) → s.segment.b ≡ v
          → last_spoke s ≡ q
          → (r : Spoke) × IsSpokeAt (base_segments m) v r × (has_two (label_at (merged m) k) r ≡ true) × (with_faces (label_at (merged m) k) r ≡ q)
      at_end b o at s differ true e g l r f h = (
        first_spoke b,
        (o, b, at, inl (e, ap (λ (z : Seg). z.b) (sym g) ∙ f, refl)),
        two_faces_test _ _ differ,
        sym (ap (λ (z : Seg). spoke z.a s.right s.left) g ∙ ap₂ (λ (y z : ℕ). spoke b.segment.b z y) l r) ∙ h,
      )
      at_end b o at s differ false e g l r f h = (
        last_spoke b,
        (o, b, at, inr (e, ap (λ (z : Seg). z.b) (sym g) ∙ f, refl)),
        two_faces_test _ _ (λ z. differ (sym z)),
        sym (ap (λ (z : Seg). spoke z.a s.right s.left) g ∙ ap₂ (λ (y z : ℕ). spoke b.segment.a z y) l r) ∙ h,
      )

  -- where an edge ends at the node, the ends of a segment of a border arc there are ends of an edge
  module _ (v : Point) (j : ℕ) (u : LabelledSegment) (y : IsShownAt m base k cs t j u) (ends : IsEnd u v) where
    first_shown : (n : ℕ) (s : LabelledSegment) → At (all_segments m k cs) n s → (x : IsShownAt m base k cs t n s) → x.p.base.starts ≡ true
        → x.p.base.segment.a ≡ v
        → IsSpokeAt (all_segments m k cs) v (with_faces (label_at (merged m) k) (first_spoke x.p.base))
    first_shown n s a x e f =
        let labels = shown_labels m base planar.arcs.nodes k cs t n s x in
        by x.p.link.turned (λ front at. front_starts x.at y.at v ends front at (sym (front_points x.at.stands front) ∙ at)) (λ back at. back_ends x.at y.at v ends back at (sym (back_points x.at.stands back) ∙ at))
        x.at.shows.segment labels.0 labels.1
      where
        by : (w : Bool)
            → (cond w x.p.base.ends x.p.base.starts ≡ true → (cond w (flip x.p.base.segment) x.p.base.segment).a ≡ v → s.starts ≡ true)
            → (cond w x.p.base.starts x.p.base.ends ≡ true → (cond w (flip x.p.base.segment) x.p.base.segment).b ≡ v → s.ends ≡ true)
            → s.segment ≡ cond w (flip x.p.base.segment) x.p.base.segment
            → s.left ≡ label_at (merged m) k (cond w x.p.base.right x.p.base.left)
            → s.right ≡ label_at (merged m) k (cond w x.p.base.left x.p.base.right)
            → IsSpokeAt (all_segments m k cs) v (with_faces (label_at (merged m) k) (first_spoke x.p.base))
        by true start finish g l r = (
          n,
          s,
          a,
          inr (
            finish e f,
            ap (λ (z : Seg). z.b) g ∙ f,
            ap (λ (z : Seg). spoke z.a s.right s.left) g ∙ ap₂ (λ (c d : ℕ). spoke x.p.base.segment.b d c) l r,
          ),
        )
        by false start finish g l r = (
          n,
          s,
          a,
          inl (
            start e f,
            ap (λ (z : Seg). z.a) g ∙ f,
            ap (λ (z : Seg). spoke z.b s.left s.right) g ∙ ap₂ (λ (c d : ℕ). spoke x.p.base.segment.b c d) l r,
          ),
        )

    last_shown : (n : ℕ) (s : LabelledSegment) → At (all_segments m k cs) n s → (x : IsShownAt m base k cs t n s) → x.p.base.ends ≡ true
        → x.p.base.segment.b ≡ v
        → IsSpokeAt (all_segments m k cs) v (with_faces (label_at (merged m) k) (last_spoke x.p.base))
    last_shown n s a x e f =
        let labels = shown_labels m base planar.arcs.nodes k cs t n s x in
        by x.p.link.turned (λ front at. front_starts x.at y.at v ends front at (sym (front_points x.at.stands front) ∙ at)) (λ back at. back_ends x.at y.at v ends back at (sym (back_points x.at.stands back) ∙ at))
        x.at.shows.segment labels.0 labels.1
      where
        by : (w : Bool)
            → (cond w x.p.base.ends x.p.base.starts ≡ true → (cond w (flip x.p.base.segment) x.p.base.segment).a ≡ v → s.starts ≡ true)
            → (cond w x.p.base.starts x.p.base.ends ≡ true → (cond w (flip x.p.base.segment) x.p.base.segment).b ≡ v → s.ends ≡ true)
            → s.segment ≡ cond w (flip x.p.base.segment) x.p.base.segment
            → s.left ≡ label_at (merged m) k (cond w x.p.base.right x.p.base.left)
            → s.right ≡ label_at (merged m) k (cond w x.p.base.left x.p.base.right)
            → IsSpokeAt (all_segments m k cs) v (with_faces (label_at (merged m) k) (last_spoke x.p.base))
        by true start finish g l r = (
          n,
          s,
          a,
          inl (
            start e f,
            ap (λ (z : Seg). z.a) g ∙ f,
            ap (λ (z : Seg). spoke z.b s.left s.right) g ∙ ap₂ (λ (c d : ℕ). spoke x.p.base.segment.a c d) l r,
          ),
        )
        by false start finish g l r = (
          n,
          s,
          a,
          inr (
            finish e f,
            ap (λ (z : Seg). z.b) g ∙ f,
            ap (λ (z : Seg). spoke z.a s.right s.left) g ∙ ap₂ (λ (c d : ℕ). spoke x.p.base.segment.a d c) l r,
          ),
        )

    spoke_back : (r : Spoke) → IsSpokeAt (base_segments m) v r → has_two (label_at (merged m) k) r ≡ true
        → IsSpokeAt (all_segments m k cs) v (with_faces (label_at (merged m) k) r)
    spoke_back r (n, b, a, inl (e, f, h)) two =
        let g : ℕ → ℕ = label_at (merged m) k in
        let differ : g b.left ≢ g b.right = eqb-false _ _ (not-true _ (ap (has_two g) h ∙ two)) in
        let w = base_piece m base planar.arcs.nodes k cs t b (at_among (base_segments m) n b a) differ in
        let z = piece_shown m base planar.arcs.nodes k cs t w.0 w.1 w.2 w.3 w.4 in
        let same : z.3.p.base ≡ b = z.4 ∙ w.5 in
        subst (λ (q : Spoke). IsSpokeAt (all_segments m k cs) v (with_faces g q))
        (ap first_spoke same ∙ h)
        (first_shown z.0 z.1 z.2 z.3 (ap (λ (c : LabelledSegment). c.starts) same ∙ e) (ap (λ (c : LabelledSegment). c.segment.a) same ∙ f))
    spoke_back r (n, b, a, inr (e, f, h)) two =
        let g : ℕ → ℕ = label_at (merged m) k in
        let differ : g b.left ≢ g b.right = λ i. eqb-false _ _ (not-true _ (ap (has_two g) h ∙ two)) (sym i) in
        let w = base_piece m base planar.arcs.nodes k cs t b (at_among (base_segments m) n b a) differ in
        let z = piece_shown m base planar.arcs.nodes k cs t w.0 w.1 w.2 w.3 w.4 in
        let same : z.3.p.base ≡ b = z.4 ∙ w.5 in
        subst (λ (q : Spoke). IsSpokeAt (all_segments m k cs) v (with_faces g q))
        (ap last_spoke same ∙ h)
        (last_shown z.0 z.1 z.2 z.3 (ap (λ (c : LabelledSegment). c.ends) same ∙ e) (ap (λ (c : LabelledSegment). c.segment.b) same ∙ f))

    -- ---- one ring

    same_ring : spokes_at v (all_segments m k cs)
        ≡ map (with_faces (label_at (merged m) k)) (filter (has_two (label_at (merged m) k)) (spokes_at v (base_segments m)))
    same_ring =
        let g : ℕ → ℕ = label_at (merged m) k in
        let slice : List LabelledSegment = all_segments m k cs in
        let ring : List Spoke = spokes_at v (base_segments m) in
        let Leaves : Spoke → Type 0 = λ (q : Spoke). v ≢ q.toward in
        let proper = proper_segments m base in
        let leaves : All Leaves ring = ring_leaves (base_segments m) proper v in
        let kept : All Leaves (filter (has_two g) ring) = All-filter (has_two g) Leaves ring leaves in
        sorted_same (order_of_spokes v) (spokes_at v slice) (map (with_faces g) (filter (has_two g) ring))
        (ring_leaves slice slice_proper v) (All-map Leaves (with_faces g) (filter (has_two g) ring) kept)
        (ring_is_sorted slice slice_proper (slice_apart m base k cs t planar.arcs.apart) v)
        (map-is_sorted (λ p. Unit {0}) (comes_before v) (comes_before v) (with_faces g) (λ p q a b. refl) (filter (has_two g) ring) (λ i d l. tt)
        ∙ filter-is_sorted (order_of_spokes v) (has_two g) ring leaves (ring_is_sorted (base_segments m) proper planar.arcs.apart v))
        (λ q c.
        let r = spoke_there v q (spoke_from_ring slice v q c) in
        subst (Contains (map (with_faces g) (filter (has_two g) ring))) r.3
        (Contains-map (with_faces g) (filter (has_two g) ring) r.0 (Contains-filter (has_two g) ring r.0 (ring_has_spoke (base_segments m) v r.0 r.1) r.2)))
        (λ q c.
        let r = Contains-from_map (with_faces g) (filter (has_two g) ring) q c in
        let f = Contains-from_filter (has_two g) ring r.0 r.1 in
        subst (Contains (spokes_at v slice)) r.2
        (ring_has_spoke slice v (with_faces g r.0) (spoke_back r.0 (spoke_from_ring (base_segments m) v r.0 f.0) f.1)))

  -- round each node the faces agree
  pub slice_nodes : (v : Point) → node_fault (all_segments m k cs) v ≡ None
  slice_nodes v = by (spokes_at v (all_segments m k cs)) refl
    where
      end_of : (s : LabelledSegment) (q : Spoke) → HasSpoke s v q → IsEnd s v
      end_of s q (inl (a, b, c)) = inl (a, b)
      end_of s q (inr (a, b, c)) = inr (a, b)

      by : (ps : List Spoke) → spokes_at v (all_segments m k cs) ≡ ps → fault_of v (spokes_at v (all_segments m k cs)) ≡ None
      by [] e = ap (fault_of v) e
      by (p ∷ ps) e =
          let g : ℕ → ℕ = label_at (merged m) k in
          let ring : List Spoke = spokes_at v (base_segments m) in
          let here : Contains (spokes_at v (all_segments m k cs)) p = subst (λ qs. Contains qs p) (sym e) (in_head p ps) in
          let there = spoke_from_ring (all_segments m k cs) v p here in
          let closed = closed_from_ring v ring (planar.arcs.nodes v) in
          ap (fault_of v) (same_ring v there.0 there.1 (shown_at m base k cs t there.0 there.1 there.2) (end_of there.1 p there.3))
          ∙ ring_from_closed v (map (with_faces g) (filter (has_two g) ring)) (g closed.0) (path_relabelled g closed.0 closed.0 ring closed.1)
