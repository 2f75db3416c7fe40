-- The spokes at a node, by the ends in their order: each has the faces of its end at its sides.
use Rattle.std.proofs.Common.{◌≡◌, ℕ, ◌+◌, ◌==◌, ◌&&◌, not, Bool, true, false, if◌then◌else◌, inl, inr, List, [], ◌∷◌, ◌++◌, map, flat_map, refl, sym, ap, ap₂, ◌∙◌, subst}
use Rattle.std.specs.Prelude.{◌≢◌}
use Rattle.std.proofs.lemmas.List.{map-append}
use Rattle.std.proofs.lemmas.List.Concat.{flat_map-append}
use Rattle.lemmas.specs.Sorting.{sort_by}
use Rattle.lemmas.proofs.Members.{AllPairs-from_map}
use Rattle.lemmas.proofs.Sorting.{map-sort_by}
use Rattle.tgap_model.specs.declared.geometry.Point.{Point}
use Rattle.tgap_model.specs.declared.segment.LabelledSegment.{LabelledSegment}
use Rattle.tgap_model.specs.declared.slice.Edge.{Edge}
use Rattle.tgap_model.specs.Base.{BaseMap, is_base, same_point}
use Rattle.tgap_model.specs.Partition.{Spoke, is_empty, spokes_of, spokes_at, path_segments, base_segments, edge_segments, IsPartition}
use Rattle.tgap_model.specs.Merged.{merged, label_at}
use Rattle.tgap_model.specs.Chains.{Link, Chain, arc_number, has_links, key, chains_at}
use Rattle.tgap_model.specs.Removals.{edge_of, edges_of, removals_to}
use Rattle.tgap_model.specs.Slice.{left_of, right_of, slice}
use Rattle.map_laws.proofs.ChainMembers.{Among}
use Rattle.map_laws.proofs.Lists.{members_all, map_among}
use Rattle.slice_laws.specs.SliceLaws.{KeepsFaces}
use Rattle.slice_laws.proofs.EvenSides.{chains_keep_faces}
use Rattle.slice_laws.proofs.SpokeRings.{spoke, comes_before}
use Rattle.removal_laws.proofs.ChainEnds.{chain_links}
use Rattle.step_laws.proofs.FirstSlice.{all_sound}
use Rattle.order_laws.specs.NodeOrder.{End, Way, ways_of, way_before, ends_round, start_end, finish_end, chain_with, arc_end, EndFaces, spoke_faces, end_faces, EndsKeepFaces}
use Rattle.order_laws.proofs.WayPlaces.{way, end_of}
use Rattle.order_laws.proofs.Ways.{end_at}
use Rattle.order_laws.proofs.ChainWays.{chain_found}

abbrev faces : ℕ → ℕ → EndFaces
faces left right = record { left = left; right = right }

-- ---- spokes by their ends

-- the faces of an arc or edge with this number are those of its ends
abbrev HasFaces : (End → EndFaces) → ℕ → ℕ → ℕ → Type 0
HasFaces g n left right = (g (end_at n true) ≡ faces left right) × (g (end_at n false) ≡ faces right left)

module _ (g : End → EndFaces) (v : Point) where
  -- the spoke of a way whose end has these faces
  abbrev spoke_by : Way → Spoke
  spoke_by w = spoke w.toward (g w.end).left (g w.end).right

  segment_spokes : (s : LabelledSegment) → HasFaces g s.arc s.left s.right → spokes_of v s ≡ map spoke_by (ways_of v s)
  segment_spokes s (e, f) = by (s.starts && same_point s.segment.a v) (s.ends && same_point s.segment.b v)
    where
      by : (a b : Bool)
          → (if a then spoke s.segment.b s.left s.right ∷ [] else []) ++ (if b then spoke s.segment.a s.right s.left ∷ [] else [])
          ≡ map spoke_by ((if a then way (end_at s.arc true) s.segment.b ∷ [] else []) ++ (if b then way (end_at s.arc false) s.segment.a ∷ [] else []))
      by true true = ap₂ (λ (x y : EndFaces). spoke s.segment.b x.left x.right ∷ spoke s.segment.a y.left y.right ∷ []) (sym e) (sym f)
      by true false = ap (λ (x : EndFaces). spoke s.segment.b x.left x.right ∷ []) (sym e)
      by false true = ap (λ (y : EndFaces). spoke s.segment.a y.left y.right ∷ []) (sym f)
      by false false = refl

  row_spokes : (n left right place : ℕ) (points : List Point) → HasFaces g n left right
      → flat_map (spokes_of v) (path_segments n left right place points) ≡ map spoke_by (flat_map (ways_of v) (path_segments n left right place points))
  row_spokes n left right place [] h = refl
  row_spokes n left right place (a ∷ []) h = refl
  row_spokes n left right place (a ∷ b ∷ points) h =
      let s : LabelledSegment = record {
        segment = record { a = a; b = b };
        left = left;
        right = right;
        arc = n;
        place = place;
        starts = place == 0;
        ends = is_empty points;
      } in
      ap₂ (λ (ps qs : List Spoke). ps ++ qs) (segment_spokes s h) (row_spokes n left right (place + 1) (b ∷ points) h)
      ∙ sym (map-append spoke_by (ways_of v s) (flat_map (ways_of v) (path_segments n left right (place + 1) (b ∷ points))))

  edges_spokes : (es : List Edge) → ((e : Edge) → Among e es → HasFaces g e.key e.left e.right)
      → flat_map (spokes_of v) (edge_segments es) ≡ map spoke_by (flat_map (ways_of v) (edge_segments es))
  edges_spokes [] h = refl
  edges_spokes (e ∷ es) h =
      let row = path_segments e.key e.left e.right 0 e.points in
      flat_map-append (spokes_of v) row (edge_segments es)
      ∙ ap₂ (λ (ps qs : List Spoke). ps ++ qs) (row_spokes e.key e.left e.right 0 e.points (h e (inl refl))) (edges_spokes es (λ f m. h f (inr m)))
      ∙ sym (map-append spoke_by (flat_map (ways_of v) row) (flat_map (ways_of v) (edge_segments es)))
      ∙ ap (map spoke_by) (sym (flat_map-append (ways_of v) row (edge_segments es)))

  faces_by : (ws : List Way) → map spoke_faces (map spoke_by ws) ≡ map g (map end_of ws)
  faces_by [] = refl
  faces_by (w ∷ ws) = ap (λ (xs : List EndFaces). g w.end ∷ xs) (faces_by ws)

  ring_faces : (es : List Edge) → ((e : Edge) → Among e es → HasFaces g e.key e.left e.right)
      → map spoke_faces (spokes_at v (edge_segments es)) ≡ map g (ends_round v (edge_segments es))
  ring_faces es h =
      ap (λ ps. map spoke_faces (sort_by (comes_before v) ps)) (edges_spokes es h)
      ∙ ap (map spoke_faces) (sym (map-sort_by (λ (w : Way). Unit {0}) (way_before v) (comes_before v) spoke_by (λ x y p q. refl)
      (flat_map (ways_of v) (edge_segments es)) (λ i d l. tt)))
      ∙ faces_by (sort_by (way_before v) (flat_map (ways_of v) (edge_segments es)))

-- ---- the ends of a chain along which the faces stay the same

module _ (m : BaseMap) (k : ℕ) where
  -- the faces of an arc end by its link: in its direction, and against it
  start_faces : (d : Link) (left right : ℕ) → left_of (merged m) k d ≡ left → right_of (merged m) k d ≡ right
      → end_faces m k (end_at d.arc (not d.turned)) ≡ faces left right
  start_faces d left right e f = by d.turned ∙ ap₂ faces e f
    where
      by : (t : Bool) → end_faces m k (end_at d.arc (not t)) ≡ faces
          (label_at (merged m) k (if t then (arc_number m.arcs d.arc).right else (arc_number m.arcs d.arc).left))
          (label_at (merged m) k (if t then (arc_number m.arcs d.arc).left else (arc_number m.arcs d.arc).right))
      by true = refl
      by false = refl

  finish_faces : (d : Link) (left right : ℕ) → left_of (merged m) k d ≡ left → right_of (merged m) k d ≡ right
      → end_faces m k (end_at d.arc d.turned) ≡ faces right left
  finish_faces d left right e f = by d.turned ∙ ap₂ faces f e
    where
      by : (t : Bool) → end_faces m k (end_at d.arc t) ≡ faces
          (label_at (merged m) k (if t then (arc_number m.arcs d.arc).left else (arc_number m.arcs d.arc).right))
          (label_at (merged m) k (if t then (arc_number m.arcs d.arc).right else (arc_number m.arcs d.arc).left))
      by true = refl
      by false = refl

  chain_starts : (c : Chain) (left right : ℕ) → has_links c ≡ true
      → ((d : Link) → Among d c → (left_of (merged m) k d ≡ left) × (right_of (merged m) k d ≡ right)) → end_faces m k (start_end c) ≡ faces left right
  chain_starts [] left right links h = absurd cc
  chain_starts (d ∷ c) left right links h = let s = h d (inl refl) in start_faces d left right s.0 s.1

  chain_finishes : (c : Chain) (left right : ℕ) → has_links c ≡ true
      → ((d : Link) → Among d c → (left_of (merged m) k d ≡ left) × (right_of (merged m) k d ≡ right)) → end_faces m k (finish_end c) ≡ faces right left
  chain_finishes [] left right links h = absurd cc
  chain_finishes (d ∷ []) left right links h = let s = h d (inl refl) in finish_faces d left right s.0 s.1
  chain_finishes (d ∷ e ∷ c) left right links h = chain_finishes (e ∷ c) left right refl (λ f n. h f (inr n))

  module _ (base : is_base m ≡ true) (planar : IsPartition (base_segments m)) where
    chain_is : (c : Chain) → Among c (chains_at (merged m) k) → chain_with (chains_at (merged m) k) (key c) ≡ c
    chain_is c n =
        chain_found (chains_at (merged m) k)
        (AllPairs-from_map (λ (e f : Edge). e.key ≢ f.key) (edge_of (merged m) k []) (chains_at (merged m) k) (all_sound m base planar k).keys) c n

    edge_faces : (e : Edge) → Among e (edges_of (merged m) k (removals_to (merged m) k) (chains_at (merged m) k))
        → HasFaces (λ e. end_faces m k (arc_end (chains_at (merged m) k) e)) e.key e.left e.right
    edge_faces e n =
        let c = map_among (edge_of (merged m) k (removals_to (merged m) k)) (chains_at (merged m) k) e n in
        let keeps : KeepsFaces (merged m) k [] c.0
        = members_all (KeepsFaces (merged m) k []) (chains_at (merged m) k) c.0 (chains_keep_faces m base planar k []) c.1 in
        let left = (edge_of (merged m) k [] c.0).left in
        let right = (edge_of (merged m) k [] c.0).right in
        let links = chain_links (merged m) k c.0 c.1 in
        let sides : (d : Link) → Among d c.0 → (left_of (merged m) k d ≡ left) × (right_of (merged m) k d ≡ right)
        = λ d i. (
          members_all (λ (d : Link). left_of (merged m) k d ≡ left) c.0 d keeps.left i,
          members_all (λ (d : Link). right_of (merged m) k d ≡ right) c.0 d keeps.right i,
        ) in
        subst (λ (f : Edge). (end_faces m k (start_end (chain_with (chains_at (merged m) k) f.key)) ≡ faces f.left f.right)
        × (end_faces m k (finish_end (chain_with (chains_at (merged m) k) f.key)) ≡ faces f.right f.left)) c.2 (
          ap (λ (d : Chain). end_faces m k (start_end d)) (chain_is c.0 c.1) ∙ chain_starts c.0 left right links sides,
          ap (λ (d : Chain). end_faces m k (finish_end d)) (chain_is c.0 c.1) ∙ chain_finishes c.0 left right links sides,
        )

-- ---- the law

mapped_twice : {A B C : Type 0} (f : A → B) (g : B → C) (xs : List A) → map (λ x. g (f x)) xs ≡ map g (map f xs)
mapped_twice f g [] = refl
mapped_twice {A} {B} {C} f g (x ∷ xs) = ap (λ (ys : List C). g (f x) ∷ ys) (mapped_twice f g xs)

pub ends_keep_faces : EndsKeepFaces
unfolding slice
ends_keep_faces m base planar k v =
    ring_faces (λ e. end_faces m k (arc_end (chains_at (merged m) k) e)) v (edges_of (merged m) k (removals_to (merged m) k) (chains_at (merged m) k)) (edge_faces m k base planar)
    ∙ mapped_twice (arc_end (chains_at (merged m) k)) (end_faces m k) (ends_round v (edge_segments (edges_of (merged m) k (removals_to (merged m) k) (chains_at (merged m) k))))
