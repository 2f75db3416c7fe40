-- Where no vertex is removed, a sum over the segments of a slice is one over the segments of the border arcs, if it does not
-- depend on the direction of a segment.
use Rattle.std.proofs.Common.{◌≡◌, ℕ, ◌+◌, Bool, true, false, cond, ◌==◌, List, [], ◌∷◌, map, get_or, reverse, refl, sym, ap, ap₂, ◌∙◌, subst, None}
use Rattle.std.specs.Prelude.{sum_by, flat_map}
use Rattle.std.proofs.lemmas.Bool.{eqb-true, not-false}
use Rattle.std.proofs.lemmas.List.Sums.{sum_by-cons, sum_by-append}
use Rattle.std.proofs.lemmas.List.Sorted.{IsPermutation-reverse, sum_by-IsPermutation}
use Rattle.lemmas.proofs.Counts.{sum_by-map, sum_by-agree}
use Rattle.tgap_model.specs.declared.geometry.Point.{Point}
use Rattle.tgap_model.specs.declared.geometry.Seg.{Seg}
use Rattle.tgap_model.specs.declared.base.BaseArc.{BaseArc}
use Rattle.tgap_model.specs.declared.slice.Edge.{Edge}
use Rattle.tgap_model.specs.declared.segment.LabelledSegment.{LabelledSegment}
use Rattle.tgap_model.specs.Base.{BaseMap, is_base}
use Rattle.tgap_model.specs.Partition.{is_empty, path_segments, arc_segments, base_segments, edge_segments, node_fault}
use Rattle.tgap_model.specs.Merged.{MergedMap, merged, label_at, is_border}
use Rattle.tgap_model.specs.Removals.{path, without, edge_of, edges_of}
use Rattle.tgap_model.specs.Chains.{Link, Chain, arc_number, link_points, chain_points, are_chains}
use Rattle.tgap_model.specs.Slice.{left_of, right_of}
use Rattle.map_laws.proofs.ChainMembers.{Among}
use Rattle.map_laws.proofs.ChainWalks.{IsRow}
use Rattle.map_laws.proofs.ChainEnds.{IsWayOn}
use Rattle.map_laws.proofs.ChainLinks.{IsWholeChain, chains_whole}
use Rattle.slice_laws.proofs.BaseParts.{arc_has_segment}
use Rattle.slice_laws.proofs.Paths.{flip, has_point, path_reversed, Meets, HasPoints, chain_path}
use Rattle.slice_laws.proofs.CountedSums.{sum_by-flat_map, sum_of_chains}
use Rattle.slice_laws.proofs.EvenSides.{chains_faces}
use Rattle.map_laws.proofs.Lists.{all_members, members_all}

-- the segment of a row at a place
abbrev pub row_of : ℕ → ℕ → ℕ → ℕ → Seg → Bool → LabelledSegment
row_of arc l r place g ends = record { segment = g; left = l; right = r; arc = arc; place = place; starts = place == 0; ends = ends }

-- with nothing removed the points stay
pub without_none : (points : List Point) → without [] points ≡ points
without_none [] = refl
without_none (p ∷ points) = ap (λ ps. p ∷ ps) (without_none points)

-- a row of one relation is a row of a weaker one
row_weaker : {A : Type 0} (R S : A → A → Type 0) → ((x y : A) → R x y → S x y) → (xs : List A) → IsRow R xs → IsRow S xs
row_weaker R S h [] r = tt
row_weaker R S h (x ∷ []) r = tt
row_weaker R S h (x ∷ y ∷ ys) r = (h x y r.0, row_weaker R S h (y ∷ ys) r.1)

-- the segments of the edges of chains with all their vertices
abbrev pub all_segments : BaseMap → ℕ → List Chain → List LabelledSegment
all_segments m k cs = edge_segments (edges_of (merged m) k [] cs)

-- the links of a whole chain have points, and each ends where the next one starts
pub chain_has_points : (m : BaseMap) → is_base m ≡ true → (k : ℕ) (d : Link) (chain : List Link) → IsWholeChain (merged m) k d chain
    → HasPoints m.arcs (d ∷ chain)
chain_has_points m base k d chain w e n =
    has_point (arc_number m.arcs e.arc).points (arc_has_segment m base e.arc (w.border e n).within)

pub chain_meets : (m : BaseMap) (k : ℕ) (d : Link) (chain : List Link) → IsWholeChain (merged m) k d chain → IsRow (Meets m.arcs) (d ∷ chain)
chain_meets m k d chain w = row_weaker (IsWayOn (merged m) k) (Meets m.arcs) (λ x y u. u.meets) (d ∷ chain) w.row

module _ (w : Seg → ℕ → ℕ → ℕ) (mirrored : (s : Seg) (l r : ℕ) → w (flip s) r l ≡ w s l r) where
  -- what a row of points counts
  row_sum : (i l r place : ℕ) (points : List Point)
      → sum_by (λ s. w s.segment s.left s.right) (path_segments i l r place points) ≡ sum_by (λ g. w g l r) (path points)
  row_sum i l r place [] = refl
  row_sum i l r place (a ∷ []) = refl
  row_sum i l r place (a ∷ b ∷ points) =
      sum_by-cons (λ s. w s.segment s.left s.right) (row_of i l r place (record { a = a; b = b }) (is_empty points))
      (path_segments i l r (place + 1) (b ∷ points))
      ∙ ap (λ n. w (record { a = a; b = b }) l r + n) (row_sum i l r (place + 1) (b ∷ points))
      ∙ sym (sum_by-cons (λ g. w g l r) (record { a = a; b = b }) (path (b ∷ points)))

  -- a row that is turned round counts as much, with the faces exchanged
  turned_sum : (l r : ℕ) (points : List Point) → sum_by (λ g. w g r l) (path (reverse points)) ≡ sum_by (λ g. w g l r) (path points)
  turned_sum l r points =
      ap (sum_by (λ g. w g r l)) (path_reversed points)
      ∙ sum_by-IsPermutation (λ g. w g r l) (map flip (path points)) (reverse (map flip (path points)))
      (IsPermutation-reverse (map flip (path points)))
      ∙ sum_by-map (λ g. w g r l) flip (path points)
      ∙ sum_by-agree (λ g. w (flip g) r l) (λ g. w g l r) (path points) (λ i d n. mirrored _ l r)

  -- what an arc counts, with other labels
  abbrev pub arc_sum : (ℕ → ℕ) → BaseArc → ℕ
  arc_sum g a = sum_by (λ s. w s (g a.left) (g a.right)) (path a.points)

  -- a link counts what its arc counts
  link_sum : (h : MergedMap) (k : ℕ) (d : Link)
      → sum_by (λ g. w g (left_of h k d) (right_of h k d)) (path (link_points h.base.arcs d)) ≡ arc_sum (label_at h k) (arc_number h.base.arcs d.arc)
  link_sum h k d = by d.turned
    where
      a : BaseArc
      a = arc_number h.base.arcs d.arc

      by : (t : Bool)
          → sum_by (λ g. w g (label_at h k (cond t (arc_number h.base.arcs d.arc).right (arc_number h.base.arcs d.arc).left)) (label_at h k (cond t (arc_number h.base.arcs d.arc).left (arc_number h.base.arcs d.arc).right)))
          (path (cond t (reverse (arc_number h.base.arcs d.arc).points) (arc_number h.base.arcs d.arc).points)) ≡ arc_sum (label_at h k)
          (arc_number h.base.arcs d.arc)
      by true =
          turned_sum (label_at h k (arc_number h.base.arcs d.arc).left) (label_at h k (arc_number h.base.arcs d.arc).right)
          (arc_number h.base.arcs d.arc).points
      by false = refl

  -- the segments of a base map with other labels count what its arcs count
  base_sum : (g : ℕ → ℕ) (i : ℕ) (arcs : List BaseArc)
      → sum_by (λ s. w s.segment (g s.left) (g s.right)) (arc_segments i arcs) ≡ sum_by (arc_sum g) arcs
  base_sum g i [] = refl
  base_sum g i (a ∷ arcs) =
      sum_by-append (λ s. w s.segment (g s.left) (g s.right)) (path_segments i a.left a.right 0 a.points) (arc_segments (i + 1) arcs)
      ∙ ap₂ (λ x y. x + y) (relabelled_row i a.left a.right 0 a.points) (base_sum g (i + 1) arcs) ∙ sym (sum_by-cons (arc_sum g) a arcs)
    where
      relabelled_row : (i l r place : ℕ) (points : List Point)
          → sum_by (λ s. w s.segment (g s.left) (g s.right)) (path_segments i l r place points) ≡ sum_by (λ s. w s (g l) (g r)) (path points)
      relabelled_row i l r place [] = refl
      relabelled_row i l r place (a ∷ []) = refl
      relabelled_row i l r place (a ∷ b ∷ points) =
          sum_by-cons (λ s. w s.segment (g s.left) (g s.right)) (row_of i l r place (record { a = a; b = b }) (is_empty points))
          (path_segments i l r (place + 1) (b ∷ points))
          ∙ ap (λ n. w (record { a = a; b = b }) (g l) (g r) + n) (relabelled_row i l r (place + 1) (b ∷ points))
          ∙ sym (sum_by-cons (λ s. w s (g l) (g r)) (record { a = a; b = b }) (path (b ∷ points)))

  -- an arc that is no border counts nothing, where equal faces count nothing
  border_sum : ((s : Seg) (l : ℕ) → w s l l ≡ 0) → (h : MergedMap) (k : ℕ) (a : BaseArc)
      → cond (is_border h k a) (arc_sum (label_at h k) a) 0 ≡ arc_sum (label_at h k) a
  border_sum none h k a = by (is_border h k a) refl
    where
      zero_row : (l r : ℕ) → l ≡ r → (ss : List Seg) → sum_by (λ s. w s l r) ss ≡ 0
      zero_row l r e [] = refl
      zero_row l r e (s ∷ ss) = sum_by-cons (λ s. w s l r) s ss ∙ ap₂ (λ x y. x + y) (ap (w s l) (sym e) ∙ none s l) (zero_row l r e ss)

      by : (b : Bool) → is_border h k a ≡ b → cond b (arc_sum (label_at h k) a) 0 ≡ arc_sum (label_at h k) a
      by true e = refl
      by false e = sym (zero_row (label_at h k a.left) (label_at h k a.right) (eqb-true _ _ (not-false _ e)) (path a.points))

  module _ (m : BaseMap) (base : is_base m ≡ true) (nodes : (v : Point) → node_fault (base_segments m) v ≡ None) (k : ℕ)
      (cs : List Chain) (t : are_chains (merged m) k cs ≡ true) where
    -- an edge counts what the arcs of its chain count
    edge_sum : (c : Chain) → Among c cs
        → sum_by (λ s. w s.segment s.left s.right) (path_segments (edge_of (merged m) k [] c).key (edge_of (merged m) k [] c).left (edge_of (merged m) k [] c).right 0 (edge_of (merged m) k [] c).points)
        ≡ sum_by (λ d. arc_sum (label_at (merged m) k) (arc_number m.arcs d.arc)) c
    edge_sum c n =
        let e : Edge = edge_of (merged m) k [] c in
        let keeps = chains_faces m base nodes k cs t [] c n in
        let whole = chains_whole (merged m) k cs t c n in
        let segments : path e.points ≡ flat_map (λ d. path (link_points m.arcs d)) c
        = ap path (without_none (chain_points m.arcs c))
        ∙ subst (λ c. path (chain_points m.arcs c) ≡ flat_map (λ d. path (link_points m.arcs d)) c) (sym whole.2)
        (chain_path m.arcs whole.0 whole.1 (chain_meets m k whole.0 whole.1 whole.3) (chain_has_points m base k whole.0 whole.1 whole.3)) in
        row_sum e.key e.left e.right 0 e.points ∙ ap (sum_by (λ g. w g e.left e.right)) segments
        ∙ sum_by-flat_map (λ g. w g e.left e.right) (λ d. path (link_points m.arcs d)) c
        ∙ sum_by-agree _ (λ d. arc_sum (label_at (merged m) k) (arc_number m.arcs d.arc)) c (all_members _ c (λ d o.
        ap₂ (λ l r. sum_by (λ g. w g l r) (path (link_points m.arcs d)))
        (sym (members_all (λ d. left_of (merged m) k d ≡ e.left) c d keeps.left o))
        (sym (members_all (λ d. right_of (merged m) k d ≡ e.right) c d keeps.right o))
        ∙ link_sum (merged m) k d))

    -- so do all segments of the slice and all border arcs
    pub slice_sum : ((s : Seg) (l : ℕ) → w s l l ≡ 0)
        → sum_by (λ s. w s.segment s.left s.right) (all_segments m k cs)
        ≡ sum_by (λ s. w s.segment (label_at (merged m) k s.left) (label_at (merged m) k s.right)) (base_segments m)
    slice_sum none =
        sum_by-flat_map (λ s. w s.segment s.left s.right) (λ e. path_segments e.key e.left e.right 0 e.points) (edges_of (merged m) k [] cs)
        ∙ sum_by-map (λ e. sum_by (λ s. w s.segment s.left s.right) (path_segments e.key e.left e.right 0 e.points)) (edge_of (merged m) k []) cs
        ∙ sum_by-agree _ (λ c. sum_by (λ d. arc_sum (label_at (merged m) k) (arc_number m.arcs d.arc)) c) cs (all_members _ cs edge_sum)
        ∙ sum_of_chains (merged m) k cs t (arc_sum (label_at (merged m) k))
        ∙ sum_by-agree _ (arc_sum (label_at (merged m) k)) m.arcs (λ i a l. border_sum none (merged m) k (get_or m.arcs i a))
        ∙ sym (base_sum (label_at (merged m) k) 0 m.arcs)
