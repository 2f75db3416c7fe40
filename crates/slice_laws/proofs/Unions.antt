-- A face of a slice is the union of the base faces that it was made of.
use Rattle.std.proofs.Common.{◌≡◌, ◌≢◌, inl, inr, ℕ, zero, suc, ◌+◌, ◌≤◌, nat_lt, ℤ, Bool, true, false, cond, ◌&&◌, ◌==◌, List, [], ◌∷◌, ◌++◌, map, filter, All, refl, sym, ap, ap₂, ◌∙◌, eq-eqb, ne_eqb, arith, length, if◌then◌else◌}
use Rattle.std.proofs.lemmas.Bool.{eqb-true}
use Rattle.std.proofs.lemmas.List.Elements.{All-nil, All-cons, All-append, All-filter}
use Rattle.lemmas.specs.Parity.{is_odd, either_alone}
use Rattle.lemmas.proofs.Counts.{sum_by-map}
use Rattle.lemmas.proofs.Sorting.{All-sort_by}
use Rattle.tgap_model.specs.declared.geometry.Fraction.{Fraction}
use Rattle.tgap_model.specs.declared.geometry.Seg.{Seg}
use Rattle.tgap_model.specs.declared.geometry.Point.{Point}
use Rattle.tgap_model.specs.declared.base.BaseArc.{BaseArc}
use Rattle.tgap_model.specs.declared.slice.Removal.{Removal}
use Rattle.tgap_model.specs.declared.slice.Edge.{Edge}
use Rattle.tgap_model.specs.declared.segment.LabelledSegment.{LabelledSegment}
use Rattle.tgap_model.specs.Base.{BaseMap, is_base}
use Rattle.tgap_model.specs.Segment.{Line, IsBetweenColumns, line_through, crosses, is_above, is_higher}
use Rattle.tgap_model.specs.Partition.{is_empty, sides, stack, agree_from, path_segments, arc_segments, base_segments, edge_segments, IsPartition}
use Rattle.map_laws.specs.Inside.{borders, is_inside}
use Rattle.tgap_model.specs.Merged.{MergedMap, merged, label_at}
use Rattle.tgap_model.specs.Chains.{Chain, are_chains, chains_at}
use Rattle.tgap_model.specs.Removals.{removed_at, removals_to, sweep, sweep_edges, edges_of}
use Rattle.tgap_model.specs.Slice.{slice}
use Rattle.map_laws.proofs.Inside.{reached, inside_parity}
use Rattle.map_laws.proofs.ChainsExist.{chains_exist}
use Rattle.slice_laws.specs.SliceLaws.{IsInsideBaseFace, FacesAreUnions}
use Rattle.slice_laws.proofs.Mirrored.{meets_ray, meets_ray_flip, borders_flip, borders_none}
use Rattle.slice_laws.proofs.Outside.{outside_label}
use Rattle.tgap_model.proofs.BaseFacts.{ArcFacts}
use Rattle.map_laws.proofs.ChainMembers.{Among}
use Rattle.slice_laws.proofs.BaseParts.{base_arc}
use Rattle.slice_laws.proofs.EdgeSums.{all_segments, row_of, slice_sum}
use Rattle.slice_laws.proofs.Relabelled.{with_labels, stack_with_labels, agree_with_labels, reached_with_labels, reached_bounded}

-- ---- with ratio 0 nothing is removed

nothing_swept : (ratio : ℕ) (area : ℤ) (made : ℕ) (edges : List Edge) → ratio ≡ 0 → sweep ratio area made edges ≡ []
unfolding sweep
nothing_swept ratio area made edges e = ap (λ (b : Bool). if b then [] else sweep_edges ratio area made [] edges) (eq-eqb ratio 0 e)

pub nothing_removed : (h : MergedMap) (k : ℕ) → h.base.rules.ratio ≡ 0 → removals_to h k ≡ []
unfolding removals_to
nothing_removed h zero e = refl
nothing_removed h (suc k) e = by (removals_to h k) (nothing_removed h k e) (nat_lt k (length h.steps))
  where
    by : (before : List Removal) → before ≡ [] → (b : Bool) → cond b (before ++ removed_at h (suc k) before) before ≡ []
    by before none true = ap₂ (λ xs ys. xs ++ map (λ p. record { point = p; step = suc k }) ys) none (nothing_swept h.base.rules.ratio _ _ _ e)
    by before none false = none

-- ---- the faces of a base map

row_faces : (n i l r place : ℕ) (points : List Point) → l ≤ n → r ≤ n → All (λ s. (s.left ≤ n) × (s.right ≤ n)) (path_segments i l r place points)
row_faces n i l r place [] p q = All-nil _
row_faces n i l r place (a ∷ []) p q = All-nil _
row_faces n i l r place (a ∷ b ∷ points) p q =
    All-cons (λ s. (s.left ≤ n) × (s.right ≤ n)) (row_of i l r place (record { a = a; b = b }) (is_empty points)) _ (p, q)
    (row_faces n i l r (place + 1) (b ∷ points) p q)

segment_faces : (n i : ℕ) (arcs : List BaseArc) → ((a : BaseArc) → Among a arcs → ArcFacts n a)
    → All (λ s. (s.left ≤ n) × (s.right ≤ n)) (arc_segments i arcs)
segment_faces n i [] facts = All-nil _
segment_faces n i (a ∷ arcs) facts =
    let f = facts a (inl refl) in
    All-append (λ s. (s.left ≤ n) × (s.right ≤ n)) (path_segments i a.left a.right 0 a.points) (arc_segments (i + 1) arcs)
    (row_faces n i a.left a.right 0 a.points f.left f.right) (segment_faces n (i + 1) arcs (λ b m. facts b (inr m)))

-- ---- the law

-- the base face below the nearest segment above a point, or the outside
abbrev pub face_below : BaseMap → Fraction → ℕ
face_below m p = reached (λ s. is_above s.segment p) 0 (stack (line_through p) (base_segments m))

module _ (m : BaseMap) (base : is_base m ≡ true) (planar : IsPartition (base_segments m)) (k : ℕ) (p : Fraction)
    (between : IsBetweenColumns (line_through p)) where
  agrees : agree_from 0 (map sides (stack (line_through p) (base_segments m))) ≡ true
  agrees = planar.stacks (line_through p) between

  -- the point is inside that face
  inside_base : (f : ℕ) → f ≢ 0 → is_inside (base_segments m) f p ≡ (face_below m p == f)
  inside_base f n =
      inside_parity (base_segments m) p f between.rational agrees
      ∙ ap (λ (b : Bool). either_alone b (face_below m p == f)) (ne_eqb 0 f (λ e. n (sym e)))

  -- and after k steps inside its ancestor
  pub inside_labels : (f : ℕ) → f ≢ 0 → is_inside (map (with_labels (label_at (merged m) k)) (base_segments m)) f p
      ≡ (label_at (merged m) k (face_below m p) == f)
  inside_labels f n =
      let g : ℕ → ℕ = label_at (merged m) k in
      let l : Line = line_through p in
      let t : LabelledSegment → Bool = λ (s : LabelledSegment). is_above s.segment p in
      let zero_stays = outside_label m k in
      let labels : agree_from 0 (map sides (stack l (map (with_labels g) (base_segments m)))) ≡ true
      = ap (λ ss. agree_from 0 (map sides ss)) (stack_with_labels g l (base_segments m))
      ∙ ap (λ u. agree_from u (map sides (map (with_labels g) (stack l (base_segments m))))) (sym zero_stays)
      ∙ agree_with_labels g zero_stays 0 (stack l (base_segments m)) agrees in
      inside_parity (map (with_labels g) (base_segments m)) p f between.rational labels
      ∙ ap (λ (b : Bool). either_alone b (reached t 0 (stack l (map (with_labels g) (base_segments m))) == f)) (ne_eqb 0 f (λ e. n (sym e)))
      ∙ ap (λ ss. reached t 0 ss == f) (stack_with_labels g l (base_segments m))
      ∙ ap (λ u. reached t u (map (with_labels g) (stack l (base_segments m))) == f) (sym zero_stays)
      ∙ ap (λ (x : ℕ). x == f) (reached_with_labels g t (λ s. refl) 0 (stack l (base_segments m)))

  -- a point is inside a face of the slice where it is inside that of the base map with the labels
  pub inside_slice : (f : ℕ) (cs : List Chain) → are_chains (merged m) k cs ≡ true
      → is_inside (all_segments m k cs) f p ≡ is_inside (map (with_labels (label_at (merged m) k)) (base_segments m)) f p
  unfolding is_inside
  inside_slice f cs t =
      let w : Seg → ℕ → ℕ → ℕ = λ (s : Seg) (l r : ℕ). cond (meets_ray p s && borders f l r) 1 0 in
      ap is_odd (slice_sum w
      (λ s l r. ap₂ (λ (a b : Bool). cond (a && b) 1 0) (meets_ray_flip p s) (borders_flip f l r))
      m base planar.arcs.nodes k cs t
      (λ s l. ap (λ (b : Bool). cond (meets_ray p s && b) 1 0) (borders_none f l) ∙ never (meets_ray p s))
      ∙ sym (sum_by-map (λ s. w s.segment s.left s.right) (with_labels (label_at (merged m) k)) (base_segments m)))
    where
      never : (b : Bool) → cond {A = ℕ} (b && false) 1 0 ≡ 0
      never true = refl
      never false = refl

  found_bounded : face_below m p ≤ length m.classes
  found_bounded =
      let n : ℕ = length m.classes in
      let P : LabelledSegment → Type 0 = λ (s : LabelledSegment). (s.left ≤ n) × (s.right ≤ n) in
      reached_bounded n (λ s. is_above s.segment p) 0 (stack (line_through p) (base_segments m)) (omega arith)
      (All-sort_by (λ s t. is_higher (line_through p) s.segment t.segment) P (filter (λ s. crosses (line_through p) s.segment) (base_segments m))
      (All-filter (λ s. crosses (line_through p) s.segment) P (base_segments m) (segment_faces n 0 m.arcs (base_arc m base))))

  -- the point is inside f exactly where the ancestor of the face that was found is f
  pub there : (f : ℕ) → f ≢ 0 → (label_at (merged m) k (face_below m p) == f) ≡ true → IsInsideBaseFace m k f p
  there f n h =
      let face : ℕ = face_below m p in
      let label : label_at (merged m) k face ≡ f = eqb-true _ _ h in
      let other : face ≢ 0 = λ e. n (sym label ∙ ap (label_at (merged m) k) e ∙ outside_label m k) in
      record {
        face = face;
        least = omega arith;
        greatest = found_bounded;
        ancestor = label;
        inside = inside_base face other ∙ eq-eqb face face refl;
      }

  pub back : (f : ℕ) → f ≢ 0 → IsInsideBaseFace m k f p → (label_at (merged m) k (face_below m p) == f) ≡ true
  back f n i =
      let other : i.face ≢ 0 = λ e. omega (arith, i.least, e) in
      let same : face_below m p ≡ i.face = eqb-true _ _ (sym (inside_base i.face other) ∙ i.inside) in
      eq-eqb _ _ (ap (label_at (merged m) k) same ∙ i.ancestor)

pub faces_are_unions : FacesAreUnions
unfolding slice
faces_are_unions m base planar ratio k f n p between =
    let cs : List Chain = chains_at (merged m) k in
    let none : removals_to (merged m) k ≡ [] = nothing_removed (merged m) k ratio in
    let same : is_inside (edge_segments (edges_of (merged m) k (removals_to (merged m) k) cs)) f p
    ≡ (label_at (merged m) k (face_below m p) == f)
    = ap (λ (rs : List Removal). is_inside (edge_segments (edges_of (merged m) k rs cs)) f p) none
    ∙ inside_slice m base planar k p between f cs (chains_exist (merged m) k) ∙ inside_labels m base planar k p between f n in
    (λ h. there m base planar k p between f n (sym same ∙ h), λ i. same ∙ back m base planar k p between f n i)
