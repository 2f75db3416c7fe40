-- From one step to the next: the areas of a slice are those of the base faces less the triangles, for any set of faces at once.
use Rattle.std.proofs.Common.{◌≡◌, ℕ, zero, suc, ◌+◌, ◌-◌, ◌<◌, ◌≤◌, ◌==◌, Bool, true, false, cond, not, ℤ, pos, ◌+ℤ◌, ◌-ℤ◌, List, [], ◌∷◌, ◌++◌, map, filter, take, drop, length, length-drop, get_or, refl, sym, ap, ap₂, ◌∙◌, subst, arith}
use Rattle.std.proofs.lemmas.Int.{ints}
use Rattle.std.proofs.lemmas.Bool.{eqb-true, lt-ltb}
use Rattle.std.proofs.lemmas.List.{get_or-drop}
use Rattle.std.proofs.lemmas.List.Elements.{All-weaker}
use Rattle.tgap_model.specs.declared.geometry.Point.{Point}
use Rattle.tgap_model.specs.declared.geometry.Seg.{Seg}
use Rattle.tgap_model.specs.declared.base.BaseArc.{BaseArc}
use Rattle.tgap_model.specs.declared.merge.MergeStep.{MergeStep}
use Rattle.tgap_model.specs.declared.slice.Edge.{Edge}
use Rattle.tgap_model.specs.Base.{BaseMap, is_base}
use Rattle.tgap_model.specs.Point.{cross, shoelace, shoelace_term}
use Rattle.tgap_model.specs.Partition.{IsPartition, path_segments, arc_segments, base_segments, edge_segments}
use Rattle.tgap_model.specs.History.{relabel, label_after, history_of}
use Rattle.tgap_model.specs.Merged.{MergedMap, merged, label_at, step_number}
use Rattle.tgap_model.specs.Chains.{chains_at}
use Rattle.tgap_model.specs.Removals.{edges_of, removals_to}
use Rattle.map_laws.proofs.ChainsExist.{chains_exist}
use Rattle.map_laws.proofs.MergeSteps.{label_next}
use Rattle.slice_laws.proofs.EdgeSums.{slice_sum}
use Rattle.slice_laws.proofs.Paths.{flip}
use Rattle.removal_laws.specs.Trace.{Taken, edges_before_sweep, edges_after_sweep, trace_at, trace_to}
use Rattle.removal_laws.specs.TraceLaws.{IsTakenAtStep}
use Rattle.removal_laws.proofs.Tracing.{at_step, trace_follows_rule}
use Rattle.removal_laws.proofs.StandOnce.{partition_has_removals}
use Rattle.step_laws.proofs.StepEdges.{relabelled_edge, merged_edges, HaveSame}
use Rattle.step_laws.proofs.JoinedChains.{step_edges}
use Rattle.step_laws.proofs.EachSlice.{each_good}
use Rattle.record_laws.proofs.MapFacts.{numbered, based, long, even, ends_stay}
use Rattle.picture_laws.specs.Areas.{label_from, left_later, right_later}
use Rattle.picture_laws.proofs.Sums.{int_sum, int_sum-append, int_sum-agree, int_sum-same, int_sum-flat_map, above_zero, below_zero, same_parts}
use Rattle.picture_laws.proofs.Triangles.{between, between_one, between_sum, edge_part, taken_part, sweep_moves}

abbrev no_step : MergeStep
no_step = record { loser = 0; winner = 0; made = 0 }

module _ (face : ℕ → Bool) where
  -- ---- segments

  -- what a segment between two faces gives
  abbrev pub segment_part : Seg → ℕ → ℕ → ℤ
  segment_part s l r = between face l r (shoelace_term s.a s.b)

  -- it does not depend on the direction
  turned_part : (s : Seg) (l r : ℕ) → segment_part (flip s) r l ≡ segment_part s l r
  turned_part s l r = by (face l) (face r)
    where
      by : (b c : Bool) → cond c (shoelace_term s.b s.a) (pos 0) -ℤ cond b (shoelace_term s.b s.a) (pos 0) ≡ cond b (shoelace_term s.a s.b) (pos 0) -ℤ cond c (shoelace_term s.a s.b) (pos 0)
      by true true = omega (arith, ints)
      by true false = omega (arith, ints)
      by false true = omega (arith, ints)
      by false false = omega (arith, ints)

  -- a row gives what its segments give
  row_part : (g : ℕ → ℕ) (i l r place : ℕ) (points : List Point)
      → int_sum (λ s. segment_part s.segment (g s.left) (g s.right)) (path_segments i l r place points) ≡ between face (g l) (g r) (shoelace points)
  row_part g i l r place [] = sym (none (face (g l)) (face (g r)))
    where
      none : (b c : Bool) → cond b (pos 0) (pos 0) -ℤ cond c (pos 0) (pos 0) ≡ pos 0
      none true true = refl
      none true false = refl
      none false true = refl
      none false false = refl
  row_part g i l r place (a ∷ []) = sym (none (face (g l)) (face (g r)))
    where
      none : (b c : Bool) → cond b (pos 0) (pos 0) -ℤ cond c (pos 0) (pos 0) ≡ pos 0
      none true true = refl
      none true false = refl
      none false true = refl
      none false false = refl
  row_part g i l r place (a ∷ b ∷ points) =
      ap (λ z. between face (g l) (g r) (shoelace_term a b) +ℤ z) (row_part g i l r (place + 1) (b ∷ points))
      ∙ sym (between_sum face (g l) (g r) (shoelace_term a b) (shoelace (b ∷ points)))

  -- so edges give what their segments give
  pub edges_part : (edges : List Edge) → int_sum (edge_part face) edges ≡ int_sum (λ s. segment_part s.segment s.left s.right) (edge_segments edges)
  edges_part edges =
      int_sum-same (edge_part face) (λ e. int_sum (λ s. segment_part s.segment s.left s.right) (path_segments e.key e.left e.right 0 e.points))
      (λ e. sym (row_part (λ n. n) e.key e.left e.right 0 e.points)) edges
      ∙ sym (int_sum-flat_map (λ s. segment_part s.segment s.left s.right) (λ e. path_segments e.key e.left e.right 0 e.points) edges)

  -- what an arc gives, with other labels
  abbrev pub arc_part : (ℕ → ℕ) → BaseArc → ℤ
  arc_part g a = between face (g a.left) (g a.right) (shoelace a.points)

  arcs_part : (g : ℕ → ℕ) (i : ℕ) (arcs : List BaseArc)
      → int_sum (λ s. segment_part s.segment (g s.left) (g s.right)) (arc_segments i arcs) ≡ int_sum (arc_part g) arcs
  arcs_part g i [] = refl
  arcs_part g i (a ∷ arcs) =
      int_sum-append (λ s. segment_part s.segment (g s.left) (g s.right)) (path_segments i a.left a.right 0 a.points) (arc_segments (i + 1) arcs)
      ∙ ap₂ (λ y z. y +ℤ z) (row_part g i a.left a.right 0 a.points) (arcs_part g (i + 1) arcs)

  -- ---- edges that are joined and turned, and other labels

  -- edges with the same segments give the same
  same_edges : (es fs : List Edge) → HaveSame es fs → int_sum (edge_part face) es ≡ int_sum (edge_part face) fs
  same_edges es fs same =
      edges_part es
      ∙ same_parts (λ s. segment_part s.segment s.left s.right) (λ s. segment_part s.segment s.left s.right) (edge_segments es) (edge_segments fs)
      (same.sums (λ s l r. above_zero (segment_part s l r)) (λ s l r. ap above_zero (turned_part s l r)))
      (same.sums (λ s l r. below_zero (segment_part s l r)) (λ s l r. ap below_zero (turned_part s l r)))
      ∙ sym (edges_part fs)

  -- edges with other labels, less those between faces that became one
  merged_part : (g : ℕ → ℕ) (es : List Edge) → int_sum (edge_part face) (merged_edges g es) ≡ int_sum (edge_part (λ n. face (g n))) es
  merged_part g [] = refl
  merged_part g (e ∷ es) = by (g e.left == g e.right) refl (merged_part g es)
    where
      kept : List Edge
      kept = filter (λ f. not (g f.left == g f.right)) es

      by : (b : Bool) → (g e.left == g e.right) ≡ b → int_sum (edge_part face) (merged_edges g es) ≡ int_sum (edge_part (λ n. face (g n))) es
          → int_sum (edge_part face) (map (relabelled_edge g) (cond (not b) (e ∷ kept) kept)) ≡ edge_part (λ n. face (g n)) e +ℤ int_sum (edge_part (λ n. face (g n))) es
      by true t h = let none = between_one face (g e.left) (g e.right) (shoelace e.points) (eqb-true _ _ t) in omega (arith, ints, none, h)
      by false t h = ap (λ z. edge_part (λ n. face (g n)) e +ℤ z) h

-- ---- the labels of faces beside removed vertices

-- what a face that is live after j steps becomes by the next step after k
label_from_next : (h : MergedMap) (j k f : ℕ) → j ≤ k → k < length h.steps → label_from h j (k + 1) f ≡ relabel (step_number h (k + 1)) (label_from h j k f)
label_from_next h j k f le lt =
    let count : k + 1 - j ≡ suc (k - j) = omega (arith, le) in
    let place : j + (k - j) ≡ k + 1 - 1 = omega (arith, le) in
    ap (λ i. label_after (take i (drop j h.steps)) f) count
    ∙ label_next (drop j h.steps) (k - j) no_step f (omega (arith, le, lt, length-drop j h.steps))
    ∙ ap (λ s. relabel s (label_from h j k f)) (get_or-drop j h.steps (k - j) no_step ∙ ap (λ i. get_or h.steps i no_step) place)

label_from_self : (h : MergedMap) (k f : ℕ) → label_from h k k f ≡ f
label_from_self h k f = let none : k - k ≡ 0 = omega arith in ap (λ i. label_after (take i (drop k h.steps)) f) none

-- what the faces after k steps lost by a removal
abbrev pub lost_part : (ℕ → Bool) → MergedMap → ℕ → Taken → ℤ
lost_part face h k t = between face (left_later h k t) (right_later h k t) (cross t.a t.b t.c)

module _ (m : BaseMap) (base : is_base m ≡ true) (planar : IsPartition (base_segments m)) where
  abbrev h : MergedMap
  h = merged m

  abbrev pub slice_edges : ℕ → List Edge
  slice_edges k = edges_of (merged m) k (removals_to (merged m) k) (chains_at (merged m) k)

  -- the areas after k steps
  abbrev pub AreasAre : ℕ → Type 0
  AreasAre k = (face : ℕ → Bool)
      → int_sum (edge_part face) (slice_edges k) ≡ int_sum (arc_part face (label_at (merged m) k)) m.arcs -ℤ int_sum (lost_part face (merged m) k) (trace_to (merged m) k)

  first_areas : AreasAre 0
  unfolding removals_to
  first_areas face =
      let segments =
      same_parts (λ s. segment_part face s.segment s.left s.right) (λ s. segment_part face s.segment (label_at h 0 s.left) (label_at h 0 s.right))
      (edge_segments (edges_of h 0 [] (chains_at h 0))) (base_segments m)
      (slice_sum (λ s l r. above_zero (segment_part face s l r)) (λ s l r. ap above_zero (turned_part face s l r)) m base planar.arcs.nodes 0 (chains_at h 0) (chains_exist h 0)
      (λ s l. ap above_zero (between_one face l l (shoelace_term s.a s.b) refl)))
      (slice_sum (λ s l r. below_zero (segment_part face s l r)) (λ s l r. ap below_zero (turned_part face s l r)) m base planar.arcs.nodes 0 (chains_at h 0) (chains_exist h 0)
      (λ s l. ap below_zero (between_one face l l (shoelace_term s.a s.b) refl))) in
      let edges = edges_part face (edges_of h 0 [] (chains_at h 0)) in
      let arcs = arcs_part face (label_at h 0) 0 m.arcs in
      less_none _ _ (edges ∙ segments ∙ arcs)
    where
      less_none : (x y : ℤ) → x ≡ y → x ≡ y -ℤ pos 0
      less_none x y e = omega (arith, ints, e)

  module _ (k : ℕ) (more : k < length (history_of m)) where
    abbrev step : MergeStep
    step = step_number (merged m) (k + 1)

    none_back : k + 1 - 1 ≡ k
    none_back = omega arith

    one_more : k + 1 ≡ suc k
    one_more = omega arith

    next_label : (f : ℕ) → label_at (merged m) (k + 1) f ≡ relabel step (label_at (merged m) k f)
    next_label f =
        ap (λ (i : ℕ). label_at (merged m) i f) one_more ∙ label_next (history_of m) k no_step f more
        ∙ ap (λ (i : ℕ). relabel (get_or (history_of m) i no_step) (label_at (merged m) k f)) (sym none_back)

    -- the edges of the step before its sweep have the segments of the slice before it, with the labels of the step
    joined : HaveSame (merged_edges (relabel step) (slice_edges k)) (edges_of h (k + 1) (removals_to h k) (chains_at h (k + 1)))
    joined = (step_edges h k (removals_to h k) (numbered m base planar) more (based m base planar) (long m base planar) (even m base planar k) (even m base planar (k + 1))
        (ends_stay m base planar k (omega (arith, more))) (each_good m base planar k (omega (arith, more))).sound).1

    before_part : (face : ℕ → Bool) → int_sum (edge_part face) (edges_before_sweep h (k + 1)) ≡ int_sum (edge_part (λ n. face (relabel step n))) (slice_edges k)
    before_part face =
        ap (λ (i : ℕ). int_sum (edge_part face) (edges_of h (k + 1) (removals_to h i) (chains_at h (k + 1)))) none_back
        ∙ sym (same_edges face (merged_edges (relabel step) (slice_edges k)) (edges_of h (k + 1) (removals_to h k) (chains_at h (k + 1))) joined)
        ∙ merged_part face (relabel step) (slice_edges k)

    after_is : edges_after_sweep h (k + 1) ≡ slice_edges (k + 1)
    after_is = (partition_has_removals m base planar (k + 1)).left (omega arith) (omega (arith, more))

    trace_next : trace_to h (k + 1) ≡ trace_to h k ++ trace_at h (k + 1)
    trace_next =
        ap (trace_to h) one_more
        ∙ ap (λ (b : Bool). cond b (trace_to h k ++ trace_at h (suc k)) (trace_to h k)) (lt-ltb k (length (history_of m)) more)
        ∙ ap (λ (i : ℕ). trace_to h k ++ trace_at h i) (sym one_more)

    -- the triangles of the steps before, with the labels of this one
    lost_before : (face : ℕ → Bool) → int_sum (lost_part (λ n. face (relabel step n)) h k) (trace_to h k) ≡ int_sum (lost_part face h (k + 1)) (trace_to h k)
    lost_before face =
        int_sum-agree (lost_part (λ n. face (relabel step n)) h k) (lost_part face h (k + 1)) (trace_to h k)
        (All-weaker (IsTakenAtStep h k) (λ t. lost_part (λ n. face (relabel step n)) h k t ≡ lost_part face h (k + 1) t)
        (λ t at. ap₂ (λ l r. between face l r (cross t.a t.b t.c))
        (sym (label_from_next h t.step k t.edge.left at.to_k more)) (sym (label_from_next h t.step k t.edge.right at.to_k more)))
        (trace_to h k) (trace_follows_rule h k))

    -- those of this step
    lost_here : (face : ℕ → Bool) → int_sum (taken_part face) (trace_at h (k + 1)) ≡ int_sum (lost_part face h (k + 1)) (trace_at h (k + 1))
    lost_here face =
        int_sum-agree (taken_part face) (lost_part face h (k + 1)) (trace_at h (k + 1))
        (All-weaker (λ t. t.step ≡ k + 1) (λ t. taken_part face t ≡ lost_part face h (k + 1) t)
        (λ t at. ap₂ (λ l r. between face l r (cross t.a t.b t.c))
        (sym (ap (λ j. label_from h j (k + 1) t.edge.left) at ∙ label_from_self h (k + 1) t.edge.left))
        (sym (ap (λ j. label_from h j (k + 1) t.edge.right) at ∙ label_from_self h (k + 1) t.edge.right)))
        (trace_at h (k + 1)) (at_step h (k + 1)).steps)

    next_areas : AreasAre k → AreasAre (k + 1)
    next_areas areas face =
        let after = ap (int_sum (edge_part face)) (sym after_is) in
        let swept = sweep_moves face h (k + 1) in
        let before = before_part face in
        let so_far = areas (λ n. face (relabel step n)) in
        let labels = int_sum-same (arc_part (λ n. face (relabel step n)) (label_at h k)) (arc_part face (label_at h (k + 1)))
        (λ a. ap₂ (λ l r. between face l r (shoelace a.points)) (sym (next_label a.left)) (sym (next_label a.right))) m.arcs in
        let whole = ap (int_sum (lost_part face h (k + 1))) trace_next ∙ int_sum-append (lost_part face h (k + 1)) (trace_to h k) (trace_at h (k + 1)) in
        put_together _ _ _ _ _ _ _ _ _ _ _ after swept before so_far labels (lost_before face) (lost_here face) whole
      where
        put_together : (now after before taken was arcs lost later earlier here whole : ℤ) → now ≡ after → after ≡ before -ℤ taken → before ≡ was → was ≡ arcs -ℤ lost
            → arcs ≡ later → lost ≡ earlier → taken ≡ here → whole ≡ earlier +ℤ here → now ≡ later -ℤ whole
        put_together now after before taken was arcs lost later earlier here whole a b c d e f g i = omega (arith, ints, a, b, c, d, e, f, g, i)

  pub each_areas : (k : ℕ) → k ≤ length (history_of m) → AreasAre k
  each_areas zero l = first_areas
  each_areas (suc k) l =
      let next : k + 1 ≡ suc k = omega arith in
      subst AreasAre next (next_areas k (omega (arith, l)) (each_areas k (omega (arith, l))))
