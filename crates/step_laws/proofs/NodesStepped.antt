-- Round each node the faces of edges still agree where a step changes their labels, and where edges are joined.
use Rattle.std.proofs.Common.{◌≡◌, ◌≢◌, ◌⊎◌, inl, inr, ℕ, ◌&&◌, not, Bool, true, false, cond, if◌then◌else◌, List, [], ◌∷◌, ◌++◌, map, filter, flat_map, Contains, None, refl, sym, ap, ap₂, ◌∙◌, subst}
use Rattle.std.proofs.lemmas.List.{map-append}
use Rattle.std.proofs.lemmas.List.Elements.{filter-append}
use Rattle.lemmas.specs.Sorting.{sort_by}
use Rattle.lemmas.proofs.Members.{in_head}
use Rattle.lemmas.proofs.Sorting.{sort_by-is_sorted, All-sort_by, filter-sort_by, map-sort_by, sorted_same, Contains-sort_by, Contains-from_sort_by}
use Rattle.tgap_model.specs.declared.geometry.Point.{Point}
use Rattle.tgap_model.specs.declared.segment.LabelledSegment.{LabelledSegment}
use Rattle.tgap_model.specs.declared.slice.Edge.{Edge}
use Rattle.tgap_model.specs.Base.{same_point}
use Rattle.tgap_model.specs.Partition.{Spoke, spokes_of, spokes_at, edge_segments}
use Rattle.base_check.proofs.Faults.{fault_of}
use Rattle.removal_laws.specs.StandLaws.{AreSound}
use Rattle.slice_laws.proofs.Relabelled.{with_labels}
use Rattle.slice_laws.proofs.SpokeRings.{with_faces, has_two, path_relabelled, closed_from_ring, ring_from_closed, comes_before, order_of_spokes}
use Rattle.step_laws.specs.NodeLaws.{AgreeRound}
use Rattle.step_laws.proofs.StepEdges.{merged_edges, SameSpokes, IsSpoke, HaveSame}
use Rattle.step_laws.proofs.MergedFaces.{test_swapped, stays, merged_segments}
use Rattle.step_laws.proofs.SpokesApart.{all_spokes, spokes_decided, spokes_leave}
use Rattle.step_laws.proofs.EndSpokes.{spoke_is_end, end_is_spoke}

-- ---- other labels

module _ (g : ℕ → ℕ) (v : Point) where
  -- the spokes of one segment, which stay with their other labels, or go together
  segment_merged : (s : LabelledSegment) → map (with_faces g) (filter (has_two g) (spokes_of v s)) ≡ cond (stays g s) (spokes_of v (with_labels g s)) []
  segment_merged s = by (s.starts && same_point s.segment.a v) (s.ends && same_point s.segment.b v)
    where
      first : Spoke
      first = record { toward = s.segment.b; left = s.left; right = s.right }

      last : Spoke
      last = record { toward = s.segment.a; left = s.right; right = s.left }

      both_tests : has_two g first ≡ has_two g last
      both_tests = ap not (test_swapped (g s.left) (g s.right))

      two : (b c : Bool) → b ≡ c
          → map (with_faces g) (cond b (first ∷ cond c (last ∷ []) []) (cond c (last ∷ []) [])) ≡ cond b (with_faces g first ∷ with_faces g last ∷ []) []
      two true true e = refl
      two true false e = absurd cc
      two false true e = absurd cc
      two false false e = refl

      one : (p : Spoke) (b c : Bool) → b ≡ c → map (with_faces g) (cond c (p ∷ []) []) ≡ cond b (with_faces g p ∷ []) []
      one p true true e = refl
      one p true false e = absurd cc
      one p false true e = absurd cc
      one p false false e = refl

      none : (b : Bool) → [] ≡ cond {A = List Spoke} b [] []
      none true = refl
      none false = refl

      by : (i j : Bool) → map (with_faces g) (filter (has_two g) ((if i then first ∷ [] else []) ++ (if j then last ∷ [] else [])))
          ≡ cond (stays g s) ((if i then with_faces g first ∷ [] else []) ++ (if j then with_faces g last ∷ [] else [])) []
      by true true = two (has_two g first) (has_two g last) both_tests
      by true false = one first (has_two g first) (has_two g first) refl
      by false true = one last (has_two g first) (has_two g last) both_tests
      by false false = none (has_two g first)

  spokes_merged : (ss : List LabelledSegment)
      → flat_map (spokes_of v) (map (with_labels g) (filter (stays g) ss)) ≡ map (with_faces g) (filter (has_two g) (flat_map (spokes_of v) ss))
  spokes_merged [] = refl
  spokes_merged (s ∷ ss) =
      by (stays g s) refl (spokes_merged ss)
      ∙ sym (map-append (with_faces g) (filter (has_two g) (spokes_of v s)) (filter (has_two g) (flat_map (spokes_of v) ss)))
      ∙ ap (map (with_faces g)) (sym (filter-append (has_two g) (spokes_of v s) (flat_map (spokes_of v) ss)))
    where
      by : (b : Bool) → stays g s ≡ b
          → flat_map (spokes_of v) (map (with_labels g) (filter (stays g) ss)) ≡ map (with_faces g) (filter (has_two g) (flat_map (spokes_of v) ss))
          → flat_map (spokes_of v) (map (with_labels g) (cond b (s ∷ filter (stays g) ss) (filter (stays g) ss)))
          ≡ map (with_faces g) (filter (has_two g) (spokes_of v s)) ++ map (with_faces g) (filter (has_two g) (flat_map (spokes_of v) ss))
      by true e h = ap₂ (λ (us ws : List Spoke). us ++ ws) (sym (segment_merged s ∙ ap (λ (b : Bool). cond b (spokes_of v (with_labels g s)) []) e)) h
      by false e h = ap₂ (λ (us ws : List Spoke). us ++ ws) (sym (segment_merged s ∙ ap (λ (b : Bool). cond b (spokes_of v (with_labels g s)) []) e)) h

  module _ (es : List Edge) (sound : AreSound es) where
    merged_ring : spokes_at v (edge_segments (merged_edges g es)) ≡ map (with_faces g) (filter (has_two g) (spokes_at v (edge_segments es)))
    merged_ring =
        ap (sort_by (comes_before v)) (ap (flat_map (spokes_of v)) (merged_segments g es) ∙ spokes_merged (edge_segments es))
        ∙ sym (map-sort_by (λ (p : Spoke). Unit {0}) (comes_before v) (comes_before v) (with_faces g) (λ p q i j. refl) (filter (has_two g) (all_spokes v es)) (λ i d l. tt))
        ∙ ap (map (with_faces g)) (sym (filter-sort_by (order_of_spokes v) (has_two g) (all_spokes v es) (spokes_leave es sound v) (spokes_decided es sound v)))

    -- the faces still agree
    pub merged_round : AgreeRound v es → AgreeRound v (merged_edges g es)
    merged_round h =
        let closed = closed_from_ring v (spokes_at v (edge_segments es)) h in
        ap (fault_of v) merged_ring
        ∙ ring_from_closed v (map (with_faces g) (filter (has_two g) (spokes_at v (edge_segments es)))) (g closed.0)
        (path_relabelled g closed.0 closed.0 (spokes_at v (edge_segments es)) closed.1)

-- ---- the same edges, some of them joined

module _ (es fs : List Edge) (sound : AreSound es) (others : AreSound fs) (v : Point) where
  -- the same spokes are one ring
  same_ring : SameSpokes es fs v → spokes_at v (edge_segments es) ≡ spokes_at v (edge_segments fs)
  same_ring same =
      sorted_same (order_of_spokes v) (spokes_at v (edge_segments es)) (spokes_at v (edge_segments fs))
      (All-sort_by (comes_before v) (λ q. v ≢ q.toward) (all_spokes v es) (spokes_leave es sound v))
      (All-sort_by (comes_before v) (λ q. v ≢ q.toward) (all_spokes v fs) (spokes_leave fs others v))
      (sort_by-is_sorted (comes_before v) (all_spokes v es) (spokes_decided es sound v))
      (sort_by-is_sorted (comes_before v) (all_spokes v fs) (spokes_decided fs others v))
      (λ q c. Contains-sort_by (comes_before v) (all_spokes v fs) q (end_is_spoke fs others v q ((same q).0
      (spoke_is_end es sound v q (Contains-from_sort_by (comes_before v) (all_spokes v es) q c)))))
      (λ q c. Contains-sort_by (comes_before v) (all_spokes v es) q (end_is_spoke es sound v q ((same q).1
      (spoke_is_end fs others v q (Contains-from_sort_by (comes_before v) (all_spokes v fs) q c)))))

  -- no spokes are none at fault
  none_round : ((q : Spoke) → IsSpoke fs v q → ⊥) → AgreeRound v fs
  none_round none = by (spokes_at v (edge_segments fs)) refl
    where
      by : (ps : List Spoke) → spokes_at v (edge_segments fs) ≡ ps → fault_of v (spokes_at v (edge_segments fs)) ≡ None
      by [] e = ap (fault_of v) e
      by (p ∷ ps) e =
          absurd (none p (spoke_is_end fs others v p (Contains-from_sort_by (comes_before v) (all_spokes v fs) p
          (subst (λ qs. Contains qs p) (sym e) (in_head p ps)))))

  pub same_round : HaveSame es fs → AgreeRound v es → AgreeRound v fs
  same_round same h = by (same.nodes v)
    where
      by : SameSpokes es fs v ⊎ ((q : Spoke) → IsSpoke fs v q → ⊥) → AgreeRound v fs
      by (inl spokes) = ap (fault_of v) (sym (same_ring spokes)) ∙ h
      by (inr none) = none_round none
