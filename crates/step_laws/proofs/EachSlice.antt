-- From one step to the next the slice of a planar partition stays sound, its faces agree down each line and round each node, and a
-- point outside the triangles of the removed vertices stays inside the ancestors of the base face that it is inside.
use Rattle.std.proofs.Common.{◌≡◌, ◌≢◌, ℕ, zero, suc, ◌+◌, ◌-◌, ◌<◌, ◌≤◌, ◌==◌, Bool, true, false, cond, List, [], ◌∷◌, ◌++◌, filter, not, length, get_or, All, refl, sym, ap, ◌∙◌, subst, arith}
use Rattle.std.proofs.lemmas.Bool.{and_from, le-leb, lt-ltb, ne_eqb}
use Rattle.std.proofs.lemmas.List.Elements.{All-nil, All-cons, All-weaker}
use Rattle.std.proofs.lemmas.List.Kept.{AllPairs-filter}
use Rattle.lemmas.proofs.Members.{All-flat_map}
use Rattle.tgap_model.specs.declared.geometry.Point.{Point}
use Rattle.tgap_model.specs.declared.geometry.Fraction.{Fraction}
use Rattle.tgap_model.specs.declared.base.BaseArc.{BaseArc}
use Rattle.tgap_model.specs.declared.merge.MergeStep.{MergeStep}
use Rattle.tgap_model.specs.declared.segment.LabelledSegment.{LabelledSegment}
use Rattle.tgap_model.specs.declared.slice.Edge.{Edge}
use Rattle.tgap_model.specs.Base.{BaseMap, is_base}
use Rattle.tgap_model.specs.Segment.{Line, IsBetweenColumns, line_through}
use Rattle.tgap_model.specs.Partition.{base_segments, path_segments, edge_segments, IsPartition}
use Rattle.map_laws.specs.Inside.{is_inside}
use Rattle.tgap_model.specs.History.{relabel, AreNumbered, history_of}
use Rattle.tgap_model.specs.Merged.{merged, label_at, step_number}
use Rattle.tgap_model.specs.Chains.{chains_at}
use Rattle.tgap_model.specs.Removals.{edges_of, is_removed, removals_to}
use Rattle.tgap_model.specs.Slice.{slice}
use Rattle.tgap_model.proofs.BaseFacts.{ArcFacts, base_facts, each_arc}
use Rattle.map_laws.specs.ChainLaws.{has_base_faces, IsEven, HasEvenSides}
use Rattle.map_laws.proofs.ChainsExist.{chains_exist}
use Rattle.map_laws.proofs.Lists.{all_members, members_all, kept_among}
use Rattle.map_laws.proofs.MergeSteps.{label_next}
use Rattle.face_merge.proofs.Start.{history_numbered}
use Rattle.slice_laws.specs.SliceLaws.{KeepsFaces}
use Rattle.slice_laws.proofs.EvenSides.{chains_keep_faces}
use Rattle.slice_laws.proofs.Outside.{outside_label}
use Rattle.slice_laws.proofs.SliceNodes.{slice_nodes}
use Rattle.slice_laws.proofs.SliceStacks.{slice_agrees}
use Rattle.slice_laws.proofs.Unions.{face_below, inside_labels, inside_slice, there, back}
use Rattle.removal_laws.specs.Trace.{swept_edges, edges_before_sweep, edges_after_sweep, step_area, trace_at, trace_to}
use Rattle.removal_laws.specs.StandLaws.{AreSound}
use Rattle.removal_laws.specs.StackLaws.{AgreeOn}
use Rattle.removal_laws.specs.InsideLaws.{is_in_triangle, IsOutside}
use Rattle.removal_laws.specs.EndLaws.{IsChainEnd}
use Rattle.removal_laws.proofs.EndsStay.{ends_are_not_listed}
use Rattle.removal_laws.proofs.InsideKept.{step_keeps_inside}
use Rattle.removal_laws.proofs.Pairs.{all_left, all_right}
use Rattle.removal_laws.proofs.Sound.{sweep_keeps_sound}
use Rattle.removal_laws.proofs.StackKept.{sweep_keeps_faces}
use Rattle.removal_laws.proofs.StandOnce.{chains_stand_once, partition_has_removals}
use Rattle.step_laws.proofs.StepEdges.{relabelled_edge, merged_edges, HaveSame}
use Rattle.step_laws.proofs.SoundEdges.{sound_by_members, sound_labels}
use Rattle.step_laws.proofs.SameFaces.{same_agree, same_inside}
use Rattle.step_laws.proofs.MergedFaces.{IsBelow, merged_agree, merged_below}
use Rattle.step_laws.proofs.JoinedChains.{step_edges}
use Rattle.step_laws.proofs.FirstSlice.{all_sound, faces_differ}
use Rattle.step_laws.specs.StepLaws.{SlicesStayPlanar, SlicesStayPartitions, FacesStayUnions}
use Rattle.step_laws.specs.NodeLaws.{AgreeRound}
use Rattle.step_laws.proofs.NodesStepped.{merged_round, same_round}
use Rattle.step_laws.proofs.NodesKept.{sweep_keeps_nodes}

abbrev no_step : MergeStep
no_step = record { loser = 0; winner = 0; made = 0 }

-- the edges with other labels are sound
merged_sound : (g : ℕ → ℕ) (es : List Edge) → AreSound es → AreSound (merged_edges g es)
merged_sound g es sound =
    sound_labels (relabelled_edge g) (filter (λ e. not (g e.left == g e.right)) es) (λ e. (refl, refl))
    (sound_by_members es (filter (λ e. not (g e.left == g e.right)) es) sound (AllPairs-filter (λ (e f : Edge). e.key ≢ f.key) (λ e. not (g e.left == g e.right)) es sound.keys) (λ e m. kept_among (λ e. not (g e.left == g e.right)) es e m))

module _ (m : BaseMap) (base : is_base m ≡ true) (planar : IsPartition (base_segments m)) where
  -- ---- what is known of the map at every step

  numbered : AreNumbered (length m.classes) (history_of m)
  numbered = history_numbered m base

  based : All (λ a. has_base_faces (merged m) a ≡ true) m.arcs
  based = All-weaker (λ a. ArcFacts (length m.classes) a) (λ a. has_base_faces (merged m) a ≡ true) (λ a f. both a f) m.arcs (each_arc m (base_facts m base))
    where
      both : (a : BaseArc) → ArcFacts (length m.classes) a → has_base_faces (merged m) a ≡ true
      both a f = and_from _ _ (le-leb a.left (length m.classes) f.left) (le-leb a.right (length m.classes) f.right)

  long : All (λ a. 2 ≤ length a.points) m.arcs
  long = All-weaker (λ a. ArcFacts (length m.classes) a) (λ a. 2 ≤ length a.points) (λ a f. f.two_points) m.arcs (each_arc m (base_facts m base))

  even : (k : ℕ) → HasEvenSides (merged m) k
  even k =
      all_members (IsEven (merged m) k) (chains_at (merged m) k) (λ c n.
      let f : KeepsFaces (merged m) k [] c = members_all (KeepsFaces (merged m) k []) (chains_at (merged m) k) c (chains_keep_faces m base planar k []) n in
      record { left = f.left; right = f.right })

  ends_stay : (k : ℕ) → k ≤ length (history_of m) → (p : Point) → IsChainEnd m.arcs (chains_at (merged m) k) p → is_removed (removals_to (merged m) k) p ≡ false
  ends_stay k l =
      ends_are_not_listed (merged m) k (record { numbered = numbered; within = l; faces = based; even = λ j less. even j }) long
      (λ j one last. chains_stand_once (merged m) base planar.arcs.apart j)

  -- ---- the edges of the slice after k steps

  abbrev pub slice_edges : ℕ → List Edge
  slice_edges k = edges_of (merged m) k (removals_to (merged m) k) (chains_at (merged m) k)

  pub record IsGood (k : ℕ) : Type 0 where
    pub sound : AreSound (slice_edges k)
    pub stacks : (l : Line) → IsBetweenColumns l → AgreeOn l (slice_edges k)
    pub nodes : (v : Point) → AgreeRound v (slice_edges k)
    pub below : (p : Fraction) → IsBetweenColumns (line_through p) → IsOutside p (trace_to (merged m) k)
        → IsBelow (slice_edges k) p (label_at (merged m) k (face_below m p))

  -- before the first step
  first_good : IsGood 0
  unfolding removals_to
  first_good = record {
    sound = all_sound m base planar 0;
    stacks = λ l between. slice_agrees m base planar 0 (chains_at (merged m) 0) (chains_exist (merged m) 0) l between.rational between;
    nodes = slice_nodes m base planar 0 (chains_at (merged m) 0) (chains_exist (merged m) 0);
    below = λ p between outside f n.
        inside_slice m base planar 0 p between f (chains_at (merged m) 0) (chains_exist (merged m) 0) ∙ inside_labels m base planar 0 p between f n;
  }

  module _ (k : ℕ) (more : k < length (history_of m)) (good : IsGood k) where
    abbrev step : MergeStep
    step = step_number (merged m) (k + 1)

    none_back : k + 1 - 1 ≡ k
    none_back = omega arith

    one_more : k + 1 ≡ suc k
    one_more = omega arith

    next_label : (f : ℕ) → label_at (merged m) (k + 1) f ≡ relabel step (label_at (merged m) k f)
    next_label f =
        ap (λ (i : ℕ). label_at (merged m) i f) one_more ∙ label_next (history_of m) k no_step f more
        ∙ ap (λ (i : ℕ). relabel (get_or (history_of m) i no_step) (label_at (merged m) k f)) (sym none_back)

    outside_stays : relabel step 0 ≡ 0
    outside_stays =
        ap (relabel step) (sym (outside_label m k)) ∙ sym (next_label 0) ∙ outside_label m (k + 1)

    -- ---- the labels change, and edges are joined

    joined : AreSound (edges_of (merged m) (k + 1) (removals_to (merged m) k) (chains_at (merged m) (k + 1)))
        × HaveSame (merged_edges (relabel step) (slice_edges k)) (edges_of (merged m) (k + 1) (removals_to (merged m) k) (chains_at (merged m) (k + 1)))
    joined = step_edges (merged m) k (removals_to (merged m) k) numbered more based long (even k) (even (k + 1)) (ends_stay k (omega (arith, more))) good.sound

    before_is : edges_before_sweep (merged m) (k + 1) ≡ edges_of (merged m) (k + 1) (removals_to (merged m) k) (chains_at (merged m) (k + 1))
    before_is = ap (λ (i : ℕ). edges_of (merged m) (k + 1) (removals_to (merged m) i) (chains_at (merged m) (k + 1))) none_back

    before_sound : AreSound (edges_before_sweep (merged m) (k + 1))
    before_sound = subst AreSound (sym before_is) joined.0

    before_stacks : (l : Line) → IsBetweenColumns l → AgreeOn l (edges_before_sweep (merged m) (k + 1))
    before_stacks l between = subst (AgreeOn l) (sym before_is)
        (same_agree (merged_edges (relabel step) (slice_edges k)) _ (merged_sound (relabel step) (slice_edges k) good.sound).apart joined.0.apart joined.1 l between
        (merged_agree (relabel step) outside_stays (slice_edges k) good.sound.apart l between (good.stacks l between)))

    before_nodes : (v : Point) → AgreeRound v (edges_before_sweep (merged m) (k + 1))
    before_nodes v = subst (AgreeRound v) (sym before_is)
        (same_round (merged_edges (relabel step) (slice_edges k)) _ (merged_sound (relabel step) (slice_edges k) good.sound) joined.0 v joined.1
        (merged_round (relabel step) v (slice_edges k) good.sound (good.nodes v)))

    before_below : (p : Fraction) → IsBetweenColumns (line_through p) → IsOutside p (trace_to (merged m) k)
        → IsBelow (edges_before_sweep (merged m) (k + 1)) p (label_at (merged m) (k + 1) (face_below m p))
    before_below p between outside f n =
        ap (λ es. is_inside (edge_segments es) f p) before_is
        ∙ sym (same_inside (merged_edges (relabel step) (slice_edges k)) _ joined.1 f p)
        ∙ merged_below (relabel step) outside_stays (slice_edges k) good.sound.apart p between (good.stacks (line_through p) between)
        (label_at (merged m) k (face_below m p)) (good.below p between outside) f n
        ∙ ap (λ (b : ℕ). b == f) (sym (next_label (face_below m p)))

    -- ---- then vertices are removed

    after_is : edges_after_sweep (merged m) (k + 1) ≡ slice_edges (k + 1)
    after_is = (partition_has_removals m base planar (k + 1)).left (omega arith) (omega (arith, more))

    after_sound : AreSound (edges_after_sweep (merged m) (k + 1))
    after_sound = by (m.rules.ratio == 0)
      where
        by : (b : Bool) → AreSound (cond b (edges_before_sweep (merged m) (k + 1)) (swept_edges m.rules.ratio (step_area (merged m) (k + 1)) step.made [] (edges_before_sweep (merged m) (k + 1))))
        by true = before_sound
        by false = sweep_keeps_sound m.rules.ratio (step_area (merged m) (k + 1)) step.made (edges_before_sweep (merged m) (k + 1)) before_sound

    after_stacks : (l : Line) → IsBetweenColumns l → AgreeOn l (edges_after_sweep (merged m) (k + 1))
    after_stacks l between = by (m.rules.ratio == 0)
      where
        by : (b : Bool) → AgreeOn l (cond b (edges_before_sweep (merged m) (k + 1)) (swept_edges m.rules.ratio (step_area (merged m) (k + 1)) step.made [] (edges_before_sweep (merged m) (k + 1))))
        by true = before_stacks l between
        by false = sweep_keeps_faces m.rules.ratio (step_area (merged m) (k + 1)) step.made (edges_before_sweep (merged m) (k + 1))
            before_sound.keys before_sound.apart l between (before_stacks l between)

    after_nodes : (v : Point) → AgreeRound v (edges_after_sweep (merged m) (k + 1))
    after_nodes v = by (m.rules.ratio == 0)
      where
        by : (b : Bool) → AgreeRound v (cond b (edges_before_sweep (merged m) (k + 1)) (swept_edges m.rules.ratio (step_area (merged m) (k + 1)) step.made [] (edges_before_sweep (merged m) (k + 1))))
        by true = before_nodes v
        by false = sweep_keeps_nodes m.rules.ratio (step_area (merged m) (k + 1)) step.made (edges_before_sweep (merged m) (k + 1)) before_sound v (before_nodes v)

    trace_next : trace_to (merged m) (k + 1) ≡ trace_to (merged m) k ++ trace_at (merged m) (k + 1)
    trace_next =
        ap (trace_to (merged m)) one_more
        ∙ ap (λ (b : Bool). cond b (trace_to (merged m) k ++ trace_at (merged m) (suc k)) (trace_to (merged m) k)) (lt-ltb k (length (history_of m)) more)
        ∙ ap (λ (i : ℕ). trace_to (merged m) k ++ trace_at (merged m) i) (sym one_more)

    next_good : IsGood (k + 1)
    next_good = record {
      sound = subst AreSound after_is after_sound;
      stacks = λ l between. subst (AgreeOn l) after_is (after_stacks l between);
      nodes = λ v. subst (AgreeRound v) after_is (after_nodes v);
      below = λ p between outside f n.
          let all : IsOutside p (trace_to (merged m) k ++ trace_at (merged m) (k + 1)) = subst (IsOutside p) trace_next outside in
          ap (λ es. is_inside (edge_segments es) f p) (sym after_is)
          ∙ step_keeps_inside (merged m) (k + 1) f p (all_right (λ t. is_in_triangle t.a t.b t.c p ≡ false) (trace_to (merged m) k) (trace_at (merged m) (k + 1)) all)
          ∙ before_below p between (all_left (λ t. is_in_triangle t.a t.b t.c p ≡ false) (trace_to (merged m) k) (trace_at (merged m) (k + 1)) all) f n;
    }

  pub each_good : (k : ℕ) → k ≤ length (history_of m) → IsGood k
  each_good zero l = first_good
  each_good (suc k) l =
      let next : k + 1 ≡ suc k = omega arith in
      subst IsGood next (next_good k (omega (arith, l)) (each_good k (omega (arith, l))))

-- ---- the laws

pub slices_stay_planar : SlicesStayPlanar
unfolding slice
slices_stay_planar m base planar k l =
    let good = each_good m base planar k l in
    record { sound = good.sound; two_faces = faces_differ m base planar k (removals_to (merged m) k); stacks = good.stacks }

-- where the two faces of each edge differ, those of each segment do
row_faces : (key l r place : ℕ) (points : List Point) → l ≢ r → All (λ (s : LabelledSegment). (s.left == s.right) ≡ false) (path_segments key l r place points)
row_faces key l r place [] n = All-nil (λ (s : LabelledSegment). (s.left == s.right) ≡ false)
row_faces key l r place (a ∷ []) n = All-nil (λ (s : LabelledSegment). (s.left == s.right) ≡ false)
row_faces key l r place (a ∷ b ∷ points) n =
    All-cons (λ (s : LabelledSegment). (s.left == s.right) ≡ false) _ (path_segments key l r (place + 1) (b ∷ points)) (ne_eqb l r n)
    (row_faces key l r (place + 1) (b ∷ points) n)

segment_faces : (es : List Edge) → All (λ e. e.left ≢ e.right) es → All (λ (s : LabelledSegment). (s.left == s.right) ≡ false) (edge_segments es)
segment_faces es h = All-flat_map (λ (s : LabelledSegment). (s.left == s.right) ≡ false) (λ (e : Edge). path_segments e.key e.left e.right 0 e.points) es
    (All-weaker (λ (e : Edge). e.left ≢ e.right) (λ (e : Edge). All (λ (s : LabelledSegment). (s.left == s.right) ≡ false) (path_segments e.key e.left e.right 0 e.points))
    (λ e n. row_faces e.key e.left e.right 0 e.points n) es h)

pub slices_stay_partitions : SlicesStayPartitions
unfolding slice
slices_stay_partitions m base planar k l =
    let good = each_good m base planar k l in
    record {
      arcs = record {
        apart = good.sound.apart;
        two_faces = segment_faces (slice_edges m base planar k) (faces_differ m base planar k (removals_to (merged m) k));
        nodes = good.nodes;
      };
      stacks = good.stacks;
    }

pub faces_stay_unions : FacesStayUnions
unfolding slice
faces_stay_unions m base planar k l f n p between outside =
    let same = (each_good m base planar k l).below p between outside f n in
    (λ h. there m base planar k p between f n (sym same ∙ h), λ i. same ∙ back m base planar k p between f n i)
