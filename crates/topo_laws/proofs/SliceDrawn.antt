-- A slice of a planar partition is such as the reader needs it, and its text tells no more than a map has room for.
use Rattle.std.proofs.Common.{◌≡◌, ◌≢◌, ℕ, zero, suc, ◌+◌, ◌-◌, ◌^◌, ◌<◌, ◌≤◌, ◌==◌, eqb, nat_lt, Bool, true, false, cond, not, List, [], ◌∷◌, length, map, filter, reverse, drop, fold, sum_by, get_or, All, AllPairs, Contains, refl, sym, ap, ◌∙◌, subst, eq-eqb, ne_eqb, arith}
use Rattle.std.specs.List.{list_all, range_with_len}
use Rattle.std.proofs.lemmas.Bool.{and_parts, leb-true, ltb-true, eqb-true}
use Rattle.std.proofs.lemmas.List.{length-map, length-append, length-drop, length-reverse, get_or-map}
use Rattle.std.proofs.lemmas.List.Elements.{All-nil, All-cons, All-append, All-map, All-filter, All-contains, All-head, All-tail, Contains-get_or}
use Rattle.std.proofs.lemmas.List.Folds.{Any-from_list_any, list_any-from_Any}
use Rattle.std.proofs.lemmas.List.FromFn.{length-range_with_len, get_or-range_with_len}
use Rattle.std.proofs.lemmas.List.Kept.{AllPairs-filter}
use Rattle.std.proofs.lemmas.List.Sums.{length-filter, list_all-from_AllPass, AllPass-from_list_all, sum_by-cons, count_by-le-length}
use Rattle.std.proofs.lemmas.Map.Keys.{IsDistinct-from_apart}
use Rattle.std.proofs.lemmas.Map.Steps.{length-le_from_distinct_below}
use Rattle.lemmas.proofs.Counts.{sum_by-map}
use Rattle.lemmas.proofs.Members.{Contains-filter, Contains-map}
use Rattle.tgap_model.specs.declared.geometry.Point.{Point}
use Rattle.tgap_model.specs.declared.base.BaseArc.{BaseArc}
use Rattle.tgap_model.specs.declared.merge.MergeStep.{MergeStep}
use Rattle.tgap_model.specs.declared.slice.Edge.{Edge}
use Rattle.tgap_model.specs.declared.slice.FaceRow.{FaceRow}
use Rattle.tgap_model.specs.declared.slice.Removal.{Removal}
use Rattle.tgap_model.specs.declared.limits.TheConstants.{MAX_ARCS, MAX_POINTS, MAX_FACES}
use Rattle.tgap_model.specs.Base.{BaseMap, is_base, in_limits, no_repeat}
use Rattle.tgap_model.specs.Partition.{IsPartition, base_segments}
use Rattle.tgap_model.specs.History.{class_of, classes_after, history_of}
use Rattle.tgap_model.specs.Merged.{MergedMap, merged, label_at, all_classes, is_live, live_faces, is_border}
use Rattle.tgap_model.specs.Chains.{Link, Chain, arc_number, link_points, chain_points, key, chains_at}
use Rattle.tgap_model.specs.Removals.{is_removed, without, edge_of, edges_of, removals_to}
use Rattle.tgap_model.specs.Slice.{face_row, slice}
use Rattle.tgap_model.proofs.BaseFacts.{BaseFacts, base_facts, RulesFacts, rules_facts}
use Rattle.map_laws.proofs.ChainsExist.{chains_exist}
use Rattle.map_laws.proofs.Lists.{sum_less}
use Rattle.map_laws.proofs.MergeSteps.{label_bounded}
use Rattle.face_merge.proofs.Start.{history_numbered}
use Rattle.face_merge.proofs.Steps.{length-history_of}
use Rattle.grid_index.specs.Live.{AreLive}
use Rattle.slice_laws.proofs.CountedSums.{sum_of_chains}
use Rattle.slice_laws.proofs.Outside.{outside_label}
use Rattle.removal_laws.proofs.ChainEnds.{among_contained}
use Rattle.removal_laws.proofs.ChainLengths.{chain_length, kept_length}
use Rattle.step_laws.specs.StepLaws.{ArePlanar}
use Rattle.step_laws.proofs.EachSlice.{slices_stay_planar}
use Rattle.record_laws.proofs.MapFacts.{based}
use Rattle.tgap_build.proofs.Alive.{key_within}
use Rattle.tgap_build.proofs.EachLive.{after_live}
use Rattle.ring_walk.specs.declared.side.Side.{Side}
use Rattle.slice_read.specs.Ends.{chain_ends, slice_ends}
use Rattle.topo_write.specs.Polygons.{lines_of, Polygon}
use Rattle.topo_laws.specs.RingFaces.{slice_spans}
use Rattle.topo_laws.specs.Told.{IsTellable}
use Rattle.topo_laws.proofs.SliceSpans.{rings_have_one_face}
use Rattle.topo_laws.proofs.PartRings.{ArePolygons}
use Rattle.topo_laws.proofs.ReadBase.{HasRow, IsDrawn, ringed}

-- ---- lists

-- what holds of each member, and of the default, holds at each place
each_or : {A : Type 0} (P : A → Type 0) (xs : List A) (i : ℕ) (d : A) → P d → All P xs → P (get_or xs i d)
each_or P [] i d none h = none
each_or P (x ∷ xs) zero d none h = All-head P x xs h
each_or P (x ∷ xs) (suc i) d none h = each_or P xs i d none (All-tail P x xs h)

pairs_to_map : {A B : Type 0} (R : B → B → Type 0) (f : A → B) (xs : List A) → AllPairs (λ x y. R (f x) (f y)) xs → AllPairs R (map f xs)
pairs_to_map R f [] h i j d less short = absurd (omega (arith, short))
pairs_to_map R f (x ∷ xs) h i j d less short =
    let long = length-map (x ∷ xs) f in
    let l : j < length (x ∷ xs) = omega (arith, short, long) in
    let k : i < length (x ∷ xs) = omega (arith, less, l) in
    subst (λ y. R y (get_or (map f (x ∷ xs)) j d)) (sym (get_or-map f (x ∷ xs) i x d k))
    (subst (R (f (get_or (x ∷ xs) i x))) (sym (get_or-map f (x ∷ xs) j x d l)) (h i j x less l))

-- different numbers below n are no more than n
few_below : (n : ℕ) (ks : List ℕ) → AllPairs (λ k l. k < l) ks → All (λ k. k < n) ks → length ks ≤ n
few_below n ks up below = length-le_from_distinct_below ks n
    (IsDistinct-from_apart eqb ks (λ i j d less short. let l = up i j d less short in ne_eqb (get_or ks i d) (get_or ks j d) (λ e. absurd (omega (arith, l, e)))))
    (λ q c.
    let a = Any-from_list_any (eqb q) ks c in
    let same = eqb-true q a.1 a.4 in
    let l = subst (λ k. k < n) a.3 (below a.0 a.1 a.2) in
    omega (arith, same, l))

-- ---- classes

-- the classes of new faces are those of others
classes_within : (n : ℕ) (steps : List MergeStep) (classes : List ℕ) → 0 < n → All (λ c. c < n) classes → All (λ c. c < n) (fold (λ ks s. classes_after s ks) classes steps)
classes_within n [] classes some h = h
classes_within n (s ∷ steps) classes some h =
    classes_within n steps (classes_after s classes) some
    (All-append (λ c. c < n) classes (class_of classes s.winner ∷ []) h
    (All-cons (λ c. c < n) (class_of classes s.winner) [] (each_or (λ c. c < n) classes (s.winner - 1) 0 some h) (All-nil (λ c. c < n))))

module _ (m : BaseMap) (base : is_base m ≡ true) (planar : IsPartition (base_segments m)) (k : ℕ) (within : k ≤ length (history_of m)) where
  abbrev h : MergedMap
  h = merged m

  abbrev chains : List Chain
  chains = chains_at (merged m) k

  abbrev gone : List Removal
  gone = removals_to (merged m) k

  abbrev pub edges : List Edge
  edges = edges_of (merged m) k (removals_to (merged m) k) (chains_at (merged m) k)

  abbrev pub rows : List FaceRow
  rows = map (face_row (merged m)) (live_faces (merged m) k)

  facts : BaseFacts m
  facts = base_facts m base

  rules : RulesFacts m.rules
  rules = rules_facts m.rules facts.rules

  live : AreLive edges
  live = after_live m base planar k within

  planar_edges : ArePlanar edges
  unfolding slice
  planar_edges = slices_stay_planar m base planar k within

  -- ---- rows

  -- the label of a base face is 0, or has a row
  label_row : (g : ℕ) → g ≤ length m.classes → label_at (merged m) k g ≢ 0 → HasRow rows (label_at (merged m) k g)
  label_row g le some =
      let f = label_at h k g in
      let n = length m.classes in
      let one : g ≢ 0 = λ e. some (ap (label_at h k) e ∙ outside_label m k) in
      let bound : f ≤ n + k = label_bounded n (history_of m) k g (history_numbered m base) within le in
      let long = length-range_with_len 1 n in
      let longer = length-range_with_len 1 (n + k) in
      let place : 1 + (g - 1) ≡ g = omega (arith, one) in
      let here : 1 + (f - 1) ≡ f = omega (arith, some) in
      let lives : is_live h k f ≡ true = list_any-from_Any (λ b. label_at h k b == f) (range_with_len 1 n)
      (g - 1, g, omega (arith, one, le, long), get_or-range_with_len 1 n (g - 1) g (omega (arith, one, le)) ∙ place, eq-eqb f f refl) in
      let among : Contains (live_faces h k) f = Contains-filter (is_live h k) (range_with_len 1 (n + k)) f
      (f - 1, omega (arith, some, bound, longer), get_or-range_with_len 1 (n + k) (f - 1) f (omega (arith, some, bound)) ∙ here) lives in
      (face_row h f, Contains-map (face_row h) (live_faces h k) f among, refl)

  arc_faces : (i : ℕ) → i < length m.arcs → ((arc_number m.arcs i).left ≤ length m.classes) × ((arc_number m.arcs i).right ≤ length m.classes)
  arc_faces i l =
      let parts = and_parts _ _ (based m base planar i (arc_number [] 0) l) in
      (leb-true _ _ parts.0, leb-true _ _ parts.1)

  sides_have_rows : All (λ e. (e.left ≢ 0 → HasRow rows e.left) × (e.right ≢ 0 → HasRow rows e.right)) edges
  sides_have_rows = All-map (λ (e : Edge). (e.left ≢ 0 → HasRow rows e.left) × (e.right ≢ 0 → HasRow rows e.right)) (edge_of h k gone) chains (λ i d l.
      let c = get_or chains i d in
      let a = key_within h k c (among_contained chains c (Contains-get_or chains i d l)) in
      let sides = arc_faces (key c) a in
      (label_row (arc_number m.arcs (key c)).left sides.0, label_row (arc_number m.arcs (key c)).right sides.1))

  live_differ : AllPairs (λ f g. f ≢ g) (live_faces (merged m) k)
  live_differ = AllPairs-filter (λ f g. f ≢ g) (is_live h k) (range_with_len 1 (length m.classes + k)) (λ i j d less short e.
      let long = length-range_with_len 1 (length m.classes + k) in
      let first = get_or-range_with_len 1 (length m.classes + k) i d (omega (arith, less, short, long)) in
      let second = get_or-range_with_len 1 (length m.classes + k) j d (omega (arith, short, long)) in
      omega (arith, first, second, less, e))

  -- ---- the slice as the reader needs it

  drawn : IsDrawn edges (map (chain_ends m.arcs) chains) rows
  unfolding slice slice_ends
  drawn = record {
    paired = length-map chains (chain_ends m.arcs) ∙ sym (length-map chains (edge_of h k gone));
    lines = All-map (λ ps. (2 ≤ length ps) × (no_repeat ps ≡ true)) (λ (e : Edge). e.points) edges (λ i d l. ((live.each i d l).some, planar_edges.sound.steps i d l));
    two_faces = planar_edges.two_faces;
    one_face = rings_have_one_face m base planar k within;
    differ = pairs_to_map (λ q r. q.face ≢ r.face) (face_row h) (live_faces h k) live_differ;
    left = λ i d l. (sides_have_rows i d l).0;
    right = λ i d l. (sides_have_rows i d l).1;
  }

  pub slice_drawn : IsDrawn (slice m k).edges (slice_ends m k) (slice m k).faces
  unfolding slice slice_ends
  slice_drawn = drawn

  rows_some : All (λ r. r.face ≢ 0) rows
  rows_some = All-map (λ (r : FaceRow). r.face ≢ 0) (face_row h) (live_faces h k)
      (All-filter (is_live h k) (λ f. f ≢ 0) (range_with_len 1 (length m.classes + k)) (λ i d l e.
      let long = length-range_with_len 1 (length m.classes + k) in
      let here = get_or-range_with_len 1 (length m.classes + k) i d (omega (arith, l, long)) in
      omega (arith, here, e)))

  -- the rows are of faces other than the outside
  pub slice_faces : All (λ r. r.face ≢ 0) (slice m k).faces
  unfolding slice
  slice_faces = rows_some

  -- the keys differ
  pub slice_keys : AllPairs (λ (e f : Edge). e.key ≢ f.key) (slice m k).edges
  unfolding slice
  slice_keys = planar_edges.sound.keys

  -- ---- limits

  classes_small : All (λ r. r.class < length m.rules.weights) rows
  classes_small = All-map (λ (r : FaceRow). r.class < length m.rules.weights) (face_row h) (live_faces h k) (λ i d l.
      let some = rules.some_class in
      let few : 0 < length m.rules.weights = omega (arith, some) in
      each_or (λ c. c < length m.rules.weights) (all_classes h) (get_or (live_faces h k) i d - 1) 0 few
      (classes_within (length m.rules.weights) (history_of m) m.classes few
      (λ j e n. ltb-true _ _ (AllPass-from_list_all (λ c. nat_lt c (length m.rules.weights)) m.classes facts.classes j e n))))

  pub slice_classes : All (λ r. r.class < length m.rules.weights) (slice m k).faces
  unfolding slice
  slice_classes = classes_small

  few_edges : length edges ≤ MAX_ARCS
  few_edges =
      let few = few_below (length m.arcs) (map (λ (e : Edge). e.key) edges) (pairs_to_map (λ a b. a < b) (λ (e : Edge). e.key) edges live.ascending)
      (All-map (λ n. n < length m.arcs) (λ (e : Edge). e.key) edges (All-map (λ (e : Edge). e.key < length m.arcs) (edge_of h k gone) chains (λ i d l.
      key_within h k (get_or chains i d) (among_contained chains (get_or chains i d) (Contains-get_or chains i d l))))) in
      let arcs = facts.few_arcs in
      omega (arith, few, arcs, length-map edges (λ (e : Edge). e.key))

  few_points : sum_by length (lines_of edges) ≤ MAX_POINTS
  few_points =
      let points = facts.few_points in
      let by_edge = sum_by-map length (λ (e : Edge). e.points) edges in
      let by_chain = sum_by-map (λ (e : Edge). length e.points) (edge_of h k gone) chains in
      let less = sum_less (λ (c : Chain). length (without gone (chain_points m.arcs c))) (λ c. sum_by (λ d. length (arc_number m.arcs d.arc).points) c) chains
      (λ c n. omega (arith, kept_length (λ p. not (is_removed gone p)) (chain_points m.arcs c), chain_length m.arcs c)) in
      let along = sum_of_chains h k chains (chains_exist h k) (λ a. length a.points) in
      let all = sum_less (λ (a : BaseArc). cond (is_border h k a) (length a.points) 0) (λ a. length a.points) m.arcs (λ a n. at_most (is_border h k a) (length a.points)) in
      omega (arith, points, by_edge, by_chain, less, along, all)
    where
      at_most : (b : Bool) (n : ℕ) → cond b n 0 ≤ n
      at_most true n = omega arith
      at_most false n = omega arith

  near_lines : All (λ ps. list_all in_limits ps ≡ true) (lines_of edges)
  near_lines = All-map (λ ps. list_all in_limits ps ≡ true) (λ (e : Edge). e.points) edges (λ i d l.
      list_all-from_AllPass in_limits (get_or edges i d).points (λ j e n. (live.each i d l).limits j e n))

  pub slice_lines : (length (lines_of (slice m k).edges) ≤ MAX_ARCS) × (sum_by length (lines_of (slice m k).edges) ≤ MAX_POINTS) × All (λ ps. list_all in_limits ps ≡ true) (lines_of (slice m k).edges)
  unfolding slice
  slice_lines = (let few = few_edges in omega (arith, few, length-map edges (λ (e : Edge). e.points)), few_points, near_lines)

  -- the faces have numbers of 32 bits
  rows_small : All (λ r. r.face < 2 ^ 32) rows
  rows_small = All-map (λ (r : FaceRow). r.face < 2 ^ 32) (face_row h) (live_faces h k)
      (All-filter (is_live h k) (λ f. f < 2 ^ 32) (range_with_len 1 (length m.classes + k)) (λ i d l.
      let long = length-range_with_len 1 (length m.classes + k) in
      let short : i < length m.classes + k = omega (arith, l, long) in
      let here = get_or-range_with_len 1 (length m.classes + k) i d short in
      let facts = base_facts m base in
      omega (arith, short, here, facts.few_faces, facts.few_arcs, length-history_of m, within)))

  pub slice_rows : All (λ r. r.face < 2 ^ 32) (slice m k).faces
  unfolding slice
  slice_rows = rows_small

  -- ---- what can be told

  pub slice_tellable : (polygons : List Polygon) → ArePolygons (lines_of (slice m k).edges) (slice_spans m k) (slice m k).faces polygons → length polygons ≤ MAX_FACES
      → IsTellable m.transform (lines_of (slice m k).edges) polygons
  slice_tellable polygons are parts = record {
    transform = facts.transform;
    arcs = slice_lines.0;
    points = slice_lines.1;
    parts = parts;
    each_line = λ i d l. record { long = (slice_drawn.lines i d l).0; near = slice_lines.2 i d l; steps = (slice_drawn.lines i d l).1 };
    each_polygon = λ i d l.
        let p = get_or polygons i d in
        let part = are.parts p (Contains-get_or polygons i d l) in
        let rings = ringed (slice m k).edges (slice_ends m k) (slice m k).faces polygons slice_drawn are i d l in
        let class = All-contains (λ r. r.class < length m.rules.weights) (slice m k).faces part.0 slice_classes part.1 in
        let count = rules.few_classes in
        record {
          class = subst (λ (r : FaceRow). r.class < 2 ^ 32) (sym part.2.row_is) (omega (arith, class, count));
          face = subst (λ (r : FaceRow). r.face < 2 ^ 32) (sym part.2.row_is) (All-contains (λ r. r.face < 2 ^ 32) (slice m k).faces part.0 slice_rows part.1);
          some = subst (λ (rs : List (List Side)). 1 ≤ length rs) (sym rings.rings) (omega arith);
          sides = rings.sides;
        };
  }
