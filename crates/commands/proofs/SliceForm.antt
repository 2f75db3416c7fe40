-- A slice of a planar partition has the form of its text.
use Rattle.std.proofs.Common.{◌≡◌, ℕ, zero, suc, ◌+◌, ◌^◌, ◌<◌, ◌≤◌, true, inl, inr, nat_lt, List, [], ◌∷◌, map, fold, ◌-◌, length, get_or, refl, ap, ◌∙◌, subst, arith, IsTrue}
use Rattle.std.specs.Prelude.{⊤}
use Rattle.std.specs.List.{list_all, range_with_len}
use Rattle.std.proofs.lemmas.Bool.{and_parts, and_from, lt-ltb, ltb-true, le-leb, leb-true}
use Rattle.std.proofs.lemmas.List.{length-map}
use Rattle.std.proofs.lemmas.List.Folds.{list_all-append}
use Rattle.lemmas.specs.Sorting.{is_sorted_by}
use Rattle.lemmas.proofs.Orders.{nat_lt_order}
use Rattle.lemmas.proofs.Sorting.{sorted_cons, sorted_tail, sorted_next, filter-is_sorted, map-is_sorted}
use Rattle.tgap_model.specs.declared.merge.MergeStep.{MergeStep}
use Rattle.tgap_model.specs.declared.base.BaseArc.{BaseArc}
use Rattle.tgap_model.specs.declared.slice.Edge.{Edge}
use Rattle.tgap_model.specs.declared.slice.FaceRow.{FaceRow}
use Rattle.tgap_model.specs.Base.{BaseMap, is_base, in_limits, no_repeat}
use Rattle.tgap_model.specs.Partition.{IsPartition, base_segments}
use Rattle.tgap_model.specs.History.{class_of, classes_after, history_of}
use Rattle.tgap_model.specs.Merged.{MergedMap, merged, label_at, all_classes, is_live, live_faces}
use Rattle.tgap_model.specs.Chains.{Chain, arc_number, key, chains_at}
use Rattle.tgap_model.specs.Removals.{edge_of, edges_of, removals_to}
use Rattle.tgap_model.specs.Records.{edge_before}
use Rattle.tgap_model.specs.Slice.{face_row, slice}
use Rattle.slice_forms.specs.SliceForms.{is_number, is_face_row, is_edge_row, is_slice_row}
use Rattle.tgap_model.proofs.BaseFacts.{base_facts, rules_facts}
use Rattle.map_laws.specs.ChainLaws.{has_base_faces}
use Rattle.map_laws.proofs.ChainLinks.{chains_sorted}
use Rattle.map_laws.proofs.ChainMembers.{Among, all_among}
use Rattle.map_laws.proofs.ChainsExist.{chains_exist}
use Rattle.map_laws.proofs.Lists.{all_members, members_all, all_from, kept_among, map_among, among_map, among_range}
use Rattle.map_laws.proofs.MergeSteps.{label_bounded}
use Rattle.face_merge.proofs.Start.{history_numbered}
use Rattle.face_merge.proofs.Steps.{length-history_of}
use Rattle.record_laws.proofs.MapFacts.{based}
use Rattle.grid_index.specs.Live.{IsLiveEdge}
use Rattle.step_laws.proofs.EachSlice.{each_good}
use Rattle.tgap_build.proofs.Alive.{key_within}
use Rattle.tgap_build.proofs.EachLive.{after_live}
use Rattle.client_replay.proofs.Form.{slice_from}

-- ---- lists

-- what holds of each member, and of the default, holds at each place
pub each_or : {A : Type 0} (P : A → Type 0) (xs : List A) (i : ℕ) (d : A) → P d → ((x : A) → Among x xs → P x) → P (get_or xs i d)
each_or P [] i d none each = none
each_or P (x ∷ xs) zero d none each = each x (inl refl)
each_or P (x ∷ xs) (suc i) d none each = each_or P xs i d none (λ y o. each y (inr o))

-- ascending numbers below a bound are not more than those
ascending_few : (n k : ℕ) (ks : List ℕ) → is_sorted_by nat_lt (k ∷ ks) ≡ true → ((i : ℕ) → Among i (k ∷ ks) → i < n) → k + length (k ∷ ks) ≤ n
ascending_few n k [] s each = let below = each k (inl refl) in omega (arith, below)
ascending_few n k (l ∷ ks) s each =
    omega (arith, ascending_few n l ks (sorted_tail nat_lt k (l ∷ ks) s) (λ i o. each i (inr o)), ltb-true k l (sorted_next nat_lt k (l ∷ ks) s))

pub few_ascend : (n : ℕ) (ks : List ℕ) → is_sorted_by nat_lt ks ≡ true → ((i : ℕ) → Among i ks → i < n) → length ks ≤ n
few_ascend n [] s each = omega arith
few_ascend n (k ∷ ks) s each = omega (arith, ascending_few n k ks s each)

range_sorted : (a n : ℕ) → is_sorted_by nat_lt (range_with_len a n) ≡ true
range_sorted a zero = refl
range_sorted a (suc n) =
    sorted_cons nat_lt a (range_with_len (a + 1) n)
    (all_members (λ b. nat_lt a b ≡ true) (range_with_len (a + 1) n) (λ b m. lt-ltb a b (omega (arith, (among_range (a + 1) n b m).0))))
    (range_sorted (a + 1) n)

-- ---- numbers of 32 bits

pub number : (n : ℕ) → n < 2 ^ 32 → is_number n ≡ true
number n small = lt-ltb n (2 ^ 32) small

-- the classes of new faces are those of others
classes_small : (steps : List MergeStep) (classes : List ℕ) → list_all is_number classes ≡ true
    → list_all is_number (fold (λ ks s. classes_after s ks) classes steps) ≡ true
classes_small [] classes h = h
classes_small (s ∷ steps) classes h =
    let class : class_of classes s.winner < 2 ^ 32 = each_or (λ n. n < 2 ^ 32) classes (s.winner - 1) 0 (omega arith) (λ n o. ltb-true n (2 ^ 32) (all_among is_number classes n h o)) in
    let more : list_all is_number (class_of classes s.winner ∷ []) ≡ true = and_from _ true (number (class_of classes s.winner) class) refl in
    classes_small steps (classes_after s classes) (list_all-append is_number classes (class_of classes s.winner ∷ []) ∙ and_from _ _ h more)

module _ (m : BaseMap) (base : is_base m ≡ true) where
  -- the class of each face is a number
  pub class_small : (f : ℕ) → class_of (all_classes (merged m)) f < 2 ^ 32
  class_small f =
      let facts = base_facts m base in
      let rules = rules_facts m.rules facts.rules in
      let first : list_all is_number m.classes ≡ true = all_from is_number m.classes (λ c o.
      number c (omega (arith, ltb-true c (length m.rules.weights) (all_among (λ k. nat_lt k (length m.rules.weights)) m.classes c facts.classes o), rules.few_classes))) in
      let all = classes_small (history_of m) m.classes first in
      each_or (λ n. n < 2 ^ 32) (all_classes (merged m)) (f - 1) 0 (omega arith) (λ n o. ltb-true n (2 ^ 32) (all_among is_number (all_classes (merged m)) n all o))

module _ (m : BaseMap) (base : is_base m ≡ true) (planar : IsPartition (base_segments m)) (k : ℕ) (within : k ≤ length (history_of m)) where
  abbrev h : MergedMap
  h = merged m

  pub room : length m.classes + k + 1 < 2 ^ 32
  room =
      let facts = base_facts m base in
      omega (arith, facts.few_faces, facts.few_arcs, length-history_of m, within)

  -- the faces at the sides of an arc, base faces, have labels that are numbers
  pub left_small : (i : ℕ) → label_at (merged m) k (arc_number m.arcs i).left < 2 ^ 32
  left_small i =
      let face : (arc_number m.arcs i).left ≤ length m.classes = each_or (λ (a : BaseArc). a.left ≤ length m.classes) m.arcs i _ (omega arith) (λ a o.
      leb-true a.left (length m.classes) (and_parts _ _ (members_all (λ (a : BaseArc). has_base_faces (merged m) a ≡ true) m.arcs a (based m base planar) o)).0) in
      omega (arith, room, label_bounded (length m.classes) (history_of m) k (arc_number m.arcs i).left (history_numbered m base) within face)

  pub right_small : (i : ℕ) → label_at (merged m) k (arc_number m.arcs i).right < 2 ^ 32
  right_small i =
      let face : (arc_number m.arcs i).right ≤ length m.classes = each_or (λ (a : BaseArc). a.right ≤ length m.classes) m.arcs i _ (omega arith) (λ a o.
      leb-true a.right (length m.classes) (and_parts _ _ (members_all (λ (a : BaseArc). has_base_faces (merged m) a ≡ true) m.arcs a (based m base planar) o)).1) in
      omega (arith, room, label_bounded (length m.classes) (history_of m) k (arc_number m.arcs i).right (history_numbered m base) within face)

  -- ---- faces

  face_form : (r : FaceRow) → Among r (map (face_row h) (live_faces h k)) → is_face_row r ≡ true
  face_form r o =
      let f = map_among (face_row h) (live_faces h k) r o in
      let range = among_range 1 (length m.classes + k) f.0 (kept_among (is_live h k) (range_with_len 1 (length m.classes + k)) f.0 f.1) in
      subst (λ (x : FaceRow). is_face_row x ≡ true) f.2
      (and_from _ _ (and_from _ _ (le-leb 1 f.0 range.0) (number f.0 (omega (arith, range.1, room)))) (number _ (class_small m base f.0)))

  live_sorted : is_sorted_by nat_lt (live_faces h k) ≡ true
  live_sorted =
      filter-is_sorted {P = λ (f : ℕ). ⊤} nat_lt_order (is_live h k) (range_with_len 1 (length m.classes + k))
      (all_members (λ (f : ℕ). ⊤) (range_with_len 1 (length m.classes + k)) (λ f o. tt)) (range_sorted 1 (length m.classes + k))

  numbers_of : (fs : List ℕ) → map (λ r. r.face) (map (face_row h) fs) ≡ fs
  numbers_of [] = refl
  numbers_of (f ∷ fs) = ap (λ (gs : List ℕ). f ∷ gs) (numbers_of fs)

  few_live : length (live_faces h k) ≤ length m.classes + k + 1
  few_live = few_ascend (length m.classes + k + 1) (live_faces h k) live_sorted (λ f o.
      let range = among_range 1 (length m.classes + k) f (kept_among (is_live h k) (range_with_len 1 (length m.classes + k)) f o) in
      omega (arith, range.1))

  -- ---- edges

  abbrev chains : List Chain
  chains = chains_at h k

  abbrev edge_here : Chain → Edge
  edge_here c = edge_of h k (removals_to h k) c

  edge_form : (c : Chain) → Among c (chains_at h k) → is_edge_row (edge_of h k (removals_to h k) c) ≡ true
  edge_form c n =
      let e = edge_here c in
      let among = among_map edge_here chains c n in
      let live = members_all IsLiveEdge (edges_of h k (removals_to h k) chains) e (after_live m base planar k within).each among in
      let apart = members_all (λ (f : Edge). no_repeat f.points ≡ true) (edges_of h k (removals_to h k) chains) e (each_good m base planar k within).sound.steps among in
      let limits = all_from in_limits e.points (λ p o. members_all (λ p. IsTrue (in_limits p)) e.points p live.limits o) in
      and_from _ _
      (and_from _ _
      (and_from _ _
      (and_from _ _
      (and_from _ _
      (and_from _ _ (number (key c) (omega (arith, key_within h k c n, (base_facts m base).few_arcs)))
      (number e.left (left_small (key c))))
      (number e.right (right_small (key c))))
      (number (length e.points) (omega (arith, live.few))))
      (le-leb 2 (length e.points) live.some))
      limits)
      apart

  pub edges_form : list_all is_edge_row (edges_of (merged m) k (removals_to (merged m) k) (chains_at (merged m) k)) ≡ true
  edges_form = all_from is_edge_row (edges_of h k (removals_to h k) chains) (λ e o.
      let c = map_among edge_here chains e o in
      subst (λ (x : Edge). is_edge_row x ≡ true) c.2 (edge_form c.0 c.1))

  keys_sorted : is_sorted_by nat_lt (map (λ e. e.key) (edges_of h k (removals_to h k) chains)) ≡ true
  keys_sorted =
      map-is_sorted (λ (e : Edge). ⊤) edge_before nat_lt (λ e. e.key) (λ e f p q. refl) (map edge_here chains) (all_members (λ (e : Edge). ⊤) (map edge_here chains) (λ e o. tt))
      ∙ map-is_sorted (λ (c : Chain). ⊤) (λ c d. nat_lt (key c) (key d)) edge_before edge_here (λ c d p q. refl) chains (all_members (λ (c : Chain). ⊤) chains (λ c o. tt))
      ∙ chains_sorted h k chains (chains_exist h k)

  pub few_chains : length (chains_at (merged m) k) < 2 ^ 32
  few_chains =
      let keys = map (λ (e : Edge). e.key) (edges_of h k (removals_to h k) chains) in
      let few = few_ascend (length m.arcs) keys keys_sorted (λ i o.
      let e = map_among (λ (e : Edge). e.key) (edges_of h k (removals_to h k) chains) i o in
      let c = map_among edge_here chains e.0 e.1 in
      subst (λ (n : ℕ). n < length m.arcs) (ap (λ (e : Edge). e.key) c.2 ∙ e.2) (key_within h k c.0 c.1)) in
      omega (arith, few, length-map (map edge_here chains) (λ (e : Edge). e.key), length-map chains edge_here, (base_facts m base).few_arcs)

  -- ---- the slice

  pub slice_form : is_slice_row (slice m k) ≡ true
  unfolding slice
  slice_form = slice_from (slice m k) (record {
    step = number k (omega (arith, room));
    face_count = number (length (map (face_row h) (live_faces h k))) (omega (arith, length-map (live_faces h k) (face_row h), few_live, room));
    edge_count = number (length (map edge_here chains)) (omega (arith, length-map chains edge_here, few_chains));
    face_rows = all_from is_face_row (map (face_row h) (live_faces h k)) face_form;
    face_order = ap (is_sorted_by nat_lt) (numbers_of (live_faces h k)) ∙ live_sorted;
    edge_rows = edges_form;
    edge_order = keys_sorted;
  })
