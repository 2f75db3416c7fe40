-- From the edges of the chains after one step to those after the next: they stay sound, and their segments are those before with
-- the labels that the step gives, less those of the edges whose two faces become one.
use Rattle.std.proofs.Common.{◌≡◌, inl, inr, ℕ, ◌+◌, ◌<◌, ◌≤◌, ◌==◌, nat_lt, not, Bool, true, false, cond, List, [], ◌∷◌, map, filter, length, All, refl, sym, ap₂, ◌∙◌, subst}
use Rattle.std.specs.Prelude.{◌≢◌, fold}
use Rattle.std.proofs.lemmas.List.Kept.{AllPairs-filter}
use Rattle.std.proofs.lemmas.Simd.{map-map}
use Rattle.tgap_model.specs.declared.geometry.Point.{Point}
use Rattle.tgap_model.specs.declared.slice.Edge.{Edge}
use Rattle.tgap_model.specs.declared.slice.Removal.{Removal}
use Rattle.lemmas.specs.Sorting.{sort_by}
use Rattle.tgap_model.specs.History.{relabel, AreNumbered}
use Rattle.tgap_model.specs.Merged.{MergedMap, step_number}
use Rattle.tgap_model.specs.Chains.{Chain, chain_start, chain_end, key, join_at, directed, is_directed, turned_round, chains_at}
use Rattle.tgap_model.specs.Removals.{is_removed, edge_of, edges_of}
use Rattle.tgap_model.specs.Records.{is_edge_between}
use Rattle.map_laws.specs.ChainLaws.{has_base_faces, IsEven, HasEvenSides, chains_left, new_joints}
use Rattle.map_laws.proofs.ChainMembers.{Among}
use Rattle.map_laws.proofs.Lists.{members_all, kept_among, among_map, among_sort}
use Rattle.map_laws.proofs.JoinPaths.{path_named}
use Rattle.map_laws.proofs.ChainsStep.{Both, left_joined, new_next, chains_step}
use Rattle.removal_laws.specs.StandLaws.{AreSound}
use Rattle.removal_laws.specs.EndLaws.{IsChainEnd}
use Rattle.removal_laws.proofs.ChainEnds.{chain_links, chain_arcs, contained}
use Rattle.step_laws.proofs.StepEdges.{relabelled_edge, merged_edges, HaveSame}
use Rattle.step_laws.proofs.SoundEdges.{sound_by_members, sound_labels}
use Rattle.step_laws.proofs.Reordered.{reordered_sort, reordered_map}
use Rattle.step_laws.proofs.Become.{Become, become_then, become_reordered, Replaces, replaces_self, replaced_all}
use Rattle.step_laws.proofs.EdgesAlong.{Anywhere, KeepsSides, sides_keep, even_sides, edge_along, along_sides, along_even, IsPlain}
use Rattle.step_laws.proofs.StepLabels.{merged_left, left_sides}
use Rattle.step_laws.proofs.JoinEdges.{sides_round, replaces_round, joins_become}

-- edges with other labels, less those whose two faces become one, are sound where the edges are
pub sound_merged : (g : ℕ → ℕ) (es : List Edge) → AreSound es → AreSound (merged_edges g es)
sound_merged g es s =
    let p : Edge → Bool = λ (e : Edge). not (g e.left == g e.right) in
    sound_labels (relabelled_edge g) (filter p es) (λ e. (refl, refl))
    (sound_by_members es (filter p es) s (AllPairs-filter (λ (e f : Edge). e.key ≢ f.key) p es s.keys) (λ e m. kept_among p es e m))

-- lists of values that are one at each member
map_same : {A B : Type 0} (f g : A → B) (xs : List A) → ((x : A) → Among x xs → f x ≡ g x) → map f xs ≡ map g xs
map_same f g [] h = refl
map_same f g (x ∷ xs) h = ap₂ (λ y ys. y ∷ ys) (h x (inl refl)) (map_same f g xs (λ z m. h z (inr m)))

-- ---- chains in the direction of their least arc, in the order of their keys

module _ (h : MergedMap) (k : ℕ) (rs : List Removal) where
  directed_replaces : (c : Chain) → IsPlain h k rs c → Replaces (edge_along h k rs c) (edge_along h k rs (directed c))
  directed_replaces c plain = by (is_directed c)
    where
      by : (v : Bool) → Replaces (edge_along h k rs c) (edge_along h k rs (cond v c (turned_round c)))
      by true = replaces_self (edge_along h k rs c)
      by false = replaces_round h k rs c plain

  directed_become : (cs : List Chain) → ((c : Chain) → Among c cs → IsPlain h k rs c)
      → Become (map (edge_along h k rs) cs) (map (edge_along h k rs) (sort_by (λ c d. nat_lt (key c) (key d)) (map directed cs)))
  directed_become cs plain =
      let g = edge_along h k rs in
      let before = λ (c d : Chain). nat_lt (key c) (key d) in
      become_then (map g cs) (map g (map directed cs)) (map g (sort_by before (map directed cs)))
      (subst (Become (map g cs)) (sym (map-map g directed cs))
      (replaced_all g (λ c. g (directed c)) cs (λ c m. directed_replaces c (plain c m))))
      (become_reordered _ _ (reordered_map g (map directed cs) (sort_by before (map directed cs)) (reordered_sort before (map directed cs))))

  sides_directed : (c : Chain) → KeepsSides h k (directed c) → KeepsSides h k c
  sides_directed c = by (is_directed c)
    where
      by : (v : Bool) → KeepsSides h k (cond v c (turned_round c)) → KeepsSides h k c
      by true s = s
      by false s = sides_round h k c s

  -- the edges of the chains after k steps have the directions of their chains
  edges_along : HasEvenSides h k → map (edge_along h k rs) (chains_at h k) ≡ edges_of h k rs (chains_at h k)
  edges_along even =
      map_same (edge_along h k rs) (edge_of h k rs) (chains_at h k)
      (λ c m. along_even h k rs c (chain_links h k c m) (members_all (IsEven h k) (chains_at h k) c even m))

-- ---- the step

module _ (h : MergedMap) (k : ℕ) (rs : List Removal) (numbered : AreNumbered (length h.base.classes) h.steps) (small : k < length h.steps)
    (faces : All (λ a. has_base_faces h a ≡ true) h.base.arcs) (long : All (λ a. 2 ≤ length a.points) h.base.arcs)
    (even : HasEvenSides h k) (later : HasEvenSides h (k + 1))
    (ends : (p : Point) → IsChainEnd h.base.arcs (chains_at h k) p → is_removed rs p ≡ false) where
  -- the chains that are left, after all joins
  abbrev all_joined : List Chain
  all_joined = fold (join_at h.base.arcs) (chains_left h k) (new_joints h k)

  step_is : chains_at h (k + 1) ≡ sort_by (λ c d. nat_lt (key c) (key d)) (map directed all_joined)
  step_is = chains_step h k numbered small faces even

  -- along them the faces stay the same
  joined_sides : (c : Chain) → Among c all_joined → KeepsSides h (k + 1) c
  joined_sides c m =
      let in_order : Among (directed c) (chains_at h (k + 1))
      = subst (Among (directed c)) (sym step_is)
      (among_sort (λ c d. nat_lt (key c) (key d)) (map directed all_joined) (directed c) (among_map directed all_joined c m)) in
      sides_directed h (k + 1) rs c
      (sides_keep h (k + 1) _ _ (directed c)
      (even_sides h (k + 1) (directed c) (members_all (IsEven h (k + 1)) (chains_at h (k + 1)) (directed c) later in_order)))

  -- a chain that is left was one
  was : (c : Chain) → Among c (chains_left h k) → Among c (chains_at h k)
  was c m =
      kept_among (λ c. not (is_edge_between (step_number h (k + 1)).loser (step_number h (k + 1)).winner (edge_of h k [] c))) (chains_at h k) c m

  left_plain : (c : Chain) → Among c (chains_left h k) → IsPlain h (k + 1) rs c
  left_plain c m = record {
    path = path_named h.base.arcs (Both h k numbered small faces even) Anywhere (λ p j. tt) c ((left_joined h k numbered small faces even).paths c m);
    long = λ d n. long d.arc (record { left = 0; right = 0; points = [] }) (chain_arcs h k c (was c m) d n);
    sides = sides_keep h (k + 1) _ _ c (left_sides h k small numbered faces even c m);
    start = ends (chain_start h.base.arcs c) (c, contained (chains_at h k) c (was c m), inl refl);
    end = ends (chain_end h.base.arcs c) (c, contained (chains_at h k) c (was c m), inr refl);
  }

  -- their edges are those before the step with their new labels, less those whose faces become one
  left_edges : map (edge_along h (k + 1) rs) (chains_left h k) ≡ merged_edges (relabel (step_number h (k + 1))) (edges_of h k rs (chains_at h k))
  left_edges =
      map_same (edge_along h (k + 1) rs) (edge_of h (k + 1) rs) (chains_left h k)
      (λ c m. along_sides h (k + 1) rs c (chain_links h k c (was c m)) (left_sides h k small numbered faces even c m))
      ∙ sym (merged_left h k small numbered faces even rs)

  left_become : Become (map (edge_along h (k + 1) rs) (chains_left h k)) (map (edge_along h (k + 1) rs) (chains_at h (k + 1)))
  left_become =
      let g = edge_along h (k + 1) rs in
      let joins = joins_become h (k + 1) rs (new_joints h k) (Both h k numbered small faces even) (chains_left h k)
      (left_joined h k numbered small faces even) (new_next h k numbered small faces even) left_plain joined_sides in
      subst (λ cs. Become (map g (chains_left h k)) (map g cs)) (sym step_is)
      (become_then (map g (chains_left h k)) (map g all_joined) (map g (sort_by (λ c d. nat_lt (key c) (key d)) (map directed all_joined)))
      joins.0 (directed_become h (k + 1) rs all_joined joins.1))

  merged_become : Become (merged_edges (relabel (step_number h (k + 1))) (edges_of h k rs (chains_at h k))) (edges_of h (k + 1) rs (chains_at h (k + 1)))
  merged_become =
      subst (λ es. Become es (edges_of h (k + 1) rs (chains_at h (k + 1)))) left_edges
      (subst (Become (map (edge_along h (k + 1) rs) (chains_left h k))) (edges_along h (k + 1) rs later) left_become)

-- Where the faces stay the same along each chain before the step and after it, and no end of a chain is listed, the edges less
-- the listed vertices stay sound by the step, and their segments are those before, with their new labels, less those of the edges
-- whose two faces become one.
pub step_edges : (h : MergedMap) (k : ℕ) (rs : List Removal) → AreNumbered (length h.base.classes) h.steps → k < length h.steps
    → All (λ a. has_base_faces h a ≡ true) h.base.arcs → All (λ a. 2 ≤ length a.points) h.base.arcs
    → HasEvenSides h k → HasEvenSides h (k + 1)
    → ((p : Point) → IsChainEnd h.base.arcs (chains_at h k) p → is_removed rs p ≡ false)
    → AreSound (edges_of h k rs (chains_at h k))
    → AreSound (edges_of h (k + 1) rs (chains_at h (k + 1)))
    × HaveSame (merged_edges (relabel (step_number h (k + 1))) (edges_of h k rs (chains_at h k))) (edges_of h (k + 1) rs (chains_at h (k + 1)))
step_edges h k rs numbered small faces long even later ends sound =
    merged_become h k rs numbered small faces long even later ends
    (sound_merged (relabel (step_number h (k + 1))) (edges_of h k rs (chains_at h k)) sound)
