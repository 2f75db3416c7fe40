-- The record of a step leads the slice after it back to the slice before it.
use Rattle.std.proofs.Common.{◌≡◌, inl, inr, ℕ, ◌+◌, ◌-◌, ◌<◌, ◌≤◌, ◌==◌, Bool, true, false, not, nat_lt, cond, List, [], ◌∷◌, ◌++◌, map, filter, length, refl, sym, ap, ap₂, ◌∙◌, subst, arith}
use Rattle.std.specs.Prelude.{⊤, flat_map}
use Rattle.std.specs.List.Sorted.{IsPermutation}
use Rattle.std.proofs.lemmas.List.{map-append}
use Rattle.std.proofs.lemmas.List.Sorted.{IsPermutation-filter_both, IsPermutation-append_comm, IsPermutation-append_left, IsPermutation-map, IsPermutation-trans, IsPermutation-sym}
use Rattle.lemmas.specs.Sorting.{insert_by, sort_by, is_sorted_by}
use Rattle.lemmas.proofs.Orders.{nat_lt_order, order_by_key}
use Rattle.lemmas.proofs.Sorting.{map-is_sorted, sort_by-permutation, sort_by-permuted}
use Rattle.tgap_model.specs.declared.merge.MergeStep.{MergeStep}
use Rattle.tgap_model.specs.declared.slice.Edge.{Edge}
use Rattle.tgap_model.specs.declared.slice.FaceRow.{FaceRow}
use Rattle.tgap_model.specs.Base.{BaseMap, is_base}
use Rattle.tgap_model.specs.Partition.{IsPartition, base_segments}
use Rattle.tgap_model.specs.History.{history_of}
use Rattle.tgap_model.specs.Merged.{MergedMap, merged, step_number, live_faces}
use Rattle.tgap_model.specs.Chains.{Chain, key, chains_at}
use Rattle.tgap_model.specs.Removals.{edge_of, edges_of, removals_to}
use Rattle.tgap_model.specs.Slice.{face_row, slice}
use Rattle.tgap_model.specs.Records.{is_edge_between, runs, step_record, refined, edge_before, face_before, undo}
use Rattle.map_laws.specs.ChainLaws.{chains_left}
use Rattle.map_laws.proofs.ChainMembers.{Among}
use Rattle.map_laws.proofs.ChainLinks.{chains_sorted}
use Rattle.map_laws.proofs.ChainsExist.{chains_exist}
use Rattle.map_laws.proofs.Lists.{all_members}
use Rattle.record_laws.specs.RunLaws.{chain_of_run, all_runs}
use Rattle.record_laws.specs.UndoLaws.{UndoGoesBack}
use Rattle.record_laws.proofs.FaceRows.{faces_back}
use Rattle.record_laws.proofs.Refined.{refined_is}
use Rattle.record_laws.proofs.RunsAreChains.{runs_are_chains}

-- ---- lists

map_twice : {A B C : Type 0} (f : B → C) (g : A → B) (xs : List A) → map (λ x. f (g x)) xs ≡ map f (map g xs)
map_twice f g [] = refl
map_twice f g (x ∷ xs) = ap (λ zs. f (g x) ∷ zs) (map_twice f g xs)

filter_map : {A B : Type 0} (p : B → Bool) (f : A → B) (xs : List A) → filter p (map f xs) ≡ map f (filter (λ x. p (f x)) xs)
filter_map p f [] = refl
filter_map {A} {B} p f (x ∷ xs) = by (p (f x)) (filter_map p f xs)
  where
    by : (v : Bool) → filter p (map f xs) ≡ map f (filter (λ x. p (f x)) xs)
        → cond v (f x ∷ filter p (map f xs)) (filter p (map f xs)) ≡ map f (cond v (x ∷ filter (λ x. p (f x)) xs) (filter (λ x. p (f x)) xs))
    by true e = ap (λ (zs : List B). f x ∷ zs) e
    by false e = e

module _ (m : BaseMap) (base : is_base m ≡ true) (planar : IsPartition (base_segments m)) (j : ℕ) (one : 1 ≤ j) (last : j ≤ length (history_of m)) where
  abbrev h : MergedMap
  h = merged m

  abbrev k : ℕ
  k = j - 1

  abbrev s : MergeStep
  s = step_number h j

  abbrev finer : List Chain
  finer = chains_at h k

  abbrev edge_back : Chain → Edge
  edge_back c = edge_of h k (removals_to h k) c

  up : k + 1 ≡ j
  up = omega (arith, one)

  small : k < length (history_of m)
  small = omega (arith, one, last)

  -- ---- the edges

  -- the edges after the step become those of the chains of all runs
  refined_all : (cs : List Chain) → ((c : Chain) → Among c cs → Among c (chains_at h j))
      → flat_map (refined (step_record h j)) (edges_of h j (removals_to h j) cs) ≡ map (λ r. edge_back (chain_of_run finer r)) (flat_map (runs finer) cs)
  refined_all [] sub = refl
  refined_all (c ∷ cs) sub =
      ap₂ (λ (xs ys : List Edge). xs ++ ys) (refined_is m base planar j one last c (sub c (inl refl))) (refined_all cs (λ d o. sub d (inr o)))
      ∙ sym (map-append (λ r. edge_back (chain_of_run finer r)) (runs finer c) (flat_map (runs finer) cs))

  abbrev run_chains : List Chain
  run_chains = map (chain_of_run finer) (all_runs h j)

  -- the chain is between loser and winner
  abbrev between : Chain → Bool
  between c = is_edge_between s.loser s.winner (edge_back c)

  left_is : chains_left h k ≡ filter (λ c. not (between c)) finer
  left_is = ap (λ (i : ℕ). filter (λ c. not (is_edge_between (step_number h i).loser (step_number h i).winner (edge_of h k [] c))) finer) up

  runs_permuted : IsPermutation run_chains (filter (λ c. not (between c)) finer)
  runs_permuted =
      subst (IsPermutation run_chains) ((runs_are_chains m base planar j one last).left ∙ left_is)
      (sort_by-permutation (λ c d. nat_lt (key c) (key d)) run_chains)

  chains_permuted : IsPermutation (run_chains ++ filter between finer) finer
  chains_permuted =
      IsPermutation-trans (run_chains ++ filter between finer) (filter (λ c. not (between c)) finer ++ filter between finer) finer
      (IsPermutation-append_left (filter between finer) run_chains (filter (λ c. not (between c)) finer) runs_permuted)
      (IsPermutation-trans (filter (λ c. not (between c)) finer ++ filter between finer) (filter between finer ++ filter (λ c. not (between c)) finer) finer
      (IsPermutation-append_comm (filter (λ c. not (between c)) finer) (filter between finer))
      (IsPermutation-sym finer (filter between finer ++ filter (λ c. not (between c)) finer)
      (IsPermutation-filter_both between (λ c. not (between c)) (λ c. refl) finer)))

  abbrev come_back : List Edge
  come_back = flat_map (refined (step_record h j)) (edges_of h j (removals_to h j) (chains_at h j)) ++ (step_record h j).ended

  come_back_is : come_back ≡ map edge_back (run_chains ++ filter between finer)
  come_back_is =
      ap₂ (λ (xs ys : List Edge). xs ++ ys)
      (refined_all (chains_at h j) (λ c o. o) ∙ map_twice edge_back (chain_of_run finer) (all_runs h j))
      (filter_map (is_edge_between s.loser s.winner) edge_back finer)
      ∙ sym (map-append edge_back run_chains (filter between finer))

  edges_sorted : is_sorted_by edge_before (map edge_back finer) ≡ true
  edges_sorted =
      map-is_sorted (λ (c : Chain). ⊤) (λ c d. nat_lt (key c) (key d)) edge_before edge_back (λ c d p q. refl) finer (all_members (λ (c : Chain). ⊤) finer (λ c o. tt))
      ∙ chains_sorted h k finer (chains_exist h k)

  pub edges_back : sort_by edge_before (flat_map (refined (step_record (merged m) j)) (edges_of (merged m) j (removals_to (merged m) j) (chains_at (merged m) j))
      ++ (step_record (merged m) j).ended) ≡ edges_of (merged m) (j - 1) (removals_to (merged m) (j - 1)) (chains_at (merged m) (j - 1))
  edges_back =
      ap (sort_by edge_before) come_back_is
      ∙ sort_by-permuted {P = λ (e : Edge). ⊤} {before = edge_before} (order_by_key (λ (e : Edge). e.key) nat_lt_order)
      (map edge_back (run_chains ++ filter between finer)) (map edge_back finer)
      (all_members (λ (e : Edge). ⊤) (map edge_back (run_chains ++ filter between finer)) (λ e o. tt)) edges_sorted
      (IsPermutation-map edge_back (run_chains ++ filter between finer) finer chains_permuted)

  -- ---- the faces

  faces_here : insert_by face_before (face_row h s.loser)
      (insert_by face_before (face_row h s.winner) (filter (λ f. not (f.face == s.made)) (map (face_row h) (live_faces h j))))
      ≡ map (face_row h) (live_faces h k)
  faces_here = subst (λ (i : ℕ). insert_by face_before (face_row h (step_number h i).loser)
      (insert_by face_before (face_row h (step_number h i).winner) (filter (λ f. not (f.face == (step_number h i).made)) (map (face_row h) (live_faces h i))))
      ≡ map (face_row h) (live_faces h k)) up (faces_back m base k small)

  pub step_undone : undo (slice m j) (step_record (merged m) j) ≡ slice m (j - 1)
  unfolding undo slice
  step_undone = ap₂ (λ (fs : List FaceRow) (es : List Edge). record { step = j - 1; faces = fs; edges = es }) faces_here edges_back

pub undo_goes_back : UndoGoesBack
undo_goes_back m base planar j one last = step_undone m base planar j one last
