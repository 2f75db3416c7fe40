-- The edges of a forest whose range holds a step: their chains are those after the step, they have different keys, and each key is that
-- of an arc.
use Rattle.std.proofs.Common.{◌≡◌, inl, inr, ℕ, ◌<◌, ◌≤◌, Bool, true, nat_lt, List, [], ◌∷◌, filter, length, IsPermutation, sym, subst, arith}
use Rattle.std.specs.List.{range_with_len}
use Rattle.std.proofs.lemmas.Bool.{cases_eq}
use Rattle.lemmas.proofs.Sorting.{sort_by-permutation}
use Rattle.tgap_model.specs.Merged.{MergedMap, merged}
use Rattle.tgap_model.specs.Chains.{Chain, key, has_links, chains_at}
use Rattle.map_laws.proofs.ChainMembers.{Among, filter_among}
use Rattle.map_laws.proofs.ChainLinks.{key_among}
use Rattle.map_laws.proofs.Lists.{kept_among, among_kept, among_map, map_among, among_range, sort_among, among_sort}
use Rattle.removal_laws.proofs.ChainEnds.{chain_links, chain_arcs}
use Rattle.slice_laws.proofs.Coverage.{range_holds}
use Rattle.edge_forest.specs.Edges.{edge_at, chain_of, is_alive, alive_edges}
use Rattle.edge_forest.specs.Forest.{EdgeForest, IsForest}
use Rattle.edge_forest.proofs.Forests.{keys_differ}

-- the key of a chain is the number of an arc
pub key_within : (h : MergedMap) (k : ℕ) (c : Chain) → Among c (chains_at h k) → key c < length h.base.arcs
key_within h k c m = by c m (chain_links h k c m)
  where
    by : (c : Chain) → Among c (chains_at h k) → has_links c ≡ true → key c < length h.base.arcs
    by [] m links = absurd cc
    by (d ∷ c) m links = let e = key_among d c in omega (arith, chain_arcs h k (d ∷ c) m e.0 e.1, e.2)

module _ (f : EdgeForest) (w : IsForest f) (k : ℕ) (made : k ≤ f.made) where
  abbrev before : ℕ → ℕ → Bool
  before i j = nat_lt (edge_at f.edges i).key (edge_at f.edges j).key

  abbrev listed : List ℕ
  listed = filter (λ i. is_alive k (edge_at f.edges i)) (range_with_len 0 (length f.edges))

  pub alive_moved : IsPermutation (filter (λ i. is_alive k (edge_at f.edges i)) (range_with_len 0 (length f.edges))) (alive_edges f.edges k)
  alive_moved = sort_by-permutation (λ i j. nat_lt (edge_at f.edges i).key (edge_at f.edges j).key) listed

  pub alive_there : (i : ℕ) → i < length f.edges → is_alive k (edge_at f.edges i) ≡ true → Among i (alive_edges f.edges k)
  alive_there i l a =
      among_sort (λ i j. nat_lt (edge_at f.edges i).key (edge_at f.edges j).key) listed i
      (among_kept (λ i. is_alive k (edge_at f.edges i)) (range_with_len 0 (length f.edges)) i (range_holds 0 (length f.edges) i (omega arith) (omega (arith, l))) a)

  pub alive_known : (i : ℕ) → Among i (alive_edges f.edges k) → (i < length f.edges) × (is_alive k (edge_at f.edges i) ≡ true)
  alive_known i m =
      let n = sort_among (λ i j. nat_lt (edge_at f.edges i).key (edge_at f.edges j).key) listed i m in (
        omega (arith, (among_range 0 (length f.edges) i (kept_among (λ i. is_alive k (edge_at f.edges i)) (range_with_len 0 (length f.edges)) i n)).1),
        filter_among (λ i. is_alive k (edge_at f.edges i)) (range_with_len 0 (length f.edges)) i n,
      )

  -- the chain of each is one after the step
  pub alive_chain : (i : ℕ) → i < length f.edges → is_alive k (edge_at f.edges i) ≡ true → Among (chain_of f.edges i) (chains_at (merged f.base) k)
  alive_chain i l a = subst (Among (chain_of f.edges i)) (w.chains k made) (among_map (chain_of f.edges) (alive_edges f.edges k) i (alive_there i l a))

  -- and each such chain is that of one
  pub chain_alive : (c : Chain) → Among c (chains_at (merged f.base) k)
      → (i : ℕ) × (i < length f.edges) × (is_alive k (edge_at f.edges i) ≡ true) × (chain_of f.edges i ≡ c)
  chain_alive c m =
      let i = map_among (chain_of f.edges) (alive_edges f.edges k) c (subst (Among c) (sym (w.chains k made)) m) in
      let known = alive_known i.0 i.1 in
      (i.0, known.0, known.1, i.2)

  -- one key, one number
  pub alive_same : (i j : ℕ) → i < length f.edges → j < length f.edges → is_alive k (edge_at f.edges i) ≡ true → is_alive k (edge_at f.edges j) ≡ true
      → (edge_at f.edges j).key ≡ (edge_at f.edges i).key → j ≡ i
  alive_same i j li lj ai aj e = elim (cases_eq j i) [
    | inl s ↦ s
    | inr ne ↦ absurd (keys_differ f w k (w.chains k made) j i lj li ne aj ai e)
  ]
