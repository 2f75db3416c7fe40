-- The edges whose range holds a step are the same after later changes.
use Rattle.std.proofs.Common.{◌≡◌, ℕ, zero, suc, ◌+◌, ◌-◌, ◌<◌, ◌≤◌, false, nat_lt, List, [], ◌∷◌, ◌++◌, map, filter, length, refl, sym, ap, ◌∙◌, arith}
use Rattle.std.specs.List.{All, range_with_len}
use Rattle.std.proofs.lemmas.List.{append-nil}
use Rattle.std.proofs.lemmas.List.Elements.{filter-append, All-filter, All-head, All-tail}
use Rattle.lemmas.proofs.Sorting.{sort_by-agree, All-sort_by}
use Rattle.lemmas.specs.Sorting.{sort_by}
use Rattle.lemmas.proofs.Members.{filter_none, filter_agree_on}
use Rattle.map_laws.proofs.Lists.{all_members, among_range}
use Rattle.edge_forest.specs.declared.edge.ForestEdge.{ForestEdge}
use Rattle.edge_forest.specs.Edges.{edge_at, chain_of, is_alive, alive_edges}

pub range_append : (a n m : ℕ) → range_with_len a (n + m) ≡ range_with_len a n ++ range_with_len (a + n) m
range_append a zero m = ap (range_with_len a) none ∙ ap (λ (i : ℕ). range_with_len i m) same
  where
    none : 0 + m ≡ m
    none = omega arith

    same : a ≡ a + 0
    same = omega arith
range_append a (suc n) m = ap (range_with_len a) next ∙ ap (λ (is : List ℕ). a ∷ is) (range_append (a + 1) n m ∙ ap (λ (i : ℕ). range_with_len (a + 1) n ++ range_with_len i m) same)
  where
    next : suc n + m ≡ suc (n + m)
    next = omega arith

    same : a + 1 + n ≡ a + suc n
    same = omega arith

map_agree : {A B : Type 0} (P : A → Type 0) (f g : A → B) → ((x : A) → P x → f x ≡ g x) → (xs : List A) → All P xs → map f xs ≡ map g xs
map_agree P f g same [] all = refl
map_agree P f g same (x ∷ xs) all = rw (same x (All-head P x xs all), map_agree P f g same xs (All-tail P x xs all)) refl

-- the edges of the first list are in the second with the same key and chain, alive at the same time; the others are not alive
pub record IsLonger (k : ℕ) (edges edges' : List ForestEdge) : Type 0 where
  pub count : length edges ≤ length edges'
  pub key : (i : ℕ) → i < length edges → (edge_at edges' i).key ≡ (edge_at edges i).key
  pub chain : (i : ℕ) → i < length edges → chain_of edges' i ≡ chain_of edges i
  pub alive : (i : ℕ) → i < length edges → is_alive k (edge_at edges' i) ≡ is_alive k (edge_at edges i)
  pub later : (i : ℕ) → length edges ≤ i → i < length edges' → is_alive k (edge_at edges' i) ≡ false

module _ (k : ℕ) (edges edges' : List ForestEdge) (w : IsLonger k edges edges') where
  below : All (λ i. i < length edges) (range_with_len 0 (length edges))
  below = all_members (λ i. i < length edges) (range_with_len 0 (length edges)) (λ i m. omega (arith, (among_range 0 (length edges) i m).1))

  alive_before : filter (λ i. is_alive k (edge_at edges' i)) (range_with_len 0 (length edges)) ≡ filter (λ i. is_alive k (edge_at edges i)) (range_with_len 0 (length edges))
  alive_before =
      filter_agree_on (λ i. is_alive k (edge_at edges' i)) (λ i. is_alive k (edge_at edges i)) (range_with_len 0 (length edges))
      (all_members (λ i. is_alive k (edge_at edges' i) ≡ is_alive k (edge_at edges i)) (range_with_len 0 (length edges))
      (λ i m. w.alive i (omega (arith, (among_range 0 (length edges) i m).1))))

  none_later : filter (λ i. is_alive k (edge_at edges' i)) (range_with_len (length edges) (length edges' - length edges)) ≡ []
  none_later =
      filter_none (λ i. is_alive k (edge_at edges' i)) (range_with_len (length edges) (length edges' - length edges))
      (all_members (λ i. is_alive k (edge_at edges' i) ≡ false) (range_with_len (length edges) (length edges' - length edges))
      (λ i m. let r = among_range (length edges) (length edges' - length edges) i m in w.later i (omega (arith, r.0)) (omega (arith, r.1, w.count))))

  same_numbers : filter (λ i. is_alive k (edge_at edges' i)) (range_with_len 0 (length edges')) ≡ filter (λ i. is_alive k (edge_at edges i)) (range_with_len 0 (length edges))
  same_numbers =
      ap (λ (m : ℕ). filter (λ i. is_alive k (edge_at edges' i)) (range_with_len 0 m)) split
      ∙ ap (filter (λ i. is_alive k (edge_at edges' i))) (range_append 0 (length edges) (length edges' - length edges))
      ∙ ap (λ (a : ℕ). filter (λ i. is_alive k (edge_at edges' i)) (range_with_len 0 (length edges) ++ range_with_len a (length edges' - length edges))) from
      ∙ filter-append (λ i. is_alive k (edge_at edges' i)) (range_with_len 0 (length edges)) (range_with_len (length edges) (length edges' - length edges))
      ∙ ap (λ (is : List ℕ). filter (λ i. is_alive k (edge_at edges' i)) (range_with_len 0 (length edges)) ++ is) none_later
      ∙ append-nil _
      ∙ alive_before
    where
      split : length edges' ≡ length edges + (length edges' - length edges)
      split = omega (arith, w.count)

      from : 0 + length edges ≡ length edges
      from = omega arith

  alive_below : All (λ i. i < length edges) (filter (λ i. is_alive k (edge_at edges i)) (range_with_len 0 (length edges)))
  alive_below = All-filter (λ i. is_alive k (edge_at edges i)) (λ i. i < length edges) (range_with_len 0 (length edges)) below

  pub longer_alive : alive_edges edges' k ≡ alive_edges edges k
  longer_alive =
      ap (sort_by (λ i j. nat_lt (edge_at edges' i).key (edge_at edges' j).key)) same_numbers
      ∙ sym (sort_by-agree (λ i. i < length edges) (λ i j. nat_lt (edge_at edges i).key (edge_at edges j).key) (λ i j. nat_lt (edge_at edges' i).key (edge_at edges' j).key)
      (λ i j li lj. rw (w.key i li, w.key j lj) refl) (filter (λ i. is_alive k (edge_at edges i)) (range_with_len 0 (length edges))) alive_below)

  -- so their chains are the same
  pub longer_chains : map (chain_of edges') (alive_edges edges' k) ≡ map (chain_of edges) (alive_edges edges k)
  longer_chains =
      ap (map (chain_of edges')) longer_alive
      ∙ map_agree (λ i. i < length edges) (chain_of edges') (chain_of edges) w.chain (alive_edges edges k)
      (All-sort_by (λ i j. nat_lt (edge_at edges i).key (edge_at edges j).key) (λ i. i < length edges)
      (filter (λ i. is_alive k (edge_at edges i)) (range_with_len 0 (length edges))) alive_below)
