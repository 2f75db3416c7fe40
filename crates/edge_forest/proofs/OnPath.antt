-- The edges that are listed on the way from a step to the root are those whose range holds the step, each once.
use Rattle.std.proofs.Common.{◌≡◌, ◌⊎◌, inl, inr, ℕ, suc, ◌+◌, ◌^◌, ◌<◌, ◌≤◌, ◌&&◌, Bool, cond, nat_le, nat_lt, List, [], length, filter, flat_map, sum_by, get_or, IsPermutation, refl, sym, ap, ap₂, ◌∙◌, arith}
use Rattle.std.specs.List.{range_with_len}
use Rattle.std.proofs.Math.Nat.{pow-succ'}
use Rattle.std.proofs.lemmas.Bool.{cases_lt, lt-ltb, le-ltb, le-leb, lt-leb}
use Rattle.std.proofs.lemmas.List.Elements.{All-weaker}
use Rattle.lemmas.proofs.Counts.{sum_by-agree}
use Rattle.edge_forest.specs.declared.edge.ForestEdge.{ForestEdge}
use Rattle.edge_forest.specs.declared.index.RangeIndex.{RangeIndex}
use Rattle.edge_forest.specs.Edges.{edge_at, is_alive}
use Rattle.edge_forest.specs.Index.{path_up, nodes_of_edge, times, IsIndex}
use Rattle.edge_forest.proofs.Times.{times-flat_map, times-passing, permutation_by_times}
use Rattle.edge_forest.proofs.PathCounts.{path_below, met, holds, met_is, nothing}

-- the edges that are listed on the way
abbrev pub on_path : RangeIndex → ℕ → List ℕ
on_path index k = flat_map (λ x. get_or index.nodes x []) (path_up (suc index.depth) (index.leaves + k))

-- the numbers of the edges whose range holds k
abbrev pub alive_numbers : List ForestEdge → ℕ → List ℕ
alive_numbers edges k = filter (λ i. is_alive k (edge_at edges i)) (range_with_len 0 (length edges))

same_test : (p a k b : ℕ) → (nat_le (p + a) (p + k) && nat_lt (p + k) (p + b)) ≡ (nat_le a k && nat_lt k b)
same_test p a k b = ap₂ (λ (c d : Bool). c && d)
    (elim (cases_lt k a) [ inl h ↦ lt-leb (p + a) (p + k) (omega arith) ∙ sym (lt-leb a k h) | inr h ↦ le-leb (p + a) (p + k) (omega arith) ∙ sym (le-leb a k h) ])
    (elim (cases_lt k b) [ inl h ↦ lt-ltb (p + k) (p + b) (omega arith) ∙ sym (lt-ltb k b h) | inr h ↦ le-ltb (p + k) (p + b) (omega arith) ∙ sym (le-ltb k b h) ])

module _ (last k : ℕ) (edges : List ForestEdge) (index : RangeIndex) (w : IsIndex last edges index) (within : k ≤ last)
    (highs : (i : ℕ) → i < length edges → (edge_at edges i).high ≤ index.leaves) where
  path : List ℕ
  path = path_up (suc index.depth) (index.leaves + k)

  held_once : (i : ℕ) → i < length edges → met (suc index.depth) (2 ^ index.depth + (edge_at edges i).low) (2 ^ index.depth + (edge_at edges i).high) (index.leaves + k)
      ≡ cond (is_alive k (edge_at edges i)) 1 0
  unfolding holds
  held_once i h =
      let double = pow-succ' 2 index.depth in
      let leaves = w.leaves in
      let wide = w.wide in
      let high = highs i h in
      met_is (suc index.depth) (2 ^ index.depth + (edge_at edges i).low) (2 ^ index.depth + (edge_at edges i).high) (index.leaves + k) (omega arith) (omega arith) (omega arith) (omega arith)
      ∙ ap (λ (n : ℕ). cond (nat_le (2 ^ index.depth + (edge_at edges i).low) (n + k) && nat_lt (n + k) (2 ^ index.depth + (edge_at edges i).high)) 1 0) leaves
      ∙ ap (λ (b : Bool). cond b 1 0) (same_test (2 ^ index.depth) (edge_at edges i).low k (edge_at edges i).high)

  times_on_path : (i : ℕ) → times i (on_path index k) ≡ times i (alive_numbers edges k)
  unfolding path
  times_on_path i =
      times-flat_map i (λ x. get_or index.nodes x []) path
      ∙ sum_by-agree (λ x. times i (get_or index.nodes x [])) (λ x. cond (nat_lt i (length edges)) (times x (nodes_of_edge index.depth (edge_at edges i))) 0) path
      (All-weaker (λ (x : ℕ). x < 2 ^ suc index.depth) (λ x. times i (get_or index.nodes x []) ≡ cond (nat_lt i (length edges)) (times x (nodes_of_edge index.depth (edge_at edges i))) 0)
      (λ x l. let double = pow-succ' 2 index.depth in let leaves = w.leaves in let count = w.count in w.listed x i (omega arith))
      path (path_below (suc index.depth) (index.leaves + k) (let double = pow-succ' 2 index.depth in let leaves = w.leaves in let wide = w.wide in omega arith)))
      ∙ by (cases_lt i (length edges))
      ∙ sym (times-passing (λ j. is_alive k (edge_at edges j)) (length edges) i)
    where
      by : (i < length edges) ⊎ (length edges ≤ i)
          → sum_by (λ x. cond (nat_lt i (length edges)) (times x (nodes_of_edge index.depth (edge_at edges i))) 0) path ≡ cond (nat_lt i (length edges)) (cond (is_alive k (edge_at edges i)) 1 0) 0
      by (inl h) =
          ap (λ (b : Bool). sum_by (λ x. cond b (times x (nodes_of_edge index.depth (edge_at edges i))) 0) path) (lt-ltb i (length edges) h)
          ∙ held_once i h
          ∙ sym (ap (λ (b : Bool). cond b (cond (is_alive k (edge_at edges i)) 1 0) 0) (lt-ltb i (length edges) h))
      by (inr h) =
          ap (λ (b : Bool). sum_by (λ x. cond b (times x (nodes_of_edge index.depth (edge_at edges i))) 0) path) (le-ltb i (length edges) h)
          ∙ nothing (λ (x : ℕ). 0) path (λ m d l. refl)
          ∙ sym (ap (λ (b : Bool). cond b (cond (is_alive k (edge_at edges i)) 1 0) 0) (le-ltb i (length edges) h))

  pub alive_on_path : IsPermutation (alive_numbers edges k) (on_path index k)
  alive_on_path = permutation_by_times (alive_numbers edges k) (on_path index k) (λ i. sym (times_on_path i))
