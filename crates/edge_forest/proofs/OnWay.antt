-- What is read on the way from the leaf of a step to the root, node by node.
use Rattle.std.proofs.Common.{◌≡◌, inl, inr, ℕ, zero, suc, ◌+◌, ◌/◌, ◌<◌, ◌≤◌, Bool, true, cond, nat_lt, List, [], ◌∷◌, ◌++◌, length, length-append, filter, flat_map, get_or, All, Contains, IsPermutation, refl, sym, ap, ◌∙◌, subst, append_assoc, arith}
use Rattle.std.specs.List.{range_with_len}
use Rattle.std.proofs.lemmas.Bool.{cases_eq, cases_lt, le-ltb}
use Rattle.std.proofs.lemmas.List.{append-nil, get_or_default}
use Rattle.std.proofs.lemmas.List.Elements.{filter-append, filter_passes, All-head, All-tail}
use Rattle.std.proofs.lemmas.List.Sorted.{length_permutation, All-permutation}
use Rattle.std.proofs.lemmas.Grind.{flat_map-append}
use Rattle.lemmas.proofs.Sorting.{sort_by-permutation}
use Rattle.edge_forest.specs.declared.edge.ForestEdge.{ForestEdge}
use Rattle.edge_forest.specs.declared.index.RangeIndex.{RangeIndex}
use Rattle.edge_forest.specs.Edges.{edge_at, is_alive, alive_edges}
use Rattle.edge_forest.specs.Index.{path_up, times, nodes_of_edge, IsIndex}
use Rattle.edge_forest.proofs.Times.{times-same, times-other}
use Rattle.edge_forest.proofs.OnPath.{on_path, alive_numbers, alive_on_path}

-- ---- what is listed are edges

-- a member stands at least once
times-member : (i : ℕ) (xs : List ℕ) → Contains xs i → 0 < times i xs
times-member i [] (k, l, e) = absurd (omega arith)
times-member i (x ∷ xs) (zero, l, e) = omega (arith, times-same i x xs e)
times-member i (x ∷ xs) (suc k, l, e) = elim (cases_eq x i) [
  | inl f ↦ omega (arith, times-same i x xs f)
  | inr f ↦ omega (arith, times-other i x xs f, times-member i xs (k, omega arith, e))
]

pub listed_are_edges : (last : ℕ) (edges : List ForestEdge) (index : RangeIndex) → IsIndex last edges index → (x : ℕ) → x < length index.nodes
    → All (λ i. i < length edges) (get_or index.nodes x [])
listed_are_edges last edges index w x h m d short =
    let i = get_or (get_or index.nodes x []) m d in
    let some = times-member i (get_or index.nodes x []) (m, short, get_or_default (get_or index.nodes x []) m i d short) in
    elim (cases_lt i (length edges)) [
      | inl less ↦ less
      | inr more ↦
          let none = w.listed x i h ∙ ap (λ (b : Bool). cond b (times x (nodes_of_edge index.depth (edge_at edges i))) 0) (le-ltb i (length edges) more) in
          absurd (omega (arith, some, none))
    ]

-- a list stays where all pass
all_pass : (p : ℕ → Bool) (xs : List ℕ) → All (λ x. p x ≡ true) xs → filter p xs ≡ xs
all_pass p [] h = refl
all_pass p (x ∷ xs) h =
    ap (λ (b : Bool). cond b (x ∷ filter p xs) (filter p xs)) (All-head (λ y. p y ≡ true) x xs h) ∙ ap (λ ys. x ∷ ys) (all_pass p xs (All-tail (λ y. p y ≡ true) x xs h))

-- ---- on the way

-- After so many nodes: those that are done and those that are left, the edges that were read and hold the step, and the looks.
pub record IsOnWay (edges : List ForestEdge) (index : RangeIndex) (k count node : ℕ) (ids : List ℕ) (before looks : ℕ) : Type 0 where
  pub left : ℕ
  pub done : List ℕ
  pub levels : count + left ≡ index.depth + 1
  pub path : path_up (suc index.depth) (index.leaves + k) ≡ done ++ path_up left node
  pub node_within : node ≤ index.leaves + k
  pub read : ids ≡ filter (λ i. is_alive k (edge_at edges i)) (flat_map (λ x. get_or index.nodes x []) done)
  pub looked : looks ≡ before + count + length (flat_map (λ x. get_or index.nodes x []) done)

pub way_up_begins : (edges : List ForestEdge) (index : RangeIndex) (k before : ℕ) → IsOnWay edges index k 0 (index.leaves + k) [] before before
way_up_begins edges index k before = record {
  left = suc index.depth;
  done = [];
  levels = omega arith;
  path = refl;
  node_within = omega arith;
  read = refl;
  looked = omega arith;
}

module _ (edges : List ForestEdge) (index : RangeIndex) (k : ℕ) where
  abbrev listed : ℕ → List ℕ
  listed x = get_or index.nodes x []

  abbrev holds_step : ℕ → Bool
  holds_step i = is_alive k (edge_at edges i)

  pub way_up_goes_on : (count node : ℕ) (ids new : List ℕ) (before looks now : ℕ) → count < index.depth + 1 → IsOnWay edges index k count node ids before looks
      → new ≡ ids ++ filter (λ i. is_alive k (edge_at edges i)) (get_or index.nodes node []) → now ≡ looks + 1 + length (get_or index.nodes node [])
      → IsOnWay edges index k (count + 1) (node / 2) new before now
  way_up_goes_on count node ids new before looks now less w e f = by w.left w.levels w.path
    where
      all : flat_map listed (w.done ++ node ∷ []) ≡ flat_map listed w.done ++ listed node
      all = flat_map-append listed w.done (node ∷ []) ∙ ap (λ (xs : List ℕ). flat_map listed w.done ++ xs) (append-nil (listed node))

      by : (left : ℕ) → count + left ≡ index.depth + 1 → path_up (suc index.depth) (index.leaves + k) ≡ w.done ++ path_up left node → IsOnWay edges index k (count + 1) (node / 2) new before now
      by zero g h = absurd (omega arith)
      by (suc left) g h = record {
        left = left;
        done = w.done ++ node ∷ [];
        levels = omega arith;
        path = h ∙ sym (append_assoc w.done (node ∷ []) (path_up left (node / 2)));
        node_within = omega (arith, w.node_within);
        read = e ∙ ap (λ (xs : List ℕ). xs ++ filter holds_step (listed node)) w.read ∙ sym (filter-append holds_step (flat_map listed w.done) (listed node)) ∙ ap (filter holds_step) (sym all);
        looked = omega (arith, f, w.looked, ap (λ (xs : List ℕ). length xs) all, length-append (flat_map listed w.done) (listed node));
      }

  module _ (last : ℕ) (w : IsIndex last edges index) (within : k ≤ last) (highs : (i : ℕ) → i < length edges → (edge_at edges i).high ≤ index.leaves) where
    -- as many are listed on the way as hold the step
    pub count_on_path : length (on_path index k) ≡ length (alive_edges edges k)
    count_on_path =
        length_permutation (alive_numbers edges k) (on_path index k) (alive_on_path last k edges index w within highs)
        ∙ sym (length_permutation (alive_numbers edges k) (alive_edges edges k) (sort_by-permutation (λ i j. nat_lt (edge_at edges i).key (edge_at edges j).key) (alive_numbers edges k)))

    -- no more so far
    pub looks_so_far : (count node : ℕ) (ids : List ℕ) (before looks : ℕ) → count < index.depth + 1 → IsOnWay edges index k count node ids before looks
        → looks + 1 + length (get_or index.nodes node []) ≤ before + length (alive_edges edges k) + index.depth + 1
    looks_so_far count node ids before looks less v = by v.left v.levels v.path
      where
        by : (left : ℕ) → count + left ≡ index.depth + 1 → path_up (suc index.depth) (index.leaves + k) ≡ v.done ++ path_up left node
            → looks + 1 + length (get_or index.nodes node []) ≤ before + length (alive_edges edges k) + index.depth + 1
        by zero g h = absurd (omega arith)
        by (suc left) g h =
            let whole : length (on_path index k) ≡ length (flat_map listed v.done) + (length (listed node) + length (flat_map listed (path_up left (node / 2))))
            = ap (λ (xs : List ℕ). length (flat_map listed xs)) h ∙ ap (λ (xs : List ℕ). length xs) (flat_map-append listed v.done (node ∷ path_up left (node / 2)))
            ∙ length-append (flat_map listed v.done) (listed node ++ flat_map listed (path_up left (node / 2)))
            ∙ ap (λ (n : ℕ). length (flat_map listed v.done) + n) (length-append (listed node) (flat_map listed (path_up left (node / 2)))) in
            omega (arith, whole, count_on_path, v.looked)

    -- the node is one of the tree
    pub node_of_tree : (count node : ℕ) (ids : List ℕ) (before looks : ℕ) → IsOnWay edges index k count node ids before looks → node < length index.nodes
    node_of_tree count node ids before looks v = omega (arith, v.node_within, w.count, w.wide)

    -- at the root all are read
    pub way_up_ends : (count node : ℕ) (ids : List ℕ) (before looks : ℕ) → index.depth + 1 ≤ count → IsOnWay edges index k count node ids before looks
        → IsPermutation (alive_numbers edges k) ids × (looks ≡ before + length (alive_edges edges k) + index.depth + 1)
    way_up_ends count node ids before looks over v = by v.left v.levels v.path
      where
        all_hold : All (λ i. is_alive k (edge_at edges i) ≡ true) (on_path index k)
        all_hold = All-permutation (λ i. is_alive k (edge_at edges i) ≡ true) (alive_numbers edges k) (on_path index k) (alive_on_path last k edges index w within highs)
            (filter_passes holds_step (range_with_len 0 (length edges)))

        by : (left : ℕ) → count + left ≡ index.depth + 1 → path_up (suc index.depth) (index.leaves + k) ≡ v.done ++ path_up left node
            → IsPermutation (alive_numbers edges k) ids × (looks ≡ before + length (alive_edges edges k) + index.depth + 1)
        by (suc left) g h = absurd (omega arith)
        by zero g h =
            let same : on_path index k ≡ flat_map listed v.done = ap (flat_map listed) (h ∙ append-nil v.done) in
            let read : ids ≡ on_path index k = v.read ∙ ap (filter holds_step) (sym same) ∙ all_pass holds_step (on_path index k) all_hold in (
              subst (IsPermutation (alive_numbers edges k)) (sym read) (alive_on_path last k edges index w within highs),
              omega (arith, v.looked, ap (λ (xs : List ℕ). length xs) same, count_on_path, v.levels),
            )
