-- The edges of a window: looked up by their boxes and put in order of key, they are those of the slice that meet it.
use Rattle.std.proofs.Common.{◌≡◌, ◌≢◌, ℕ, ◌<◌, ◌≤◌, Bool, true, false, cond, nat_lt, List, [], ◌∷◌, map, filter, length, get_or, AllPairs, IsPermutation, refl, sym, ap, ◌∙◌, subst, true≢false, arith}
use Rattle.std.specs.List.{range_with_len}
use Rattle.std.specs.List.Sorted.{IsNonDecreasingBy}
use Rattle.std.proofs.lemmas.List.{length-map}
use Rattle.std.proofs.lemmas.List.FromFn.{length-range_with_len, get_or-map-range_with_len}
use Rattle.std.proofs.lemmas.List.Kept.{AllPairs-filter}
use Rattle.std.proofs.lemmas.List.Sorted.{IsPermutation-map, IsPermutation-sym, IsPermutation-trans}
use Rattle.lemmas.proofs.Members.{filter_agree_on}
use Rattle.lemmas.proofs.Permutations.{IsPermutation-filter}
use Rattle.lemmas.proofs.Sorting.{AllPairs-permutation, sort_by-permutation}
use Rattle.tgap_model.specs.declared.geometry.Window.{Window}
use Rattle.tgap_model.specs.declared.slice.Edge.{Edge}
use Rattle.tgap_model.specs.declared.slice.Removal.{Removal}
use Rattle.tgap_model.specs.Base.{BaseMap, is_base}
use Rattle.tgap_model.specs.Partition.{IsPartition, base_segments}
use Rattle.tgap_model.specs.History.{history_of}
use Rattle.tgap_model.specs.Merged.{merged}
use Rattle.tgap_model.specs.Chains.{chains_at}
use Rattle.tgap_model.specs.Removals.{edge_of, edges_of, removals_to}
use Rattle.tgap_model.specs.Slice.{meets_window}
use Rattle.map_laws.proofs.Lists.{all_members, among_range}
use Rattle.grid_index.specs.Boxes.{meets}
use Rattle.grid_index.specs.Near.{near_boxes}
use Rattle.grid_index.specs.Picked.{no_box}
use Rattle.grid_index.specs.Tower.{meets_at}
use Rattle.grid_index.proofs.Meeting.{near_filtered, meets_at-within}
use Rattle.grid_index.proofs.Ordering.{map-filter}
use Rattle.edge_forest.specs.Edges.{edge_at, chain_of, is_alive, alive_edges}
use Rattle.edge_forest.specs.Forest.{EdgeForest}
use Rattle.tgap_build.specs.Boxes.{boxes_of, edge_box}
use Rattle.tgap_build.proofs.EachLive.{after_live}
use Rattle.tgap_build.proofs.KeyedEdges.{Ascend, ascending_same}
use Rattle.slice_read.proofs.WindowBoxes.{edge_meets}

-- ---- lists

-- a test that only those pass which pass another one leaves the same of what the other one leaves
filter_first : {A : Type 0} (p q : A → Bool) → ((x : A) → p x ≡ true → q x ≡ true) → (xs : List A) → filter p (filter q xs) ≡ filter p xs
filter_first p q weaker [] = refl
filter_first {A} p q weaker (x ∷ xs) = by (filter_first p q weaker xs) (q x) refl (p x) refl
  where
    by : filter p (filter q xs) ≡ filter p xs → (b : Bool) → q x ≡ b → (c : Bool) → p x ≡ c
        → filter p (cond b (x ∷ filter q xs) (filter q xs)) ≡ cond c (x ∷ filter p xs) (filter p xs)
    by rest true e true f = rw f (ap (λ (ys : List A). x ∷ ys) rest)
    by rest true e false f = rw f rest
    by rest false e true f = absurd (true≢false (sym (weaker x f) ∙ e))
    by rest false e false f = rest

-- two tests in either order
pub filter_both : {A : Type 0} (p q : A → Bool) (xs : List A) → filter p (filter q xs) ≡ filter q (filter p xs)
filter_both p q [] = refl
filter_both {A} p q (x ∷ xs) = by (filter_both p q xs) (q x) refl (p x) refl
  where
    by : filter p (filter q xs) ≡ filter q (filter p xs) → (b : Bool) → q x ≡ b → (c : Bool) → p x ≡ c
        → filter p (cond b (x ∷ filter q xs) (filter q xs)) ≡ filter q (cond c (x ∷ filter p xs) (filter p xs))
    by rest true e true f = rw (e, f) (ap (λ (ys : List A). x ∷ ys) rest)
    by rest true e false f = rw f rest
    by rest false e true f = rw e rest
    by rest false e false f = rest

-- ---- the look-up

-- what is looked up are the numbers of the edges whose boxes meet the window
near_are : (f : EdgeForest) (area : Window) → near_boxes area (boxes_of f) ≡ filter (λ i. meets area (edge_box f i)) (range_with_len 0 (length f.edges))
near_are f area =
    let count : length (boxes_of f) ≡ length f.edges = length-map (range_with_len 0 (length f.edges)) (edge_box f) ∙ length-range_with_len 0 (length f.edges) in
    sym (near_filtered area (boxes_of f) (length f.edges) (omega (arith, count)))
    ∙ filter_agree_on (meets_at area (boxes_of f)) (λ i. meets area (edge_box f i)) (range_with_len 0 (length f.edges))
    (all_members (λ i. meets_at area (boxes_of f) i ≡ meets area (edge_box f i)) (range_with_len 0 (length f.edges)) (λ i n.
    let r = among_range 0 (length f.edges) i n in
    meets_at-within area (boxes_of f) i no_box (omega (arith, count, r.1))
    ∙ ap (meets area) (get_or-map-range_with_len (edge_box f) 0 (length f.edges) i i no_box (omega (arith, r.1)) (omega arith))))

module _ (f : EdgeForest) (k : ℕ) (removals : List Removal) (area : Window) where
  abbrev edge_by : ℕ → Edge
  edge_by i = edge_of (merged f.base) k removals (chain_of f.edges i)

  abbrev alive : ℕ → Bool
  alive i = is_alive k (edge_at f.edges i)

  abbrev all : List ℕ
  all = range_with_len 0 (length f.edges)

  meets_by : ℕ → Bool
  meets_by i = meets_window area (edge_by i)

  -- those that are left of the ones looked up are those that are left of all
  pub looked_up : filter (meets_window area) (map edge_by (filter (λ i. is_alive k (edge_at f.edges i)) (near_boxes area (boxes_of f))))
      ≡ filter (meets_window area) (map edge_by (filter (λ i. is_alive k (edge_at f.edges i)) (range_with_len 0 (length f.edges))))
  looked_up =
      ap (λ (is : List ℕ). filter (meets_window area) (map edge_by (filter alive is))) (near_are f area)
      ∙ sym (through (filter alive (filter (λ i. meets area (edge_box f i)) all)))
      ∙ ap (map edge_by) (filter_both (λ i. meets_window area (edge_by i)) alive (filter (λ i. meets area (edge_box f i)) all)
      ∙ ap (filter alive) (filter_first (λ i. meets_window area (edge_by i)) (λ i. meets area (edge_box f i))
      (λ i met. edge_meets (merged f.base) k removals (chain_of f.edges i) area met) all)
      ∙ sym (filter_both (λ i. meets_window area (edge_by i)) alive all))
      ∙ through (filter alive all)
    where
      through : (is : List ℕ) → map edge_by (filter (λ i. meets_window area (edge_by i)) is) ≡ filter (meets_window area) (map edge_by is)
      through is = map-filter edge_by (λ i. meets_window area (edge_by i)) (meets_window area) is (λ i d l. refl)

-- ---- in order of key

-- edges that were put in order of key are those of another list in that order, if they are the same
put_in_order : (kept sorted whole : List Edge) → IsPermutation kept sorted → IsNonDecreasingBy (λ e. e.key) sorted → IsPermutation kept whole → Ascend whole
    → sorted ≡ whole
put_in_order kept sorted whole moved order same ascend =
    ascending_same sorted whole
    strictly ascend (IsPermutation-trans sorted kept whole (IsPermutation-sym kept sorted moved) same)
  where
    apart : AllPairs (λ (e f : Edge). e.key ≢ f.key) sorted
    apart =
        AllPairs-permutation (λ (e f : Edge). e.key ≢ f.key) (λ e f ne s. ne (sym s)) whole sorted
        (IsPermutation-trans whole kept sorted (IsPermutation-sym kept whole same) moved) (λ i j d less short. let a = ascend i j d less short in omega arith)

    strictly : Ascend sorted
    strictly i j d less short =
        let le : (get_or sorted i d).key ≤ (get_or sorted j d).key = order i j d (omega arith) short in
        let ne : (get_or sorted i d).key ≢ (get_or sorted j d).key = apart i j d less short in
        omega arith

-- the edges by their numbers
edges_by : (f : EdgeForest) (k : ℕ) (removals : List Removal) (ids : List ℕ) → map (edge_by f k removals no_box) ids ≡ edges_of (merged f.base) k removals (map (chain_of f.edges) ids)
edges_by f k removals [] = refl
edges_by f k removals (i ∷ ids) = ap (λ (es : List Edge). edge_by f k removals no_box i ∷ es) (edges_by f k removals ids)

pub window_edges : (f : EdgeForest) (m : BaseMap) → is_base m ≡ true → IsPartition (base_segments m) → f.base ≡ m → (k : ℕ) → k ≤ length (history_of m)
    → (area : Window) (ids : List ℕ) (edges kept sorted : List Edge)
    → map (chain_of f.edges) (alive_edges f.edges k) ≡ chains_at (merged f.base) k
    → IsPermutation (filter (λ i. is_alive k (edge_at f.edges i)) (near_boxes area (boxes_of f))) ids
    → edges ≡ edges_of (merged f.base) k (removals_to (merged f.base) k) (map (chain_of f.edges) ids)
    → kept ≡ filter (meets_window area) edges
    → IsPermutation kept sorted → IsNonDecreasingBy (λ e. e.key) sorted
    → sorted ≡ filter (meets_window area) (edges_of (merged m) k (removals_to (merged m) k) (chains_at (merged m) k))
window_edges f m base planar same k within area ids edges kept sorted chains found read left moved order =
    put_in_order kept sorted (filter (meets_window area) whole) moved order permuted
    (AllPairs-filter (λ (e f : Edge). e.key < f.key) (meets_window area) whole (after_live m base planar k within).ascending)
  where
    whole : List Edge
    whole = edges_of (merged m) k (removals_to (merged m) k) (chains_at (merged m) k)

    removals : List Removal
    removals = removals_to (merged f.base) k

    by : ℕ → Edge
    by = edge_by f k removals area

    listed : List ℕ
    listed = filter (λ i. is_alive k (edge_at f.edges i)) (range_with_len 0 (length f.edges))

    near : List ℕ
    near = filter (λ i. is_alive k (edge_at f.edges i)) (near_boxes area (boxes_of f))

    passing : List ℕ → List Edge
    passing is = filter (meets_window area) (map by is)

    kept_are : kept ≡ passing ids
    kept_are = left ∙ ap (filter (meets_window area)) (read ∙ sym (edges_by f k removals ids))

    -- in whatever order they are looked up, the same are left
    reordered : IsPermutation (passing ids) (passing near)
    reordered = IsPermutation-filter (meets_window area) (map by ids) (map by near) (IsPermutation-map by ids near (IsPermutation-sym near ids found))

    whole_are : map by (alive_edges f.edges k) ≡ whole
    whole_are =
        edges_by f k removals (alive_edges f.edges k) ∙ ap (edges_of (merged f.base) k removals) chains
        ∙ ap (λ (b : BaseMap). edges_of (merged b) k (removals_to (merged b) k) (chains_at (merged b) k)) same

    listed_are : IsPermutation (filter (meets_window area) (map by listed)) (filter (meets_window area) whole)
    listed_are = rw (← whole_are) (IsPermutation-filter (meets_window area) (map by listed) (map by (alive_edges f.edges k))
        (IsPermutation-map by listed (alive_edges f.edges k)
        (sort_by-permutation (λ i j. nat_lt (edge_at f.edges i).key (edge_at f.edges j).key) listed)))

    permuted : IsPermutation kept (filter (meets_window area) whole)
    permuted = rw kept_are (IsPermutation-trans (passing ids) (passing near) (filter (meets_window area) whole) reordered
        (subst (λ (es : List Edge). IsPermutation es (filter (meets_window area) whole)) (sym (looked_up f k removals area)) listed_are))
