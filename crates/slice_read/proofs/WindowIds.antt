-- Which edges are looked up for a window: those that are there after some steps and whose boxes meet it, in any order.
use Rattle.std.proofs.Common.{◌≡◌, ℕ, ◌<◌, ◌≤◌, Bool, nat_lt, List, filter, length, All, IsPermutation, sym, ap, ◌∙◌, subst, subst₂, arith}
use Rattle.std.specs.List.{range_with_len}
use Rattle.std.proofs.lemmas.Bool.{and_parts, leb-true}
use Rattle.std.proofs.lemmas.List.{length-map}
use Rattle.std.proofs.lemmas.List.FromFn.{length-range_with_len}
use Rattle.std.proofs.lemmas.List.Elements.{All-filter, filter_passes}
use Rattle.std.proofs.lemmas.List.Sorted.{All-permutation}
use Rattle.tgap_model.specs.declared.geometry.Window.{Window}
use Rattle.lemmas.proofs.Members.{filter_agree_on}
use Rattle.lemmas.proofs.Permutations.{IsPermutation-filter}
use Rattle.lemmas.proofs.Sorting.{sort_by-permutation}
use Rattle.map_laws.proofs.Lists.{all_members, among_range}
use Rattle.grid_index.specs.Boxes.{meets}
use Rattle.grid_index.specs.Near.{near_boxes}
use Rattle.grid_index.specs.Picked.{no_box, box_at}
use Rattle.grid_index.specs.Tower.{meets_at}
use Rattle.grid_index.proofs.Meeting.{near_filtered, near_below, meets_at-within}
use Rattle.edge_forest.specs.Edges.{edge_at, is_alive, alive_edges}
use Rattle.edge_forest.specs.Forest.{EdgeForest}
use Rattle.tgap_build.specs.Boxes.{boxes_of, edge_box}
use Rattle.slice_read.proofs.WindowEdges.{filter_both}

module _ (f : EdgeForest) (k : ℕ) (area : Window) where
  abbrev alive : ℕ → Bool
  alive i = is_alive k (edge_at f.edges i)

  abbrev boxes : List Window
  boxes = boxes_of f

  abbrev near : List ℕ
  near = filter alive (near_boxes area boxes)

  pub box_count : length boxes ≡ length f.edges
  box_count = length-map (range_with_len 0 (length f.edges)) (edge_box f) ∙ length-range_with_len 0 (length f.edges)

  -- what is looked up by the boxes are the places of those that meet the window
  by_place : near_boxes area boxes ≡ filter (λ i. meets area (box_at boxes i)) (range_with_len 0 (length f.edges))
  by_place =
      sym (near_filtered area boxes (length f.edges) (omega (arith, box_count)))
      ∙ filter_agree_on (meets_at area boxes) (λ i. meets area (box_at boxes i)) (range_with_len 0 (length f.edges))
      (all_members (λ i. meets_at area boxes i ≡ meets area (box_at boxes i)) (range_with_len 0 (length f.edges)) (λ i n.
      let r = among_range 0 (length f.edges) i n in
      meets_at-within area boxes i no_box (omega (arith, box_count, r.1))))

  -- looked up by the boxes, and then by the ranges
  pub ids_by_boxes : (found ids : List ℕ) → IsPermutation (near_boxes area boxes) found → ids ≡ filter alive found → IsPermutation near ids
  ids_by_boxes found ids moved is = subst (λ (is : List ℕ). IsPermutation near is) (sym is) (IsPermutation-filter alive (near_boxes area boxes) found moved)

  -- looked up by the ranges, and then by the boxes
  pub ids_by_ranges : (there ids : List ℕ) → there ≡ alive_edges f.edges k → ids ≡ filter (λ i. meets area (box_at boxes i)) there → IsPermutation near ids
  ids_by_ranges there ids at is =
      subst₂ IsPermutation (sym (ap (filter alive) by_place ∙ filter_both alive q all)) (sym (is ∙ ap (filter q) at))
      (IsPermutation-filter q (filter alive all) (alive_edges f.edges k) (sort_by-permutation (λ i j. nat_lt (edge_at f.edges i).key (edge_at f.edges j).key) (filter alive all)))
    where
      all : List ℕ
      all = range_with_len 0 (length f.edges)

      q : ℕ → Bool
      q i = meets area (box_at boxes i)

  -- they are numbers of edges
  pub found_within : (found : List ℕ) → IsPermutation (near_boxes area boxes) found → All (λ i. i < length f.edges) found
  found_within found moved =
      All-permutation (λ i. i < length f.edges) (near_boxes area boxes) found moved
      (subst (λ (n : ℕ). All (λ i. i < n) (near_boxes area boxes)) box_count (near_below area boxes))

  pub ids_within : (ids : List ℕ) → IsPermutation near ids → All (λ i. i < length f.edges) ids
  ids_within ids moved =
      All-permutation (λ i. i < length f.edges) near ids moved
      (All-filter alive (λ i. i < length f.edges) (near_boxes area boxes)
      (subst (λ (n : ℕ). All (λ i. i < n) (near_boxes area boxes)) box_count (near_below area boxes)))

  -- which are there after these steps
  pub ids_low : (ids : List ℕ) → IsPermutation near ids → All (λ i. (edge_at f.edges i).low ≤ k) ids
  ids_low ids moved =
      All-permutation (λ i. (edge_at f.edges i).low ≤ k) near ids moved
      (λ i d l. (let a = and_parts _ _ (filter_passes alive (near_boxes area boxes) i d l) in leb-true _ _ a.0))
