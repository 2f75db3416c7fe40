-- The edges of the table that had the loser at a side and are no parts of new ones are whole pieces.
use Rattle.std.proofs.Common.{◌≡◌, inl, inr, ℕ, ◌-◌, ◌<◌, ◌==◌, not, List, [], ◌∷◌, map, filter, length, refl, sym, ap, ap₂, ◌∙◌, subst}
use Rattle.std.specs.List.{list_any}
use Rattle.tgap_model.specs.declared.slice.Edge.{Edge}
use Rattle.tgap_model.specs.declared.slice.Removal.{Removal}
use Rattle.tgap_model.specs.Merged.{MergedMap, merged, step_number}
use Rattle.tgap_model.specs.Chains.{Chain, key, chains_at}
use Rattle.tgap_model.specs.Removals.{edge_of, edges_of, removals_to}
use Rattle.map_laws.proofs.ChainMembers.{Among}
use Rattle.map_laws.proofs.Lists.{map_among, among_map}
use Rattle.edge_forest.specs.Forest.{EdgeForest}
use Rattle.tgap_build.specs.declared.edge_table.EdgeTable.{EdgeTable}
use Rattle.tgap_build.specs.declared.live_edges.Made.{Made}
use Rattle.tgap_build.specs.Table.{faced, labelled_edges, table_edges, IsTable, edge_with}
use Rattle.tgap_build.specs.Changes.{HasGrown, born_chains, losing_keys, whole_of, made_of, is_part_of}
use Rattle.tgap_build.proofs.Born.{within, whole_run}
use Rattle.tgap_build.proofs.Joining.{placed_with, losing_is}
use Rattle.tgap_build.proofs.ChangedChains.{lost, lost_known, lost_keys, lost_left, left_off}
use Rattle.tgap_build.proofs.StepMends.{loser_borders, whole_is}

-- the edge with the key of a chain is that of the chain
pub table_with : (h : MergedMap) (k : ℕ) (rs : List Removal) (t : EdgeTable) → IsTable t → table_edges t ≡ edges_of h k rs (chains_at h k) → (c : Chain) → Among c (chains_at h k)
    → faced t.labels (edge_with t.places.items (key c)) ≡ edge_of h k rs c
table_with h k rs t table edges c n =
    let e = map_among (faced t.labels) (labelled_edges t) (edge_of h k rs c) (subst (Among (edge_of h k rs c)) (sym edges) (among_map (edge_of h k rs) (chains_at h k) c n)) in
    ap (faced t.labels) (placed_with t.places.items table.keyed e.0 e.1 (key c) (ap (λ (x : Edge). x.key) e.2)) ∙ e.2

pub table_points : (h : MergedMap) (k : ℕ) (rs : List Removal) (t : EdgeTable) → IsTable t → table_edges t ≡ edges_of h k rs (chains_at h k) → (c : Chain) → Among c (chains_at h k)
    → (edge_with t.places.items (key c)).points ≡ (edge_of h k rs c).points
table_points h k rs t table edges c n = ap (λ (e : Edge). e.points) (table_with h k rs t table edges c n)

module _ (f : EdgeForest) (k old : ℕ) (some : 0 < k) (grown : HasGrown f k old) (t : EdgeTable) (table : IsTable t)
    (edges : table_edges t ≡ edges_of (merged f.base) k (removals_to (merged f.base) (k - 1)) (chains_at (merged f.base) k)) (losing : List ℕ) (losing_are : losing ≡ losing_keys (merged f.base) k) where
  abbrev h : MergedMap
  h = merged f.base

  lost_one : (c : Chain) → Among c (lost f k old some grown) → whole_of t.places.items (step_number h k) losing (key c) ≡ made_of h k c
  lost_one c n =
      let known = lost_known f k old some grown c n in
      whole_is f.base grown.forest.base grown.forest.partition k some (within f k old some grown) c known.0 (whole_run f k old some grown c known.0 known.1)
      (loser_borders f.base grown.forest.base grown.forest.partition k some (within f k old some grown) c known.2) t.places.items losing
      (table_points h k (removals_to h (k - 1)) t table edges c known.0)
      (ap (list_any (λ i. i == key c)) losing_are ∙ losing_is h k c known.1 (left_off f k old some grown c (lost_left f k old some grown c n)))

  pub lost_made : map (whole_of t.places.items (step_number (merged f.base) k) losing) (filter (λ i. not (is_part_of (chains_at (merged f.base) (k - 1)) (born_chains f k old (length f.edges)) i)) losing)
      ≡ map (made_of (merged f.base) k) (lost f k old some grown)
  lost_made =
      ap (λ (is : List ℕ). map (whole_of t.places.items (step_number h k) losing) (filter (λ i. not (is_part_of (chains_at h (k - 1)) (born_chains f k old (length f.edges)) i)) is)) losing_are
      ∙ ap (map (whole_of t.places.items (step_number h k) losing)) (lost_keys f k old some grown)
      ∙ by (lost f k old some grown) (λ c n. n)
    where
      by : (cs : List Chain) → ((c : Chain) → Among c cs → Among c (lost f k old some grown)) → map (whole_of t.places.items (step_number h k) losing) (map key cs) ≡ map (made_of h k) cs
      by [] sub = refl
      by (c ∷ cs) sub = ap₂ (λ (o : Made) (os : List Made). o ∷ os) (lost_one c (sub c (inl refl))) (by cs (λ d n. sub d (inr n)))
