-- What is read is the slice, and it has what the laws of slices say.
use Rattle.std.proofs.Common.{◌≡◌, ◌<◌, ◌≤◌, ℕ, ◌+◌, ◌^◌, true, List, length, map, sym, ap, ap₂, ◌∙◌, subst, arith}
use Rattle.std.proofs.lemmas.List.{length-map}
use Rattle.tgap_model.specs.declared.slice.Edge.{Edge}
use Rattle.tgap_model.specs.declared.slice.FaceRow.{FaceRow}
use Rattle.tgap_model.specs.declared.slice.Removal.{Removal}
use Rattle.tgap_model.specs.declared.slice.Slice.{Slice}
use Rattle.tgap_model.specs.Base.{BaseMap, is_base}
use Rattle.tgap_model.specs.Partition.{IsPartition, base_segments, edge_segments}
use Rattle.tgap_model.specs.History.{history_of}
use Rattle.tgap_model.specs.Merged.{merged, live_faces}
use Rattle.tgap_model.specs.Chains.{chains_at}
use Rattle.tgap_model.specs.Removals.{edge_of, edges_of, removals_to}
use Rattle.tgap_model.specs.Slice.{IsSlice, face_row, slice}
use Rattle.face_tree.specs.Tree.{FaceHistory, face_history}
use Rattle.slice_laws.proofs.EvenSides.{slices_are_slices}
use Rattle.slice_laws.proofs.Adjacency.{faces_are_adjacent}
use Rattle.step_laws.specs.StepLaws.{ArePlanar}
use Rattle.step_laws.proofs.EachSlice.{slices_stay_planar, slices_stay_partitions, faces_stay_unions}
use Rattle.edge_forest.specs.Edges.{chain_of}
use Rattle.edge_forest.specs.Forest.{EdgeForest, last_step}
use Rattle.tgap_build.specs.Built.{AreGone, HasRemoved}
use Rattle.slice_read.specs.Reading.{live_rows, HasAdjacentFaces, HasUnions}

-- the rows are those of the tree
rows_are : (m : BaseMap) (t : FaceHistory) → t ≡ face_history (merged m) → (k : ℕ) → live_rows t k (t.faces + k) ≡ map (face_row (merged m)) (live_faces (merged m) k)
rows_are m t history k = ap (λ (u : FaceHistory). live_rows u k (u.faces + k)) history

-- the edges that are read of a forest with all that is removed are those of the slice
pub edges_are : (f : EdgeForest) (m : BaseMap) (k : ℕ) (ids : List ℕ) (edges : List Edge) → f.base ≡ m → k ≤ length (history_of m)
    → HasRemoved f (last_step f)
    → ((removals : List Removal) → AreGone f k removals → edges ≡ edges_of (merged f.base) k removals (map (chain_of f.edges) ids))
    → map (chain_of f.edges) ids ≡ chains_at (merged f.base) k
    → edges ≡ edges_of (merged m) k (removals_to (merged m) k) (chains_at (merged m) k)
edges_are f m k ids edges same within removed read chains =
    let last : k ≤ last_step f = subst (λ (b : BaseMap). k ≤ length (history_of b)) (sym same) within in
    read (removals_to (merged f.base) k) (removed.by_then k last)
    ∙ ap (edges_of (merged f.base) k (removals_to (merged f.base) k)) chains
    ∙ ap (λ (b : BaseMap). edges_of (merged b) k (removals_to (merged b) k) (chains_at (merged b) k)) same

-- a slice of these rows and edges is the slice
pub is_slice : (m : BaseMap) → (t : FaceHistory) → t ≡ face_history (merged m) → (k : ℕ)
    → (faces : List FaceRow) (edges : List Edge) → faces ≡ live_rows t k (t.faces + k) → edges ≡ edges_of (merged m) k (removals_to (merged m) k) (chains_at (merged m) k)
    → record { step = k; faces = faces; edges = edges } ≡ slice m k
unfolding slice
is_slice m t history k faces edges rows chains =
    ap₂ (λ (rs : List FaceRow) (es : List Edge). record { step = k; faces = rs; edges = es }) (rows ∙ rows_are m t history k) chains

-- it has an edge for each chain
count_edges : (m : BaseMap) (k : ℕ) → length (slice m k).edges ≡ length (chains_at (merged m) k)
unfolding slice
count_edges m k = length-map (chains_at (merged m) k) (edge_of (merged m) k (removals_to (merged m) k))

-- so the looks that the forest takes for its chains are counted by its edges
pub looks_most : (f : EdgeForest) (m : BaseMap) (k before after d : ℕ) → f.base ≡ m → (last_step f < 2 ^ d → after ≤ before + length (chains_at (merged f.base) k) + d + 1)
    → length (history_of m) < 2 ^ d → after ≤ before + length (slice m k).edges + d + 1
looks_most f m k before after d same most h =
    let few : last_step f < 2 ^ d = omega (arith, h, ap (λ (b : BaseMap). length (history_of b)) same) in
    omega (arith, most few, count_edges m k, ap (λ (b : BaseMap). length (chains_at (merged b) k)) same)

pub looks_least : (f : EdgeForest) (m : BaseMap) (k before after : ℕ) → f.base ≡ m → before + length (chains_at (merged f.base) k) ≤ after → before + length (slice m k).edges ≤ after
looks_least f m k before after same least = omega (arith, least, count_edges m k, ap (λ (b : BaseMap). length (chains_at (merged b) k)) same)

module _ (m : BaseMap) (base : is_base m ≡ true) (planar : IsPartition (base_segments m)) (k : ℕ) (within : k ≤ length (history_of m)) (s : Slice)
    (is : s ≡ slice m k) where
  pub relation : IsSlice (merged m) k (removals_to (merged m) k) s
  relation = subst (IsSlice (merged m) k (removals_to (merged m) k)) (sym is) (slices_are_slices m base planar k)

  pub planar_edges : ArePlanar s.edges
  planar_edges = subst (λ (u : Slice). ArePlanar u.edges) (sym is) (slices_stay_planar m base planar k within)

  pub partition : IsPartition (edge_segments s.edges)
  partition = subst (λ (u : Slice). IsPartition (edge_segments u.edges)) (sym is) (slices_stay_partitions m base planar k within)

  pub adjacent : HasAdjacentFaces m k s
  adjacent = subst (HasAdjacentFaces m k) (sym is) (faces_are_adjacent m base planar k)

  pub unions : HasUnions m k s
  unions = subst (HasUnions m k) (sym is) (faces_stay_unions m base planar k within)
