-- Laws of pieces and puts: how the points of the edges of a step are led back to those of the edges before it.
use Rattle.std.specs.Prelude.{◌≡◌, ◌≤◌, ℕ, ◌+◌, ◌-◌, Bool, true, nat_lt, List, [], ◌∷◌, map, filter, take, drop, reverse, length, All, IsTrue, ◌==◌, if◌then◌else◌}
use Rattle.lemmas.specs.Sorting.{is_sorted_by}
use Rattle.tgap_model.specs.declared.geometry.Point.{Point}
use Rattle.tgap_model.specs.declared.slice.Removal.{Removal}
use Rattle.tgap_model.specs.declared.record.Piece.{Piece}
use Rattle.tgap_model.specs.Base.{BaseMap, is_base}
use Rattle.tgap_model.specs.Partition.{IsPartition, base_segments}
use Rattle.tgap_model.specs.History.{history_of}
use Rattle.tgap_model.specs.Merged.{MergedMap, merged}
use Rattle.tgap_model.specs.Chains.{Chain, key, chain_points, chains_at}
use Rattle.tgap_model.specs.Removals.{removals_to, without}
use Rattle.tgap_model.specs.Records.{puts_from, runs, pieces_from, put_in, ends_with_place}
use Rattle.record_laws.specs.RunLaws.{chain_of_run, is_turned_run}

-- ---- pieces

-- the points from place `first` on, cut at the last places of pieces, each turned where its piece is
abbrev pub cut_points : List Point → ℕ → List Piece → List (List Point)
cut_points points first [] = []
cut_points points first (p ∷ pieces) =
    let cut = take (p.last + 1 - first) (drop first points) in
    (if p.turned then reverse cut else cut) ∷ cut_points points p.last pieces

-- The pieces of a chain after step j, whichever side of it the new face has: they have the keys of the chains of its runs, and cut
-- the points that were left before the step into those of the edges of these chains. Their last places ascend up to that of the
-- last point.
pub record CutsIntoEdges (h : MergedMap) (j : ℕ) (at_left : Bool) (c : Chain) : Type 0 where
  pub keys : map (λ p. p.key) (pieces_from h j at_left (chains_at h (j - 1)) (removals_to h (j - 1)) 0 (runs (chains_at h (j - 1)) c))
      ≡ map (λ r. key (chain_of_run (chains_at h (j - 1)) r)) (runs (chains_at h (j - 1)) c)
  pub turned : map (λ p. p.turned) (pieces_from h j at_left (chains_at h (j - 1)) (removals_to h (j - 1)) 0 (runs (chains_at h (j - 1)) c))
      ≡ map (is_turned_run (chains_at h (j - 1))) (runs (chains_at h (j - 1)) c)
  pub points : cut_points (without (removals_to h (j - 1)) (chain_points h.base.arcs c)) 0
      (pieces_from h j at_left (chains_at h (j - 1)) (removals_to h (j - 1)) 0 (runs (chains_at h (j - 1)) c))
      ≡ map (λ r. without (removals_to h (j - 1)) (chain_points h.base.arcs (chain_of_run (chains_at h (j - 1)) r))) (runs (chains_at h (j - 1)) c)
  pub ascend : is_sorted_by nat_lt (map (λ p. p.last) (pieces_from h j at_left (chains_at h (j - 1)) (removals_to h (j - 1)) 0 (runs (chains_at h (j - 1)) c))) ≡ true
  pub ends : ends_with_place (length (without (removals_to h (j - 1)) (chain_points h.base.arcs c)) - 1)
      (map (λ p. p.last) (pieces_from h j at_left (chains_at h (j - 1)) (removals_to h (j - 1)) 0 (runs (chains_at h (j - 1)) c))) ≡ true

abbrev pub PiecesAreEdges : Type 0
PiecesAreEdges =
    (m : BaseMap) → IsTrue (is_base m) → IsPartition (base_segments m)
    → (j : ℕ) → 1 ≤ j → j ≤ length (history_of m) → (at_left : Bool)
    → All (CutsIntoEdges (merged m) j at_left) (chains_at (merged m) j)

-- ---- puts

-- The vertices that step j takes out come back at their places, whatever points they are taken out of.
abbrev pub PutsComeBack : Type 0
PutsComeBack =
    (h : MergedMap) (j : ℕ) (points : List Point) → 1 ≤ j → j ≤ length h.steps
    → put_in (puts_from (filter (λ (r : Removal). r.step == j) (removals_to h j)) 0 (without (removals_to h (j - 1)) points)) (without (removals_to h j) points)
    ≡ without (removals_to h (j - 1)) points
