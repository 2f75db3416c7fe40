-- Laws of the removals of a base map that is a planar partition.
use Rattle.std.specs.Prelude.{◌≡◌, ◌≢◌, ◌≤◌, ℕ, IsTrue, [], length, All, AllPairs}
use Rattle.tgap_model.specs.Base.{BaseMap, is_base}
use Rattle.tgap_model.specs.Merged.{MergedMap, merged}
use Rattle.tgap_model.specs.Chains.{chains_at}
use Rattle.tgap_model.specs.Partition.{AreApart, IsPartition, base_segments}
use Rattle.tgap_model.specs.Removals.{edges_of, removals_to}
use Rattle.removal_laws.specs.Trace.{edges_after_sweep, trace_at}
use Rattle.removal_laws.specs.StandLaws.{InnerPointsStandOnce, IsInnerOfChains}

-- Where the segments of a base map have no point in common but permitted ones, inner points of the chains after each step stand once.
abbrev pub ChainsStandOnce : Type 0
ChainsStandOnce =
    (h : MergedMap) → IsTrue (is_base h.base) → AllPairs AreApart (base_segments h.base)
    → (k : ℕ) → InnerPointsStandOnce (edges_of h k [] (chains_at h k))

-- What is known of the removals up to step k: none is listed twice, what the step takes out is an inner point of its chains, and
-- its sweep leaves the edges of these chains less all that is listed.
pub record HasRemovals (h : MergedMap) (k : ℕ) : Type 0 where
  pub once : AllPairs (λ r s. r.point ≢ s.point) (removals_to h k)
  pub inner : All (λ t. IsInnerOfChains h k t.b) (trace_at h k)
  pub left : 1 ≤ k → k ≤ length h.steps → edges_after_sweep h k ≡ edges_of h k (removals_to h k) (chains_at h k)

-- this is so of every planar partition
abbrev pub PartitionHasRemovals : Type 0
PartitionHasRemovals = (m : BaseMap) → IsTrue (is_base m) → IsPartition (base_segments m) → (k : ℕ) → HasRemovals (merged m) k
