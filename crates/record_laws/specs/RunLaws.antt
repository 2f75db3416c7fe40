-- Laws of runs: each chain after a step is cut into chains before it, as they are or turned round.
use Rattle.std.specs.Prelude.{◌≡◌, ◌≤◌, ℕ, ◌-◌, Bool, true, false, not, nat_lt, ◌==◌, List, [], ◌∷◌, map, flat_map, length, count_by, All, Contains, IsTrue, if◌then◌else◌}
use Rattle.lemmas.specs.Sorting.{sort_by}
use Rattle.tgap_model.specs.Base.{BaseMap, is_base}
use Rattle.tgap_model.specs.Partition.{IsPartition, base_segments}
use Rattle.tgap_model.specs.History.{history_of}
use Rattle.tgap_model.specs.Merged.{MergedMap, merged, step_number}
use Rattle.tgap_model.specs.Chains.{Chain, key, has_links, turned_round, chains_at}
use Rattle.tgap_model.specs.Removals.{edge_of}
use Rattle.tgap_model.specs.Records.{is_edge_between, chain_of, holds_turned, runs}
use Rattle.map_laws.specs.ChainLaws.{chains_left}

-- the chain of these that holds the first link of a run
abbrev pub chain_of_run : List Chain → Chain → Chain
chain_of_run finer [] = []
chain_of_run finer (d ∷ run) = chain_of finer d.arc

-- the run goes against that chain, as its piece says
abbrev pub is_turned_run : List Chain → Chain → Bool
is_turned_run finer [] = false
is_turned_run finer (d ∷ run) =
    if d.turned then not (holds_turned d.arc (chain_of finer d.arc)) else holds_turned d.arc (chain_of finer d.arc)

-- A run is one of these chains, as it is or turned round.
pub record IsRun (finer : List Chain) (run : Chain) : Type 0 where
  pub links : has_links run ≡ true
  pub member : Contains finer (chain_of_run finer run)
  pub same : run ≡ (if is_turned_run finer run then turned_round (chain_of_run finer run) else chain_of_run finer run)

-- all runs of the chains after step j
abbrev pub all_runs : MergedMap → ℕ → List Chain
all_runs h j = flat_map (runs (chains_at h (j - 1))) (chains_at h j)

-- How the chains after step j are cut: the runs of each are the chain in a row, and each of them is a chain before the step. Each
-- chain before the step is that of one run, or lies between loser and winner and is that of none; so the chains of all runs, in
-- the order of their keys, are those that the step leaves.
pub record HasRuns (h : MergedMap) (j : ℕ) : Type 0 where
  pub joined : All (λ c. flat_map (λ r. r) (runs (chains_at h (j - 1)) c) ≡ c) (chains_at h j)
  pub each : All (λ c. All (IsRun (chains_at h (j - 1))) (runs (chains_at h (j - 1)) c)) (chains_at h j)
  pub once : All (λ f. count_by (λ r. key (chain_of_run (chains_at h (j - 1)) r) == key f) (all_runs h j)
      ≡ (if is_edge_between (step_number h j).loser (step_number h j).winner (edge_of h (j - 1) [] f) then 0 else 1)) (chains_at h (j - 1))
  pub left : sort_by (λ c d. nat_lt (key c) (key d)) (map (chain_of_run (chains_at h (j - 1))) (all_runs h j)) ≡ chains_left h (j - 1)

-- this is so at every step of the history of a planar partition
abbrev pub RunsAreChains : Type 0
RunsAreChains =
    (m : BaseMap) → IsTrue (is_base m) → IsPartition (base_segments m)
    → (j : ℕ) → 1 ≤ j → j ≤ length (history_of m) → HasRuns (merged m) j
