-- The law of runs, at every step of the history of a planar partition.
use Rattle.std.proofs.Common.{◌≡◌, ℕ, ◌+◌, ◌-◌, ◌<◌, ◌==◌, length, All, [], map, nat_lt, cond, subst, arith}
use Rattle.std.specs.Prelude.{count_by, flat_map}
use Rattle.lemmas.specs.Sorting.{sort_by}
use Rattle.tgap_model.specs.History.{history_of}
use Rattle.tgap_model.specs.Merged.{merged, step_number}
use Rattle.tgap_model.specs.Chains.{key, chains_at}
use Rattle.tgap_model.specs.Removals.{edge_of}
use Rattle.tgap_model.specs.Records.{is_edge_between, runs}
use Rattle.map_laws.specs.ChainLaws.{chains_left}
use Rattle.map_laws.proofs.Lists.{all_members}
use Rattle.record_laws.specs.RunLaws.{chain_of_run, IsRun, RunsAreChains}
use Rattle.record_laws.proofs.MapFacts.{numbered, based, even}
use Rattle.record_laws.proofs.StepRuns.{part_run, run_part, runs_joined, runs_once, runs_left}

pub runs_are_chains : RunsAreChains
runs_are_chains m base planar j one last = record {
  joined = subst (λ (i : ℕ). All (λ c. flat_map (λ r. r) (runs (chains_at (merged m) k) c) ≡ c) (chains_at (merged m) i)) next
      (all_members (λ c. flat_map (λ r. r) (runs (chains_at (merged m) k) c) ≡ c) (chains_at (merged m) (k + 1))
      (runs_joined (merged m) k (numbered m base planar) small (based m base planar) (even m base planar k)));
  each = subst (λ (i : ℕ). All (λ c. All (IsRun (chains_at (merged m) k)) (runs (chains_at (merged m) k) c)) (chains_at (merged m) i)) next
      (all_members (λ c. All (IsRun (chains_at (merged m) k)) (runs (chains_at (merged m) k) c)) (chains_at (merged m) (k + 1)) (λ c n.
      all_members (IsRun (chains_at (merged m) k)) (runs (chains_at (merged m) k) c) (λ r o.
      part_run (merged m) k (numbered m base planar) small (based m base planar) (even m base planar k) r
      (run_part (merged m) k (numbered m base planar) small (based m base planar) (even m base planar k) c n r o))));
  once = subst (λ (i : ℕ). All (λ f. count_by (λ r. key (chain_of_run (chains_at (merged m) k) r) == key f) (flat_map (runs (chains_at (merged m) k)) (chains_at (merged m) i))
      ≡ cond (is_edge_between (step_number (merged m) i).loser (step_number (merged m) i).winner (edge_of (merged m) k [] f)) 0 1) (chains_at (merged m) k)) next
      (all_members (λ f. count_by (λ r. key (chain_of_run (chains_at (merged m) k) r) == key f) (flat_map (runs (chains_at (merged m) k)) (chains_at (merged m) (k + 1)))
      ≡ cond (is_edge_between (step_number (merged m) (k + 1)).loser (step_number (merged m) (k + 1)).winner (edge_of (merged m) k [] f)) 0 1) (chains_at (merged m) k)
      (runs_once (merged m) k (numbered m base planar) small (based m base planar) (even m base planar k)));
  left = subst (λ (i : ℕ). sort_by (λ c d. nat_lt (key c) (key d)) (map (chain_of_run (chains_at (merged m) k)) (flat_map (runs (chains_at (merged m) k)) (chains_at (merged m) i)))
      ≡ chains_left (merged m) k) next
      (runs_left (merged m) k (numbered m base planar) small (based m base planar) (even m base planar k));
}
  where
    k : ℕ
    k = j - 1

    next : k + 1 ≡ j
    next = omega (arith, one)

    small : k < length (history_of m)
    small = omega (arith, one, last)
