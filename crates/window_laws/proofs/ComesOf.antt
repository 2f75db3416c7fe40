-- What an edge before the step comes of: it is not between loser and winner, and the edge whose run it is is the one that holds the
-- arc of its key.
use Rattle.std.proofs.Common.{◌≡◌, ℕ, ◌-◌, ◌≤◌, ◌==◌, Bool, true, false, cond, List, [], length, count_by, All, eq-eqb, refl, sym, ap, ◌∙◌, subst, arith}
use Rattle.tgap_model.specs.declared.merge.MergeStep.{MergeStep}
use Rattle.tgap_model.specs.declared.slice.Edge.{Edge}
use Rattle.tgap_model.specs.Base.{BaseMap, is_base}
use Rattle.tgap_model.specs.Partition.{IsPartition, base_segments}
use Rattle.tgap_model.specs.History.{history_of}
use Rattle.tgap_model.specs.Merged.{MergedMap, merged, step_number}
use Rattle.tgap_model.specs.Chains.{Link, Chain, key, turned_round, chains_at}
use Rattle.tgap_model.specs.Removals.{edge_of, removals_to}
use Rattle.tgap_model.specs.Records.{is_edge_between, chain_of, runs}
use Rattle.tgap_model.specs.WindowRecords.{key_after}
use Rattle.map_laws.proofs.ChainMembers.{Among, among_counts, counted_among}
use Rattle.map_laws.proofs.JoinPaths.{among_turned}
use Rattle.map_laws.proofs.JoinTests.{key_of}
use Rattle.map_laws.proofs.Lists.{members_all, among_flat}
use Rattle.std.proofs.lemmas.Bool.{eqb-true}
use Rattle.removal_laws.proofs.ChainEnds.{chain_links}
use Rattle.record_laws.specs.RunLaws.{IsRun, chain_of_run, is_turned_run, all_runs}
use Rattle.record_laws.proofs.Holders.{same_key, holder}
use Rattle.record_laws.proofs.RunsAreChains.{runs_are_chains}
use Rattle.record_laws.proofs.StepFacts.{run_is_part, run_member, run_within}
use Rattle.record_laws.proofs.StepRuns.{among_from}

module _ (m : BaseMap) (base : is_base m ≡ true) (planar : IsPartition (base_segments m)) (j : ℕ) (one : 1 ≤ j) (last : j ≤ length (history_of m)) where
  abbrev h : MergedMap
  h = merged m

  abbrev k : ℕ
  k = j - 1

  abbrev s : MergeStep
  s = step_number h j

  abbrev finer : List Chain
  finer = chains_at h k

  abbrev edge_back : Chain → Edge
  edge_back c = edge_of h k (removals_to h k) c

  -- how many runs are of a chain before the step
  runs_of : (f : Chain) → Among f finer
      → count_by (λ q. key (chain_of_run finer q) == key f) (all_runs h j) ≡ cond (is_edge_between s.loser s.winner (edge_of h k [] f)) 0 1
  runs_of f o =
      members_all (λ f. count_by (λ q. key (chain_of_run finer q) == key f) (all_runs h j) ≡ cond (is_edge_between s.loser s.winner (edge_of h k [] f)) 0 1)
      finer f (runs_are_chains m base planar j one last).once o

  -- ---- the chain of a run

  module _ (c : Chain) (n : Among c (chains_at h j)) (r : Chain) (o : Among r (runs finer c)) where
    abbrev f : Chain
    f = chain_of_run finer r

    f_there : Among f finer
    f_there = run_member m base planar j one last r (run_is_part m base planar j one last c n r o)

    -- it does not lie between loser and winner
    pub not_between : is_edge_between (step_number (merged m) j).loser (step_number (merged m) j).winner
        (edge_of (merged m) (j - 1) (removals_to (merged m) (j - 1)) (chain_of_run (chains_at (merged m) (j - 1)) r)) ≡ false
    not_between = by (is_edge_between s.loser s.winner (edge_back f)) (runs_of f f_there)
        (among_counts (λ (q : Chain). key (chain_of_run finer q) == key f) (all_runs h j) r (among_flat (runs finer) (chains_at h j) c r n o) (eq-eqb (key f) (key f) refl))
      where
        by : (b : Bool) {i : ℕ} → i ≡ cond b 0 1 → 1 ≤ i → b ≡ false
        by true e few = absurd (omega (arith, e, few))
        by false e few = refl

    run : IsRun finer r
    run = members_all (IsRun finer) (runs finer c) r (members_all (λ c. All (IsRun finer) (runs finer c)) (chains_at h j) c (runs_are_chains m base planar j one last).each n) o

    -- the arc of its key is one of the run's
    pub key_link : (d : Link) × Among d r × (d.arc ≡ key (chain_of_run (chains_at (merged m) (j - 1)) r))
    key_link =
        let low = key_of f (chain_links h k f f_there) in
        by (is_turned_run finer r) run.same low.0 low.1 low.2
      where
        by : (t : Bool) → r ≡ cond t (turned_round f) f → (d : Link) → Among d f → d.arc ≡ key f → (e : Link) × Among e r × (e.arc ≡ key f)
        by true e d l same = (_, subst (Among _) (sym e) (among_turned f d l), same)
        by false e d l same = (d, subst (Among d) (sym e) l, same)

    -- so the chain after the step is the one that it comes of
    pub comes_of : key_after (merged m) j (edge_of (merged m) (j - 1) (removals_to (merged m) (j - 1)) (chain_of_run (chains_at (merged m) (j - 1)) r)) ≡ key c
    comes_of =
        ap (λ (i : ℕ). key (chain_of (chains_at h j) i)) (sym key_link.2)
        ∙ ap key (holder h j c n key_link.0 (run_within m base planar j one last c n r o key_link.0 key_link.1))

  -- ---- the run of a chain

  -- a chain before the step that is not between loser and winner is that of a run
  pub run_of : (f : Chain) → Among f (chains_at (merged m) (j - 1))
      → is_edge_between (step_number (merged m) j).loser (step_number (merged m) j).winner (edge_of (merged m) (j - 1) (removals_to (merged m) (j - 1)) f) ≡ false
      → (c : Chain) × (r : Chain) × Among c (chains_at (merged m) j) × Among r (runs (chains_at (merged m) (j - 1)) c)
      × (chain_of_run (chains_at (merged m) (j - 1)) r ≡ f)
  run_of f o apart =
      let once = runs_of f o ∙ ap (λ (b : Bool). cond b 0 1) apart in
      let r = counted_among (λ (q : Chain). key (chain_of_run finer q) == key f) (all_runs h j) (omega (arith, once)) in
      let c = among_from (runs finer) (chains_at h j) r.0 r.1 in
      let there = run_member m base planar j one last r.0 (run_is_part m base planar j one last c.0 c.1 r.0 c.2) in
      (c.0, r.0, c.1, c.2, same_key h k (chain_of_run finer r.0) f there o (eqb-true _ _ r.2))
