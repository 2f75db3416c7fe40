-- The edges that a step made, and those that were there before it: a chain after the step that was one before is one run, and any other one
-- is made of several.
use Rattle.std.proofs.Common.{◌≡◌, ◌≢◌, ◌⊎◌, inl, inr, nat_le, nat_lt, AllPairs, ℕ, ◌+◌, ◌-◌, ◌<◌, ◌≤◌, ◌==◌, Bool, true, false, cond, List, [], ◌∷◌, ◌++◌, map, map-id, filter, length, Contains, sum_by, eq-eqb, refl, sym, ap, ◌∙◌, subst, true≢false, arith}
use Rattle.std.specs.Prelude.{flat_map}
use Rattle.std.specs.List.{list_any, range_with_len}
use Rattle.std.proofs.lemmas.Bool.{and_from, and_parts, cases_lt, eqb-true, le-leb, lt-ltb, ltb-true, false_from_ne_true}
use Rattle.std.proofs.lemmas.List.{append-nil, map-append}
use Rattle.std.proofs.lemmas.List.Elements.{All-cons, All-nil, filter-append}
use Rattle.std.proofs.lemmas.List.FromFn.{map-range_with_len_more}
use Rattle.std.proofs.lemmas.List.Kept.{AllPairs-cons}
use Rattle.std.proofs.lemmas.List.Sums.{sum_by-cons}
use Rattle.lemmas.proofs.Members.{AllPairs-nil}
use Rattle.tgap_model.specs.Base.{BaseMap}
use Rattle.tgap_model.specs.History.{history_of}
use Rattle.tgap_model.specs.Merged.{MergedMap, merged}
use Rattle.tgap_model.specs.Chains.{Link, Chain, key, has_links, chains_at}
use Rattle.tgap_model.specs.Records.{runs}
use Rattle.map_laws.specs.ChainLaws.{chains_left}
use Rattle.map_laws.proofs.ChainMembers.{Among, any_among, filter_among, counted_among}
use Rattle.map_laws.proofs.JoinTests.{key_low}
use Rattle.map_laws.proofs.JoinPaths.{turned_sum}
use Rattle.map_laws.proofs.Lists.{all_members, any_from, sort_among, kept_among, among_kept, among_range, among_map, map_among, sum_member, sum_flat}
use Rattle.slice_laws.proofs.Coverage.{range_holds}
use Rattle.removal_laws.proofs.ChainEnds.{chain_links, contained}
use Rattle.record_laws.specs.RunLaws.{chain_of_run, all_runs}
use Rattle.record_laws.proofs.Holders.{is_number, times, key_counts, arc_once_in, same_holder}
use Rattle.record_laws.proofs.RunsAreChains.{runs_are_chains}
use Rattle.record_laws.proofs.StepRuns.{among_from}
use Rattle.record_laws.proofs.StepFacts.{run_is_part, run_chain, run_member, runs_in_row, whole_same}
use Rattle.edge_forest.specs.Edges.{edge_at, chain_of, is_alive}
use Rattle.edge_forest.specs.Forest.{EdgeForest, IsForest}
use Rattle.tgap_build.specs.declared.joined.OldEdge.{OldEdge}
use Rattle.tgap_build.specs.OldEdges.{old_chain}
use Rattle.tgap_build.specs.Changes.{HasGrown, born_chains, is_part_of}
use Rattle.tgap_build.proofs.Alive.{alive_chain, chain_alive}
use Rattle.tgap_build.proofs.OldParts.{with_key, runs_are}

module _ (f : EdgeForest) (k old : ℕ) (some : 0 < k) (grown : HasGrown f k old) where
  abbrev m : BaseMap
  m = f.base

  abbrev h : MergedMap
  h = merged f.base

  abbrev finer : List Chain
  finer = chains_at h (k - 1)

  abbrev w : IsForest f
  w = grown.forest

  pub up_to : k ≤ f.made
  up_to = omega (arith, grown.made)

  pub up_before : k - 1 ≤ f.made
  up_before = omega (arith, grown.made)

  pub within : k ≤ length (history_of f.base)
  within = omega (arith, w.steps, grown.made)

  -- an edge of those before that is there after the step was there before it
  earlier : (i : ℕ) → i < old → is_alive k (edge_at f.edges i) ≡ true → is_alive (k - 1) (edge_at f.edges i) ≡ true
  earlier i l a =
      let high = ltb-true k (edge_at f.edges i).high (and_parts (nat_le (edge_at f.edges i).low k) (nat_lt k (edge_at f.edges i).high) a).1 in
      and_from (nat_le (edge_at f.edges i).low (k - 1)) (nat_lt (k - 1) (edge_at f.edges i).high)
      (le-leb (edge_at f.edges i).low (k - 1) (grown.low i l))
      (lt-ltb (k - 1) (edge_at f.edges i).high (omega (arith, high)))

  -- ---- which edge a chain is

  -- the chain of an edge that was there before is one before
  pub early_chain : (i : ℕ) → i < old → i < length f.edges → is_alive k (edge_at f.edges i) ≡ true → Among (chain_of f.edges i) (chains_at (merged f.base) (k - 1))
  early_chain i e l a = alive_chain f w (k - 1) up_before i l (earlier i e a)

  -- that of a new one is none
  pub new_chain : (i : ℕ) → old ≤ i → i < length f.edges → Among (chain_of f.edges i) (chains_at (merged f.base) (k - 1)) → ⊥
  new_chain i e l n =
      let o = chain_alive f w (k - 1) up_before (chain_of f.edges i) n in
      let same : o.0 ≡ i = w.once o.0 i o.1 l o.3 in
      true≢false (sym (subst (λ (x : ℕ). is_alive (k - 1) (edge_at f.edges x) ≡ true) same o.2) ∙ grown.new i e l)

  -- ---- runs

  turned_none : (c : Chain) → flat_map (λ r. r) (c ∷ []) ≡ c
  turned_none c = append-nil c

  -- a chain that was one before is one run
  pub whole_run : (c : Chain) → Among c (chains_at (merged f.base) k) → Among c (chains_at (merged f.base) (k - 1))
      → runs (chains_at (merged f.base) (k - 1)) c ≡ c ∷ []
  whole_run c n o =
      let p : OldEdge = record { key = key c; turned = false } in
      let is : old_chain finer p ≡ c = with_key h (k - 1) c o in
      runs_are h (k - 1) c (arc_once_in h k c n) (p ∷ [])
      (All-cons (λ (p : OldEdge). Contains (map key finer) p.key) p [] (contained (map key finer) (key c) (among_map key finer c o)) (All-nil (λ (p : OldEdge). Contains (map key finer) p.key)))
      (append-nil (old_chain finer p) ∙ is)
      ∙ ap (λ (d : Chain). d ∷ []) is

  -- and any other one is several
  pub many_runs : (c : Chain) → Among c (chains_at (merged f.base) k) → (Among c (chains_at (merged f.base) (k - 1)) → ⊥)
      → 1 < length (runs (chains_at (merged f.base) (k - 1)) c)
  many_runs c n out = by (runs finer c) refl (runs_in_row m w.base w.partition k some within c n)
    where
      by : (rs : List Chain) → runs finer c ≡ rs → flat_map (λ r. r) rs ≡ c → 1 < length rs
      by [] e joined = let none = ap has_links joined ∙ chain_links h k c n in absurd cc
      by (r ∷ []) e joined =
          let same : r ≡ c = sym (append-nil r) ∙ joined in
          let one : runs finer c ≡ c ∷ [] = e ∙ ap (λ (x : Chain). x ∷ []) same in
          let part = run_is_part m w.base w.partition k some within c n c (subst (Among c) (sym one) (inl refl)) in
          absurd (out (subst (λ (d : Chain). Among d finer) (whole_same m w.base w.partition k some within c n one) (run_member m w.base w.partition k some within c part)))
      by (r ∷ q ∷ rs) e joined = omega arith

  -- ---- the chains of runs

  -- each arc stands in the chain of a run as often as in the run
  run_times : (c : Chain) → Among c (chains_at h k) → (r : Chain) → Among r (runs finer c) → (i : ℕ) → times i (chain_of_run finer r) ≡ times i r
  run_times c n r o i =
      let p = run_is_part m w.base w.partition k some within c n r o in
      ap (times i) (run_chain m w.base w.partition k some within r p)
      ∙ sym (elim p.same [ inl e ↦ ap (times i) e | inr e ↦ ap (times i) e ∙ turned_sum (is_number i) p.chain ])

  all_times : (c : Chain) → Among c (chains_at h k) → (i : ℕ) → sum_by (times i) (runs finer c) ≡ times i c
  all_times c n i = sym (sum_flat (λ (d : Link). is_number i d.arc) (runs finer c)) ∙ ap (times i) (runs_in_row m w.base w.partition k some within c n)

  within_times : (c : Chain) → Among c (chains_at h k) → (r : Chain) → Among r (runs finer c) → (i : ℕ) → times i (chain_of_run finer r) ≤ times i c
  within_times c n r o i = omega (arith, run_times c n r o i, all_times c n i, sum_member (times i) (runs finer c) r o)

  finer_member : (c : Chain) → Among c (chains_at h k) → (r : Chain) → Among r (runs finer c) → Among (chain_of_run finer r) finer
  finer_member c n r o = run_member m w.base w.partition k some within r (run_is_part m w.base w.partition k some within c n r o)

  run_key : (c : Chain) → Among c (chains_at h k) → (r : Chain) → Among r (runs finer c) → 1 ≤ times (key (chain_of_run finer r)) (chain_of_run finer r)
  run_key c n r o = key_counts (chain_of_run finer r) (chain_links h (k - 1) (chain_of_run finer r) (finer_member c n r o))

  -- the chain after the step with an arc that is the key of a run's chain is the one that has the run
  pub only_holder : (b : Chain) → Among b (chains_at (merged f.base) k) → (r : Chain) → Among r (runs (chains_at (merged f.base) (k - 1)) b)
      → (c : Chain) → Among c (chains_at (merged f.base) k) → 1 ≤ times (key (chain_of_run (chains_at (merged f.base) (k - 1)) r)) c → b ≡ c
  only_holder b n r o c p t =
      let i : ℕ = key (chain_of_run finer r) in
      same_holder h k b c n p i (omega (arith, run_key b n r o, within_times b n r o i)) t

  pub only_key : (b : Chain) → Among b (chains_at (merged f.base) k) → (r : Chain) → Among r (runs (chains_at (merged f.base) (k - 1)) b)
      → (c : Chain) → Among c (chains_at (merged f.base) k) → key (chain_of_run (chains_at (merged f.base) (k - 1)) r) ≡ key c → b ≡ c
  only_key b n r o c p e = only_holder b n r o c p (subst (λ (i : ℕ). 1 ≤ times i c) (sym e) (key_counts c (chain_links h k c p)))

  pub only_part : (b : Chain) → Among b (chains_at (merged f.base) k) → (r : Chain) → Among r (runs (chains_at (merged f.base) (k - 1)) b)
      → (c : Chain) → Among c (chains_at (merged f.base) k) → (q : Chain) → Among q (runs (chains_at (merged f.base) (k - 1)) c)
      → key (chain_of_run (chains_at (merged f.base) (k - 1)) r) ≡ key (chain_of_run (chains_at (merged f.base) (k - 1)) q) → b ≡ c
  only_part b n r o c p q l e =
      let i : ℕ = key (chain_of_run finer q) in
      only_holder b n r o c p (subst (λ (x : ℕ). 1 ≤ times x c) (sym e) (omega (arith, run_key c p q l, within_times c p q l i)))

  -- the least arc of a chain is the key of the chain of one of its runs
  some_counts : (i : ℕ) (rs : List Chain) → 1 ≤ sum_by (times i) rs → (r : Chain) × Among r rs × (1 ≤ times i r)
  some_counts i [] l = absurd (omega arith)
  some_counts i (r ∷ rs) l = elim (cases_lt 0 (times i r)) [
    | inl some ↦ (r, inl refl, omega (arith, some))
    | inr none ↦ (let rest = some_counts i rs (omega (arith, l, none, sum_by-cons (times i) r rs)) in (rest.0, inr rest.1, rest.2))
  ]

  times_low : (i : ℕ) (c : Chain) → 1 ≤ times i c → key c ≤ i
  times_low i c l =
      let d = counted_among (λ (d : Link). d.arc == i) c l in
      omega (arith, key_low c d.0 d.1, eqb-true d.0.arc i d.2)

  pub own_key : (c : Chain) → Among c (chains_at (merged f.base) k)
      → (r : Chain) × Among r (runs (chains_at (merged f.base) (k - 1)) c) × (key (chain_of_run (chains_at (merged f.base) (k - 1)) r) ≡ key c)
  own_key c n =
      let here : 1 ≤ times (key c) c = key_counts c (chain_links h k c n) in
      let r = some_counts (key c) (runs finer c) (omega (arith, here, all_times c n (key c))) in
      let low = times_low (key c) (chain_of_run finer r.0) (omega (arith, r.2, run_times c n r.0 r.1 (key c))) in
      let i : ℕ = key (chain_of_run finer r.0) in
      let high = times_low i c (omega (arith, run_key c n r.0 r.1, within_times c n r.0 r.1 i)) in
      (r.0, r.1, omega (arith, low, high))

  -- no two runs have one chain
  pub run_keys_apart : (c : Chain) → Among c (chains_at (merged f.base) k)
      → AllPairs (λ (q r : Chain). key (chain_of_run (chains_at (merged f.base) (k - 1)) q) ≢ key (chain_of_run (chains_at (merged f.base) (k - 1)) r)) (runs (chains_at (merged f.base) (k - 1)) c)
  run_keys_apart c n = by (runs finer c) (λ r o. o) (λ i. omega (arith, all_times c n i, arc_once_in h k c n i))
    where
      Apart : Chain → Chain → Type 0
      Apart q r = key (chain_of_run finer q) ≢ key (chain_of_run finer r)

      by : (rs : List Chain) → ((r : Chain) → Among r rs → Among r (runs finer c)) → ((i : ℕ) → sum_by (times i) rs ≤ 1)
          → AllPairs (λ (q r : Chain). key (chain_of_run finer q) ≢ key (chain_of_run finer r)) rs
      by [] sub once = AllPairs-nil (λ (q r : Chain). key (chain_of_run finer q) ≢ key (chain_of_run finer r))
      by (q ∷ rs) sub once =
          let i : ℕ = key (chain_of_run finer q) in
          AllPairs-cons (λ (q r : Chain). key (chain_of_run finer q) ≢ key (chain_of_run finer r)) q rs
          (all_members (λ (r : Chain). key (chain_of_run finer q) ≢ key (chain_of_run finer r)) rs (λ r o e.
          let there : 1 ≤ times i r
          = subst (λ (x : ℕ). 1 ≤ times x r) (sym e) (omega (arith, run_key c n r (sub r (inr o)), run_times c n r (sub r (inr o)) (key (chain_of_run finer r)))) in
          omega (
            arith,
            once i,
            there,
            run_key c n q (sub q (inl refl)),
            run_times c n q (sub q (inl refl)) i,
            sum_by-cons (times i) q rs,
            sum_member (times i) rs r o,
          )))
          (by rs (λ r o. sub r (inr o)) (λ x. omega (arith, once x, sum_by-cons (times x) q rs)))

  -- ---- parts of new chains

  pub part_from : (bs : List Chain) (b r : Chain) (i : ℕ) → Among b bs → Among r (runs (chains_at (merged f.base) (k - 1)) b)
      → key (chain_of_run (chains_at (merged f.base) (k - 1)) r) ≡ i → is_part_of (chains_at (merged f.base) (k - 1)) bs i ≡ true
  part_from bs b r i m n e =
      any_from (λ (c : Chain). list_any (λ (r : Chain). key (chain_of_run finer r) == i) (runs finer c)) bs b m
      (any_from (λ (r : Chain). key (chain_of_run finer r) == i) (runs finer b) r n (eq-eqb _ i e))

  pub part_of : (bs : List Chain) (i : ℕ) → is_part_of (chains_at (merged f.base) (k - 1)) bs i ≡ true
      → (b : Chain) × Among b bs × ((r : Chain) × Among r (runs (chains_at (merged f.base) (k - 1)) b) × (key (chain_of_run (chains_at (merged f.base) (k - 1)) r) ≡ i))
  part_of bs i t =
      let b = any_among (λ (c : Chain). list_any (λ (r : Chain). key (chain_of_run finer r) == i) (runs finer c)) bs t in
      let r = any_among (λ (r : Chain). key (chain_of_run finer r) == i) (runs finer b.0) b.2 in
      (b.0, b.1, (r.0, r.1, eqb-true _ i r.2))

  -- ---- all chains after the step

  pub born_known : (to : ℕ) → to ≤ length f.edges → (c : Chain) → Among c (born_chains f k old to)
      → (i : ℕ) × (old ≤ i) × (i < length f.edges) × (i < to) × (is_alive k (edge_at f.edges i) ≡ true) × (chain_of f.edges i ≡ c)
  born_known to l c n =
      let i = map_among (chain_of f.edges) (filter (λ i. is_alive k (edge_at f.edges i)) (range_with_len old (to - old))) c n in
      let range = among_range old (to - old) i.0 (kept_among (λ i. is_alive k (edge_at f.edges i)) (range_with_len old (to - old)) i.0 i.1) in (
        i.0,
        omega (arith, range.0),
        omega (arith, range.0, range.1, l),
        omega (arith, range.0, range.1),
        filter_among (λ i. is_alive k (edge_at f.edges i)) (range_with_len old (to - old)) i.0 i.1,
        i.2,
      )

  born_from : (i : ℕ) → old ≤ i → i < length f.edges → is_alive k (edge_at f.edges i) ≡ true → Among (chain_of f.edges i) (born_chains f k old (length f.edges))
  born_from i e l a =
      among_map (chain_of f.edges) (filter (λ i. is_alive k (edge_at f.edges i)) (range_with_len old (length f.edges - old))) i
      (among_kept (λ i. is_alive k (edge_at f.edges i)) (range_with_len old (length f.edges - old)) i
      (range_holds old (length f.edges - old) i (omega (arith, e)) (omega (arith, l, grown.within))) a)

  -- those before the next number
  pub born_more : (id : ℕ) → old ≤ id → (b : Bool) → is_alive k (edge_at f.edges id) ≡ b → born_chains f k old (id + 1) ≡ born_chains f k old id ++ cond b (chain_of f.edges id ∷ []) []
  born_more id l b e =
      let n : ℕ = id - old in
      let next : id + 1 - old ≡ n + 1 = omega (arith, l) in
      let last : old + n ≡ id = omega (arith, l) in
      let test : ℕ → Bool = λ (i : ℕ). is_alive k (edge_at f.edges i) in
      ap (λ (m : ℕ). map (chain_of f.edges) (filter test (range_with_len old m))) next
      ∙ ap (λ (is : List ℕ). map (chain_of f.edges) (filter test is)) (sym (map-id (range_with_len old (n + 1))) ∙ map-range_with_len_more (λ (j : ℕ). j) old n id last ∙ ap (λ (is : List ℕ). is ++ id ∷ []) (map-id (range_with_len old n)))
      ∙ ap (map (chain_of f.edges)) (filter-append test (range_with_len old n) (id ∷ []))
      ∙ map-append (chain_of f.edges) (filter test (range_with_len old n)) (cond (test id) (id ∷ []) [])
      ∙ ap (λ (v : Bool). born_chains f k old id ++ map (chain_of f.edges) (cond v (id ∷ []) [])) e
      ∙ by b
    where
      by : (v : Bool) → born_chains f k old id ++ map (chain_of f.edges) (cond v (id ∷ []) []) ≡ born_chains f k old id ++ cond v (chain_of f.edges id ∷ []) []
      by true = refl
      by false = refl

  -- the new ones are chains after the step, and none before it
  pub born_here : (to : ℕ) → to ≤ length f.edges → (c : Chain) → Among c (born_chains f k old to) → Among c (chains_at (merged f.base) k)
  born_here to l c n =
      let i = born_known to l c n in
      subst (λ (d : Chain). Among d (chains_at h k)) i.5 (alive_chain f w k up_to i.0 i.2 i.4)

  pub born_new : (to : ℕ) → to ≤ length f.edges → (c : Chain) → Among c (born_chains f k old to) → Among c (chains_at (merged f.base) (k - 1)) → ⊥
  born_new to l c n o =
      let i = born_known to l c n in
      new_chain i.0 i.1 i.2 (subst (λ (d : Chain). Among d finer) (sym i.5) o)

  -- a chain after the step is new, or was there before
  pub born_or_old : (c : Chain) → Among c (chains_at (merged f.base) k) → Among c (born_chains f k old (length f.edges)) ⊎ Among c (chains_at (merged f.base) (k - 1))
  born_or_old c n =
      let i = chain_alive f w k up_to c n in
      elim (cases_lt i.0 old) [
        | inl early ↦ inr (subst (λ (d : Chain). Among d finer) i.3 (early_chain i.0 early i.1 i.2))
        | inr late ↦ inl (subst (λ (d : Chain). Among d (born_chains f k old (length f.edges))) i.3 (born_from i.0 late i.1 i.2))
      ]

  -- a run's chain is left by the step
  pub run_left : (c : Chain) → Among c (chains_at (merged f.base) k) → (r : Chain) → Among r (runs (chains_at (merged f.base) (k - 1)) c)
      → Among (chain_of_run (chains_at (merged f.base) (k - 1)) r) (chains_left (merged f.base) (k - 1))
  run_left c n r o =
      let p = run_is_part m w.base w.partition k some within c n r o in
      subst (λ (d : Chain). Among d (chains_left h (k - 1))) (sym (run_chain m w.base w.partition k some within r p)) p.member

  -- and each that is left is that of a run
  pub left_run : (c : Chain) → Among c (chains_left (merged f.base) (k - 1))
      → (d : Chain) × Among d (chains_at (merged f.base) k) × ((r : Chain) × Among r (runs (chains_at (merged f.base) (k - 1)) d) × (chain_of_run (chains_at (merged f.base) (k - 1)) r ≡ c))
  left_run c n =
      let before = λ (c d : Chain). nat_lt (key c) (key d) in
      let r = map_among (chain_of_run finer) (all_runs h k) c (sort_among before (map (chain_of_run finer) (all_runs h k)) c
      (subst (Among c) (sym (runs_are_chains m w.base w.partition k some within).left) n)) in
      let d = among_from (runs finer) (chains_at h k) r.0 r.1 in
      (d.0, d.1, (r.0, d.2, r.2))

  abbrev fresh : List Chain
  fresh = born_chains f k old (length f.edges)

  -- what is left and is no part of a new chain is a chain after the step
  pub left_here : (c : Chain) → Among c (chains_left (merged f.base) (k - 1)) → is_part_of (chains_at (merged f.base) (k - 1)) (born_chains f k old (length f.edges)) (key c) ≡ false
      → Among c (chains_at (merged f.base) k)
  left_here c n none =
      let d = left_run c n in
      elim (born_or_old d.0 d.1) [
        | inl new ↦ absurd (true≢false (sym (part_from fresh d.0 d.2.0 (key c) new d.2.1 (ap key d.2.2)) ∙ none))
        | inr old ↦
            (let one = whole_run d.0 d.1 old in
            let same : d.2.0 ≡ d.0 = only (subst (Among d.2.0) one d.2.1) in
            let is : d.0 ≡ c = sym (whole_same m w.base w.partition k some within d.0 d.1 one) ∙ ap (chain_of_run finer) (sym same) ∙ d.2.2 in
            subst (λ (x : Chain). Among x (chains_at h k)) is d.1)
      ]
    where
      only : {A : Type 0} {x y : A} → Among x (y ∷ []) → x ≡ y
      only (inl e) = sym e
      only (inr o) = absurd o

  -- and a chain that was there before is one of them
  pub old_left : (c : Chain) → Among c (chains_at (merged f.base) k) → Among c (chains_at (merged f.base) (k - 1))
      → Among c (chains_left (merged f.base) (k - 1)) × (is_part_of (chains_at (merged f.base) (k - 1)) (born_chains f k old (length f.edges)) (key c) ≡ false)
  old_left c n o =
      let one = whole_run c n o in
      let same = whole_same m w.base w.partition k some within c n one in (
        subst (λ (d : Chain). Among d (chains_left h (k - 1))) same (run_left c n c (subst (Among c) (sym one) (inl refl))),
        false_from_ne_true (is_part_of finer fresh (key c)) (λ t.
            let b = part_of fresh (key c) t in
            let is : b.0 ≡ c = only_key b.0 (born_here (length f.edges) (omega arith) b.0 b.1) b.2.0 b.2.1 c n b.2.2 in
            born_new (length f.edges) (omega arith) b.0 b.1 (subst (λ (d : Chain). Among d finer) (sym is) o)),
      )
