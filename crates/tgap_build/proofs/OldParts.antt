-- The edges before a step of which an edge after it is made are the runs into which the definition cuts its chain.
use Rattle.std.proofs.Common.{◌≡◌, inl, inr, ℕ, ◌≤◌, ◌==◌, Bool, true, false, not, cond, List, [], ◌∷◌, ◌++◌, map, All, Contains, sum_by, Option, Some, None, eq-eqb, refl, sym, ap, ap₂, ◌∙◌, subst, arith}
use Rattle.std.specs.Prelude.{flat_map, find}
use Rattle.std.proofs.lemmas.Bool.{eqb-true}
use Rattle.std.proofs.lemmas.List.Sums.{sum_by-cons}
use Rattle.tgap_model.specs.Merged.{MergedMap}
use Rattle.tgap_model.specs.Chains.{Link, Chain, key, has_links, turned_round, chains_at}
use Rattle.tgap_model.specs.Records.{chain_of, holds_turned, runs}
use Rattle.map_laws.proofs.ChainMembers.{Among}
use Rattle.map_laws.proofs.Lists.{members_all, sum_flat, map_among}
use Rattle.map_laws.proofs.JoinPaths.{turned_sum, turned_links, turned_among}
use Rattle.removal_laws.proofs.ChainEnds.{chain_links, among_contained}
use Rattle.record_laws.specs.RunLaws.{chain_of_run, is_turned_run}
use Rattle.record_laws.proofs.Cutting.{StartsApart, AreCut, cut_is}
use Rattle.record_laws.proofs.Holders.{is_number, times, find_only, key_counts, same_key, holder, holder_turned}
use Rattle.tgap_build.specs.declared.joined.OldEdge.{OldEdge}
use Rattle.tgap_build.specs.OldEdges.{chain_with, old_chain, old_chains}

turned_alike : (s t : Bool) → s ≡ t → cond t (not s) s ≡ false
turned_alike true true e = refl
turned_alike true false e = absurd cc
turned_alike false true e = absurd cc
turned_alike false false e = refl

turned_other : (s t : Bool) → not s ≡ t → cond t (not s) s ≡ true
turned_other true true e = absurd cc
turned_other true false e = refl
turned_other false true e = refl
turned_other false false e = absurd cc

joined_map : {A B : Type 0} (f : A → List B) (xs : List A) → flat_map (λ r. r) (map f xs) ≡ flat_map f xs
joined_map f [] = refl
joined_map f (x ∷ xs) = ap (λ ys. f x ++ ys) (joined_map f xs)

-- k is the number of steps before the later one
module _ (h : MergedMap) (k : ℕ) where
  abbrev finer : List Chain
  finer = chains_at h k

  -- the chain with the key of one of them
  pub with_key : (c : Chain) → Among c (chains_at h k) → chain_with (chains_at h k) (key c) ≡ c
  with_key c m =
      let found : find (λ d. key d == key c) finer ≡ Some c
      = find_only (λ d. key d == key c) finer c m (eq-eqb (key c) (key c) refl) (λ d n e. same_key h k d c n m (eqb-true _ _ e)) in
      ap (λ (o : Option Chain). elim o [ None ↦ [] | Some d ↦ d ]) found

  -- what is known of a part: its key is that of a chain there
  abbrev IsThere : OldEdge → Type 0
  IsThere p = Contains (map key finer) p.key

  pub part_there : (p : OldEdge) → Contains (map key (chains_at h k)) p.key
      → (c : Chain) × Among c (chains_at h k) × (key c ≡ p.key) × (old_chain (chains_at h k) p ≡ cond p.turned (turned_round c) c)
  part_there p there =
      let c = map_among key finer p.key (among_contained (map key finer) p.key there) in
      (c.0, c.1, c.2, ap (λ (d : Chain). cond p.turned (turned_round d) d) (ap (chain_with finer) (sym c.2) ∙ with_key c.0 c.1))

  -- ---- one part

  abbrev turned_if : Bool → Chain → Chain
  turned_if t c = cond t (turned_round c) c

  links_in : (t : Bool) (c : Chain) → Among c finer → has_links (cond t (turned_round c) c) ≡ true
  links_in true c m = turned_links c (chain_links h k c m)
  links_in false c m = chain_links h k c m

  times_in : (t : Bool) (c : Chain) (i : ℕ) → times i (cond t (turned_round c) c) ≡ times i c
  times_in true c i = turned_sum (is_number i) c
  times_in false c i = refl

  held_in : (t : Bool) (c : Chain) → Among c finer → (e : Link) → Among e (cond t (turned_round c) c) → chain_of finer e.arc ≡ c
  held_in true c m e n = let g = turned_among c e n in ap (λ (d : Link). chain_of finer d.arc) (sym g.2) ∙ holder h k c m g.0 g.1
  held_in false c m e n = holder h k c m e n

  first_turned : (t : Bool) (c : Chain) → Among c finer → (d : Link) → Among d (cond t (turned_round c) c)
      → cond d.turned (not (holds_turned d.arc c)) (holds_turned d.arc c) ≡ t
  first_turned true c m d n =
      let g = turned_among c d n in
      turned_other (holds_turned d.arc c) d.turned
      (ap not (ap (λ (i : ℕ). holds_turned i c) (sym (ap (λ (l : Link). l.arc) g.2)) ∙ holder_turned h k c m g.0 g.1)
      ∙ ap (λ (l : Link). l.turned) g.2)
  first_turned false c m d n = turned_alike (holds_turned d.arc c) d.turned (holder_turned h k c m d n)

  -- the part, read of its run
  run_is : (t : Bool) (c : Chain) → Among c finer → (r : Chain) → r ≡ cond t (turned_round c) c
      → (chain_of_run finer r ≡ c) × (is_turned_run finer r ≡ t)
  run_is t c m [] e = let some = ap has_links e ∙ links_in t c m in absurd cc
  run_is t c m (d ∷ r) e =
      let n : Among d (turned_if t c) = subst (Among d) e (inl refl) in
      let held = held_in t c m d n in
      (held, ap (λ (f : Chain). cond d.turned (not (holds_turned d.arc f)) (holds_turned d.arc f)) held ∙ first_turned t c m d n)

  -- ---- parts in a row

  abbrev part_runs : List OldEdge → List Chain
  part_runs parts = map (old_chain finer) parts

  part_times : (i : ℕ) (p : OldEdge) (there : Contains (map key finer) p.key) → times i (old_chain finer p) ≡ times i (part_there p there).0
  part_times i p there = let c = part_there p there in ap (times i) c.3 ∙ times_in p.turned c.0 i

  starts_apart : (n : ℕ) (parts : List OldEdge) → ((p : OldEdge) → Among p parts → Contains (map key finer) p.key)
      → sum_by (times n) (map (old_chain finer) parts) ≤ 0 → StartsApart finer n (map (old_chain finer) parts)
  starts_apart n [] each none = tt
  starts_apart n (p ∷ parts) each none =
      let c = part_there p (each p (inl refl)) in
      by (old_chain finer p) c.3 (omega (arith, none, sum_by-cons (times n) (old_chain finer p) (part_runs parts), ap (times n) c.3, times_in p.turned c.0 n))
    where
      c : (c : Chain) × Among c (chains_at h k) × (key c ≡ p.key) × (old_chain (chains_at h k) p ≡ cond p.turned (turned_round c) c)
      c = part_there p (each p (inl refl))

      by : (r : Chain) → r ≡ cond p.turned (turned_round c.0) c.0 → times n c.0 ≤ 0 → StartsApart finer n (r ∷ map (old_chain finer) parts)
      by [] e few = let some = ap has_links e ∙ links_in p.turned c.0 c.1 in absurd cc
      by (d ∷ r) e few = λ same.
          let held = held_in p.turned c.0 c.1 d (subst (Among d) e (inl refl)) in
          let is : key c.0 ≡ n = ap key (sym held) ∙ same in
          let some = subst (λ (i : ℕ). 1 ≤ times i c.0) is (key_counts c.0 (chain_links h k c.0 c.1)) in
          omega (arith, some, few)

  are_cut : (parts : List OldEdge) → ((p : OldEdge) → Among p parts → Contains (map key finer) p.key)
      → ((i : ℕ) → sum_by (times i) (map (old_chain finer) parts) ≤ 1) → AreCut finer (map (old_chain finer) parts)
  are_cut [] each once = tt
  are_cut (p ∷ parts) each once =
      let c = part_there p (each p (inl refl)) in
      let some : 1 ≤ times (key c.0) c.0 = key_counts c.0 (chain_links h k c.0 c.1) in (
        record {
          links = ap has_links c.3 ∙ links_in p.turned c.0 c.1;
          one = key c.0;
          held_by = λ e m. ap key (held_in p.turned c.0 c.1 e (subst (Among e) c.3 m));
          apart = starts_apart (key c.0) parts (λ q m. each q (inr m))
              (omega (arith, once (key c.0), some, sum_by-cons (times (key c.0)) (old_chain finer p) (part_runs parts), ap (times (key c.0)) c.3, times_in p.turned c.0 (key c.0)));
        },
        are_cut parts (λ q m. each q (inr m)) (λ i. omega (arith, once i, sum_by-cons (times i) (old_chain finer p) (part_runs parts))),
      )

  -- where they make a chain in which no arc stands twice they are its runs
  pub runs_are : (c : Chain) → ((i : ℕ) → times i c ≤ 1) → (parts : List OldEdge) → All (λ p. Contains (map key (chains_at h k)) p.key) parts
      → old_chains (chains_at h k) parts ≡ c → runs (chains_at h k) c ≡ map (old_chain (chains_at h k)) parts
  runs_are c once parts there joined =
      let whole : flat_map (λ r. r) (part_runs parts) ≡ c = joined_map (old_chain finer) parts ∙ joined in
      ap (runs finer) (sym whole)
      ∙ cut_is finer (part_runs parts) (are_cut parts (λ p m. members_all (λ p. Contains (map key finer) p.key) parts p there m)
      (λ i. omega (arith, sum_flat (λ (d : Link). is_number i d.arc) (part_runs parts), ap (times i) whole, once i)))

  -- and each tells the key and the direction of its run
  pub part_run : (p : OldEdge) → Contains (map key (chains_at h k)) p.key
      → (key (chain_of_run (chains_at h k) (old_chain (chains_at h k) p)) ≡ p.key) × (is_turned_run (chains_at h k) (old_chain (chains_at h k) p) ≡ p.turned)
  part_run p there =
      let c = part_there p there in
      let r = run_is p.turned c.0 c.1 (old_chain finer p) c.3 in
      (ap key r.0 ∙ c.2, r.1)

  pub parts_read : (parts : List OldEdge) → All (λ p. Contains (map key (chains_at h k)) p.key) parts
      → map (λ (r : Chain). record { key = key (chain_of_run (chains_at h k) r); turned = is_turned_run (chains_at h k) r }) (map (old_chain (chains_at h k)) parts) ≡ parts
  parts_read parts there = by parts (λ p m. members_all (λ p. Contains (map key finer) p.key) parts p there m)
    where
      seen : Chain → OldEdge
      seen r = record { key = key (chain_of_run finer r); turned = is_turned_run finer r }

      by : (ps : List OldEdge) → ((p : OldEdge) → Among p ps → Contains (map key finer) p.key)
          → map (λ (r : Chain). record { key = key (chain_of_run finer r); turned = is_turned_run finer r }) (map (old_chain finer) ps) ≡ ps
      by [] each = refl
      by (p ∷ ps) each =
          let r = part_run p (each p (inl refl)) in
          ap₂ (λ (q : OldEdge) (qs : List OldEdge). q ∷ qs) (ap₂ (λ (i : ℕ) (t : Bool). record { key = i; turned = t }) r.0 r.1) (by ps (λ q m. each q (inr m)))
