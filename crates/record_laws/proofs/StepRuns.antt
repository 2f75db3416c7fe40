-- The runs of the chains after a step: they are the parts of which the chains are made, and the chains of all runs are those that
-- the step leaves, each once.
use Rattle.std.proofs.Common.{◌≡◌, inl, inr, ℕ, ◌+◌, ◌<◌, ◌≤◌, ◌==◌, ◌&&◌, ◌||◌, Bool, true, false, not, nat_lt, cond, List, [], ◌∷◌, map, length, All, Contains, sum_by, eq-eqb, refl, sym, ap, ◌∙◌, subst, arith}
use Rattle.std.specs.Prelude.{⊤, count_by, flat_map}
use Rattle.std.proofs.lemmas.Bool.{eqb-true, lt-ltb, or_left, or_right, cases_order}
use Rattle.std.proofs.lemmas.List.Sums.{sum_by-cons, sum_by-append}
use Rattle.lemmas.specs.Sorting.{sort_by, is_sorted_by}
use Rattle.lemmas.proofs.Counts.{count_by-filter, sum_by-map}
use Rattle.lemmas.proofs.Orders.{nat_lt_order, order_by_key}
use Rattle.lemmas.proofs.Sorting.{filter-is_sorted}
use Rattle.tgap_model.specs.History.{AreNumbered}
use Rattle.tgap_model.specs.Merged.{MergedMap, step_number}
use Rattle.tgap_model.specs.Chains.{Link, Chain, key, has_links, turned_round, chains_at}
use Rattle.tgap_model.specs.Removals.{edge_of}
use Rattle.tgap_model.specs.Records.{is_edge_between, chain_of, holds_turned, runs}
use Rattle.map_laws.specs.ChainLaws.{has_base_faces, HasEvenSides, chains_left}
use Rattle.map_laws.proofs.ChainMembers.{Among, append_among, among_counts, counted_among, count_passes, count_grows, sorted_same}
use Rattle.map_laws.proofs.ChainLinks.{chains_sorted}
use Rattle.map_laws.proofs.Lists.{ArePairs, all_members, kept_among, sum_nothing, sum_agree, sum_member, sum_flat, sort_among, among_sort, sort_pairs, map_among, among_map}
use Rattle.map_laws.proofs.JoinPaths.{turned_sum, turned_links, turned_among}
use Rattle.map_laws.proofs.ChainsExist.{chains_sums, chains_exist}
use Rattle.map_laws.proofs.ChainsStep.{left_joined}
use Rattle.removal_laws.proofs.ChainEnds.{chain_links, contained}
use Rattle.record_laws.specs.RunLaws.{chain_of_run, is_turned_run, IsRun}
use Rattle.record_laws.proofs.Parts.{IsPart, IsMadeOf, chain_parts}
use Rattle.record_laws.proofs.Cutting.{StartsApart, AreCut, cut_is}
use Rattle.record_laws.proofs.Holders.{is_number, times, key_counts, arc_once, arc_once_in, same_key, key_times, holder, holder_turned}

-- ---- lists

-- a sum over all members that each member of a list gives
sum_each : {A B : Type 0} (g : B → ℕ) (f : A → List B) (xs : List A) → sum_by g (flat_map f xs) ≡ sum_by (λ x. sum_by g (f x)) xs
sum_each g f [] = refl
sum_each {A} g f (x ∷ xs) =
    omega (arith, sum_by-append g (f x) (flat_map f xs), sum_each g f xs, sum_by-cons (λ (y : A). sum_by g (f y)) x xs)

-- one of these is given by one member
pub among_from : {A B : Type 0} (f : A → List B) (xs : List A) (y : B) → Among y (flat_map f xs) → (x : A) × Among x xs × Among y (f x)
among_from f [] y m = absurd m
among_from f (x ∷ xs) y m = elim (append_among (f x) (flat_map f xs) y m) [
  | inl n ↦ (x, inl refl, n)
  | inr n ↦ (let r = among_from f xs y n in (r.0, inr r.1, r.2))
]

-- where each member's number stands once, the numbers of each two differ
numbers_differ : {A : Type 0} (f : A → ℕ) (xs : List A) → ((x : A) → Among x xs → count_by (λ y. f y == f x) xs ≤ 1)
    → ArePairs (λ x y. (nat_lt (f x) (f y) || nat_lt (f y) (f x)) ≡ true) xs
numbers_differ f [] once = tt
numbers_differ {A} f (x ∷ xs) once = (
  (λ y m. differ_order (f x) (f y) (λ e. omega (
    arith,
    once x (inl refl),
    count_passes (λ (z : A). f z == f x) x xs (eq-eqb (f x) (f x) refl),
    among_counts (λ (z : A). f z == f x) xs y m (eq-eqb (f y) (f x) (sym e)),
  ))),
  numbers_differ f xs (λ y m. omega (arith, once y (inr m), count_grows (λ (z : A). f z == f y) x xs)),
)
  where
    differ_order : (m n : ℕ) → (m ≡ n → ⊥) → (nat_lt m n || nat_lt n m) ≡ true
    differ_order m n ne = elim (cases_order m n) [
      | inl e ↦ absurd (ne e)
      | inr o ↦ elim o [ inl l ↦ or_left (nat_lt m n) (nat_lt n m) (lt-ltb m n l) | inr l ↦ or_right (nat_lt m n) (nat_lt n m) (lt-ltb n m l) ]
    ]

-- ---- directions

turned_alike : (s t : Bool) → s ≡ t → cond t (not s) s ≡ false
turned_alike true true e = refl
turned_alike true false e = absurd cc
turned_alike false true e = absurd cc
turned_alike false false e = refl

turned_other : (s t : Bool) → not s ≡ t → cond t (not s) s ≡ true
turned_other true true e = absurd cc
turned_other true false e = refl
turned_other false true e = refl
turned_other false false e = absurd cc

module _ (h : MergedMap) (k : ℕ) (numbered : AreNumbered (length h.base.classes) h.steps) (small : k < length h.steps)
    (faces : All (λ a. has_base_faces h a ≡ true) h.base.arcs) (even : HasEvenSides h k) where
  -- the chain is between loser and winner of the step
  abbrev between : Chain → Bool
  between c = is_edge_between (step_number h (k + 1)).loser (step_number h (k + 1)).winner (edge_of h k [] c)

  -- a part of a chain after the step
  abbrev pub IsStepPart : Chain → Type 0
  IsStepPart r = IsPart (chains_left h k) r

  pub part_member : (r : Chain) (p : IsStepPart r) → Among p.chain (chains_at h k)
  part_member r p = kept_among (λ c. not (between c)) (chains_at h k) p.chain p.member

  -- ---- one part

  pub part_links : (r : Chain) → IsStepPart r → has_links r ≡ true
  part_links r p =
      let links = chain_links h k p.chain (part_member r p) in
      elim p.same [
        | inl e ↦ ap has_links e ∙ links
        | inr e ↦ ap has_links e ∙ turned_links p.chain links
      ]

  -- each arc stands in it as often as in its chain
  part_times : (r : Chain) (p : IsStepPart r) (i : ℕ) → times i r ≡ times i p.chain
  part_times r p i = elim p.same [
    | inl e ↦ ap (times i) e
    | inr e ↦ ap (times i) e ∙ turned_sum (is_number i) p.chain
  ]

  -- a link of a part is a link of its chain, in its direction or the other one
  part_link : (r : Chain) (p : IsStepPart r) (e : Link) → Among e r → (d : Link) × Among d p.chain × (d.arc ≡ e.arc)
  part_link r p e m = elim p.same [
    | inl s ↦ (e, subst (Among e) s m, refl)
    | inr s ↦ (let d = turned_among p.chain e (subst (Among e) s m) in (d.0, d.1, ap (λ (l : Link). l.arc) d.2))
  ]

  -- the finer chain that holds the arc of a link is the part's chain
  pub part_held : (r : Chain) (p : IsStepPart r) (e : Link) → Among e r → chain_of (chains_at h k) e.arc ≡ p.chain
  part_held r p e m =
      let d = part_link r p e m in
      ap (chain_of (chains_at h k)) (sym d.2) ∙ holder h k p.chain (part_member r p) d.0 d.1

  pub part_chain : (r : Chain) (p : IsStepPart r) → chain_of_run (chains_at h k) r ≡ p.chain
  part_chain [] p = let none = part_links [] p in absurd cc
  part_chain (d ∷ r) p = part_held (d ∷ r) p d (inl refl)

  -- whether it is turned
  turned_as : (d : Link) (r : Chain) (p : IsStepPart (d ∷ r)) (b : Bool)
      → cond d.turned (not (holds_turned d.arc p.chain)) (holds_turned d.arc p.chain) ≡ b → is_turned_run (chains_at h k) (d ∷ r) ≡ b
  turned_as d r p b e =
      ap (λ (f : Chain). cond d.turned (not (holds_turned d.arc f)) (holds_turned d.arc f)) (part_held (d ∷ r) p d (inl refl)) ∙ e

  pub part_turned : (r : Chain) (p : IsStepPart r) → r ≡ cond (is_turned_run (chains_at h k) r) (turned_round p.chain) p.chain
  part_turned [] p = let none = part_links [] p in absurd cc
  part_turned (d ∷ r) p = elim p.same [
    | inl s ↦ s ∙ sym (ap (λ (b : Bool). cond b (turned_round p.chain) p.chain)
        (turned_as d r p false (turned_alike (holds_turned d.arc p.chain) d.turned (holder_turned h k p.chain (part_member (d ∷ r) p) d (subst (Among d) s (inl refl))))))
    | inr s ↦ (let g = turned_among p.chain d (subst (Among d) s (inl refl)) in
        s ∙ sym (ap (λ (b : Bool). cond b (turned_round p.chain) p.chain)
        (turned_as d r p true (turned_other (holds_turned d.arc p.chain) d.turned
        (ap not (ap (λ (i : ℕ). holds_turned i p.chain) (sym (ap (λ (l : Link). l.arc) g.2)) ∙ holder_turned h k p.chain (part_member (d ∷ r) p) g.0 g.1)
        ∙ ap (λ (l : Link). l.turned) g.2)))))
  ]

  pub part_run : (r : Chain) → IsStepPart r → IsRun (chains_at h k) r
  part_run r p = record {
    links = part_links r p;
    member = subst (Contains (chains_at h k)) (sym (part_chain r p)) (contained (chains_at h k) p.chain (part_member r p));
    same = part_turned r p
        ∙ ap (λ (f : Chain). cond (is_turned_run (chains_at h k) r) (turned_round f) f) (sym (part_chain r p));
  }

  -- ---- the parts of one chain

  starts_apart : (r : Chain) (p : IsStepPart r) (parts : List Chain) → ((q : Chain) → Among q parts → IsStepPart q)
      → sum_by (times (key p.chain)) (r ∷ parts) ≤ 1 → StartsApart (chains_at h k) (key p.chain) parts
  starts_apart r p [] each once = tt
  starts_apart r p ([] ∷ parts) each once = let none = part_links [] (each [] (inl refl)) in absurd cc
  starts_apart r p ((e ∷ q) ∷ parts) each once = λ same.
      let other = each (e ∷ q) (inl refl) in
      let i : ℕ = key p.chain in
      let one_key : key other.chain ≡ i = sym (ap key (part_held (e ∷ q) other e (inl refl))) ∙ same in
      let here : 1 ≤ times i p.chain = key_counts p.chain (chain_links h k p.chain (part_member r p)) in
      let there : 1 ≤ times i other.chain
      = subst (λ (n : ℕ). 1 ≤ times n other.chain) one_key (key_counts other.chain (chain_links h k other.chain (part_member (e ∷ q) other))) in
      omega (
        arith,
        here,
        there,
        once,
        part_times r p i,
        part_times (e ∷ q) other i,
        sum_by-cons (times i) r ((e ∷ q) ∷ parts),
        sum_by-cons (times i) (e ∷ q) parts,
      )

  are_cut : (parts : List Chain) → ((q : Chain) → Among q parts → IsStepPart q) → ((i : ℕ) → sum_by (times i) parts ≤ 1) → AreCut (chains_at h k) parts
  are_cut [] each once = tt
  are_cut (r ∷ parts) each once =
      let p = each r (inl refl) in (
        record {
          links = part_links r p;
          one = key p.chain;
          held_by = λ e m. ap key (part_held r p e m);
          apart = starts_apart r p parts (λ q m. each q (inr m)) (once (key p.chain));
        },
        are_cut parts (λ q m. each q (inr m)) (λ i. omega (arith, once i, sum_by-cons (times i) r parts)),
      )

  -- the runs of a chain after the step are its parts
  runs_parts : (c : Chain) → Among c (chains_at h (k + 1)) → (w : IsMadeOf (chains_left h k) c) → runs (chains_at h k) c ≡ w.parts
  runs_parts c m w =
      ap (runs (chains_at h k)) (sym w.joined)
      ∙ cut_is (chains_at h k) w.parts (are_cut w.parts w.each (λ i.
      omega (arith, sum_flat (λ (d : Link). is_number i d.arc) w.parts, ap (times i) w.joined, arc_once_in h (k + 1) c m i)))

  -- so they are cut where the finer chain is another
  pub runs_cut : (c : Chain) → Among c (chains_at h (k + 1)) → AreCut (chains_at h k) (runs (chains_at h k) c)
  runs_cut c m =
      let w = chain_parts h k numbered small faces even c m in
      subst (AreCut (chains_at h k)) (sym (runs_parts c m w)) (are_cut w.parts w.each (λ i.
      omega (arith, sum_flat (λ (d : Link). is_number i d.arc) w.parts, ap (times i) w.joined, arc_once_in h (k + 1) c m i)))

  pub run_part : (c : Chain) → Among c (chains_at h (k + 1)) → (r : Chain) → Among r (runs (chains_at h k) c) → IsStepPart r
  run_part c m r n =
      let w = chain_parts h k numbered small faces even c m in
      w.each r (subst (Among r) (runs_parts c m w) n)

  pub runs_joined : (c : Chain) → Among c (chains_at h (k + 1)) → flat_map (λ r. r) (runs (chains_at h k) c) ≡ c
  runs_joined c m =
      let w = chain_parts h k numbered small faces even c m in
      ap (flat_map (λ r. r)) (runs_parts c m w) ∙ w.joined

  -- ---- all runs

  abbrev pub step_runs : List Chain
  step_runs = flat_map (runs (chains_at h k)) (chains_at h (k + 1))

  pub step_part : (r : Chain) → Among r step_runs → IsStepPart r
  step_part r m =
      let c = among_from (runs (chains_at h k)) (chains_at h (k + 1)) r m in
      run_part c.0 c.1 r c.2

  -- how often a chain before the step is that of a run: as often as it is left
  pub runs_count : (f : Chain) → Among f (chains_at h k)
      → count_by (λ r. key (chain_of_run (chains_at h k) r) == key f) step_runs ≡ count_by (λ g. key g == key f) (chains_left h k)
  runs_count f m =
      let i : ℕ = key f in
      sum_agree (λ r. cond {A = ℕ} (key (chain_of_run (chains_at h k) r) == i) 1 0) (times i) step_runs (λ r n.
      let p = step_part r n in
      ap (λ (g : Chain). cond {A = ℕ} (key g == i) 1 0) (part_chain r p) ∙ sym (part_times r p i ∙ key_times h k f p.chain m (part_member r p)))
      ∙ sum_each (times i) (runs (chains_at h k)) (chains_at h (k + 1))
      ∙ sum_agree (λ c. sum_by (times i) (runs (chains_at h k) c)) (times i) (chains_at h (k + 1)) (λ c n.
      sym (sum_flat (λ (d : Link). is_number i d.arc) (runs (chains_at h k) c)) ∙ ap (times i) (runs_joined c n))
      ∙ chains_sums h (k + 1) (is_number i)
      ∙ sym ((left_joined h k numbered small faces even).covers (is_number i))
      ∙ sum_agree (times i) (λ g. cond {A = ℕ} (key g == i) 1 0) (chains_left h k) (λ g n.
      key_times h k f g m (kept_among (λ c. not (between c)) (chains_at h k) g n))

  -- a chain before the step has its key alone
  key_alone : (f : Chain) → Among f (chains_at h k) → count_by (λ g. key g == key f) (chains_at h k) ≡ 1
  key_alone f m =
      let same : count_by (λ g. key g == key f) (chains_at h k) ≡ sum_by (times (key f)) (chains_at h k)
      = sum_agree (λ g. cond {A = ℕ} (key g == key f) 1 0) (times (key f)) (chains_at h k) (λ g n. sym (key_times h k f g m n)) in
      omega (arith, same, arc_once h k (key f), sum_member (times (key f)) (chains_at h k) f m, key_counts f (chain_links h k f m))

  pub left_count : (f : Chain) → Among f (chains_at h k) → count_by (λ g. key g == key f) (chains_left h k) ≡ cond (between f) 0 1
  left_count f m =
      count_by-filter (λ (g : Chain). key g == key f) (λ g. not (between g)) (chains_at h k)
      ∙ sum_agree (λ g. cond {A = ℕ} (not (between g) && (key g == key f)) 1 0) (λ g. cond {A = ℕ} (between f) 0 (cond (key g == key f) 1 0)) (chains_at h k)
      (λ g n. of_one g n (key g == key f) refl)
      ∙ by (between f)
    where
      both : (b : Bool) → cond {A = ℕ} (not b && true) 1 0 ≡ cond b 0 1
      both true = refl
      both false = refl

      none : (b c : Bool) → cond {A = ℕ} (not b && false) 1 0 ≡ cond c 0 0
      none true true = refl
      none true false = refl
      none false true = refl
      none false false = refl

      of_one : (g : Chain) → Among g (chains_at h k) → (b : Bool) → (key g == key f) ≡ b
          → cond {A = ℕ} (not (between g) && (key g == key f)) 1 0 ≡ cond {A = ℕ} (between f) 0 (cond (key g == key f) 1 0)
      of_one g n true e =
          ap (λ (b : Bool). cond {A = ℕ} (not (between g) && b) 1 0) e ∙ both (between g)
          ∙ ap (λ (c : Chain). cond {A = ℕ} (between c) 0 1) (same_key h k g f n m (eqb-true _ _ e))
          ∙ ap (λ (b : Bool). cond {A = ℕ} (between f) 0 (cond {A = ℕ} b 1 0)) (sym e)
      of_one g n false e =
          ap (λ (b : Bool). cond {A = ℕ} (not (between g) && b) 1 0) e ∙ none (between g) (between f)
          ∙ ap (λ (b : Bool). cond {A = ℕ} (between f) 0 (cond {A = ℕ} b 1 0)) (sym e)

      by : (b : Bool) → sum_by (λ g. cond {A = ℕ} b 0 (cond (key g == key f) 1 0)) (chains_at h k) ≡ cond b 0 1
      by true = sum_nothing (λ g. 0) (chains_at h k) (λ g n. refl)
      by false = key_alone f m

  pub runs_once : (f : Chain) → Among f (chains_at h k)
      → count_by (λ r. key (chain_of_run (chains_at h k) r) == key f) step_runs ≡ cond (between f) 0 1
  runs_once f m = runs_count f m ∙ left_count f m

  -- ---- the chains of all runs, in order

  abbrev run_chains : List Chain
  run_chains = map (chain_of_run (chains_at h k)) step_runs

  run_chain_left : (f : Chain) → Among f run_chains → Among f (chains_left h k)
  run_chain_left f m =
      let r = map_among (chain_of_run (chains_at h k)) step_runs f m in
      let p = step_part r.0 r.1 in
      subst (λ (g : Chain). Among g (chains_left h k)) (sym (part_chain r.0 p) ∙ r.2) p.member

  left_run_chain : (f : Chain) → Among f (chains_left h k) → Among f run_chains
  left_run_chain f m =
      let old = kept_among (λ c. not (between c)) (chains_at h k) f m in
      let some : 1 ≤ count_by (λ r. key (chain_of_run (chains_at h k) r) == key f) step_runs
      = omega (arith, runs_count f old, among_counts (λ (g : Chain). key g == key f) (chains_left h k) f m (eq-eqb (key f) (key f) refl)) in
      let r = counted_among (λ (r : Chain). key (chain_of_run (chains_at h k) r) == key f) step_runs some in
      let p = step_part r.0 r.1 in
      let same : p.chain ≡ f = same_key h k p.chain f (part_member r.0 p) old (ap key (sym (part_chain r.0 p)) ∙ eqb-true _ _ r.2) in
      subst (λ (g : Chain). Among g run_chains) (part_chain r.0 p ∙ same) (among_map (chain_of_run (chains_at h k)) step_runs r.0 r.1)

  run_chains_once : (f : Chain) → Among f run_chains → count_by (λ g. key g == key f) run_chains ≤ 1
  run_chains_once f m =
      let old = kept_among (λ c. not (between c)) (chains_at h k) f (run_chain_left f m) in
      let mapped : count_by (λ g. key g == key f) run_chains ≡ count_by (λ r. key (chain_of_run (chains_at h k) r) == key f) step_runs
      = sum_by-map (λ (g : Chain). cond {A = ℕ} (key g == key f) 1 0) (chain_of_run (chains_at h k)) step_runs in
      omega (arith, mapped, runs_once f old, few (between f))
    where
      few : (b : Bool) → cond {A = ℕ} b 0 1 ≤ 1
      few true = omega arith
      few false = omega arith

  left_sorted : is_sorted_by (λ c d. nat_lt (key c) (key d)) (chains_left h k) ≡ true
  left_sorted = filter-is_sorted {P = λ (c : Chain). ⊤} (order_by_key key nat_lt_order) (λ c. not (between c)) (chains_at h k)
      (all_members (λ (c : Chain). ⊤) (chains_at h k) (λ c m. tt)) (chains_sorted h k (chains_at h k) (chains_exist h k))

  pub runs_left : sort_by (λ c d. nat_lt (key c) (key d)) run_chains ≡ chains_left h k
  runs_left =
      sorted_same key (sort_by (λ c d. nat_lt (key c) (key d)) run_chains) (chains_left h k)
      (sort_pairs (λ c d. nat_lt (key c) (key d)) run_chains (numbers_differ key run_chains run_chains_once))
      left_sorted
      (λ f m. run_chain_left f (sort_among (λ c d. nat_lt (key c) (key d)) run_chains f m))
      (λ f m. among_sort (λ c d. nat_lt (key c) (key d)) run_chains f (left_run_chain f m))
