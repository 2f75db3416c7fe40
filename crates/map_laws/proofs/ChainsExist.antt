-- The chains exist: border arcs that are joined at the nodes of degree two, one after the other, are the chains.
use Rattle.std.proofs.Common.{◌≡◌, inl, inr, ℕ, ◌<◌, ◌≤◌, ◌==◌, ◌&&◌, ◌||◌, true, false, cond, nat_lt, List, [], ◌∷◌, map, length, sum_by, refl, sym, ◌∙◌, subst, arith}
use Rattle.std.specs.Prelude.{count_by, flat_map, fold, if◌then◌else◌}
use Rattle.std.specs.List.{list_all, list_any, range_with_len}
use Rattle.std.proofs.lemmas.Bool.{and_from, or_left, or_right, eq-eqb, eqb-true, lt-ltb, cases_order}
use Rattle.std.proofs.lemmas.List.Sums.{sum_by-cons}
use Rattle.lemmas.specs.Sorting.{sort_by, is_sorted_by}
use Rattle.lemmas.proofs.Counts.{sum_by-map}
use Rattle.lemmas.proofs.Sorting.{sum_by-sort_by}
use Rattle.tgap_model.specs.Merged.{MergedMap, is_border}
use Rattle.tgap_model.specs.Chains.{arc_number, border_numbers, degree, joins_before, Link, Chain, chain_start, key, has_links, covers_border, is_chain, are_chains, join_at, joints, directed, chains_at}
use Rattle.map_laws.specs.ChainLaws.{ChainsExist}
use Rattle.map_laws.proofs.ChainMembers.{Among, counted_among, among_counts}
use Rattle.map_laws.proofs.Lists.{ArePairs, all_from, kept_among, sum_member, sum_agree, sum_flat, sort_among, sort_pairs, map_among, among_range, range_once, range_count}
use Rattle.map_laws.proofs.ChainsUnique.{chains_unique}
use Rattle.map_laws.proofs.JoinPaths.{IsPath}
use Rattle.map_laws.proofs.JoinSteps.{arc_sum, AreJoined}
use Rattle.map_laws.proofs.JoinOrder.{joints_two, joints_all, joints_ascend}
use Rattle.map_laws.proofs.JoinAll.{AreNext, join_all}
use Rattle.map_laws.proofs.JoinTests.{key_of, IsMaximalPath, directed_maximal, chain_from, directed_sum, directed_links}

-- ---- keys

-- how often an arc number is one
abbrev is_number : ℕ → ℕ → ℕ
is_number i n = cond (n == i) 1 0

-- the arc of the key is counted
key_counted : (c : Chain) → has_links c ≡ true → 1 ≤ arc_sum (is_number (key c)) c
key_counted c h =
    let low = key_of c h in
    among_counts (λ (d : Link). d.arc == key c) c low.0 low.1 (eq-eqb low.0.arc (key c) low.2)

-- one of two orders holds of numbers that differ
differ_order : (m n : ℕ) → (m ≡ n → ⊥) → (nat_lt m n || nat_lt n m) ≡ true
differ_order m n ne = elim (cases_order m n) [
  | inl e ↦ absurd (ne e)
  | inr o ↦ elim o [ inl l ↦ or_left (nat_lt m n) (nat_lt n m) (lt-ltb m n l) | inr l ↦ or_right (nat_lt m n) (nat_lt n m) (lt-ltb n m l) ]
]

-- chains of which no two share an arc have different keys
keys_differ : (cs : List Chain) → ((c : Chain) → Among c cs → has_links c ≡ true) → ((i : ℕ) → sum_by (arc_sum (is_number i)) cs ≤ 1)
    → ArePairs (λ c d. (nat_lt (key c) (key d) || nat_lt (key d) (key c)) ≡ true) cs
keys_differ [] links once = tt
keys_differ (c ∷ cs) links once = (
  (λ d m. differ_order (key c) (key d) (λ e. apart d m e)),
  keys_differ cs (λ d m. links d (inr m)) (λ i. omega (arith, once i, sum_by-cons (arc_sum (is_number i)) c cs)),
)
  where
    apart : (d : Chain) → Among d cs → key c ≡ key d → ⊥
    apart d m e =
        let here = key_counted c (links c (inl refl)) in
        let there : 1 ≤ arc_sum (is_number (key c)) d = subst (λ (n : ℕ). 1 ≤ arc_sum (is_number n) d) (sym e) (key_counted d (links d (inr m))) in
        omega (
          arith,
          once (key c),
          sum_by-cons (arc_sum (is_number (key c))) c cs,
          sum_member (arc_sum (is_number (key c))) cs d m,
        )

-- ---- joined paths, sorted and directed

module _ (h : MergedMap) (k : ℕ) (cs : List Chain) (a : AreJoined h k (λ q. degree h k q ≡ 2) cs) where
  -- the chains in their directions, in the order of their keys
  abbrev in_order : List Chain
  in_order = sort_by (λ c d. nat_lt (key c) (key d)) (map directed cs)

  -- what counts for the arcs stays
  sums : (f : ℕ → ℕ) → sum_by (arc_sum f) (map directed cs) ≡ sum_by f (border_numbers h k)
  sums f = sum_by-map (arc_sum f) directed cs ∙ sum_agree (λ c. arc_sum f (directed c)) (arc_sum f) cs (λ c m. directed_sum f c) ∙ a.covers f

  pub joined_sums : (f : ℕ → ℕ) → sum_by (arc_sum f) (sort_by (λ c d. nat_lt (key c) (key d)) (map directed cs)) ≡ sum_by f (border_numbers h k)
  joined_sums f = sum_by-sort_by (λ c d. nat_lt (key c) (key d)) (arc_sum f) (map directed cs) ∙ sums f

  flat_sums : (f : ℕ → ℕ) → sum_by (λ (d : Link). f d.arc) (flat_map (λ c. c) in_order) ≡ sum_by f (border_numbers h k)
  flat_sums f = sum_flat (λ (d : Link). f d.arc) in_order ∙ joined_sums f

  -- no arc stands twice
  border_once : (i : ℕ) → sum_by (is_number i) (border_numbers h k) ≤ 1
  border_once i = range_once (λ j. is_border h k (arc_number h.base.arcs j)) 0 (length h.base.arcs) i

  maximal : (c : Chain) → Among c cs → IsMaximalPath h k c
  maximal c m = record { path = a.paths c m; shut = a.shut c m; anchored = a.anchored c m }

  pub joined_maximal : (c : Chain) → Among c (sort_by (λ c d. nat_lt (key c) (key d)) (map directed cs)) → IsMaximalPath h k c
  joined_maximal c m =
      let from = map_among directed cs c (sort_among (λ c d. nat_lt (key c) (key d)) (map directed cs) c m) in
      subst (IsMaximalPath h k) from.2 (directed_maximal h k from.0 (maximal from.0 from.1))

  once : (c : Chain) → Among c cs → count_by (λ d. d.arc == key c) c ≤ 1
  once c m =
      let part : arc_sum (is_number (key c)) c ≤ sum_by (arc_sum (is_number (key c))) cs = sum_member (arc_sum (is_number (key c))) cs c m in
      omega (arith, part, a.covers (is_number (key c)), border_once (key c))

  all_chains : list_all (is_chain h k) in_order ≡ true
  all_chains = all_from (is_chain h k) in_order (λ c m.
      let from = map_among directed cs c (sort_among (λ c d. nat_lt (key c) (key d)) (map directed cs) c m) in
      subst (λ e. is_chain h k e ≡ true) from.2 (chain_from h k from.0 (maximal from.0 from.1) (once from.0 from.1)))

  counted : list_all (λ i. count_by (λ d. d.arc == i) (flat_map (λ c. c) in_order) == (if list_any (λ j. j == i) (border_numbers h k) then 1 else 0))
      (range_with_len 0 (length h.base.arcs)) ≡ true
  counted =
      all_from (λ i. count_by (λ d. d.arc == i) (flat_map (λ c. c) in_order) == (if list_any (λ j. j == i) (border_numbers h k) then 1 else 0))
      (range_with_len 0 (length h.base.arcs)) (λ i m. eq-eqb _ _ (flat_sums (is_number i)
      ∙ range_count (λ j. is_border h k (arc_number h.base.arcs j)) 0 (length h.base.arcs) i))

  within : list_all (λ d. nat_lt d.arc (length h.base.arcs)) (flat_map (λ c. c) in_order) ≡ true
  within =
      all_from (λ d. nat_lt d.arc (length h.base.arcs)) (flat_map (λ c. c) in_order) (λ d m. lt-ltb d.arc (length h.base.arcs) (small d m))
    where
      small : (d : Link) → Among d (flat_map (λ c. c) in_order) → d.arc < length h.base.arcs
      small d m =
          let some : 1 ≤ sum_by (λ (e : Link). is_number d.arc e.arc) (flat_map (λ c. c) in_order)
          = among_counts (λ (e : Link). e.arc == d.arc) (flat_map (λ c. c) in_order) d m (eq-eqb d.arc d.arc refl) in
          let found = counted_among (λ j. j == d.arc) (border_numbers h k) (omega (arith, some, flat_sums (is_number d.arc))) in
          let range = among_range 0 (length h.base.arcs) found.0
          (kept_among (λ j. is_border h k (arc_number h.base.arcs j)) (range_with_len 0 (length h.base.arcs)) found.0 found.1) in
          let same : found.0 ≡ d.arc = eqb-true found.0 d.arc found.2 in
          omega (arith, range.1)

  sorted : is_sorted_by (λ c d. nat_lt (key c) (key d)) in_order ≡ true
  sorted =
      sort_pairs (λ c d. nat_lt (key c) (key d)) (map directed cs)
      (keys_differ (map directed cs)
      (λ c m. let from = map_among directed cs c m in subst (λ e. has_links e ≡ true) from.2 (directed_links from.0 (a.paths from.0 from.1).links))
      (λ i. omega (arith, sums (is_number i), border_once i)))

  -- they are the chains
  pub joined_are_chains : are_chains h k (sort_by (λ c d. nat_lt (key c) (key d)) (map directed cs)) ≡ true
  unfolding are_chains
  joined_are_chains =
      and_from (list_all (is_chain h k) in_order && covers_border h k in_order) (is_sorted_by (λ c d. nat_lt (key c) (key d)) in_order)
      (and_from (list_all (is_chain h k) in_order) (covers_border h k in_order) all_chains (and_from _ _ counted within)) sorted

-- ---- from single arcs

module _ (h : MergedMap) (k : ℕ) where
  -- each border arc as a chain of its own
  abbrev pub single : ℕ → Chain
  single i = record { arc = i; turned = false } ∷ []

  -- no node is a junction yet
  pub single_joined : AreJoined h k (λ q. ⊥) (map single (border_numbers h k))
  single_joined = record {
    covers = λ f.
        sum_by-map (arc_sum f) single (border_numbers h k)
        ∙ sum_agree (λ i. arc_sum f (single i)) f (border_numbers h k) (λ i m. one f i);
    paths = λ c m. let from = map_among single (border_numbers h k) c m in subst (λ e. IsPath h.base.arcs (λ q. ⊥) e) from.2 (record { links = refl; row = tt });
    shut = λ c m p j. absurd j;
    anchored = λ c m closed two.
        let from = map_among single (border_numbers h k) c m in
        subst (λ e. IsPath h.base.arcs (λ j. joins_before h k (chain_start h.base.arcs c) j ≡ false) e) from.2 (record { links = refl; row = tt });
  }
    where
      one : (f : ℕ → ℕ) (i : ℕ) → arc_sum f (single i) ≡ f i
      one f i = omega (arith, sum_by-cons (λ (d : Link). f d.arc) (record { arc = i; turned = false }) [])

  -- all joints are next
  pub joints_next : AreNext h k (λ q. ⊥) (joints h k)
  joints_next = record {
    two = joints_two h k;
    all = λ q two. inr (joints_all h k q two);
    before = λ q j. absurd j;
    later = λ p j m i. absurd i;
    apart = λ p m j. j;
    ascend = joints_ascend h k;
  }

  -- so all are joined
  all_joined : AreJoined h k (λ q. degree h k q ≡ 2) (fold (join_at h.base.arcs) (map single (border_numbers h k)) (joints h k))
  all_joined = join_all h k (joints h k) (λ q. ⊥) (map single (border_numbers h k)) single_joined joints_next

  -- each border arc counts once in the chains
  pub chains_sums : (f : ℕ → ℕ) → sum_by (arc_sum f) (chains_at h k) ≡ sum_by f (border_numbers h k)
  unfolding chains_at
  chains_sums f = joined_sums h k (fold (join_at h.base.arcs) (map single (border_numbers h k)) (joints h k)) all_joined f

  -- each chain is a path that cannot be joined further
  pub chains_maximal : (c : Chain) → Among c (chains_at h k) → IsMaximalPath h k c
  unfolding chains_at
  chains_maximal c m = joined_maximal h k (fold (join_at h.base.arcs) (map single (border_numbers h k)) (joints h k)) all_joined c m

-- the joined border arcs are the chains after k steps
pub chains_exist : ChainsExist
unfolding chains_at
chains_exist h k = joined_are_chains h k (fold (join_at h.base.arcs) (map (single h k) (border_numbers h k)) (joints h k)) (all_joined h k)

-- so a list that passes is the joined border arcs
pub chains_are : (h : MergedMap) (k : ℕ) (cs : List Chain) → are_chains h k cs ≡ true → cs ≡ chains_at h k
chains_are h k cs t = chains_unique h k cs (chains_at h k) t (chains_exist h k)
