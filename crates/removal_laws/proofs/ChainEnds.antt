-- The ends of chains: those of their points, and those of the chains before a step.
use Rattle.std.proofs.Common.{◌≡◌, ◌≢◌, ◌⊎◌, inl, inr, ℕ, ◌+◌, ◌<◌, ◌≤◌, Bool, true, false, not, nat_lt, cond, List, [], ◌∷◌, ◌++◌, map, flat_map, filter, reverse, fold, drop, length, Contains, refl, sym, ap, ◌∙◌, subst, arith}
use Rattle.std.proofs.lemmas.Bool.{and_parts, ltb-true}
use Rattle.std.proofs.lemmas.List.{reverse-append, length-reverse, length-append}
use Rattle.tgap_model.specs.declared.geometry.Point.{Point}
use Rattle.tgap_model.specs.declared.base.BaseArc.{BaseArc}
use Rattle.tgap_model.specs.Base.{same_point}
use Rattle.tgap_model.specs.Merged.{MergedMap, step_number}
use Rattle.tgap_model.specs.Removals.{edge_of}
use Rattle.tgap_model.specs.Records.{is_edge_between}
use Rattle.lemmas.proofs.Members.{in_none, in_tail, in_cases}
use Rattle.tgap_model.specs.Chains.{Link, Chain, first_point, last_point, arc_number, link_points, link_start, link_end, chain_start, chain_end, chain_points, has_links, touches, toward, turned_round, join_at, directed, is_directed, key, are_chains, is_chain, chains_at}
use Rattle.map_laws.specs.ChainLaws.{chains_left, new_joints, joined_chains}
use Rattle.map_laws.proofs.ChainMembers.{Among, all_among, append_among, joined_among}
use Rattle.map_laws.proofs.Lists.{sort_among, map_among, kept_among}
use Rattle.map_laws.proofs.JoinPaths.{append_links, append_start, append_end, turned_start, turned_end, turned_links}
use Rattle.map_laws.proofs.ChainsStep.{chains_step}
use Rattle.map_laws.proofs.ChainsExist.{chains_exist}
use Rattle.removal_laws.specs.EndLaws.{IsChainEnd, EndsWereEnds}

-- ---- the ends of rows of points

reverse_cons : (x : Point) (xs : List Point) → reverse (x ∷ xs) ≡ reverse xs ++ x ∷ []
reverse_cons x xs = reverse-append (x ∷ []) xs

last_snoc : (xs : List Point) (x : Point) → last_point (xs ++ x ∷ []) ≡ x
last_snoc [] x = refl
last_snoc (y ∷ []) x = refl
last_snoc (y ∷ z ∷ xs) x = last_snoc (z ∷ xs) x

first_append : (xs ys : List Point) → 1 ≤ length xs → first_point (xs ++ ys) ≡ first_point xs
first_append [] ys l = absurd (omega arith)
first_append (x ∷ xs) ys l = refl

last_append : (xs ys : List Point) → 1 ≤ length ys → last_point (xs ++ ys) ≡ last_point ys
last_append [] ys l = refl
last_append (x ∷ []) [] l = absurd (omega arith)
last_append (x ∷ []) (y ∷ ys) l = refl
last_append (x ∷ z ∷ xs) ys l = last_append (z ∷ xs) ys l

last_reversed : (xs : List Point) → last_point (reverse xs) ≡ first_point xs
last_reversed [] = refl
last_reversed (x ∷ xs) = ap last_point (reverse_cons x xs) ∙ last_snoc (reverse xs) x

first_reversed : (xs : List Point) → first_point (reverse xs) ≡ last_point xs
first_reversed [] = refl
first_reversed (x ∷ []) = refl
first_reversed (x ∷ y ∷ xs) =
    ap first_point (reverse_cons x (y ∷ xs)) ∙ first_append (reverse (y ∷ xs)) (x ∷ []) (omega (arith, length-reverse (y ∷ xs))) ∙ first_reversed (y ∷ xs)

last_dropped : (xs : List Point) → 2 ≤ length xs → last_point (drop 1 xs) ≡ last_point xs
last_dropped [] l = absurd (omega arith)
last_dropped (x ∷ []) l = absurd (omega arith)
last_dropped (x ∷ y ∷ xs) l = refl

-- ---- of chains

module _ (arcs : List BaseArc) where
  link_first : (d : Link) → first_point (link_points arcs d) ≡ link_start arcs d
  link_first d = by d.turned
    where
      points : List Point
      points = (arc_number arcs d.arc).points

      by : (t : Bool) → first_point (cond t (reverse points) points) ≡ cond t (last_point points) (first_point points)
      by true = first_reversed points
      by false = refl

  pub link_last : (d : Link) → last_point (link_points arcs d) ≡ link_end arcs d
  link_last d = by d.turned
    where
      points : List Point
      points = (arc_number arcs d.arc).points

      by : (t : Bool) → last_point (cond t (reverse points) points) ≡ cond t (first_point points) (last_point points)
      by true = last_reversed points
      by false = refl

  pub link_length : (d : Link) → 2 ≤ length (arc_number arcs d.arc).points → 2 ≤ length (link_points arcs d)
  link_length d two = by d.turned
    where
      points : List Point
      points = (arc_number arcs d.arc).points

      by : (t : Bool) → 2 ≤ length (cond t (reverse points) points)
      by true = omega (arith, two, length-reverse points)
      by false = two

  -- chains of arcs with two points at least
  abbrev pub AreLong : Chain → Type 0
  AreLong c = (d : Link) → Among d c → 2 ≤ length (arc_number arcs d.arc).points

  pub chain_length : (c : Chain) → has_links c ≡ true → AreLong c → 2 ≤ length (chain_points arcs c)
  chain_length [] h long = absurd cc
  chain_length (d ∷ []) h long = link_length d (long d (inl refl))
  chain_length (d ∷ e ∷ c) h long = omega (arith, length-append (link_points arcs d) (drop 1 (chain_points arcs (e ∷ c))), link_length d (long d (inl refl)))

  pub chain_first : (c : Chain) → has_links c ≡ true → AreLong c → first_point (chain_points arcs c) ≡ chain_start arcs c
  chain_first [] h long = absurd cc
  chain_first (d ∷ []) h long = link_first d
  chain_first (d ∷ e ∷ c) h long =
      first_append (link_points arcs d) (drop 1 (chain_points arcs (e ∷ c))) (omega (arith, link_length d (long d (inl refl)))) ∙ link_first d

  pub chain_last : (c : Chain) → has_links c ≡ true → AreLong c → last_point (chain_points arcs c) ≡ chain_end arcs c
  chain_last [] h long = absurd cc
  chain_last (d ∷ []) h long = link_last d
  chain_last (d ∷ e ∷ c) h long =
      last_append (link_points arcs d) (drop 1 (chain_points arcs (e ∷ c))) (dropped (chain_points arcs (e ∷ c)) (chain_length (e ∷ c) refl (λ f m. long f (inr m))))
      ∙ last_dropped (chain_points arcs (e ∷ c)) (chain_length (e ∷ c) refl (λ f m. long f (inr m))) ∙ chain_last (e ∷ c) refl (λ f m. long f (inr m))
    where
      dropped : (ps : List Point) → 2 ≤ length ps → 1 ≤ length (drop 1 ps)
      dropped [] l = absurd (omega arith)
      dropped (p ∷ ps) l = omega arith

  pub chain_has_points : (c : Chain) → has_links c ≡ true → AreLong c → chain_points arcs c ≢ []
  chain_has_points c h long e = let none : length (chain_points arcs c) ≡ 0 = ap length e in absurd (omega (arith, chain_length c h long))

  -- ---- joins keep ends among ends

  module _ (E : Point → Type 0) where
    abbrev pub EndsIn : Chain → Type 0
    EndsIn c = (has_links c ≡ true) × E (chain_start arcs c) × E (chain_end arcs c)

    turned_in : (c : Chain) → EndsIn c → EndsIn (turned_round c)
    turned_in c h = (turned_links c h.0, subst E (sym (turned_start arcs c)) h.2, subst E (sym (turned_end arcs c)) h.1)

    toward_in : (p : Point) (c : Chain) → EndsIn c → EndsIn (toward arcs p c)
    toward_in p c h = by (same_point (chain_end arcs c) p)
      where
        by : (v : Bool) → EndsIn (cond v c (turned_round c))
        by true = h
        by false = turned_in c h

    joined_in : (x y : Chain) → EndsIn x → EndsIn y → EndsIn (x ++ y)
    joined_in x y h k = (append_links x y h.0, subst E (sym (append_start arcs x y h.0)) h.1, subst E (sym (append_end arcs x y k.0)) k.2)

    join_in : (chains : List Chain) (p : Point) → ((c : Chain) → Among c chains → EndsIn c) → (c : Chain) → Among c (join_at arcs chains p) → EndsIn c
    join_in chains p h c m = by (filter (touches arcs p) chains) (λ d n. h d (kept_among (touches arcs p) chains d n)) m
      where
        by : (found : List Chain) → ((d : Chain) → Among d found → EndsIn d)
            → Among c (elim found [
              | [] ↦ chains
              | c ∷ [] ↦ chains
              | c ∷ d ∷ more ↦ (toward arcs p c ++ turned_round (toward arcs p d)) ∷ (more ++ filter (λ e. not (touches arcs p e)) chains)
            ]) → EndsIn c
        by [] f n = h c n
        by (d ∷ []) f n = h c n
        by (d ∷ e ∷ more) f (inl n) = subst EndsIn n (joined_in (toward arcs p d) (turned_round (toward arcs p e))
            (toward_in p d (f d (inl refl))) (turned_in (toward arcs p e) (toward_in p e (f e (inr (inl refl))))))
        by (d ∷ e ∷ more) f (inr n) = elim (append_among more (filter (λ e. not (touches arcs p e)) chains) c n) [
          | inl l ↦ f c (inr (inr l))
          | inr l ↦ h c (kept_among (λ e. not (touches arcs p e)) chains c l)
        ]

    joins_in : (ps : List Point) (chains : List Chain) → ((c : Chain) → Among c chains → EndsIn c) → (c : Chain) → Among c (fold (join_at arcs) chains ps) → EndsIn c
    joins_in [] chains h c m = h c m
    joins_in (p ∷ ps) chains h c m = joins_in ps (join_at arcs chains p) (join_in chains p h) c m

    directed_in : (c : Chain) → EndsIn c → EndsIn (directed c)
    directed_in c h = by (is_directed c)
      where
        by : (v : Bool) → EndsIn (cond v c (turned_round c))
        by true = h
        by false = turned_in c h

-- ---- the chains after k steps

-- a member by its place, and a place from a member
pub contained : {A : Type 0} (xs : List A) (x : A) → Among x xs → Contains xs x
contained [] x m = absurd m
contained (y ∷ ys) x (inl e) = (0, omega arith, e)
contained (y ∷ ys) x (inr m) = in_tail y ys x (contained ys x m)

pub among_contained : {A : Type 0} (xs : List A) (x : A) → Contains xs x → Among x xs
among_contained [] x m = absurd (in_none x m)
among_contained (y ∷ ys) x m = elim (in_cases y ys x m) [ inl e ↦ inl e | inr n ↦ inr (among_contained ys x n) ]

module _ (h : MergedMap) (k : ℕ) where
  -- they have links, of arcs of the map
  pub chain_links : (c : Chain) → Among c (chains_at h k) → has_links c ≡ true
  unfolding are_chains
  chain_links c m =
      let all = (and_parts _ _ (and_parts _ _ (chains_exist h k)).0).0 in
      let one = all_among (is_chain h k) (chains_at h k) c all m in
      (and_parts _ _ (and_parts _ _ (and_parts _ _ (and_parts _ _ one).0).0).0).0

  pub chain_arcs : (c : Chain) → Among c (chains_at h k) → (d : Link) → Among d c → d.arc < length h.base.arcs
  unfolding are_chains
  chain_arcs c m d n =
      let covers = (and_parts _ _ (and_parts _ _ (chains_exist h k)).0).1 in
      let all = (and_parts _ _ covers).1 in
      ltb-true d.arc (length h.base.arcs) (all_among (λ (e : Link). nat_lt e.arc (length h.base.arcs)) (flat_map (λ c. c) (chains_at h k)) d all (joined_among (chains_at h k) c d m n))

pub ends_were_ends : EndsWereEnds
ends_were_ends h k even p (c, m, e) = at_end (ends_in c (among_contained (chains_at h (k + 1)) c m)) e
  where
    E : Point → Type 0
    E q = IsChainEnd h.base.arcs (chains_at h k) q

    step : chains_at h (k + 1) ≡ joined_chains h k
    step = chains_step h k even.numbered (omega (arith, even.within)) even.faces (even.even k (omega arith))

    left_in : (d : Chain) → Among d (chains_left h k) → EndsIn h.base.arcs E d
    left_in d n =
        let old = kept_among (λ c. not (is_edge_between (step_number h (k + 1)).loser (step_number h (k + 1)).winner (edge_of h k [] c))) (chains_at h k) d n in
        (chain_links h k d old, (d, contained (chains_at h k) d old, inl refl), (d, contained (chains_at h k) d old, inr refl))

    ends_in : (d : Chain) → Among d (chains_at h (k + 1)) → EndsIn h.base.arcs E d
    ends_in d n =
        let joined = fold (join_at h.base.arcs) (chains_left h k) (new_joints h k) in
        let from = map_among directed joined d (sort_among (λ c d. nat_lt (key c) (key d)) (map directed joined) d (subst (Among d) step n)) in
        subst (EndsIn h.base.arcs E) from.2 (directed_in h.base.arcs E from.0 (joins_in h.base.arcs E (new_joints h k) (chains_left h k) left_in from.0 from.1))

    at_end : EndsIn h.base.arcs E c → (chain_start h.base.arcs c ≡ p) ⊎ (chain_end h.base.arcs c ≡ p) → E p
    at_end i (inl f) = subst E f i.1
    at_end i (inr f) = subst E f i.2
