-- Which chain holds an arc: the chains after some steps share none, and each has its key from one of its own arcs.
use Rattle.std.proofs.Common.{◌≡◌, inl, inr, ℕ, ◌≤◌, ◌==◌, ◌&&◌, Bool, true, false, cond, List, [], ◌∷◌, length, sum_by, Option, Some, None, refl, sym, ap, ◌∙◌, subst, arith}
use Rattle.std.specs.Prelude.{find}
use Rattle.std.specs.List.{list_any}
use Rattle.std.proofs.lemmas.Bool.{and_parts, and_from, eq-eqb, eqb-true, true≢false, false_from_ne_true}
use Rattle.std.proofs.lemmas.List.Sums.{sum_by-cons}
use Rattle.tgap_model.specs.Merged.{MergedMap, is_border}
use Rattle.tgap_model.specs.Chains.{arc_number, Link, Chain, key, has_links, chains_at}
use Rattle.tgap_model.specs.Records.{chain_of, holds_turned}
use Rattle.map_laws.proofs.ChainMembers.{Among, any_among, among_counts, one_passes}
use Rattle.map_laws.proofs.Lists.{any_from, sum_member, range_once}
use Rattle.map_laws.proofs.JoinTests.{key_of}
use Rattle.map_laws.proofs.JoinSteps.{arc_sum}
use Rattle.map_laws.proofs.ChainsExist.{chains_sums}
use Rattle.removal_laws.proofs.ChainEnds.{chain_links}

-- how often an arc stands in a chain
abbrev pub is_number : ℕ → ℕ → ℕ
is_number i n = cond (n == i) 1 0

abbrev pub times : ℕ → Chain → ℕ
times i c = arc_sum (is_number i) c

-- a link of the chain counts for its arc
pub link_counts : (c : Chain) (d : Link) → Among d c → 1 ≤ times d.arc c
link_counts c d m = among_counts (λ (e : Link). e.arc == d.arc) c d m (eq-eqb d.arc d.arc refl)

-- the key of the chain is the number of one of its arcs, and counts for it
pub key_counts : (c : Chain) → has_links c ≡ true → 1 ≤ times (key c) c
key_counts c h =
    let low = key_of c h in
    among_counts (λ (d : Link). d.arc == key c) c low.0 low.1 (eq-eqb low.0.arc (key c) low.2)

-- what two members of a list count, where the sum over all is one at most: they are one member
pub one_counts : {A : Type 0} (f : A → ℕ) (xs : List A) (x y : A) → Among x xs → Among y xs → 1 ≤ f x → 1 ≤ f y → sum_by f xs ≤ 1 → x ≡ y
one_counts f [] x y m n a b l = absurd m
one_counts f (z ∷ zs) x y (inl e) (inl g) a b l = sym e ∙ g
one_counts f (z ∷ zs) x y (inl e) (inr n) a b l =
    let same = ap f e in
    absurd (omega (arith, sum_by-cons f z zs, sum_member f zs y n))
one_counts f (z ∷ zs) x y (inr m) (inl g) a b l =
    let same = ap f g in
    absurd (omega (arith, sum_by-cons f z zs, sum_member f zs x m))
one_counts f (z ∷ zs) x y (inr m) (inr n) a b l = one_counts f zs x y m n a b (omega (arith, sum_by-cons f z zs))

-- the first member that passes is one that passes alone
pub find_only : {A : Type 0} (p : A → Bool) (xs : List A) (x : A) → Among x xs → p x ≡ true → ((y : A) → Among y xs → p y ≡ true → y ≡ x)
    → find p xs ≡ Some x
find_only p [] x m e only = absurd m
find_only {A} p (y ∷ ys) x m e only = by (p y) refl m (λ n. find_only p ys x n e (λ z o. only z (inr o)))
  where
    by : (b : Bool) → p y ≡ b → Among x (y ∷ ys) → (Among x ys → find p ys ≡ Some x) → cond b (Some y) (find p ys) ≡ Some x
    by true f n rest = ap (λ (z : A). Some z) (only y (inl refl) f)
    by false f (inl s) rest = absurd (true≢false (sym (ap p s ∙ e) ∙ f))
    by false f (inr n) rest = rest n

module _ (h : MergedMap) (k : ℕ) where
  -- no arc stands twice
  pub arc_once : (i : ℕ) → sum_by (times i) (chains_at h k) ≤ 1
  arc_once i = omega (
    arith,
    chains_sums h k (is_number i),
    range_once (λ j. is_border h k (arc_number h.base.arcs j)) 0 (length h.base.arcs) i,
  )

  pub arc_once_in : (c : Chain) → Among c (chains_at h k) → (i : ℕ) → times i c ≤ 1
  arc_once_in c m i = omega (arith, arc_once i, sum_member (times i) (chains_at h k) c m)

  -- chains with an arc in common are one
  pub same_holder : (f g : Chain) → Among f (chains_at h k) → Among g (chains_at h k) → (i : ℕ) → 1 ≤ times i f → 1 ≤ times i g → f ≡ g
  same_holder f g m n i a b = one_counts (times i) (chains_at h k) f g m n a b (arc_once i)

  -- chains with one key are one
  pub same_key : (f g : Chain) → Among f (chains_at h k) → Among g (chains_at h k) → key f ≡ key g → f ≡ g
  same_key f g m n e =
      same_holder f g m n (key f) (key_counts f (chain_links h k f m))
      (subst (λ (i : ℕ). 1 ≤ times i g) (sym e) (key_counts g (chain_links h k g n)))

  -- how often the key of one stands in another
  pub key_times : (f g : Chain) → Among f (chains_at h k) → Among g (chains_at h k) → times (key f) g ≡ cond (key g == key f) 1 0
  key_times f g m n = by (key g == key f) refl
    where
      by : (b : Bool) → (key g == key f) ≡ b → times (key f) g ≡ cond b 1 0
      by true e =
          let same : key g ≡ key f = eqb-true _ _ e in
          let some : 1 ≤ times (key f) g = subst (λ (i : ℕ). 1 ≤ times i g) same (key_counts g (chain_links h k g n)) in
          omega (arith, some, arc_once_in g n (key f))
      by false e =
          let few : 1 ≤ times (key f) g → ⊥ = λ (some : 1 ≤ times (key f) g).
          true≢false (sym (eq-eqb _ _ (ap key (same_holder g f n m (key f) some (key_counts f (chain_links h k f m))))) ∙ e) in
          omega arith

  -- the chain that holds an arc
  pub holder : (f : Chain) → Among f (chains_at h k) → (d : Link) → Among d f → chain_of (chains_at h k) d.arc ≡ f
  holder f m d n =
      let p : Chain → Bool = λ (c : Chain). list_any (λ e. e.arc == d.arc) c in
      let found : find p (chains_at h k) ≡ Some f
      = find_only p (chains_at h k) f m (any_from (λ e. e.arc == d.arc) f d n (eq-eqb d.arc d.arc refl)) (λ c o t.
      let e = any_among (λ (e : Link). e.arc == d.arc) c t in
      same_holder c f o m d.arc (among_counts (λ (e : Link). e.arc == d.arc) c e.0 e.1 e.2) (link_counts f d n)) in
      ap (λ (o : Option Chain). elim o [ None ↦ [] | Some c ↦ c ]) found

  -- it holds the arc in the direction of its link
  pub holder_turned : (f : Chain) → Among f (chains_at h k) → (d : Link) → Among d f → holds_turned d.arc f ≡ d.turned
  holder_turned f m d n = by d.turned refl
    where
      by : (t : Bool) → d.turned ≡ t → holds_turned d.arc f ≡ t
      by true e = any_from (λ e. (e.arc == d.arc) && e.turned) f d n (and_from (d.arc == d.arc) d.turned (eq-eqb d.arc d.arc refl) e)
      by false e = false_from_ne_true (holds_turned d.arc f) (λ t.
          let g = any_among (λ (e : Link). (e.arc == d.arc) && e.turned) f t in
          let both = and_parts (g.0.arc == d.arc) g.0.turned g.2 in
          let same : g.0 ≡ d = one_passes (λ (l : Link). l.arc == d.arc) f g.0 d (arc_once_in f m d.arc) g.1 n both.0 (eq-eqb d.arc d.arc refl) in
          true≢false (sym both.1 ∙ ap (λ (l : Link). l.turned) same ∙ e))
