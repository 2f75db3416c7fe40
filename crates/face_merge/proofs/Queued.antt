-- The queue as a set of places: what a query for one finds, and which faces wait.
use Rattle.std.proofs.Common.{◌≡◌, ◌≢◌, ◌<◌, ◌⊎◌, inl, inr, ℕ, ℤ, Bool, true, false, ◌||◌, ◌==◌, ◌++◌, nat_lt, List, [], ◌∷◌, cond, refl, sym, ◌∙◌, ap, subst, arith}
use Rattle.std.specs.declared.cmp.Ordering.{Ordering}
use Rattle.std.specs.declared.cmp.Ordering.TheVariants.{Less, Equal, Greater}
use Rattle.std.specs.Ordering.{ordering_then, nat_cmp, int_cmp, is_eq}
use Rattle.std.proofs.lemmas.Bool.{cases_eq}
use Rattle.std.proofs.lemmas.Bool.Decides.{nat_tests}
use Rattle.std.proofs.lemmas.Map.Lookups.{exact_unsigned, exact_signed}
use Rattle.std.proofs.lemmas.Cmp.{nat_cmp_total, int_cmp_total, tied_itself}
use Rattle.face_merge.specs.declared.queue.Place.{Place}
use Rattle.face_merge.specs.Queue.{place_cmp, lists, AreWaiting}

-- two comparisons, one after the other, find what both find
then_equal : (o p : Ordering) → is_eq (ordering_then o p) ≡ true → (o ≡ Equal) × (p ≡ Equal)
then_equal Less p e = absurd cc
then_equal Equal Less e = absurd cc
then_equal Equal Equal e = (refl, refl)
then_equal Equal Greater e = absurd cc
then_equal Greater p e = absurd cc

-- a query for a place finds that place alone
pub same_place : (i : ℤ) (f s : ℕ) (j : ℤ) (g t : ℕ) → is_eq (place_cmp (i, f, s) (j, g, t)) ≡ true → (j ≡ i) × (g ≡ f) × (t ≡ s)
same_place i f s j g t e =
    let both = then_equal (ordering_then (int_cmp i j) (nat_cmp f g)) (nat_cmp s t) e in
    let first = then_equal (int_cmp i j) (nat_cmp f g) (ap is_eq both.0) in
    (sym (exact_signed i j first.0), sym (exact_unsigned f g first.1), sym (exact_unsigned s t both.1))

pub place_itself : (i : ℤ) (f s : ℕ) → is_eq (place_cmp (i, f, s) (i, f, s)) ≡ true
place_itself i f s = rw (tied_itself int_cmp_total i, tied_itself nat_cmp_total f, tied_itself nat_cmp_total s) refl

module _ (old new : ℤ → ℕ → ℕ → Bool) (i : ℤ) (f s : ℕ) (b : Bool) (updates : (j : ℤ) (g t : ℕ) → new j g t ≡ cond (is_eq (place_cmp (i, f, s) (j, g, t))) b (old j g t)) where
  -- the place itself
  pub updated_here : new i f s ≡ b
  updated_here = updates i f s ∙ ap (λ (x : Bool). cond x b (old i f s)) (place_itself i f s)

  -- what is there afterwards was there, or is the place
  pub updated_only : (j : ℤ) (g t : ℕ) → new j g t ≡ true → (old j g t ≡ true) ⊎ ((b ≡ true) × (j ≡ i) × (g ≡ f) × (t ≡ s))
  updated_only j g t e = chosen (is_eq (place_cmp (i, f, s) (j, g, t))) refl (sym (updates j g t) ∙ e)
    where
      chosen : (x : Bool) → is_eq (place_cmp (i, f, s) (j, g, t)) ≡ x → cond x b (old j g t) ≡ true → (old j g t ≡ true) ⊎ ((b ≡ true) × (j ≡ i) × (g ≡ f) × (t ≡ s))
      chosen true is e = let same = same_place i f s j g t is in inr (e, same.0, same.1, same.2)
      chosen false is e = inl e

  -- any other place stays
  pub updated_kept : (j : ℤ) (g t : ℕ) → old j g t ≡ true → (b ≡ true) ⊎ (t ≢ s) → new j g t ≡ true
  updated_kept j g t was other = chosen (is_eq (place_cmp (i, f, s) (j, g, t))) refl other ∙ was
    where
      chosen : (x : Bool) → is_eq (place_cmp (i, f, s) (j, g, t)) ≡ x → (b ≡ true) ⊎ (t ≢ s) → new j g t ≡ old j g t
      chosen true is (inl e) = updates j g t ∙ (ap (λ (x : Bool). cond x b (old j g t)) is ∙ (e ∙ sym was))
      chosen true is (inr n) = absurd (n (same_place i f s j g t is).2)
      chosen false is _ = updates j g t ∙ ap (λ (x : Bool). cond x b (old j g t)) is

-- ---- the places that are listed

-- one more place is listed
pub lists_push : (places : List Place) (x : Place) (s : ℕ) → lists (places ++ x ∷ []) s ≡ (lists places s || (x.slot == s))
lists_push [] x s = last (x.slot == s)
  where
    last : (b : Bool) → (b || false) ≡ b
    last true = refl
    last false = refl
lists_push (y ∷ places) x s = ap (λ (b : Bool). (y.slot == s) || b) (lists_push places x s) ∙ grouped (y.slot == s) (lists places s) (x.slot == s)
  where
    grouped : (a b c : Bool) → (a || (b || c)) ≡ ((a || b) || c)
    grouped true b c = refl
    grouped false b c = refl

-- ---- the faces that wait

module _ (number : ℕ → ℕ) (importance : ℕ → ℤ) (q : ℤ → ℕ → ℕ → Bool) (c : ℕ → ℕ) (known : AreWaiting number importance q c) where
  -- in other words for the numbers and the importances, where there is a permitted neighbour
  pub waiting_same : (number' : ℕ → ℕ) (importance' : ℕ → ℤ) → ((s : ℕ) → 0 < c s → (number' s ≡ number s) × (importance' (number s) ≡ importance (number s)))
      → AreWaiting number' importance' q c
  waiting_same number' importance' same = record {
    each = λ s p.
        let e = same s p in
        subst (λ (f : ℕ). q (importance' f) f s ≡ true) (sym e.0) (subst (λ (i : ℤ). q i (number s) s ≡ true) (sym e.1) (known.each s p));
    only = λ i f s e.
        let was = known.only i f s e in
        let d = same s was.2 in
        (was.0 ∙ sym d.0, was.1 ∙ (ap importance was.0 ∙ (sym d.1 ∙ ap importance' (sym was.0))), was.2);
  }

  -- with another count for one slot
  pub waiting_set : (q' : ℤ → ℕ → ℕ → Bool) (c' : ℕ → ℕ) (i : ℤ) (f s k : ℕ) → i ≡ importance f → f ≡ number s
      → ((j : ℤ) (g t : ℕ) → q' j g t ≡ cond (is_eq (place_cmp (i, f, s) (j, g, t))) (nat_lt 0 k) (q j g t)) → c' s ≡ k → ((t : ℕ) → t ≢ s → c' t ≡ c t)
      → AreWaiting number importance q' c'
  waiting_set q' c' i f s k ei ef updates here there = record {
    each = λ t p. each t p (cases_eq t s);
    only = λ j g t e. only j g t e (cases_eq t s) (updated_only q q' i f s (nat_lt 0 k) updates j g t e);
  } where
    above : (n : ℕ) → 0 < n → nat_lt 0 n ≡ true
    above n p = grind (arith, nat_tests)

    is_above : (n : ℕ) → nat_lt 0 n ≡ true → 0 < n
    is_above n e = grind (arith, nat_tests)

    each : (t : ℕ) → 0 < c' t → (t ≡ s) ⊎ (t ≡ s → ⊥) → q' (importance (number t)) (number t) t ≡ true
    each t p (inl e) =
        let some : 0 < k = subst (λ (n : ℕ). 0 < n) (ap c' e ∙ here) p in
        let at : q' i f s ≡ true = updated_here q q' i f s (nat_lt 0 k) updates ∙ above k some in
        let face : number t ≡ f = ap number e ∙ sym ef in
        subst (λ (x : ℕ). q' (importance (number t)) (number t) x ≡ true) (sym e)
        (subst (λ (x : ℕ). q' (importance x) x s ≡ true) (sym face) (subst (λ (x : ℤ). q' x f s ≡ true) ei at))
    each t p (inr d) =
        updated_kept q q' i f s (nat_lt 0 k) updates (importance (number t)) (number t) t (known.each t (subst (λ (n : ℕ). 0 < n) (there t d) p)) (inr d)

    only : (j : ℤ) (g t : ℕ) → q' j g t ≡ true → (t ≡ s) ⊎ (t ≡ s → ⊥) → (q j g t ≡ true) ⊎ ((nat_lt 0 k ≡ true) × (j ≡ i) × (g ≡ f) × (t ≡ s))
        → (g ≡ number t) × (j ≡ importance g) × (0 < c' t)
    only j g t e _ (inr h) =
        (h.2 ∙ (ef ∙ ap number (sym h.3)), h.1 ∙ (ei ∙ ap importance (sym h.2)), subst (λ (n : ℕ). 0 < n) (sym (ap c' h.3 ∙ here)) (is_above k h.0))
    only j g t e (inr d) (inl h) =
        let was = known.only j g t h in
        (was.0, was.1, subst (λ (n : ℕ). 0 < n) (sym (there t d)) was.2)
    only j g t e (inl d) (inl h) =
        let was = known.only j g t h in
        let face : g ≡ f = was.0 ∙ (ap number d ∙ sym ef) in
        let same : j ≡ i = was.1 ∙ (ap importance face ∙ sym ei) in
        let at : q' i f s ≡ true =
        subst (λ (x : ℤ). q' x f s ≡ true) same (subst (λ (x : ℕ). q' j x s ≡ true) face (subst (λ (x : ℕ). q' j g x ≡ true) d e)) in
        let some : nat_lt 0 k ≡ true = sym (updated_here q q' i f s (nat_lt 0 k) updates) ∙ at in
        (was.0, was.1, subst (λ (n : ℕ). 0 < n) (sym (ap c' d ∙ here)) (is_above k some))
