-- A ring of spokes stays closed where one of them is replaced by one with the same faces that has its place among the others.
use Rattle.std.proofs.Common.{append-nil, ◌≡◌, ◌≢◌, inl, inr, ℕ, ◌||◌, Bool, true, false, cond, List, [], ◌∷◌, ◌++◌, All, AllPairs, refl, sym, ap, ◌∙◌, subst}
use Rattle.std.proofs.lemmas.List.Elements.{All-head, All-tail, All-weaker}
use Rattle.std.proofs.lemmas.List.Sorted.{IsPermutation-middle, IsPermutation-trans}
use Rattle.lemmas.specs.Sorting.{insert_by, sort_by}
use Rattle.lemmas.proofs.Sorting.{before_first_from_all, insert_by-first, insert_by-between, sort_by-permutation, sort_by-is_sorted, AllPairs-permutation, sort_by-permuted, All-sort_by}
use Rattle.tgap_model.specs.declared.geometry.Point.{Point}
use Rattle.tgap_model.specs.Partition.{Spoke}
use Rattle.grid_geo.proofs.Turns.{turns_one_way}
use Rattle.base_check.proofs.Apart.{IsDecided}
use Rattle.removal_laws.specs.WedgeLaws.{HaveOnePlace}
use Rattle.slice_laws.proofs.SpokeRings.{IsPath, spoke, comes_before, order_of_spokes}

-- ---- paths

path_push : (a e : ℕ) (ps : List Spoke) (q : Spoke) → IsPath a e ps → q.right ≡ e → IsPath a q.left (ps ++ q ∷ [])
path_push a e [] q h f = (f ∙ sym h, refl)
path_push a e (p ∷ ps) q h f = (h.0, path_push p.left e ps q h.1 f)

path_pop : (a e : ℕ) (ps : List Spoke) (q : Spoke) → IsPath a e (ps ++ q ∷ []) → IsPath a q.right ps × (q.left ≡ e)
path_pop a e [] q h = (sym h.0, h.1)
path_pop a e (p ∷ ps) q h = let r = path_pop p.left e ps q h.1 in ((h.0, r.0), r.1)

-- a path that closes
abbrev pub IsClosed : List Spoke → Type 0
IsClosed ps = (a : ℕ) × IsPath a a ps

-- ---- one spoke more

module _ (v p q : Point) (l r : ℕ) where
  insert_alike : (a e : ℕ) (ps : List Spoke) → All (λ s. comes_before v (spoke q l r) s ≡ comes_before v (spoke p l r) s) ps
      → IsPath a e (insert_by (comes_before v) (spoke p l r) ps) → IsPath a e (insert_by (comes_before v) (spoke q l r) ps)
  insert_alike a e [] same h = h
  insert_alike a e (s ∷ ps) same h =
      by (comes_before v (spoke q l r) s) (comes_before v (spoke p l r) s) (All-head (λ t. comes_before v (spoke q l r) t ≡ comes_before v (spoke p l r) t) s ps same)
      (λ b. insert_alike b e ps (All-tail (λ t. comes_before v (spoke q l r) t ≡ comes_before v (spoke p l r) t) s ps same)) h
    where
      by : (b c : Bool) → b ≡ c
          → ((d : ℕ) → IsPath d e (insert_by (comes_before v) (spoke p l r) ps) → IsPath d e (insert_by (comes_before v) (spoke q l r) ps))
          → IsPath a e (cond c (spoke p l r ∷ s ∷ ps) (s ∷ insert_by (comes_before v) (spoke p l r) ps))
          → IsPath a e (cond b (spoke q l r ∷ s ∷ ps) (s ∷ insert_by (comes_before v) (spoke q l r) ps))
      by true true f rest k = k
      by true false f rest k = absurd cc
      by false true f rest k = absurd cc
      by false false f rest k = (k.0, rest s.left k.1)

  -- where the first comes before all others and the second behind them
  insert_first : (u : Point) (ps : List Spoke) → All (λ s. comes_before v (spoke u l r) s ≡ true) ps → insert_by (comes_before v) (spoke u l r) ps ≡ spoke u l r ∷ ps
  insert_first u ps h = insert_by-first (comes_before v) (spoke u l r) ps (before_first_from_all (comes_before v) (spoke u l r) ps h)

  insert_last : (u : Point) (ps : List Spoke) → All (λ s. comes_before v s (spoke u l r) ≡ true) ps → insert_by (comes_before v) (spoke u l r) ps ≡ ps ++ spoke u l r ∷ []
  insert_last u ps h =
      ap (insert_by (comes_before v) (spoke u l r)) (sym (append-nil ps))
      ∙ insert_by-between (comes_before v) (spoke u l r) ps []
      (All-weaker (λ s. comes_before v s (spoke u l r) ≡ true) (λ s. comes_before v (spoke u l r) s ≡ false) (λ s f. turns_one_way v s.toward u f) ps h) refl

  -- the ring with the second spoke in place of the first
  insert_closed : (Other : Point → Type 0) → HaveOnePlace v p q Other → (ps : List Spoke) → All (λ s. Other s.toward) ps
      → IsClosed (insert_by (comes_before v) (spoke p l r) ps) → IsClosed (insert_by (comes_before v) (spoke q l r) ps)
  insert_closed Other (inl alike) ps others (a, h) = (
    a,
    insert_alike a a ps
        (All-weaker (λ s. Other s.toward) (λ s. comes_before v (spoke q l r) s ≡ comes_before v (spoke p l r) s) (λ s o. (alike s.toward o).0) ps others) h,
  )
  insert_closed Other (inr (inl between)) ps others (a, h) =
      let first = insert_first p ps (All-weaker (λ s. Other s.toward) (λ s. comes_before v (spoke p l r) s ≡ true) (λ s o. (between s.toward o).0) ps others) in
      let last = insert_last q ps (All-weaker (λ s. Other s.toward) (λ s. comes_before v s (spoke q l r) ≡ true) (λ s o. (between s.toward o).1) ps others) in
      let path : IsPath a a (spoke p l r ∷ ps) = subst (IsPath a a) first h in
      (l, subst (IsPath l l) (sym last) (path_push l a ps (spoke q l r) path.1 path.0))
  insert_closed Other (inr (inr between)) ps others (a, h) =
      let first = insert_first q ps (All-weaker (λ s. Other s.toward) (λ s. comes_before v (spoke q l r) s ≡ true) (λ s o. (between s.toward o).0) ps others) in
      let last = insert_last p ps (All-weaker (λ s. Other s.toward) (λ s. comes_before v s (spoke p l r) ≡ true) (λ s o. (between s.toward o).1) ps others) in
      let path = path_pop a a ps (spoke p l r) (subst (IsPath a a) last h) in
      (r, subst (IsPath r r) (sym first) (refl, subst (λ b. IsPath b r ps) (sym path.1) path.0))

-- ---- a spoke among others

-- sorting puts it in its place among the others
sorted_middle : (v : Point) (p : Spoke) (ps qs : List Spoke) → All (λ s. v ≢ s.toward) (ps ++ p ∷ qs) → AllPairs (IsDecided v) (ps ++ p ∷ qs)
    → sort_by (comes_before v) (ps ++ p ∷ qs) ≡ insert_by (comes_before v) p (sort_by (comes_before v) (ps ++ qs))
sorted_middle v p ps qs leaves decided =
    sort_by-permuted (order_of_spokes v) (ps ++ p ∷ qs) (sort_by (comes_before v) (p ∷ (ps ++ qs))) leaves
    (sort_by-is_sorted (comes_before v) (p ∷ (ps ++ qs))
    (AllPairs-permutation (IsDecided v) (λ x y. either (comes_before v x y) (comes_before v y x)) (ps ++ p ∷ qs) (p ∷ (ps ++ qs)) (IsPermutation-middle ps p qs) decided))
    (IsPermutation-trans (ps ++ p ∷ qs) (p ∷ (ps ++ qs)) (sort_by (comes_before v) (p ∷ (ps ++ qs))) (IsPermutation-middle ps p qs)
    (sort_by-permutation (comes_before v) (p ∷ (ps ++ qs))))
  where
    either : (b c : Bool) → (b || c) ≡ true → (c || b) ≡ true
    either b true h = refl
    either true false h = refl
    either false false h = h

module _ (v p q : Point) (l r : ℕ) (ps qs : List Spoke) (Other : Point → Type 0) (place : HaveOnePlace v p q Other) (others : All (λ s. Other s.toward) (ps ++ qs)) where
  -- where the ring with the first is closed, that with the second is
  pub replaced_closed : All (λ s. v ≢ s.toward) (ps ++ spoke p l r ∷ qs) → AllPairs (IsDecided v) (ps ++ spoke p l r ∷ qs)
      → All (λ s. v ≢ s.toward) (ps ++ spoke q l r ∷ qs) → AllPairs (IsDecided v) (ps ++ spoke q l r ∷ qs)
      → IsClosed (sort_by (comes_before v) (ps ++ spoke p l r ∷ qs)) → IsClosed (sort_by (comes_before v) (ps ++ spoke q l r ∷ qs))
  replaced_closed leaves decided new_leaves new_decided closed =
      subst IsClosed (sym (sorted_middle v (spoke q l r) ps qs new_leaves new_decided))
      (insert_closed v p q l r Other place (sort_by (comes_before v) (ps ++ qs)) (All-sort_by (comes_before v) (λ s. Other s.toward) (ps ++ qs) others)
      (subst IsClosed (sorted_middle v (spoke p l r) ps qs leaves decided) closed))
