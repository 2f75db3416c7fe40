-- Lists of two members, and counts of the members that a test has left.
use Rattle.std.proofs.Common.{◌≡◌, ◌≢◌, ◌⊎◌, inl, inr, ℕ, ◌+◌, Bool, true, false, cond, List, [], ◌∷◌, filter, length, refl, sym, ap, ap₂, ◌∙◌, arith}
use Rattle.std.specs.Prelude.{count_by}
use Rattle.lemmas.proofs.Counts.{count_by-cons}
use Rattle.map_laws.proofs.ChainMembers.{Among}

module _ {A : Type 0} where
  -- two different members of a list of two are the list
  pub two_members : (xs : List A) (x y : A) → length xs ≡ 2 → Among x xs → Among y xs → x ≢ y → (xs ≡ x ∷ y ∷ []) ⊎ (xs ≡ y ∷ x ∷ [])
  two_members [] x y l m n d = absurd m
  two_members (u ∷ []) x y l m n d = absurd (omega arith)
  two_members (u ∷ v ∷ w ∷ ws) x y l m n d = absurd (omega arith)
  two_members (u ∷ v ∷ []) x y l (inl e) (inl f) d = absurd (d (sym e ∙ f))
  two_members (u ∷ v ∷ []) x y l (inl e) (inr (inl f)) d = inl (ap₂ (λ s t. s ∷ t ∷ []) e f)
  two_members (u ∷ v ∷ []) x y l (inr (inl e)) (inl f) d = inr (ap₂ (λ s t. s ∷ t ∷ []) f e)
  two_members (u ∷ v ∷ []) x y l (inr (inl e)) (inr (inl f)) d = absurd (d (sym e ∙ f))
  two_members (u ∷ v ∷ []) x y l (inr (inr e)) n d = absurd e
  two_members (u ∷ v ∷ []) x y l m (inr (inr e)) d = absurd e

  -- Two tests that agree where a third one fails: as many members pass each of them among those that pass the third as among all.
  pub kept_counts : (p q b : A → Bool) → ((x : A) → b x ≡ false → p x ≡ q x) → (xs : List A)
      → count_by p (filter b xs) + count_by q xs ≡ count_by q (filter b xs) + count_by p xs
  kept_counts p q b same [] = refl
  kept_counts p q b same (x ∷ xs) = by (b x) refl (kept_counts p q b same xs)
    where
      by : (t : Bool) → b x ≡ t → count_by p (filter b xs) + count_by q xs ≡ count_by q (filter b xs) + count_by p xs
          → count_by p (cond t (x ∷ filter b xs) (filter b xs)) + count_by q (x ∷ xs)
          ≡ count_by q (cond t (x ∷ filter b xs) (filter b xs)) + count_by p (x ∷ xs)
      by true e h = omega (arith, count_by-cons p x (filter b xs), count_by-cons q x (filter b xs), count_by-cons p x xs, count_by-cons q x xs, h)
      by false e h =
          let s : cond {A = ℕ} (p x) 1 0 ≡ cond (q x) 1 0 = ap (λ (t : Bool). cond {A = ℕ} t 1 0) (same x e) in
          omega (arith, count_by-cons p x xs, count_by-cons q x xs, h, s)
