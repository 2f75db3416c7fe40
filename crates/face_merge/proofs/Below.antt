-- How many of the numbers below one pass a test: where tests differ at one number, where one test is two others, and over a
-- list of these numbers.
use Rattle.std.proofs.Common.{◌≡◌, ◌≢◌, ◌<◌, ◌≤◌, ◌⊎◌, inl, inr, ℕ, zero, suc, ◌+◌, Bool, true, false, ◌&&◌, ◌||◌, ◌==◌, List, [], ◌∷◌, length, take, get_or, cond, refl, sym, ◌∙◌, ap, subst, arith, eq-eqb, ne_eqb}
use Rattle.std.specs.Prelude.{count_by}
use Rattle.std.specs.Int.{from_bool}
use Rattle.std.specs.List.{AllByRecursion, list_any}
use Rattle.std.proofs.lemmas.Bool.{cond-true, cond-false, cases_eq}
use Rattle.std.proofs.lemmas.List.Sums.{sum_by-cons, sum_by_more}
use Rattle.face_merge.specs.Merging.{count_below}

-- 1 where it holds, else 0
pub by_bool : (b : Bool) → from_bool b ≡ cond b 1 0
by_bool true = refl
by_bool false = refl

pub bool_small : (b : Bool) → from_bool b ≤ 1
bool_small true = omega arith
bool_small false = omega arith

-- tests that agree
pub below_same : (p q : ℕ → Bool) (n : ℕ) → ((k : ℕ) → k < n → p k ≡ q k) → count_below p n ≡ count_below q n
unfolding count_below
below_same p q zero e = refl
below_same p q (suc n) e =
    let rest = below_same p q n (λ k lt. e k (omega (arith, lt))) in
    let last : ◌≡◌ {A = ℕ} (cond (p n) 1 0) (cond (q n) 1 0) = ap (λ (b : Bool). cond b 1 0) (e n (omega arith)) in
    omega (arith, rest, last)

-- tests that agree but at one number
pub below_changed : (p q : ℕ → Bool) (x n : ℕ) → x < n → ((k : ℕ) → k ≢ x → p k ≡ q k) → count_below p n + cond (q x) 1 0 ≡ count_below q n + cond (p x) 1 0
unfolding count_below
below_changed p q x zero lt e = absurd (omega (arith, lt))
below_changed p q x (suc n) lt e = chosen (cases_eq x n) (λ l. below_changed p q x n l e)
  where
    chosen : (x ≡ n) ⊎ (x ≡ n → ⊥) → (x < n → count_below p n + cond (q x) 1 0 ≡ count_below q n + cond (p x) 1 0)
        → (count_below p n + cond (p n) 1 0) + cond (q x) 1 0 ≡ (count_below q n + cond (q n) 1 0) + cond (p x) 1 0
    chosen (inl s) rest =
        let same = below_same p q n (λ k l. e k (λ h. omega (arith, l, h, s))) in
        let at_p : ◌≡◌ {A = ℕ} (cond (p x) 1 0) (cond (p n) 1 0) = ap (λ (k : ℕ). cond (p k) 1 0) s in
        let at_q : ◌≡◌ {A = ℕ} (cond (q x) 1 0) (cond (q n) 1 0) = ap (λ (k : ℕ). cond (q k) 1 0) s in
        omega (arith, same, at_p, at_q)
    chosen (inr d) rest =
        let last : ◌≡◌ {A = ℕ} (cond (p n) 1 0) (cond (q n) 1 0) = ap (λ (b : Bool). cond b 1 0) (e n (λ h. d (sym h))) in
        let less : x < n = omega (arith, lt, d) in
        omega (arith, rest less, last)

-- a test that no number passes, and one that some number passes
pub below_none : (p : ℕ → Bool) (n : ℕ) → ((k : ℕ) → p k ≡ false) → count_below p n ≡ 0
unfolding count_below
below_none p zero e = refl
below_none p (suc n) e =
    let last : ◌≡◌ {A = ℕ} (cond (p n) 1 0) (0) = cond-false (p n) 1 0 (e n) in
    omega (arith, below_none p n e, last)

pub below_some : (p : ℕ → Bool) (k n : ℕ) → k < n → p k ≡ true → 0 < count_below p n
unfolding count_below
below_some p k zero lt e = absurd (omega (arith, lt))
below_some p k (suc n) lt e = chosen (cases_eq k n) (λ l. below_some p k n l e)
  where
    chosen : (k ≡ n) ⊎ (k ≡ n → ⊥) → (k < n → 0 < count_below p n) → 0 < count_below p n + cond (p n) 1 0
    chosen (inl s) rest =
        let last : ◌≡◌ {A = ℕ} (cond (p n) 1 0) (1) = cond-true (p n) 1 0 (subst (λ (x : ℕ). p x ≡ true) s e) in
        omega (arith, last)
    chosen (inr d) rest =
        let less : k < n = omega (arith, lt, d) in
        omega (arith, rest less)

pub some_below : (p : ℕ → Bool) (n : ℕ) → 0 < count_below p n → (k : ℕ) × (p k ≡ true)
unfolding count_below
some_below p zero lt = absurd (omega (arith, lt))
some_below p (suc n) lt = chosen (p n) refl (λ l. some_below p n l)
  where
    chosen : (b : Bool) → p n ≡ b → (0 < count_below p n → (k : ℕ) × (p k ≡ true)) → (k : ℕ) × (p k ≡ true)
    chosen true e rest = (n, e)
    chosen false e rest =
        let last : ◌≡◌ {A = ℕ} (cond (p n) 1 0) (0) = cond-false (p n) 1 0 e in
        rest (omega (arith, lt, last))

-- no more pass than there are
pub below_most : (p : ℕ → Bool) (n : ℕ) → count_below p n ≤ n
unfolding count_below
below_most p zero = omega arith
below_most p (suc n) = omega (arith, below_most p n, one_at_most (p n))
  where
    one_at_most : (b : Bool) → cond b 1 0 ≤ 1
    one_at_most true = omega arith
    one_at_most false = omega arith

more : (p : ℕ → Bool) (n k : ℕ) → k ≡ suc n → count_below p k ≡ count_below p n + cond (p n) 1 0
unfolding count_below
more p n k e = rw e refl

-- one more number
pub below_more : (p : ℕ → Bool) (n : ℕ) → count_below p (n + 1) ≡ count_below p n + cond (p n) 1 0
below_more p n = more p n (n + 1) (omega arith)

-- a test that is two others, never both
pub below_sum : (p q r : ℕ → Bool) (n : ℕ) → ((k : ℕ) → k < n → cond (p k) 1 0 ≡ cond (q k) 1 0 + cond (r k) 1 0) → count_below p n ≡ count_below q n + count_below r n
unfolding count_below
below_sum p q r zero e = refl
below_sum p q r (suc n) e =
    let rest = below_sum p q r n (λ k lt. e k (omega (arith, lt))) in
    let last = e n (omega arith) in
    omega (arith, rest, last)

-- a test that two numbers pass no longer, and one more number
pub below_moved : (p q : ℕ → Bool) (l w n : ℕ) → l < n → w < n → l ≢ w → q l ≡ false → q w ≡ false → ((k : ℕ) → k ≢ l → k ≢ w → k ≢ n → p k ≡ q k)
    → count_below p n + cond (q n) 1 0 ≡ count_below q (n + 1) + cond (p l) 1 0 + cond (p w) 1 0
below_moved p q l w n pl pw apart ql qw same =
    let first = below_changed p one l n pl (λ k d. sym (cond-false (k == l) false (p k) (ne_eqb k l d))) in
    let first_none : ◌≡◌ {A = ℕ} (cond (one l) 1 0) (0) = cond-false (one l) 1 0 (cond-true (l == l) false (p l) (eq-eqb l l refl)) in
    let second = below_changed one two w n pw (λ k d. sym (cond-false (k == w) false (one k) (ne_eqb k w d))) in
    let second_none : ◌≡◌ {A = ℕ} (cond (two w) 1 0) (0) = cond-false (two w) 1 0 (cond-true (w == w) false (one w) (eq-eqb w w refl)) in
    let at_w : ◌≡◌ {A = ℕ} (cond (one w) 1 0) (cond (p w) 1 0) = ap (λ (b : Bool). cond b 1 0) (cond-false (w == l) false (p w) (ne_eqb w l (λ e. apart (sym e)))) in
    let rest = below_same two q n (λ k lt. each k lt (cases_eq k l) (cases_eq k w)) in
    omega (arith, first, first_none, second, second_none, at_w, rest, below_more q n)
  where
    one : ℕ → Bool
    one k = cond (k == l) false (p k)

    two : ℕ → Bool
    two k = cond (k == w) false (one k)

    each : (k : ℕ) → k < n → (k ≡ l) ⊎ (k ≡ l → ⊥) → (k ≡ w) ⊎ (k ≡ w → ⊥) → two k ≡ q k
    each k lt _ (inl b) = cond-true (k == w) false (one k) (eq-eqb k w b) ∙ sym (ap q b ∙ qw)
    each k lt (inl a) (inr b) = cond-false (k == w) false (one k) (ne_eqb k w b) ∙ (cond-true (k == l) false (p k) (eq-eqb k l a) ∙ sym (ap q a ∙ ql))
    each k lt (inr a) (inr b) =
        cond-false (k == w) false (one k) (ne_eqb k w b) ∙ (cond-false (k == l) false (p k) (ne_eqb k l a) ∙ same k a b (λ e. omega (arith, lt, e)))

-- one more member of a list that passes a test, or does not
pub count_more : {X : Type 0} (p : X → Bool) (xs : List X) (i : ℕ) (d : X) (n k : ℕ) (b : Bool) → i < length xs → n ≡ count_by p (take i xs) → b ≡ p (get_or xs i d) → k ≡ from_bool b
    → n + k ≡ count_by p (take (i + 1) xs)
count_more p xs i d n k b inside en eb ek =
    let more = sum_by_more (λ x. cond (p x) 1 0) xs i d inside in
    let last : ◌≡◌ {A = ℕ} (from_bool b) (cond (p (get_or xs i d)) 1 0) = by_bool b ∙ ap (λ (x : Bool). cond x 1 0) eb in
    omega (arith, more, en, ek, last)

-- the numbers of a list that pass a test, where each stands there once
abbrev pub AreApart : List ℕ → Type 0
AreApart [] = Unit {0}
AreApart (x ∷ xs) = AllByRecursion (λ y. y ≢ x) xs × AreApart xs

not_listed : (x : ℕ) (xs : List ℕ) → AllByRecursion (λ y. y ≢ x) xs → list_any (λ y. y == x) xs ≡ false
not_listed x [] ne = refl
not_listed x (y ∷ xs) ne = rw (ne_eqb y x ne.0, not_listed x xs ne.1) refl

pub below_listed : (r : ℕ → Bool) (n : ℕ) (xs : List ℕ) → AllByRecursion (λ x. x < n) xs → AreApart xs
    → count_by r xs ≡ count_below (λ k. list_any (λ x. x == k) xs && r k) n
below_listed r n [] inside apart = sym (below_none (λ k. list_any (λ x. x == k) [] && r k) n (λ k. refl))
below_listed r n (x ∷ xs) inside apart =
    let changed = below_changed now more x n inside.0 (λ k d. same k (λ e. d (sym e))) in
    let at_now : ◌≡◌ {A = ℕ} (cond (now x) 1 0) (0) = cond-false (now x) 1 0 (none_here (list_any (λ y. y == x) xs) (r x) (not_listed x xs apart.0)) in
    let at_more : ◌≡◌ {A = ℕ} (cond (more x) 1 0) (cond (r x) 1 0) = ap (λ (b : Bool). cond b 1 0) (here (x == x) (list_any (λ y. y == x) xs) (r x) (eq-eqb x x refl)) in
    omega (arith, changed, at_now, at_more, below_listed r n xs inside.1 apart.1, sum_by-cons (λ y. cond (r y) 1 0) x xs)
  where
    now : ℕ → Bool
    now k = list_any (λ y. y == k) xs && r k

    more : ℕ → Bool
    more k = ((x == k) || list_any (λ y. y == k) xs) && r k

    same : (k : ℕ) → x ≢ k → now k ≡ more k
    same k d = rw (ne_eqb x k d) refl

    none_here : (a b : Bool) → a ≡ false → (a && b) ≡ false
    none_here a b e = rw e refl

    here : (a b c : Bool) → a ≡ true → ((a || b) && c) ≡ c
    here a b c e = rw e refl
