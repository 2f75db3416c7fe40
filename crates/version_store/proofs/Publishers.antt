-- The numbers of the versions that one has published.
use Rattle.std.proofs.Common.{◌≡◌, ◌<◌, ◌≤◌, ◌+◌, ◌==◌, inl, inr, ℕ, zero, suc, Bool, true, false, List, [], ◌∷◌, ◌++◌, length, drop, replicate, Option, Some, None, refl, sym, ap, ◌∙◌, subst, arith, if◌then◌else◌}
use Rattle.std.specs.Prelude.{slice_get}
use Rattle.std.proofs.lemmas.Bool.{eq-eqb, eqb-true, ne_eqb, cases_lt}
use Rattle.std.proofs.lemmas.List.{append-nil, length_push}
use Rattle.std.proofs.lemmas.Option.{slice_get_within}
use Rattle.version_store.specs.Publishers.{places_from, numbers_of, IsOneOf, ArePublishers}
use Rattle.version_store.proofs.Prefixes.{get_last, get_left, some_same}

-- one place more, or none
one_more : (n : ℕ) (is : Bool) (whole front rest : List ℕ) → whole ≡ front ++ rest
    → (if is then n ∷ whole else whole) ≡ (if is then n ∷ front else front) ++ rest
one_more n true whole front rest e = ap (λ (l : List ℕ). n ∷ l) e
one_more n false whole front rest e = e

-- a longer list has the places of its front, and those of the rest
pub places_append : (n publisher : ℕ) (a b : List ℕ)
    → places_from n publisher (a ++ b) ≡ places_from n publisher a ++ places_from (n + length a) publisher b
places_append n publisher [] b = ap (λ (k : ℕ). places_from k publisher b) (omega arith)
places_append n publisher (p ∷ a) b =
    one_more n (p == publisher) (places_from (suc n) publisher (a ++ b)) (places_from (suc n) publisher a) (places_from (n + length (p ∷ a)) publisher b)
    (places_append (suc n) publisher a b
    ∙ ap (λ (k : ℕ). places_from (suc n) publisher a ++ places_from k publisher b) (let e : suc n + length a ≡ n + length (p ∷ a) = omega arith in e))

-- its own place is one more
pub numbers_push : (publisher : ℕ) (publishers : List ℕ) → numbers_of publisher (publishers ++ publisher ∷ []) ≡ numbers_of publisher publishers ++ length publishers ∷ []
numbers_push publisher publishers =
    places_append 0 publisher publishers (publisher ∷ [])
    ∙ ap (λ (l : List ℕ). numbers_of publisher publishers ++ l)
    (ap (λ (is : Bool). if is then (0 + length publishers) ∷ [] else []) (eq-eqb publisher publisher refl)
    ∙ ap (λ (k : ℕ). k ∷ []) (let e : 0 + length publishers ≡ length publishers = omega arith in e))

-- another's is none
pub numbers_else : (publisher other : ℕ) (publishers : List ℕ) → ¬ (publisher ≡ other) → numbers_of publisher (publishers ++ other ∷ []) ≡ numbers_of publisher publishers
numbers_else publisher other publishers unlike =
    places_append 0 publisher publishers (other ∷ [])
    ∙ ap (λ (is : Bool). numbers_of publisher publishers ++ (if is then (0 + length publishers) ∷ [] else [])) (ne_eqb other publisher (λ e. unlike (sym e)))
    ∙ append-nil (numbers_of publisher publishers)

-- where nobody has published the first version alone, a seat has published none
pub numbers_first : (n : ℕ) (publishers : List ℕ) → publishers ≡ 0 ∷ [] → [] ≡ numbers_of (n + 1) publishers
numbers_first n publishers e =
    sym (ap (numbers_of (n + 1)) e ∙ ap (λ (is : Bool). if is then 0 ∷ [] else []) (ne_eqb 0 (n + 1) (λ h. omega arith)))

-- one version more has one of the seats as its publisher
pub publishers_push : (seats publisher : ℕ) (publishers : List ℕ) → 0 < length publishers → IsOneOf seats publisher → ArePublishers seats publishers
    → ArePublishers seats (publishers ++ publisher ∷ [])
publishers_push seats publisher publishers some one are = (
  first publishers some are.0,
  λ n p pos e. elim (cases_lt n (length publishers)) [
    | inl inside ↦ are.1 n p pos (get_left publishers publisher p n inside e)
    | inr past ↦
        let l : n < length publishers + 1 =
        subst (λ (k : ℕ). n < k) (length_push publishers publisher) (slice_get_within (publishers ++ publisher ∷ []) n p e) in
        let here : n ≡ length publishers = omega arith in
        let same : publisher ≡ p =
        some_same publisher p (sym (get_last publishers publisher) ∙ ap (λ (k : ℕ). slice_get (publishers ++ publisher ∷ []) k) (sym here) ∙ e) in
        subst (IsOneOf seats) same one
  ],
)
  where
    first : (ps : List ℕ) → 0 < length ps → slice_get ps 0 ≡ Some 0 → slice_get (ps ++ publisher ∷ []) 0 ≡ Some 0
    first [] l e = absurd (omega arith)
    first (p ∷ ps) l e = e

-- ---- publishers that begin with some of one seat

-- no place is below the one that is counted first
above : (n publisher : ℕ) (publishers : List ℕ) (is : Bool) (x : ℕ) (xs : List ℕ)
    → ((y : ℕ) (ys : List ℕ) → places_from (suc n) publisher publishers ≡ y ∷ ys → suc n ≤ y)
    → (if is then n ∷ places_from (suc n) publisher publishers else places_from (suc n) publisher publishers) ≡ x ∷ xs → n ≤ x
above n publisher publishers true x xs rest e = let same : n ≡ x = cc in omega (arith, same)
above n publisher publishers false x xs rest e = let far = rest x xs e in omega (arith, far)

places_above : (n publisher : ℕ) (publishers : List ℕ) (x : ℕ) (xs : List ℕ) → places_from n publisher publishers ≡ x ∷ xs → n ≤ x
places_above n publisher [] x xs e = absurd cc
places_above n publisher (p ∷ publishers) x xs e =
    above n publisher publishers (p == publisher) x xs (λ y ys f. places_above (suc n) publisher publishers y ys f) e

-- the first one is its own, where the first place is
own_first : (n p publisher : ℕ) (publishers xs : List ℕ) (is : Bool) → (p == publisher) ≡ is
    → (if is then n ∷ places_from (suc n) publisher publishers else places_from (suc n) publisher publishers) ≡ n ∷ xs
    → (p ≡ publisher) × (places_from (suc n) publisher publishers ≡ xs)
own_first n p publisher publishers xs true same e = (eqb-true p publisher same, ap (λ (l : List ℕ). drop 1 l) e)
own_first n p publisher publishers xs false same e =
    let far = places_above (suc n) publisher publishers n xs e in absurd (omega (arith, far))

-- the places of so many of its own
places_own : (n m publisher : ℕ) → places_from n publisher (replicate (suc m) publisher) ≡ n ∷ places_from (suc n) publisher (replicate m publisher)
places_own n m publisher =
    ap (λ (is : Bool). if is then n ∷ places_from (suc n) publisher (replicate m publisher) else places_from (suc n) publisher (replicate m publisher))
    (eq-eqb publisher publisher refl)

-- Where its places begin with those of so many in a row, these are its own.
pub own_front : (n m publisher : ℕ) (publishers rest : List ℕ)
    → places_from n publisher publishers ≡ places_from n publisher (replicate m publisher) ++ rest
    → publishers ≡ replicate m publisher ++ drop m publishers
own_front n zero publisher publishers rest e = refl
own_front n (suc m) publisher [] rest e = absurd (cc (e, places_own n m publisher))
own_front n (suc m) publisher (p ∷ publishers) rest e =
    let whole = e ∙ ap (λ (l : List ℕ). l ++ rest) (places_own n m publisher) in
    let first = own_first n p publisher publishers (places_from (suc n) publisher (replicate m publisher) ++ rest) (p == publisher) refl whole in
    ap (λ (q : ℕ). q ∷ publishers) first.0
    ∙ ap (λ (l : List ℕ). publisher ∷ l) (own_front (suc n) m publisher publishers rest first.1)

-- nobody has published the first version
pub first_nobody : (publishers : List ℕ) → slice_get publishers 0 ≡ Some 0 → publishers ≡ 0 ∷ drop 1 publishers
first_nobody [] e = cc
first_nobody (p ∷ publishers) e = ap (λ (o : Option ℕ). elim o [ None ↦ p ∷ publishers | Some x ↦ x ∷ publishers ]) e
