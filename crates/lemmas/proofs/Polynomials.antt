-- Identities of polynomials over the integers. Two polynomials with one normal form have the same value at every list of integers:
--     `same_value (x0 ∷ y0 ∷ x1 ∷ y1 ∷ x2 ∷ y2 ∷ x3 ∷ y3 ∷ []) (cross 0 1 2 ⊕ cross 0 2 3) (cross 0 1 3 ⊕ cross 1 2 3) refl`
-- `Examples` has more. The values may be any terms: where a long term occurs as a whole, give it as one value.
use Rattle.std.proofs.Common.{◌≡◌, ℕ, suc, zero, ◌+◌, ◌*◌, Bool, true, false, nat_le, nat_cmp, Ordering, Less, Equal, Greater, List, [], ◌∷◌, get_or, ℤ, pos, negsuc, ◌+ℤ◌, ◌-ℤ◌, ◌*ℤ◌, neg_ℤ, refl, sym, ap, ◌∙◌, arith}
use Rattle.std.proofs.lemmas.Int.{ints}
use Rattle.std.proofs.lemmas.Bool.Decides.{nat_tests}
use Rattle.std.proofs.Math.IntN.{+ℤ_idl, +ℤ_idr, zero-*ℤ, *ℤ-zero, *ℤ_comm}
use Rattle.lemmas.proofs.Integers.{add-*ℤ, *ℤ-add, neg-*ℤ, *ℤ_assoc, *ℤ_left_comm, one-*ℤ}

infixl 6 ◌⊕◌
infixl 6 ◌⊖◌
infixl 7 ◌⊗◌
-- a polynomial in variables that have numbers
pub data Polynomial : Type 0 where
  var : ℕ → Polynomial
  number : ℤ → Polynomial
  ◌⊕◌ : Polynomial → Polynomial → Polynomial
  ◌⊖◌ : Polynomial → Polynomial → Polynomial
  ◌⊗◌ : Polynomial → Polynomial → Polynomial
  minus : Polynomial → Polynomial

-- its value where variable n is the item of the list at n
abbrev pub value : List ℤ → Polynomial → ℤ
value xs (var n) = get_or xs n (pos 0)
value xs (number z) = z
value xs (a ⊕ b) = value xs a +ℤ value xs b
value xs (a ⊖ b) = value xs a -ℤ value xs b
value xs (a ⊗ b) = value xs a *ℤ value xs b
value xs (minus a) = neg_ℤ (value xs a)

-- ---- the normal form: a list of terms, each a number and the variables that it is multiplied by, in order

pub data Terms : Type 0 where
  none : Terms
  term : ℤ → List ℕ → Terms → Terms

-- the order of the terms
abbrev pub monomial_order : List ℕ → List ℕ → Ordering
monomial_order [] [] = Equal
monomial_order [] (n ∷ ns) = Greater
monomial_order (m ∷ ms) [] = Less
monomial_order (m ∷ ms) (n ∷ ns) = elim (nat_cmp m n) [ Less ↦ Less | Equal ↦ monomial_order ms ns | Greater ↦ Greater ]

-- the product of two monomials: their variables merged, the first list's head with what is merged of the rest
abbrev pub merge_head : ℕ → (List ℕ → List ℕ) → List ℕ → List ℕ
merge_head m rest [] = m ∷ rest []
merge_head m rest (n ∷ ns) = elim (nat_le m n) [ true ↦ m ∷ rest (n ∷ ns) | false ↦ n ∷ merge_head m rest ns ]

abbrev pub merge : List ℕ → List ℕ → List ℕ
merge [] ns = ns
merge (m ∷ ms) ns = merge_head m (merge ms) ns

-- a term in front of others, left out where its number is 0
abbrev pub with_term : ℤ → List ℕ → Terms → Terms
with_term (pos zero) m p = p
with_term (pos (suc n)) m p = term (pos (suc n)) m p
with_term (negsuc n) m p = term (negsuc n) m p

-- the sum: the first form's head with what the sum makes of the rest
abbrev pub add_head : ℤ → List ℕ → (Terms → Terms) → Terms → Terms
add_head c m rest none = term c m (rest none)
add_head c m rest (term d n q) = elim (monomial_order m n) [ Less ↦ term c m (rest (term d n q)) | Equal ↦ with_term (c +ℤ d) m (rest q) | Greater ↦ term d n (add_head c m rest q) ]

abbrev pub add : Terms → Terms → Terms
add none q = q
add (term c m p) q = add_head c m (add p) q

-- the product with one term, and with another form
abbrev pub scale : ℤ → List ℕ → Terms → Terms
scale c m none = none
scale c m (term d n q) = term (c *ℤ d) (merge m n) (scale c m q)

abbrev pub multiply : Terms → Terms → Terms
multiply none q = none
multiply (term c m p) q = add (scale c m q) (multiply p q)

abbrev pub normal : Polynomial → Terms
normal (var n) = term (pos 1) (n ∷ []) none
normal (number z) = with_term z [] none
normal (a ⊕ b) = add (normal a) (normal b)
normal (a ⊖ b) = add (normal a) (scale (negsuc 0) [] (normal b))
normal (a ⊗ b) = multiply (normal a) (normal b)
normal (minus a) = scale (negsuc 0) [] (normal a)

-- ---- the value of a normal form

abbrev monomial_value : List ℤ → List ℕ → ℤ
monomial_value xs [] = pos 1
monomial_value xs (n ∷ ns) = get_or xs n (pos 0) *ℤ monomial_value xs ns

abbrev terms_value : List ℤ → Terms → ℤ
terms_value xs none = pos 0
terms_value xs (term c m p) = c *ℤ monomial_value xs m +ℤ terms_value xs p

same_number : (m n : ℕ) → nat_cmp m n ≡ Equal → m ≡ n
same_number m n e = grind (arith, nat_tests)

same_monomial : (m n : List ℕ) → monomial_order m n ≡ Equal → m ≡ n
same_monomial [] [] e = refl
same_monomial [] (n ∷ ns) e = cc
same_monomial (m ∷ ms) [] e = cc
same_monomial (m ∷ ms) (n ∷ ns) e = by (nat_cmp m n) (same_number m n) (same_monomial ms ns) e
  where
    by : (o : Ordering) → (o ≡ Equal → m ≡ n) → (monomial_order ms ns ≡ Equal → ms ≡ ns) → elim o [ Less ↦ Less | Equal ↦ monomial_order ms ns | Greater ↦ Greater ] ≡ Equal → (m ∷ ms) ≡ (n ∷ ns)
    by Less f g e = cc
    by Equal f g e = let a = f refl in let b = g e in cc
    by Greater f g e = cc

merge_head_value : (xs : List ℤ) (m : ℕ) (rest : List ℕ → List ℕ) (v : ℤ) → ((ns : List ℕ) → monomial_value xs (rest ns) ≡ v *ℤ monomial_value xs ns) → (ns : List ℕ)
    → monomial_value xs (merge_head m rest ns) ≡ (get_or xs m (pos 0) *ℤ v) *ℤ monomial_value xs ns
merge_head_value xs m rest v h [] = ap (λ (z : ℤ). get_or xs m (pos 0) *ℤ z) (h []) ∙ sym (*ℤ_assoc (get_or xs m (pos 0)) v (pos 1))
merge_head_value xs m rest v h (n ∷ ns) = by (nat_le m n) (merge_head_value xs m rest v h ns)
  where
    by : (b : Bool) → monomial_value xs (merge_head m rest ns) ≡ (get_or xs m (pos 0) *ℤ v) *ℤ monomial_value xs ns
        → monomial_value xs (elim b [ true ↦ m ∷ rest (n ∷ ns) | false ↦ n ∷ merge_head m rest ns ]) ≡ (get_or xs m (pos 0) *ℤ v) *ℤ (get_or xs n (pos 0) *ℤ monomial_value xs ns)
    by true e = ap (λ (z : ℤ). get_or xs m (pos 0) *ℤ z) (h (n ∷ ns)) ∙ sym (*ℤ_assoc (get_or xs m (pos 0)) v (get_or xs n (pos 0) *ℤ monomial_value xs ns))
    by false e = ap (λ (z : ℤ). get_or xs n (pos 0) *ℤ z) e ∙ *ℤ_left_comm (get_or xs n (pos 0)) (get_or xs m (pos 0) *ℤ v) (monomial_value xs ns)

merge_value : (xs : List ℤ) (ms ns : List ℕ) → monomial_value xs (merge ms ns) ≡ monomial_value xs ms *ℤ monomial_value xs ns
merge_value xs [] ns = sym (one-*ℤ (monomial_value xs ns))
merge_value xs (m ∷ ms) ns = merge_head_value xs m (merge ms) (monomial_value xs ms) (merge_value xs ms) ns

with_term_value : (xs : List ℤ) (c : ℤ) (m : List ℕ) (p : Terms) → terms_value xs (with_term c m p) ≡ c *ℤ monomial_value xs m +ℤ terms_value xs p
with_term_value xs (pos zero) m p = sym (ap (λ (z : ℤ). z +ℤ terms_value xs p) (zero-*ℤ (monomial_value xs m)) ∙ +ℤ_idl (terms_value xs p))
with_term_value xs (pos (suc n)) m p = refl
with_term_value xs (negsuc n) m p = refl

first_stays : (l t r v q : ℤ) → l ≡ t +ℤ r → r ≡ v +ℤ q → l ≡ (t +ℤ v) +ℤ q
first_stays l t r v q e f = omega (arith, ints)

second_stays : (l s r t v q : ℤ) → l ≡ s +ℤ r → r ≡ (t +ℤ v) +ℤ q → l ≡ (t +ℤ v) +ℤ (s +ℤ q)
second_stays l s r t v q e f = omega (arith, ints)

both_join : (l s t w r v q : ℤ) → l ≡ w +ℤ r → w ≡ t +ℤ s → r ≡ v +ℤ q → l ≡ (t +ℤ v) +ℤ (s +ℤ q)
both_join l s t w r v q e f g = omega (arith, ints)

add_head_value : (xs : List ℤ) (c : ℤ) (m : List ℕ) (rest : Terms → Terms) (v : ℤ) → ((q : Terms) → terms_value xs (rest q) ≡ v +ℤ terms_value xs q) → (q : Terms)
    → terms_value xs (add_head c m rest q) ≡ (c *ℤ monomial_value xs m +ℤ v) +ℤ terms_value xs q
add_head_value xs c m rest v h none = first_stays _ (c *ℤ monomial_value xs m) (terms_value xs (rest none)) v (pos 0) refl (h none)
add_head_value xs c m rest v h (term d n q) = by (monomial_order m n) (same_monomial m n) (add_head_value xs c m rest v h q)
  where
    by : (o : Ordering) → (o ≡ Equal → m ≡ n) → terms_value xs (add_head c m rest q) ≡ (c *ℤ monomial_value xs m +ℤ v) +ℤ terms_value xs q
        → terms_value xs (elim o [ Less ↦ term c m (rest (term d n q)) | Equal ↦ with_term (c +ℤ d) m (rest q) | Greater ↦ term d n (add_head c m rest q) ]) ≡ (c *ℤ monomial_value xs m +ℤ v) +ℤ (d *ℤ monomial_value xs n +ℤ terms_value xs q)
    by Less f e = first_stays _ (c *ℤ monomial_value xs m) (terms_value xs (rest (term d n q))) v (d *ℤ monomial_value xs n +ℤ terms_value xs q) refl (h (term d n q))
    by Greater f e = second_stays _ (d *ℤ monomial_value xs n) (terms_value xs (add_head c m rest q)) (c *ℤ monomial_value xs m) v (terms_value xs q) refl e
    by Equal f e = both_join _ (d *ℤ monomial_value xs n) (c *ℤ monomial_value xs m) ((c +ℤ d) *ℤ monomial_value xs m) (terms_value xs (rest q)) v (terms_value xs q)
        (with_term_value xs (c +ℤ d) m (rest q)) (add-*ℤ c d (monomial_value xs m) ∙ ap (λ (z : List ℕ). c *ℤ monomial_value xs m +ℤ d *ℤ monomial_value xs z) (f refl)) (h q)

add_value : (xs : List ℤ) (p q : Terms) → terms_value xs (add p q) ≡ terms_value xs p +ℤ terms_value xs q
add_value xs none q = sym (+ℤ_idl (terms_value xs q))
add_value xs (term c m p) q = add_head_value xs c m (add p) (terms_value xs p) (add_value xs p) q

-- the product of two terms is the product of their numbers with that of their monomials
pair_up : (c m d n : ℤ) → (c *ℤ d) *ℤ (m *ℤ n) ≡ (c *ℤ m) *ℤ (d *ℤ n)
pair_up c m d n = *ℤ_assoc c d (m *ℤ n) ∙ ap (λ (z : ℤ). c *ℤ z) (*ℤ_left_comm d m n) ∙ sym (*ℤ_assoc c m (d *ℤ n))

scale_value : (xs : List ℤ) (c : ℤ) (m : List ℕ) (q : Terms) → terms_value xs (scale c m q) ≡ (c *ℤ monomial_value xs m) *ℤ terms_value xs q
scale_value xs c m none = sym (*ℤ-zero (c *ℤ monomial_value xs m))
scale_value xs c m (term d n q) =
    ap (λ (z : ℤ). (c *ℤ d) *ℤ z +ℤ terms_value xs (scale c m q)) (merge_value xs m n)
    ∙ ap (λ (z : ℤ). z +ℤ terms_value xs (scale c m q)) (pair_up c (monomial_value xs m) d (monomial_value xs n))
    ∙ ap (λ (z : ℤ). (c *ℤ monomial_value xs m) *ℤ (d *ℤ monomial_value xs n) +ℤ z) (scale_value xs c m q)
    ∙ sym (*ℤ-add (c *ℤ monomial_value xs m) (d *ℤ monomial_value xs n) (terms_value xs q))

multiply_value : (xs : List ℤ) (p q : Terms) → terms_value xs (multiply p q) ≡ terms_value xs p *ℤ terms_value xs q
multiply_value xs none q = sym (zero-*ℤ (terms_value xs q))
multiply_value xs (term c m p) q =
    add_value xs (scale c m q) (multiply p q)
    ∙ ap (λ (z : ℤ). z +ℤ terms_value xs (multiply p q)) (scale_value xs c m q)
    ∙ ap (λ (z : ℤ). (c *ℤ monomial_value xs m) *ℤ terms_value xs q +ℤ z) (multiply_value xs p q)
    ∙ sym (add-*ℤ (c *ℤ monomial_value xs m) (terms_value xs p) (terms_value xs q))

negated : (xs : List ℤ) (p : Terms) → terms_value xs (scale (negsuc 0) [] p) ≡ neg_ℤ (terms_value xs p)
negated xs p = scale_value xs (negsuc 0) [] p ∙ neg-*ℤ (pos 1) (terms_value xs p) ∙ ap neg_ℤ (one-*ℤ (terms_value xs p))

-- the normal form has the value of the polynomial
pub normal_value : (xs : List ℤ) (a : Polynomial) → terms_value xs (normal a) ≡ value xs a
normal_value xs (var n) = lone (get_or xs n (pos 0))
  where
    lone : (x : ℤ) → pos 1 *ℤ (x *ℤ pos 1) +ℤ pos 0 ≡ x
    lone x = +ℤ_idr (pos 1 *ℤ (x *ℤ pos 1)) ∙ one-*ℤ (x *ℤ pos 1) ∙ *ℤ_comm x (pos 1) ∙ one-*ℤ x
normal_value xs (number z) = with_term_value xs z [] none ∙ +ℤ_idr (z *ℤ pos 1) ∙ *ℤ_comm z (pos 1) ∙ one-*ℤ z
normal_value xs (a ⊕ b) = add_value xs (normal a) (normal b) ∙ ap (λ (z : ℤ). z +ℤ terms_value xs (normal b)) (normal_value xs a) ∙ ap (λ (z : ℤ). value xs a +ℤ z) (normal_value xs b)
normal_value xs (a ⊖ b) =
    add_value xs (normal a) (scale (negsuc 0) [] (normal b)) ∙ ap (λ (z : ℤ). z +ℤ terms_value xs (scale (negsuc 0) [] (normal b))) (normal_value xs a)
    ∙ ap (λ (z : ℤ). value xs a +ℤ z) (negated xs (normal b) ∙ ap neg_ℤ (normal_value xs b))
normal_value xs (a ⊗ b) = multiply_value xs (normal a) (normal b) ∙ ap (λ (z : ℤ). z *ℤ terms_value xs (normal b)) (normal_value xs a) ∙ ap (λ (z : ℤ). value xs a *ℤ z) (normal_value xs b)
normal_value xs (minus a) = negated xs (normal a) ∙ ap neg_ℤ (normal_value xs a)

-- polynomials with one normal form have one value
pub same_value : (xs : List ℤ) (a b : Polynomial) → normal a ≡ normal b → value xs a ≡ value xs b
same_value xs a b e = sym (normal_value xs a) ∙ ap (terms_value xs) e ∙ normal_value xs b

-- ---- points: point number i has its coordinates at variables 2 * i and 2 * i + 1, so the list of values is x0, y0, x1, y1 and so on

abbrev pub x_of : ℕ → Polynomial
x_of i = var (2 * i)

abbrev pub y_of : ℕ → Polynomial
y_of i = var (2 * i + 1)

-- that list for points that have an x and a y
abbrev pub coordinates : {A : Type 0} → (A → ℤ) → (A → ℤ) → List A → List ℤ
coordinates x y [] = []
coordinates x y (a ∷ points) = x a ∷ y a ∷ coordinates x y points

-- the step from point i to point j along each axis
abbrev pub x_step : ℕ → ℕ → Polynomial
x_step i j = x_of j ⊖ x_of i

abbrev pub y_step : ℕ → ℕ → Polynomial
y_step i j = y_of j ⊖ y_of i

-- twice the area of the triangle i, j, k, positive where they turn to the left: (xj - xi) * (yk - yi) - (yj - yi) * (xk - xi)
abbrev pub cross : ℕ → ℕ → ℕ → Polynomial
cross i j k = x_step i j ⊗ y_step i k ⊖ y_step i j ⊗ x_step i k

-- what the side from i to j adds to twice an area: xi * yj - xj * yi
abbrev pub shoelace : ℕ → ℕ → Polynomial
shoelace i j = x_of i ⊗ y_of j ⊖ x_of j ⊗ y_of i

-- d times the same where the third point is the fraction (nx / d, ny / d), of which nx, ny and d are variables n, n + 1 and n + 2
abbrev pub cross_fraction : ℕ → ℕ → ℕ → Polynomial
cross_fraction i j n = x_step i j ⊗ (var (n + 1) ⊖ y_of i ⊗ var (n + 2)) ⊖ y_step i j ⊗ (var n ⊖ x_of i ⊗ var (n + 2))
