-- The shoelace sum of a row of points: the sizes of its numbers, and one more segment at a time.
use Rattle.std.proofs.Common.{◌≡◌, ◌<◌, ◌≤◌, ℕ, zero, suc, ◌+◌, ◌-◌, ◌*◌, ◌^◌, ℤ, pos, ◌+ℤ◌, ◌-ℤ◌, ◌*ℤ◌, unsigned_abs, FitsSigned, to_z, of_z, List, [], ◌∷◌, length, get_or, drop, length-drop, refl, arith}
use Rattle.std.specs.Int.{w64, w128}
use Rattle.std.specs.List.{All}
use Rattle.std.proofs.lemmas.Int.{ints, unsigned_abs-mul}
use Rattle.std.proofs.lemmas.List.{drop_more}
use Rattle.std.proofs.lemmas.List.Elements.{All-head, All-tail}
use Rattle.tgap_model.specs.declared.geometry.Point.{Point}
use Rattle.tgap_model.specs.Bounds.{max_coordinate, max_product, max_shoelace, IsNear}
use Rattle.tgap_model.specs.Point.{shoelace, shoelace_term}

-- ---- one term

-- a product of coordinates, as the code hands them over
pub product_is : (a b p : ℤ) → unsigned_abs a ≤ max_coordinate → unsigned_abs b ≤ max_coordinate → p ≡ to_z w64 (of_z w64 a) *ℤ to_z w64 (of_z w64 b) → p ≡ a *ℤ b
product_is a b p la lb e =
    let ea : to_z w64 (of_z w64 a) ≡ a = omega (arith, ints) in
    let eb : to_z w64 (of_z w64 b) ≡ b = omega (arith, ints) in
    cc

-- the difference of two products fits
pub difference_fits : (p q : ℤ) → unsigned_abs p ≤ max_product → unsigned_abs q ≤ max_product → FitsSigned w128 (to_z w128 (of_z w128 p) -ℤ to_z w128 (of_z w128 q))
difference_fits p q lp lq = omega (arith, ints)

-- its value
pub difference_is : (p q : ℤ) → unsigned_abs p ≤ max_product → unsigned_abs q ≤ max_product
    → to_z w128 (of_z w128 (to_z w128 (of_z w128 p) -ℤ to_z w128 (of_z w128 q))) ≡ p -ℤ q
difference_is p q lp lq = omega (arith, ints)

-- its size
pub difference_size : (p q : ℤ) → unsigned_abs p ≤ max_product → unsigned_abs q ≤ max_product → unsigned_abs (p -ℤ q) ≤ max_shoelace
difference_size p q lp lq = omega (arith, ints)

-- how large a product of coordinates gets
product_size : (a b : ℤ) → unsigned_abs a ≤ max_coordinate → unsigned_abs b ≤ max_coordinate → unsigned_abs (a *ℤ b) ≤ max_product
product_size a b la lb =
    let size : unsigned_abs (a *ℤ b) ≡ unsigned_abs a * unsigned_abs b = unsigned_abs-mul a b in
    bounded (unsigned_abs a) (unsigned_abs b) (unsigned_abs (a *ℤ b)) la lb size
  where
    bounded : (m n k : ℕ) → m ≤ max_coordinate → n ≤ max_coordinate → k ≡ m * n → k ≤ max_product
    bounded m n k lm ln e = grind arith

-- how large the term of a segment gets
term_size : (a b : Point) → IsNear a → IsNear b → unsigned_abs (shoelace_term a b) ≤ max_shoelace
term_size a b near_a near_b = difference_size (a.x *ℤ b.y) (b.x *ℤ a.y) (product_size a.x b.y near_a.x near_b.y) (product_size b.x a.y near_b.x near_a.y)

-- ---- the sum

-- one more term of a sum, as the code hands it over
pub sum_is : (s t : ℤ) (n : ℕ) → unsigned_abs s ≤ n → unsigned_abs t ≤ n → n ≤ 2 ^ 120 → to_z w128 (of_z w128 (s +ℤ to_z w128 (of_z w128 t))) ≡ s +ℤ t
sum_is s t n ls lt small = omega (arith, ints)

-- its size
pub sum_size : (s t : ℤ) (m n : ℕ) → unsigned_abs s ≤ m → unsigned_abs t ≤ n → unsigned_abs (s +ℤ t) ≤ m + n
sum_size s t m n ls lt = omega (arith, ints)

-- the sum from a point on, where another point follows it
shoelace_from : (xs : List Point) (i : ℕ) (d : Point) → i + 1 < length xs
    → shoelace (drop i xs) ≡ shoelace_term (get_or xs i d) (get_or xs (i + 1) d) +ℤ shoelace (drop (i + 1) xs)
shoelace_from xs i d inside =
    let here = drop_more xs i d (omega arith) in
    let next = drop_more xs (i + 1) d inside in
    rw (here, next) refl

-- it is nothing where none follows
shoelace_short : (xs : List Point) → length xs ≤ 1 → shoelace xs ≡ pos 0
shoelace_short [] few = refl
shoelace_short (a ∷ []) few = refl
shoelace_short (a ∷ b ∷ xs) few = absurd (omega arith)

-- The sum up to point i and the sum from there on are the whole; with one segment more they still are.
pub shoelace_next : (xs : List Point) (i : ℕ) (d : Point) (s t whole : ℤ) → 1 ≤ i → i < length xs → s +ℤ shoelace (drop (i - 1) xs) ≡ whole
    → t ≡ shoelace_term (get_or xs (i - 1) d) (get_or xs i d) → (s +ℤ t) +ℤ shoelace (drop (i + 1 - 1) xs) ≡ whole
shoelace_next xs zero d s t whole low inside so_far e = absurd (omega arith)
shoelace_next xs (suc k) d s t whole low inside so_far e =
    let before : suc k - 1 ≡ k = omega arith in
    let here : suc k ≡ k + 1 = omega arith in
    let after : suc k + 1 - 1 ≡ k + 1 = omega arith in
    let so_far' = rw before at so_far in
    let e' = rw (before, here) at e in
    let one = shoelace_from xs k d (omega arith) in
    rw after (omega (arith, ints, so_far', e', one))

-- at the end they are the whole
pub shoelace_end : (xs : List Point) (i : ℕ) (s whole : ℤ) → 1 ≤ i → length xs ≤ i → s +ℤ shoelace (drop (i - 1) xs) ≡ whole → s ≡ whole
shoelace_end xs i s whole low over so_far =
    let none = shoelace_short (drop (i - 1) xs) (omega (arith, length-drop (i - 1) xs)) in
    omega (arith, ints, none)

-- how large the sum gets
pub shoelace_size : (xs : List Point) → All IsNear xs → unsigned_abs (shoelace xs) ≤ length xs * max_shoelace
shoelace_size [] near = omega (arith, ints)
shoelace_size (a ∷ []) near = omega (arith, ints)
shoelace_size (a ∷ b ∷ xs) near =
    let rest = All-tail IsNear a (b ∷ xs) near in
    let one = term_size a b (All-head IsNear a (b ∷ xs) near) (All-head IsNear b xs rest) in
    let more = shoelace_size (b ∷ xs) rest in
    omega (arith, sum_size (shoelace_term a b) (shoelace (b ∷ xs)) max_shoelace (length (b ∷ xs) * max_shoelace) one more)
