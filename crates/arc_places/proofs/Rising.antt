-- Lists in ascending order with the same members are one list.
use Rattle.std.proofs.Common.{◌≡◌, ◌∙◌, ⊎_elim, ℕ, ◌*◌, ◌<◌, nat_lt, Bool, true, ◌&&◌, ◌||◌, eqb, List, [], ◌∷◌, length, map, filter, get_or, All, AllPairs, Contains, refl, sym, ap, ap₂, subst, arith}
use Rattle.std.proofs.lemmas.Bool.{false≢true, and_from, and_parts, eqb-true, eq-eqb, ltb-true, lt-ltb}
use Rattle.std.proofs.lemmas.List.{get_or-map, length-map}
use Rattle.std.proofs.lemmas.List.Elements.{All-contains}
use Rattle.std.proofs.lemmas.List.Kept.{AllPairs-filter, AllPairs-from_increasing}
use Rattle.lemmas.proofs.Members.{All-from_members, in_head, in_tail, in_cases, in_none, AllPairs-head, AllPairs-tail, Contains-filter, Contains-from_filter, Contains-map, Contains-from_map}
use Rattle.ring_walk.specs.declared.side.Side.{Side}
use Rattle.ring_walk.specs.Sides.{numbered, side_number, sides}
use Rattle.ring_walk.specs.Spans.{IsSide}
use Rattle.ring_walk.proofs.SideNumbers.{all_sides_within, get_or-sides, length-sides, number_within, numbered-side_number, numbered_within, side_number-inj, side_number-numbered, sides_contain}
use Rattle.face_cuts.proofs.Cases.{by_test, not_held, or_left, or_right}
use Rattle.arc_places.specs.Places.{is_among}
use Rattle.arc_places.specs.Ordered.{AreOrdered}

-- ---- members by a test

pub from_among : (i : ℕ) (numbers : List ℕ) → is_among i numbers ≡ true → Contains numbers i
from_among i [] e = absurd (false≢true e)
from_among i (j ∷ numbers) e =
    by_test (eqb j i)
    (λ t. subst (Contains (j ∷ numbers)) (eqb-true j i t) (in_head j numbers))
    (λ f. in_tail j numbers i (from_among i numbers (sym (ap (λ (b : Bool). b || is_among i numbers) f) ∙ e)))

pub to_among : (i : ℕ) (numbers : List ℕ) → Contains numbers i → is_among i numbers ≡ true
to_among i [] c = absurd (in_none i c)
to_among i (j ∷ numbers) c =
    ⊎_elim (λ e. or_left (eqb j i) (is_among i numbers) (eq-eqb j i e)) (λ k. or_right (eqb j i) (is_among i numbers) (to_among i numbers k)) (in_cases j numbers i c)

-- lists with the same members
pub same_members : (xs ys : List ℕ) → ((x : ℕ) → Contains xs x → Contains ys x) → ((x : ℕ) → Contains ys x → Contains xs x) → (i : ℕ) → is_among i xs ≡ is_among i ys
same_members xs ys to from i =
    by_test (is_among i xs)
    (λ t. t ∙ sym (to_among i ys (to i (from_among i xs t))))
    (λ f. f ∙ sym (not_held (is_among i ys) (λ e. false≢true (sym f ∙ to_among i xs (from i (from_among i ys e))))))

-- ---- ascending lists

module _ {A : Type 0} (key : A → ℕ) where
  abbrev pub Rise : List A → Type 0
  Rise xs = AllPairs (λ x y. key x < key y) xs

  above_head : (x : A) (xs : List A) (y : A) → Rise (x ∷ xs) → Contains xs y → key x < key y
  above_head x xs y r c = All-contains (λ z. key x < key z) xs y (AllPairs-head (λ a b. key a < key b) x xs r) c

  module _ (same_key : (x y : A) → key x ≡ key y → x ≡ y) where
    heads_are_one : (x : A) (xs : List A) (y : A) (ys : List A) → Rise (x ∷ xs) → Rise (y ∷ ys) → Contains (y ∷ ys) x → Contains (x ∷ xs) y → x ≡ y
    heads_are_one x xs y ys r s c d =
        ⊎_elim (λ e. sym e)
        (λ k. ⊎_elim (λ e. e) (λ l. absurd (let a = above_head y ys x s k in let b = above_head x xs y r l in omega arith)) (in_cases x xs y d))
        (in_cases y ys x c)

    rest_in : (x : A) (xs : List A) (y : A) (ys : List A) → Rise (x ∷ xs) → x ≡ y → ((z : A) → Contains (x ∷ xs) z → Contains (y ∷ ys) z) → (z : A) → Contains xs z → Contains ys z
    rest_in x xs y ys r same to z c =
        ⊎_elim (λ e. absurd (let a = above_head x xs z r c in let b : key x ≡ key z = ap key (same ∙ e) in omega arith)) (λ k. k) (in_cases y ys z (to z (in_tail x xs z c)))

    pub same_rising : (xs ys : List A) → Rise xs → Rise ys → ((z : A) → Contains xs z → Contains ys z) → ((z : A) → Contains ys z → Contains xs z) → xs ≡ ys
    same_rising [] [] r s to from = refl
    same_rising [] (y ∷ ys) r s to from = absurd (in_none y (from y (in_head y ys)))
    same_rising (x ∷ xs) [] r s to from = absurd (in_none x (to x (in_head x xs)))
    same_rising (x ∷ xs) (y ∷ ys) r s to from =
        let same = heads_are_one x xs y ys r s (to x (in_head x xs)) (from y (in_head y ys)) in
        ap₂ (λ (z : A) (zs : List A). z ∷ zs) same
        (same_rising xs ys (AllPairs-tail (λ a b. key a < key b) x xs r) (AllPairs-tail (λ a b. key a < key b) y ys s)
        (rest_in x xs y ys r same to) (rest_in y ys x xs s (sym same) from))

-- ---- sides in the order of their numbers

sides_rise : (n : ℕ) → Rise side_number (sides n)
sides_rise n = λ i j d less short.
    let long = length-sides n in
    let second : j < 2 * n = omega (arith, short, long) in
    let first : i < 2 * n = omega (arith, less, second) in
    let a : side_number (get_or (sides n) i d) ≡ i = ap side_number (get_or-sides n i d first) ∙ side_number-numbered i in
    let b : side_number (get_or (sides n) j d) ≡ j = ap side_number (get_or-sides n j d second) ∙ side_number-numbered j in
    omega arith

numbers_rise : (numbers : List ℕ) → AllPairs (λ i j. i < j) numbers → Rise side_number (map numbered numbers)
numbers_rise numbers r = λ i j d less short.
    let second : j < length numbers = omega (arith, short, length-map numbers numbered) in
    let first : i < length numbers = omega (arith, less, second) in
    let a : side_number (get_or (map numbered numbers) i d) ≡ get_or numbers i 0 = ap side_number (get_or-map numbered numbers i 0 d first) ∙ side_number-numbered (get_or numbers i 0) in
    let b : side_number (get_or (map numbered numbers) j d) ≡ get_or numbers j 0 = ap side_number (get_or-map numbered numbers j 0 d second) ∙ side_number-numbered (get_or numbers j 0) in
    let c = r i j 0 less second in
    omega arith

-- The sides that pass a test are those with the numbers that were found, where the sides that pass were found and no others.
pub found_in_order : (numbers ordered : List ℕ) (n : ℕ) (p : Side → Bool) → AreOrdered numbers ordered
    → ((i : ℕ) → is_among i numbers ≡ (nat_lt i (2 * n) && p (numbered i))) → map numbered ordered ≡ filter p (sides n)
found_in_order numbers ordered n p o found =
    same_rising side_number side_number-inj (map numbered ordered) (filter p (sides n))
    (numbers_rise ordered (AllPairs-from_increasing ordered o.ascend)) (AllPairs-filter (λ s t. side_number s < side_number t) p (sides n) (sides_rise n))
    (λ s c.
    let h = Contains-from_map numbered ordered s c in
    let parts = and_parts (nat_lt h.0 (2 * n)) (p (numbered h.0)) (sym (found h.0) ∙ sym (o.same h.0) ∙ to_among h.0 ordered h.1) in
    subst (Contains (filter p (sides n))) h.2
    (Contains-filter p (sides n) (numbered h.0) (sides_contain n (numbered h.0) (numbered_within n h.0 (ltb-true h.0 (2 * n) parts.0))) parts.1))
    (λ s c.
    let h = Contains-from_filter p (sides n) s c in
    let within = number_within n s (All-contains (IsSide n) (sides n) s (all_sides_within n) h.0) in
    let among : is_among (side_number s) numbers ≡ true =
    found (side_number s) ∙ and_from (nat_lt (side_number s) (2 * n)) (p (numbered (side_number s))) (lt-ltb (side_number s) (2 * n) within) (ap p (numbered-side_number s) ∙ h.1) in
    subst (Contains (map numbered ordered)) (numbered-side_number s)
    (Contains-map numbered ordered (side_number s) (from_among (side_number s) ordered (o.same (side_number s) ∙ among))))

-- what holds of all numbers holds of them in order
pub ordered_hold : (P : ℕ → Type 0) (numbers ordered : List ℕ) → AreOrdered numbers ordered → All P numbers → All P ordered
ordered_hold P numbers ordered o h =
    All-from_members P ordered (λ i c. All-contains P numbers i h (from_among i numbers (sym (o.same i) ∙ to_among i ordered c)))
