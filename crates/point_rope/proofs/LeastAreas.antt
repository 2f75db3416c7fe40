-- The least corner of a row, by those of its parts.
use Rattle.std.proofs.Common.{◌≡◌, ℕ, suc, ◌-◌, ◌≤◌, length, get_or, drop, zero, append_assoc, Option, None, Some, List, [], ◌∷◌, ◌++◌, All, reverse, ℤ, neg_ℤ, unsigned_abs, refl, sym, ap, ap₂, ◌∙◌, subst, arith}
use Rattle.std.proofs.lemmas.Int.{ints}
use Rattle.std.proofs.lemmas.List.{reverse-append}
use Rattle.std.proofs.lemmas.List.Elements.{All-nil, All-cons, All-append}
use Rattle.tgap_model.specs.declared.geometry.Point.{Point}
use Rattle.tgap_model.specs.Bounds.{max_cross}
use Rattle.tgap_model.specs.Point.{area2, cross as cross_of}
use Rattle.lemmas.proofs.Polynomials.{same_value, minus, cross}
use Rattle.point_rope.specs.declared.corners.Corners.{Corners}
use Rattle.point_rope.specs.Corners.{less_of, lesser, least_area}
use Rattle.point_rope.specs.Ends.{last_two, both_of, ends_of, AreCorners}
use Rattle.point_rope.specs.Held.{IsNearPoint}
use Rattle.point_rope.proofs.SmallAreas.{less_is_less, some_same, least_small}

-- ---- the lesser of numbers that may be missing

less_in_turn : (n : ℕ) (o r : Option ℕ) → less_of n (lesser o r) ≡ less_of (less_of n o) r
less_in_turn n None r = refl
less_in_turn n (Some m) None = refl
less_in_turn n (Some m) (Some k) = omega arith

pub lesser_none : (o : Option ℕ) → lesser o None ≡ o
lesser_none None = refl
lesser_none (Some n) = refl

-- ---- two rows

-- the corners of two rows one after the other: those of the first, and those of the second with the last two before it
pub least_area-append : (xs ys : List Point) → least_area (xs ++ ys) ≡ lesser (least_area xs) (least_area (last_two xs ++ ys))
least_area-append [] ys = refl
least_area-append (a ∷ []) ys = refl
least_area-append (a ∷ b ∷ []) ys = refl
least_area-append (a ∷ b ∷ c ∷ xs) ys =
    ap (λ (o : Option ℕ). Some (less_of (area2 a b c) o)) (least_area-append (b ∷ c ∷ xs) ys)
    ∙ ap Some (less_in_turn (area2 a b c) (least_area (b ∷ c ∷ xs)) (least_area (last_two (b ∷ c ∷ xs) ++ ys)))

pub last_two-append : (xs ys : List Point) → last_two (xs ++ ys) ≡ last_two (last_two xs ++ ys)
last_two-append [] ys = refl
last_two-append (a ∷ []) ys = refl
last_two-append (a ∷ b ∷ []) ys = refl
last_two-append (a ∷ b ∷ c ∷ xs) ys = last_two-append (b ∷ c ∷ xs) ys

-- ---- one point more

last_two_next : (b l : Option Point) (p : Point) → both_of l (Some p) ≡ last_two (both_of b l ++ p ∷ [])
last_two_next b None p = refl
last_two_next None (Some q) p = refl
last_two_next (Some a) (Some q) p = refl

pub near_next : (b l : Option Point) (p : Point) → All IsNearPoint (both_of b l) → IsNearPoint p → All IsNearPoint (both_of l (Some p))
near_next b None p near h = All-cons IsNearPoint p [] h (All-nil IsNearPoint)
near_next None (Some q) p near h = All-cons IsNearPoint q (p ∷ []) (near 0 q (omega arith)) (All-cons IsNearPoint p [] h (All-nil IsNearPoint))
near_next (Some a) (Some q) p near h =
    All-cons IsNearPoint q (p ∷ []) (near 1 q (omega arith)) (All-cons IsNearPoint p [] h (All-nil IsNearPoint))

lesser_small : (bound : ℕ) (o r : Option ℕ) → ((n : ℕ) → o ≡ Some n → n ≤ bound) → ((n : ℕ) → r ≡ Some n → n ≤ bound) → (n : ℕ) → lesser o r ≡ Some n → n ≤ bound
lesser_small bound None r h k n e = k n e
lesser_small bound (Some m) r h k n e =
    let small = h m refl in
    let is : less_of m r ≡ n = some_same e in
    omega (arith, small, is, less_is_less m r)

pub corners_next : (points : List Point) (p : Point) (c d : Corners) (next : Option ℕ) → All IsNearPoint (ends_of c) → IsNearPoint p → next ≡ least_area (ends_of c ++ p ∷ [])
    → d.least ≡ lesser c.least next → d.before ≡ c.last → d.last ≡ Some p → AreCorners points c → AreCorners (points ++ p ∷ []) d
corners_next points p c d next near here n least before last h = record {
  least =
      least ∙ ap₂ lesser h.least (n ∙ ap (λ (ends : List Point). least_area (ends ++ p ∷ [])) h.ends) ∙ sym (least_area-append points (p ∷ []));
  ends =
      ap₂ both_of before last ∙ last_two_next c.before c.last p ∙ ap (λ (ends : List Point). last_two (ends ++ p ∷ [])) h.ends
      ∙ sym (last_two-append points (p ∷ []));
  small = λ m e.
      lesser_small max_cross c.least next h.small (λ k f. least_small (ends_of c ++ p ∷ []) k all (sym n ∙ f)) m (sym least ∙ e);
}
  where
    all : All IsNearPoint (ends_of c ++ p ∷ [])
    all = All-append IsNearPoint (ends_of c) (p ∷ []) near (All-cons IsNearPoint p [] here (All-nil IsNearPoint))

-- ---- a run more, of which the least corner is known

last_two_of_two : (xs : List Point) (a b : Point) → last_two (xs ++ a ∷ b ∷ []) ≡ a ∷ b ∷ []
last_two_of_two [] a b = refl
last_two_of_two (x ∷ []) a b = refl
last_two_of_two (x ∷ y ∷ []) a b = refl
last_two_of_two (x ∷ y ∷ z ∷ xs) a b = last_two_of_two (y ∷ z ∷ xs) a b

last_two_at : (points : List Point) (d : Point) → 2 ≤ length points → last_two points ≡ get_or points (length points - 2) d ∷ get_or points (length points - 1) d ∷ []
last_two_at [] d h = absurd (omega arith)
last_two_at (a ∷ []) d h = absurd (omega arith)
last_two_at (a ∷ b ∷ []) d h = refl
last_two_at (a ∷ b ∷ c ∷ points) d h =
    let all = a ∷ b ∷ c ∷ points in
    let two : suc (length points) ≡ length all - 2 = omega arith in
    let one : suc (suc (length points)) ≡ length all - 1 = omega arith in
    let two' : length (b ∷ c ∷ points) - 2 ≡ length points = omega arith in
    let one' : length (b ∷ c ∷ points) - 1 ≡ suc (length points) = omega arith in
    last_two_at (b ∷ c ∷ points) d (omega arith)
    ∙ ap₂ (λ (m n : ℕ). get_or (b ∷ c ∷ points) m d ∷ get_or (b ∷ c ∷ points) n d ∷ []) two' one'
    ∙ ap₂ (λ (m n : ℕ). get_or all m d ∷ get_or all n d ∷ []) two one

pub corners_known : (before points : List Point) (c d : Corners) (o : Point) → 2 ≤ length points → All IsNearPoint points
    → AreCorners ((before ++ get_or points 0 o ∷ []) ++ get_or points 1 o ∷ []) c → d.least ≡ lesser c.least (least_area points)
    → d.before ≡ Some (get_or points (length points - 2) o) → d.last ≡ Some (get_or points (length points - 1) o) → AreCorners (before ++ points) d
corners_known before [] c d o long near h least first second = absurd (omega arith)
corners_known before (a ∷ []) c d o long near h least first second = absurd (omega arith)
corners_known before (a ∷ b ∷ points) c d o long near h least first second = record {
  least =
      least ∙ ap (λ (m : Option ℕ). lesser m (least_area (a ∷ b ∷ points))) (h.least ∙ ap least_area (append_assoc before (a ∷ []) (b ∷ [])))
      ∙ ap (λ (ends : List Point). lesser (least_area begun) (least_area (ends ++ points))) (sym (last_two_of_two before a b))
      ∙ sym (least_area-append begun points) ∙ ap least_area all;
  ends =
      ap₂ both_of first second ∙ sym (last_two_at (a ∷ b ∷ points) o long)
      ∙ ap (λ (ends : List Point). last_two (ends ++ points)) (sym (last_two_of_two before a b))
      ∙ sym (last_two-append begun points) ∙ ap last_two all;
  small = λ n e.
      lesser_small max_cross c.least (least_area (a ∷ b ∷ points)) h.small (λ k f. least_small (a ∷ b ∷ points) k near f) n (sym least ∙ e);
}
  where
    begun : List Point
    begun = before ++ a ∷ b ∷ []

    all : begun ++ points ≡ before ++ a ∷ b ∷ points
    all = append_assoc before (a ∷ b ∷ []) points

-- ---- what is left of a row

-- what is left has no lesser corner
pub least_rest : (i : ℕ) (points : List Point) (n : ℕ) → least_area (drop i points) ≡ Some n → (m : ℕ) × (least_area points ≡ Some m) × (m ≤ n)
least_rest zero points n e = (n, e, omega arith)
least_rest (suc i) [] n e = let clash : None ≡ Some n = e in absurd cc
least_rest (suc i) (a ∷ points) n e = by points (least_rest i points n e)
  where
    by : (rest : List Point) → (m : ℕ) × (least_area rest ≡ Some m) × (m ≤ n) → (m : ℕ) × (least_area (a ∷ rest) ≡ Some m) × (m ≤ n)
    by [] f = let clash : None ≡ Some f.0 = f.1 in absurd cc
    by (b ∷ []) f = let clash : None ≡ Some f.0 = f.1 in absurd cc
    by (b ∷ c ∷ rest) f =
        (less_of (area2 a b c) (least_area (b ∷ c ∷ rest)), refl, subst (λ (o : Option ℕ). less_of (area2 a b c) o ≤ n) (sym f.1) (omega (arith, f.2)))

-- ---- a row turned round

area_turned : (a b c : Point) → area2 a b c ≡ area2 c b a
area_turned a b c = ap unsigned_abs (same_value (a.x ∷ a.y ∷ b.x ∷ b.y ∷ c.x ∷ c.y ∷ []) (cross 0 1 2) (minus (cross 2 1 0)) refl) ∙ unsigned_abs-neg (cross_of c b a)
  where
    unsigned_abs-neg : (z : ℤ) → unsigned_abs (neg_ℤ z) ≡ unsigned_abs z
    unsigned_abs-neg z = omega (arith, ints)

lesser_turned : (o r : Option ℕ) → lesser o r ≡ lesser r o
lesser_turned None None = refl
lesser_turned None (Some n) = refl
lesser_turned (Some m) None = refl
lesser_turned (Some m) (Some n) = ap Some (omega arith)

pub least_area-reverse : (points : List Point) → least_area (reverse points) ≡ least_area points
least_area-reverse [] = refl
least_area-reverse (a ∷ []) = refl
least_area-reverse (a ∷ b ∷ []) = refl
least_area-reverse (a ∷ b ∷ c ∷ points) =
    let rest = b ∷ c ∷ points in
    let two : last_two (reverse rest) ≡ c ∷ b ∷ [] =
    ap last_two (reverse-append (b ∷ c ∷ []) points) ∙ last_two_of_two (reverse points) c b in
    ap least_area (reverse-append (a ∷ []) rest)
    ∙ least_area-append (reverse rest) (a ∷ [])
    ∙ ap₂ (λ (o : Option ℕ) (ends : List Point). lesser o (least_area (ends ++ a ∷ []))) (least_area-reverse (b ∷ c ∷ points)) two
    ∙ lesser_turned (least_area rest) (Some (area2 c b a))
    ∙ ap (λ (n : ℕ). Some (less_of n (least_area rest))) (sym (area_turned a b c))
