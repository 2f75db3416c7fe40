-- Sides and their numbers.
use Rattle.std.proofs.Common.{◌≡◌, ◌≢◌, ℕ, ◌+◌, ◌*◌, ◌/◌, ◌%◌, ◌<◌, ◌==◌, Bool, true, false, if◌then◌else◌, length, get_or, All, AllPairs, Contains, refl, sym, ap, ap₂, ◌∙◌, subst, arith}
use Rattle.std.proofs.lemmas.Bool.Decides.{nat_tests}
use Rattle.std.proofs.lemmas.List.FromFn.{length-map-range_with_len, get_or-map-range_with_len}
use Rattle.ring_walk.specs.declared.side.Side.{Side}
use Rattle.ring_walk.specs.declared.side.Way.{Way}
use Rattle.ring_walk.specs.declared.side.Way.TheVariants.{Along, Against}
use Rattle.ring_walk.specs.Sides.{other_way, way_number, turned, side_number, numbered, sides, same_side}
use Rattle.ring_walk.specs.Spans.{IsSide}

by_number : (w : Way) → (if way_number w == 0 then Along else Against) ≡ w
by_number Along = refl
by_number Against = refl

way_number-lt : (w : Way) → way_number w < 2
way_number-lt Along = omega arith
way_number-lt Against = omega arith

-- the side with the number of a side is that side
pub numbered-side_number : (s : Side) → numbered (side_number s) ≡ s
numbered-side_number s =
    let lt = way_number-lt s.way in
    let half : side_number s / 2 ≡ s.span = omega (arith, lt) in
    let rest : side_number s % 2 ≡ way_number s.way = omega (arith, lt) in
    ap₂ (λ (i : ℕ) (w : Way). record { span = i; way = w }) half (ap (λ (n : ℕ). if n == 0 then Along else Against) rest ∙ by_number s.way)

pub side_number-numbered : (i : ℕ) → side_number (numbered i) ≡ i
side_number-numbered i = by (i % 2 == 0) refl
  where
    by : (b : Bool) → (i % 2 == 0) ≡ b → 2 * (i / 2) + way_number (if b then Along else Against) ≡ i
    by true e = let even : i % 2 ≡ 0 = grind (arith, nat_tests) in omega arith
    by false e = let odd : i % 2 ≢ 0 = grind (arith, nat_tests) in omega arith

-- sides with one number are one
pub side_number-inj : (s t : Side) → side_number s ≡ side_number t → s ≡ t
side_number-inj s t e = sym (numbered-side_number s) ∙ ap numbered e ∙ numbered-side_number t

pub same_side-true : (s t : Side) → same_side s t ≡ true → s ≡ t
same_side-true s t e = side_number-inj s t (grind (arith, nat_tests))

pub same_side-itself : (s : Side) → same_side s s ≡ true
same_side-itself s = grind (arith, nat_tests)

-- the numbers of so many spans
pub number_within : (n : ℕ) (s : Side) → IsSide n s → side_number s < 2 * n
number_within n s l = let lt = way_number-lt s.way in omega (arith, lt, l)

pub numbered_within : (n i : ℕ) → i < 2 * n → IsSide n (numbered i)
numbered_within n i l = omega (arith, l)

pub turned-turned : (s : Side) → turned (turned s) ≡ s
turned-turned s = ap (λ (w : Way). record { span = s.span; way = w }) (twice s.way)
  where
    twice : (w : Way) → other_way (other_way w) ≡ w
    twice Along = refl
    twice Against = refl

-- ---- the list of sides

pub length-sides : (n : ℕ) → length (sides n) ≡ 2 * n
length-sides n = length-map-range_with_len numbered 0 (2 * n)

pub get_or-sides : (n i : ℕ) (d : Side) → i < 2 * n → get_or (sides n) i d ≡ numbered i
get_or-sides n i d l = get_or-map-range_with_len numbered 0 (2 * n) i i d l (omega arith)

pub sides_contain : (n : ℕ) (s : Side) → IsSide n s → Contains (sides n) s
sides_contain n s l =
    let within = number_within n s l in
    let long = length-sides n in
    (side_number s, omega (arith, within, long), get_or-sides n (side_number s) s within ∙ numbered-side_number s)

pub all_sides_within : (n : ℕ) → All (IsSide n) (sides n)
all_sides_within n = λ k d l.
    let long = length-sides n in
    let within : k < 2 * n = omega (arith, l, long) in
    subst (IsSide n) (sym (get_or-sides n k d within)) (numbered_within n k within)

pub sides_differ : (n : ℕ) → AllPairs (λ s t. s ≢ t) (sides n)
sides_differ n = λ i j d less short e.
    let long = length-sides n in
    let second : j < 2 * n = omega (arith, short, long) in
    let first : i < 2 * n = omega (arith, less, second) in
    let same : numbered i ≡ numbered j = sym (get_or-sides n i d first) ∙ e ∙ get_or-sides n j d second in
    let numbers : i ≡ j = sym (side_number-numbered i) ∙ ap side_number same ∙ side_number-numbered j in
    omega (arith, less, numbers)
