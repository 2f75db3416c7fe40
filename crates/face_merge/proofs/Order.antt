-- Orders by a key and then by a number: two members never stand before each other, and different members do not tie.
use Rattle.std.proofs.Common.{◌≡◌, ℕ, Bool, true, false, ◌&&◌, ◌||◌, ℤ, nat_lt, ◌==◌, arith}
use Rattle.std.specs.Prelude.{int_lt}
use Rattle.std.specs.Ordering.{int_eq}
use Rattle.std.proofs.lemmas.Int.{ints}
use Rattle.std.proofs.lemmas.Bool.Decides.{nat_tests, Decides-int_eq}
use Rattle.face_merge.specs.Choice.{least_first, greatest_first}

-- what the choice of a first member takes of its order
pub record IsOrder (before : ℕ → ℕ → Bool) : Type 0 where
  pub itself : (f : ℕ) → before f f ≡ false
  pub one_way : (f g : ℕ) → before f g ≡ true → before g f ≡ false
  pub passes : (f g h : ℕ) → before f g ≡ false → before g h ≡ false → before f h ≡ false
  pub decided : (f g : ℕ) → before f g ≡ false → before g f ≡ false → f ≡ g

-- the order by the greatest natural number
pub greatest_first_is : (key : ℕ → ℕ) → IsOrder (greatest_first key)
greatest_first_is key = record {
  itself = λ f. grind (arith, nat_tests);
  one_way = λ f g. greatest_one_way (key f) (key g) f g;
  passes = λ f g h. greatest_passes (key f) (key g) (key h) f g h;
  decided = λ f g. greatest_decided (key f) (key g) f g;
} where
  greatest_one_way : (a b f g : ℕ) → (nat_lt b a || ((a == b) && nat_lt f g)) ≡ true → (nat_lt a b || ((b == a) && nat_lt g f)) ≡ false
  greatest_one_way a b f g e = grind (arith, nat_tests)

  greatest_passes : (a b d f g h : ℕ) → (nat_lt b a || ((a == b) && nat_lt f g)) ≡ false → (nat_lt d b || ((b == d) && nat_lt g h)) ≡ false → (nat_lt d a || ((a == d) && nat_lt f h)) ≡ false
  greatest_passes a b d f g h p q = grind (arith, nat_tests)

  greatest_decided : (a b f g : ℕ) → (nat_lt b a || ((a == b) && nat_lt f g)) ≡ false → (nat_lt a b || ((b == a) && nat_lt g f)) ≡ false → f ≡ g
  greatest_decided a b f g p q = grind (arith, nat_tests)

-- the order by the least whole number
pub least_first_is : (key : ℕ → ℤ) → IsOrder (least_first key)
least_first_is key = record {
  itself = λ f. least_itself (key f) f;
  one_way = λ f g. least_one_way (key f) (key g) f g;
  passes = λ f g h. least_passes (key f) (key g) (key h) f g h;
  decided = λ f g. least_decided (key f) (key g) f g;
} where
  least_itself : (a : ℤ) (f : ℕ) → (int_lt a a || (int_eq a a && nat_lt f f)) ≡ false
  least_itself a f = grind (arith, ints, nat_tests)

  least_one_way : (a b : ℤ) (f g : ℕ) → (int_lt a b || (int_eq a b && nat_lt f g)) ≡ true → (int_lt b a || (int_eq b a && nat_lt g f)) ≡ false
  least_one_way a b f g e = grind (arith, ints, nat_tests, Decides-int_eq)

  least_passes : (a b d : ℤ) (f g h : ℕ) → (int_lt a b || (int_eq a b && nat_lt f g)) ≡ false → (int_lt b d || (int_eq b d && nat_lt g h)) ≡ false → (int_lt a d || (int_eq a d && nat_lt f h)) ≡ false
  least_passes a b d f g h p q = grind (arith, ints, nat_tests, Decides-int_eq)

  least_decided : (a b : ℤ) (f g : ℕ) → (int_lt a b || (int_eq a b && nat_lt f g)) ≡ false → (int_lt b a || (int_eq b a && nat_lt g f)) ≡ false → f ≡ g
  least_decided a b f g p q = grind (arith, ints, nat_tests, Decides-int_eq)
