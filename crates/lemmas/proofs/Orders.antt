-- Strict orders to sort by: of numbers, of fractions, by a key, and the other way round.
use Rattle.std.proofs.Common.{◌≡◌, Bool, true, false, nat_lt, ℤ, pos, ◌*ℤ◌, ◌<ℤ◌, int_lt, refl, sym, ◌∙◌, true≢false, arith}
use Rattle.std.specs.Prelude.{⊤}
use Rattle.std.specs.Int.Signed.{≤ℤ_refl}
use Rattle.std.proofs.lemmas.Bool.Decides.{nat_tests}
use Rattle.lemmas.specs.Sorting.{IsStrictOrderOn}
use Rattle.lemmas.proofs.Signs.{lt_lt_trans, Decides-int_lt, int_lt-from_le}
use Rattle.lemmas.proofs.Fractions.{fraction_lt_lt}

pub nat_lt_order : IsStrictOrderOn (λ n. ⊤) nat_lt
nat_lt_order = record {
  itself = λ x p. grind (arith, nat_tests);
  passes = λ x y z p q r h k. grind (arith, nat_tests);
}

pub int_lt_order : IsStrictOrderOn (λ z. ⊤) int_lt
int_lt_order = record {
  itself = λ x p. int_lt-from_le (≤ℤ_refl x);
  passes = λ x y z p q r h k. (Decides-int_lt x z).1 (lt_lt_trans ((Decides-int_lt x y).0 h) ((Decides-int_lt y z).0 k));
}

-- fractions with positive denominators, by cross multiplication
pub fraction_order : {A : Type 0} (over under : A → ℤ) → IsStrictOrderOn (λ a. pos 0 <ℤ under a) (λ a b. int_lt (over a *ℤ under b) (over b *ℤ under a))
fraction_order over under = record {
  itself = λ x p. int_lt-from_le (≤ℤ_refl (over x *ℤ under x));
  passes = λ x y z p q r h k. (Decides-int_lt (over x *ℤ under z) (over z *ℤ under x)).1 (fraction_lt_lt (over x) (over y) (over z) p q r
      ((Decides-int_lt (over x *ℤ under y) (over y *ℤ under x)).0 h) ((Decides-int_lt (over y *ℤ under z) (over z *ℤ under y)).0 k));
}

-- an order of keys orders what has them
pub order_by_key : {A K : Type 0} {P : K → Type 0} {before : K → K → Bool} (key : A → K) → IsStrictOrderOn P before → IsStrictOrderOn (λ x. P (key x)) (λ x y. before (key x) (key y))
order_by_key key o = record {
  itself = λ x p. o.itself (key x) p;
  passes = λ x y z p q r h k. o.passes (key x) (key y) (key z) p q r h k;
}

-- the last first
pub order_reversed : {A : Type 0} {P : A → Type 0} {before : A → A → Bool} → IsStrictOrderOn P before → IsStrictOrderOn P (λ x y. before y x)
order_reversed o = record {
  itself = λ x p. o.itself x p;
  passes = λ x y z p q r h k. o.passes z y x r q p k h;
}

-- an order of more elements orders fewer
pub order_on_fewer : {A : Type 0} {P Q : A → Type 0} {before : A → A → Bool} → ((x : A) → Q x → P x) → IsStrictOrderOn P before → IsStrictOrderOn Q before
order_on_fewer fewer o = record {
  itself = λ x p. o.itself x (fewer x p);
  passes = λ x y z p q r h k. o.passes x y z (fewer x p) (fewer y q) (fewer z r) h k;
}

-- two elements stand in one order at most
pub one_order : {A : Type 0} {P : A → Type 0} {before : A → A → Bool} → IsStrictOrderOn P before → (x y : A) → P x → P y → before x y ≡ true → before y x ≡ false
one_order {before = before} o x y p q h = by (before y x) refl
  where
    by : (b : Bool) → before y x ≡ b → b ≡ false
    by true e = absurd (true≢false (sym (o.passes x y x p q p h e) ∙ o.itself x p))
    by false e = refl
