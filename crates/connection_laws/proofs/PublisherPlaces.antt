-- The numbers of a publisher are the places at which it stands.
use Rattle.std.proofs.Common.{◌≡◌, ◌<◌, ◌≤◌, ◌+◌, ◌⊎◌, inl, inr, ◌==◌, ℕ, zero, suc, Bool, true, false, List, [], ◌∷◌, Option, Some, None, refl, sym, ap, ◌∙◌, subst, arith, if◌then◌else◌}
use Rattle.std.specs.Prelude.{slice_get}
use Rattle.std.proofs.lemmas.Bool.{cases_eq, eq-eqb, ne_eqb}
use Rattle.version_store.specs.Publishers.{places_from}
use Rattle.connection_laws.specs.Publishers.{Has, Ascends, EachIsOnes, NoneIsTwos, EachAscends}

-- a place more, or none
abbrev one_more : ℕ → Bool → List ℕ → List ℕ
one_more n is places = if is then n ∷ places else places

some_same : (x y : ℕ) → Some x ≡ Some y → x ≡ y
some_same x y e = ap (λ (o : Option ℕ). elim o [ None ↦ x | Some z ↦ z ]) e

has_more : (n k : ℕ) (is : Bool) (places : List ℕ) → Has k places → Has k (one_more n is places)
has_more n k true places h = inr h
has_more n k false places h = h

pub each_is_ones : EachIsOnes
each_is_ones first n publisher [] e = cc
each_is_ones first zero publisher (p ∷ publishers) e =
    subst (λ (is : Bool). Has (first + zero) (one_more first is (places_from (suc first) publisher publishers))) (sym (eq-eqb p publisher (some_same p publisher e)))
    (inl (omega arith))
each_is_ones first (suc n) publisher (p ∷ publishers) e =
    has_more first (first + suc n) (p == publisher) (places_from (suc first) publisher publishers)
    (subst (λ (k : ℕ). Has k (places_from (suc first) publisher publishers)) (omega arith) (each_is_ones (suc first) n publisher publishers e))

-- none is below the first
weaker : (low low' : ℕ) (places : List ℕ) → low' ≤ low → Ascends low places → Ascends low' places
weaker low low' [] le a = tt
weaker low low' (x ∷ places) le a = ((let l = a.0 in omega arith), a.1)

ascends_more : (n : ℕ) (is : Bool) (places : List ℕ) → Ascends (suc n) places → Ascends n (one_more n is places)
ascends_more n true places a = (omega arith, a)
ascends_more n false places a = weaker (suc n) n places (omega arith) a

pub each_ascends : EachAscends
each_ascends first publisher [] = tt
each_ascends first publisher (p ∷ publishers) =
    ascends_more first (p == publisher) (places_from (suc first) publisher publishers) (each_ascends (suc first) publisher publishers)

above : (n low : ℕ) (places : List ℕ) → Ascends low places → Has n places → low ≤ n
above n low [] a h = absurd h
above n low (x ∷ places) a (inl e) = (let l = a.0 in omega arith)
above n low (x ∷ places) a (inr h) = (let l = a.0 in let k = above n (suc x) places a.1 h in omega arith)

-- a number that is one is that of this place, or one of the rest
first_or_later : (first publisher p n : ℕ) (places : List ℕ) → Has n (one_more first (p == publisher) places) → ((p ≡ publisher) × (n ≡ first)) ⊎ Has n places
first_or_later first publisher p n places h = elim (cases_eq p publisher) [
  | inl same ↦ elim (subst (λ (is : Bool). Has n (one_more first is places)) (eq-eqb p publisher same) h) [ inl e ↦ inl (same, e) | inr k ↦ inr k ]
  | inr other ↦ inr (subst (λ (is : Bool). Has n (one_more first is places)) (ne_eqb p publisher other) h)
]

later : (first publisher n : ℕ) (publishers : List ℕ) → n ≡ first → Has n (places_from (suc first) publisher publishers) → ⊥
later first publisher n publishers e h =
    let l = above n (suc first) (places_from (suc first) publisher publishers) (each_ascends (suc first) publisher publishers) h in omega arith

pub none_is_twos : NoneIsTwos
none_is_twos first a b n [] h g = absurd h
none_is_twos first a b n (p ∷ publishers) h g =
    by (first_or_later first a p n (places_from (suc first) a publishers) h) (first_or_later first b p n (places_from (suc first) b publishers) g)
    (none_is_twos (suc first) a b n publishers)
  where
    by : ((p ≡ a) × (n ≡ first)) ⊎ Has n (places_from (suc first) a publishers) → ((p ≡ b) × (n ≡ first)) ⊎ Has n (places_from (suc first) b publishers)
        → (Has n (places_from (suc first) a publishers) → Has n (places_from (suc first) b publishers) → a ≡ b) → a ≡ b
    by (inl x) (inl y) rest = sym x.0 ∙ y.0
    by (inl x) (inr y) rest = absurd (later first b n publishers x.1 y)
    by (inr x) (inl y) rest = absurd (later first a n publishers y.1 x)
    by (inr x) (inr y) rest = rest x y
