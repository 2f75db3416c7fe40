-- One walk over the sides, ring by ring.
use Rattle.std.proofs.Common.{◌≡◌, ℕ, suc, ◌+◌, ◌<◌, ◌==◌, Bool, true, false, ◌||◌, if◌then◌else◌, List, [], ◌∷◌, ◌++◌, length, get_or, map, fold, refl, sym, ap, ap₂, ◌∙◌, arith}
use Rattle.std.specs.List.{list_any, range_with_len}
use Rattle.std.proofs.lemmas.Bool.Decides.{nat_tests}
use Rattle.std.proofs.lemmas.List.Folds.{list_any-append}
use Rattle.std.proofs.lemmas.List.Sums.{fold-append}
use Rattle.std.proofs.lemmas.List.FromFn.{map-range_with_len_more}
use Rattle.ring_walk.specs.declared.span.Span.{Span}
use Rattle.ring_walk.specs.declared.side.Side.{Side}
use Rattle.ring_walk.specs.Sides.{side_number, same_side, numbered}
use Rattle.ring_walk.specs.Rings.{row_until, ring_from, is_in_ring, with_ring_of}
use Rattle.ring_walk.proofs.SideNumbers.{side_number-numbered}

-- ---- one ring

module _ (next : Side → Side) (first t u : Side) (m : ℕ) (same : u ≡ next t) where
  -- the walk goes on
  pub goes_on : same_side u first ≡ false → row_until next first (suc m) t ≡ t ∷ row_until next first m u
  goes_on e = ap (λ (b : Bool). t ∷ (if b then [] else row_until next first m (next t))) (ap (λ (v : Side). same_side v first) (sym same) ∙ e)
      ∙ ap (λ (v : Side). t ∷ row_until next first m v) (sym same)

  -- or comes to its end
  pub comes_round : same_side u first ≡ true → row_until next first (suc m) t ≡ t ∷ []
  comes_round e = ap (λ (b : Bool). t ∷ (if b then [] else row_until next first m (next t))) (ap (λ (v : Side). same_side v first) (sym same) ∙ e)

-- ---- which sides are taken

or-false : (b : Bool) → (b || false) ≡ b
or-false true = refl
or-false false = refl

equal_back : (m n : ℕ) → (m == n) ≡ (n == m)
equal_back m n = by (m == n) (n == m) refl refl
  where
    by : (a b : Bool) → (m == n) ≡ a → (n == m) ≡ b → a ≡ b
    by true true e f = refl
    by false false e f = refl
    by true false e f = grind (arith, nat_tests)
    by false true e f = grind (arith, nat_tests)

-- the side with a number is in a ring
side_in_ring : (i : ℕ) (ring : List Side) → list_any (same_side (numbered i)) ring ≡ list_any (λ s. side_number s == i) ring
side_in_ring i [] = refl
side_in_ring i (s ∷ ring) = ap₂ (λ (a b : Bool). a || b) (ap (λ (n : ℕ). n == side_number s) (side_number-numbered i) ∙ equal_back i (side_number s)) (side_in_ring i ring)

-- with one more ring
pub is_in_ring_more : (rings : List (List Side)) (ring : List Side) (i : ℕ) → is_in_ring (rings ++ ring ∷ []) (numbered i) ≡ is_in_ring rings (numbered i) || list_any (λ s. side_number s == i) ring
is_in_ring_more rings ring i =
    list_any-append (λ r. list_any (same_side (numbered i)) r) rings (ring ∷ [])
    ∙ ap (λ (b : Bool). is_in_ring rings (numbered i) || b) (or-false (list_any (same_side (numbered i)) ring) ∙ side_in_ring i ring)

-- ---- all rings

module _ (spans : List Span) (rings : List (List Side)) (i : ℕ) (so_far : rings ≡ fold (with_ring_of spans) [] (map numbered (range_with_len 0 i))) where
  next_fold : fold (with_ring_of spans) [] (map numbered (range_with_len 0 (i + 1))) ≡ with_ring_of spans rings (numbered i)
  next_fold =
      ap (fold (with_ring_of spans) []) (map-range_with_len_more numbered 0 i i (omega arith))
      ∙ fold-append (with_ring_of spans) [] (map numbered (range_with_len 0 i)) (numbered i ∷ [])
      ∙ ap (λ (r : List (List Side)). with_ring_of spans r (numbered i)) (sym so_far)

  -- a side that is taken makes no ring
  pub no_ring : is_in_ring rings (numbered i) ≡ true → rings ≡ fold (with_ring_of spans) [] (map numbered (range_with_len 0 (i + 1)))
  no_ring e = sym (next_fold ∙ ap (λ (b : Bool). if b then rings else rings ++ ring_from spans (numbered i) ∷ []) e)

  -- another one does
  pub one_ring : is_in_ring rings (numbered i) ≡ false → rings ++ ring_from spans (numbered i) ∷ [] ≡ fold (with_ring_of spans) [] (map numbered (range_with_len 0 (i + 1)))
  one_ring e = sym (next_fold ∙ ap (λ (b : Bool). if b then rings else rings ++ ring_from spans (numbered i) ∷ []) e)

-- the sides of one more ring are taken
pub taken_more : (rings : List (List Side)) (ring : List Side) (old new : List Bool) (n : ℕ) → length old ≡ n
    → ((i : ℕ) (d : Bool) → i < length old → get_or new i d ≡ get_or old i d || list_any (λ s. side_number s == i) ring)
    → ((i : ℕ) (d : Bool) → i < n → get_or old i d ≡ is_in_ring rings (numbered i))
    → (i : ℕ) (d : Bool) → i < n → get_or new i d ≡ is_in_ring (rings ++ ring ∷ []) (numbered i)
taken_more rings ring old new n long noted taken i d l =
    noted i d (omega (arith, l, long)) ∙ ap (λ (b : Bool). b || list_any (λ s. side_number s == i) ring) (taken i d l) ∙ sym (is_in_ring_more rings ring i)
