-- A table of ascending points with their steps: what a search finds in it, and how a new step changes it.
use Rattle.std.proofs.Common.{◌≡◌, ◌≢◌, ◌⊎◌, inl, inr, ⊎_elim, ℕ, zero, suc, ◌+◌, ◌<◌, ◌≤◌, Bool, true, false, cond, nat_le, ◌&&◌, ◌||◌, pos, List, All, [], ◌∷◌, length, get_or, set, replicate, Contains, Result, Ok, Err, MatchOption, IsPermutation, Ordering, Less, Equal, Greater, is_lt, refl, sym, ap, ◌∙◌, subst, true≢false, arith}
use Rattle.std.specs.Ordering.{int_cmp, eq_by_cmp, ordering_index, ordering_reverse}
use Rattle.std.specs.Cmp.{IsTotalOrder, IsEquivalence, tied_then}
use Rattle.std.specs.List.{dedup, list_any}
use Rattle.std.specs.Result.{result_ok}
use Rattle.std.specs.List.Sorted.{IsSorted, IsSortedBy, IsStrictlySortedBy, IsBinarySearchResult, IsSearchInRange, IsNonDecreasingBy}
use Rattle.std.proofs.Math.ListN.{get_or-eq_default}
use Rattle.std.proofs.lemmas.Bool.{cases_lt, and_cases, leb-false, le-leb}
use Rattle.std.proofs.lemmas.List.{get_or-replicate, length-replicate}
use Rattle.std.proofs.lemmas.Cmp.{int_cmp_total, int_eq_equiv, then_total, on_total, and_equiv, on_equiv}
use Rattle.std.proofs.lemmas.List.Sorted.{searchable_from_sorted, Contains-permutation}
use Rattle.std.proofs.lemmas.List.Folds.{Any-from_list_any}
use Rattle.std.proofs.lemmas.List.Kept.{Contains-dedup, IsStrictlySortedBy-dedup}
use Rattle.std.proofs.lemmas.Map.Keys.{sorted_tail, Less-from_sorted}
use Rattle.lemmas.proofs.Members.{in_head, in_tail}
use Rattle.tgap_model.specs.declared.geometry.Point.{Point}
use Rattle.tgap_model.specs.declared.slice.Removal.{Removal}
use Rattle.tgap_model.specs.Base.{same_point}
use Rattle.tgap_model.proofs.Points.{same_point-true, same_point-from}
use Rattle.edge_forest.specs.Removed.{PointSteps, point_cmp, step_beside, step_of, is_gone_by}

-- ---- the order of points

point_total : IsTotalOrder point_cmp
point_total = then_total (on_total (λ (p : Point). p.x) int_cmp_total) (on_total (λ (p : Point). p.y) int_cmp_total)

point_equiv : IsEquivalence same_point
point_equiv = and_equiv (on_equiv (λ (p : Point). p.x) int_eq_equiv) (on_equiv (λ (p : Point). p.y) int_eq_equiv)

point_ties : (p q : Point) → same_point p q ≡ eq_by_cmp point_cmp p q
point_ties p q = tied_then (int_cmp p.x q.x) (int_cmp p.y q.y)

-- a point with an earlier one is another one
earlier_differs : (p q : Point) → point_cmp p q ≡ Less → same_point p q ≡ false
earlier_differs p q e = point_ties p q ∙ ap (λ (o : Ordering). by o) e
  where
    by : Ordering → Bool
    by Less = false
    by Equal = true
    by Greater = false

-- a point does not stand before itself
not_before : (p q : Point) → p ≡ q → point_cmp p q ≢ Less
not_before p q e less = true≢false (sym (same_point-from p q e) ∙ earlier_differs p q less)

-- nor behind itself
not_behind : (p q : Point) → p ≡ q → point_cmp p q ≢ Greater
not_behind p q e more = not_before q p (sym e) (point_total.antisymm q p ∙ ap ordering_reverse more)

-- sorted points without repeats ascend
pub points_ascend : (ps : List Point) → IsSorted point_cmp ps → IsStrictlySortedBy point_cmp (dedup same_point ps)
points_ascend ps sorted = IsStrictlySortedBy-dedup point_total point_ties ps sorted

-- and none is lost
pub points_kept : (ps qs : List Point) → IsPermutation ps qs → (p : Point) → Contains ps p → Contains (dedup same_point qs) p
points_kept ps qs moved p c = Contains-dedup point_equiv same_point-true qs p (Contains-permutation ps qs p moved c)

-- ---- a search

module _ (ps : List Point) (ascend : IsStrictlySortedBy point_cmp ps) where
  in_order : IsSortedBy (λ p q. is_lt (point_cmp p q)) ps
  in_order k d l m =
      ap is_lt (point_total.antisymm (get_or ps (k + 1) d) (get_or ps k d)
      ∙ ap ordering_reverse (Less-from_sorted point_cmp ps k (k + 1) d ascend (omega arith) m))

  rise : (p : Point) → IsNonDecreasingBy (λ q. ordering_index (point_cmp q p)) ps
  rise p = searchable_from_sorted point_total (λ (q : Point). q) ps p in_order

  -- a search finds the row of a point, or the point has none
  pub found_row : (p : Point) (r : Result ℕ ℕ) → IsSearchInRange r (length ps) → IsBinarySearchResult (λ q. point_cmp q p) ps r
      → MatchOption (result_ok r) (Contains ps p → ⊥) (λ i. (i < length ps) × (get_or ps i p ≡ p))
  found_row p (Ok i) l h = (l, same_point-true (get_or ps i p) p (point_ties (get_or ps i p) p ∙ ap equal (h p)))
    where
      equal : Ordering → Bool
      equal Less = false
      equal Equal = true
      equal Greater = false
  found_row p (Err i) l h = λ (k, m, e).
      let parted = h (rise p) in
      ⊎_elim (λ less. not_before (get_or ps k p) p e (parted.0 k p (omega arith) less))
      (λ le. not_behind (get_or ps k p) p e (parted.1 k p le m)) (cases_lt k i)

-- ---- the step beside a point

-- where all steps are 0
step_of_zeros : (ps : List Point) (ss : List ℕ) (p : Point) → ((i : ℕ) → get_or ss i 0 ≡ 0) → step_beside ps ss p ≡ 0
step_of_zeros [] ss p zeros = refl
step_of_zeros (q ∷ ps) [] p zeros = refl
step_of_zeros (q ∷ ps) (s ∷ ss) p zeros = by (same_point q p) (step_of_zeros ps ss p (λ i. zeros (suc i)))
  where
    by : (b : Bool) → step_beside ps ss p ≡ 0 → cond b s (step_beside ps ss p) ≡ 0
    by true rest = zeros 0
    by false rest = rest

abbrev zeros : ℕ → List ℕ
zeros n = replicate n 0

zeros_at : (n i : ℕ) → get_or (zeros n) i 0 ≡ 0
zeros_at n i = ⊎_elim (λ l. get_or-replicate n i 0 0 l) (λ le. get_or-eq_default (zeros n) 0 (omega (arith, le, length-replicate {A = ℕ} n 0))) (cases_lt i n)

pub step_of_new : (ps : List Point) (n : ℕ) (p : Point) → step_beside ps (zeros n) p ≡ 0
step_of_new ps n p = step_of_zeros ps (zeros n) p (zeros_at n)

-- of a point that has no row
pub step_of_none : (ps : List Point) (ss : List ℕ) (p : Point) → (Contains ps p → ⊥) → step_beside ps ss p ≡ 0
step_of_none [] ss p none = refl
step_of_none (q ∷ ps) [] p none = refl
step_of_none (q ∷ ps) (s ∷ ss) p none = by (same_point q p) refl (step_of_none ps ss p (λ c. none (in_tail q ps p c)))
  where
    by : (b : Bool) → same_point q p ≡ b → step_beside ps ss p ≡ 0 → cond b s (step_beside ps ss p) ≡ 0
    by true e rest = absurd (none (subst (λ (x : Point). Contains (q ∷ ps) x) (same_point-true q p e) (in_head q ps)))
    by false e rest = rest

-- a later point is another one
later_differs : (q : Point) (ps : List Point) → IsStrictlySortedBy point_cmp (q ∷ ps) → (i : ℕ) (d : Point) → i < length ps
    → same_point q (get_or ps i d) ≡ false
later_differs q ps ascend i d l =
    earlier_differs q (get_or ps i d) (Less-from_sorted point_cmp (q ∷ ps) 0 (suc i) d ascend (omega arith) (omega (arith, l)))

-- of the point in a row
pub step_of_row : (ps : List Point) (ss : List ℕ) → IsStrictlySortedBy point_cmp ps → length ss ≡ length ps → (i : ℕ) (d : Point) → i < length ps
    → step_beside ps ss (get_or ps i d) ≡ get_or ss i 0
step_of_row [] ss ascend count i d l = absurd (omega (arith, l))
step_of_row (q ∷ ps) [] ascend count i d l = absurd (omega (arith, count))
step_of_row (q ∷ ps) (s ∷ ss) ascend count zero d l = ap (λ (b : Bool). cond b s (step_beside ps ss q)) (same_point-from q q refl)
step_of_row (q ∷ ps) (s ∷ ss) ascend count (suc i) d l =
    ap (λ (b : Bool). cond b s (step_beside ps ss (get_or ps i d))) (later_differs q ps ascend i d (omega (arith, l)))
    ∙ step_of_row ps ss (sorted_tail point_cmp q ps ascend) (omega (arith, count)) i d (omega (arith, l))

-- when another step is put into a row
pub step_of_set : (ps : List Point) (ss : List ℕ) → IsStrictlySortedBy point_cmp ps → length ss ≡ length ps → (i : ℕ) (d : Point) (v : ℕ) (p : Point)
    → i < length ps → step_beside ps (set ss i v) p ≡ cond (same_point (get_or ps i d) p) v (step_beside ps ss p)
step_of_set [] ss ascend count i d v p l = absurd (omega (arith, l))
step_of_set (q ∷ ps) [] ascend count i d v p l = absurd (omega (arith, count))
step_of_set (q ∷ ps) (s ∷ ss) ascend count zero d v p l = by (same_point q p)
  where
    by : (b : Bool) → cond b v (step_beside ps ss p) ≡ cond b v (cond b s (step_beside ps ss p))
    by true = refl
    by false = refl
step_of_set (q ∷ ps) (s ∷ ss) ascend count (suc i) d v p l =
    by (same_point q p) refl (step_of_set ps ss (sorted_tail point_cmp q ps ascend) (omega (arith, count)) i d v p (omega (arith, l)))
  where
    other : same_point q p ≡ true → (b : Bool) → same_point (get_or ps i d) p ≡ b → b ≡ false
    other e true f =
        absurd (true≢false (sym (same_point-from q (get_or ps i d) (same_point-true q p e ∙ sym (same_point-true (get_or ps i d) p f)))
        ∙ later_differs q ps ascend i d (omega (arith, l))))
    other e false f = refl

    by : (b : Bool) → same_point q p ≡ b → step_beside ps (set ss i v) p ≡ cond (same_point (get_or ps i d) p) v (step_beside ps ss p)
        → cond b s (step_beside ps (set ss i v) p) ≡ cond (same_point (get_or ps i d) p) v (cond b s (step_beside ps ss p))
    by true e rest = sym (ap (λ (b : Bool). cond b v s) (other e (same_point (get_or ps i d) p) refl))
    by false e rest = rest

-- ---- some points in turn

-- one more point, with the same step
pub noted_more : (a b : Bool) (k s : ℕ) → cond b k (cond a k s) ≡ cond (a || b) k s
noted_more true true k s = refl
noted_more true false k s = refl
noted_more false true k s = refl
noted_more false false k s = refl

abbrev pub no_removal : Removal
no_removal = record { point = record { x = pos 0; y = pos 0 }; step = 0 }

-- the points of the list have the step, and the others have theirs
abbrev pub IsNoted : PointSteps → PointSteps → ℕ → List Removal → Type 0
IsNoted t t' made list = (p : Point) → step_of t' p ≡ cond (list_any (λ r. same_point r.point p) list) made (step_of t p)

-- which is no later than the last one
pub steps_within : (t t' : PointSteps) (made : ℕ) (list : List Removal) → ((p : Point) → step_of t p ≤ made) → IsNoted t t' made list
    → (p : Point) → step_of t' p ≤ made
steps_within t t' made list within noted p = subst (λ (n : ℕ). n ≤ made) (sym (noted p)) (by (list_any (λ (r : Removal). same_point r.point p) list))
  where
    by : (b : Bool) → cond b made (step_of t p) ≤ made
    by true = omega arith
    by false = within p

-- a point that is there after the last step has no step
there_is_zero : (s made : ℕ) → s ≤ made → (nat_le 1 s && nat_le s made) ≡ false → s ≡ 0
there_is_zero s made l e = by (and_cases (nat_le 1 s) (nat_le s made) e)
  where
    by : (nat_le 1 s ≡ false) ⊎ (nat_le s made ≡ false) → s ≡ 0
    by (inl f) = omega (arith, leb-false 1 s f)
    by (inr f) = absurd (true≢false (sym (le-leb s made l) ∙ f))

-- it is gone from a step on where it was gone then, or where it has got that step now
gone_by_step : (b : Bool) (made s k : ℕ) → 0 < made → (b ≡ true → s ≡ 0)
    → (nat_le 1 (cond b made s) && nat_le (cond b made s) k) ≡ ((nat_le 1 s && nat_le s k) || (nat_le made k && b))
gone_by_step true made s k positive unmarked =
    ap (λ (b : Bool). b && nat_le made k) (le-leb 1 made (omega (arith, positive))) ∙ by (nat_le made k)
    ∙ ap (λ (n : ℕ). (nat_le 1 n && nat_le n k) || (nat_le made k && true)) (sym (unmarked refl))
  where
    by : (b : Bool) → b ≡ (b && true)
    by true = refl
    by false = refl
gone_by_step false made s k positive unmarked = by (nat_le 1 s && nat_le s k) (nat_le made k)
  where
    by : (a b : Bool) → a ≡ (a || (b && false))
    by true b = refl
    by false true = refl
    by false false = refl

-- what is gone when points that were there have got the step that was made last
pub gone_after : (t t' : PointSteps) (made : ℕ) (list : List Removal) → 0 < made → ((p : Point) → step_of t p ≤ made)
    → All (λ r. is_gone_by t made r.point ≡ false) list → IsNoted t t' made list → (k : ℕ) (p : Point)
    → is_gone_by t' k p ≡ (is_gone_by t k p || (nat_le made k && list_any (λ r. same_point r.point p) list))
gone_after t t' made list positive within left noted k p =
    ap (λ (n : ℕ). nat_le 1 n && nat_le n k) (noted p)
    ∙ gone_by_step (list_any (λ (r : Removal). same_point r.point p) list) made (step_of t p) k positive unmarked
  where
    unmarked : list_any (λ (r : Removal). same_point r.point p) list ≡ true → step_of t p ≡ 0
    unmarked e =
        let (i, r, l, at, same) = Any-from_list_any (λ (r : Removal). same_point r.point p) list e in
        let there = subst (λ (r : Removal). is_gone_by t made r.point ≡ false) at (left i r l) in
        there_is_zero (step_of t p) made (within p) (subst (λ (q : Point). is_gone_by t made q ≡ false) (same_point-true r.point p same) there)
