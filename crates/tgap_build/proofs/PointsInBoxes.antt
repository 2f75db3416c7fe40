-- Ascending points: which of them may lie in a box.
use Rattle.std.proofs.Common.{◌≡◌, ◌⊎◌, inl, inr, ⊎_elim, ℕ, ◌+◌, ◌≤◌, ◌<◌, ◌<ℤ◌, ◌≤ℤ◌, ℤ, Bool, true, false, cond, List, length, get_or, All, Result, Ok, Err, Less, Equal, Greater, is_lt, refl, sym, ap, ◌∙◌, subst, arith}
use Rattle.std.specs.Ordering.{ordering_then, ordering_index, ordering_reverse}
use Rattle.std.specs.Cmp.{IsTotalOrder}
use Rattle.std.specs.List.Sorted.{IsSortedBy, IsStrictlySortedBy, IsBinarySearchResult, IsSearchInRange, IsNonDecreasingBy}
use Rattle.std.specs.Prelude.{int_lt}
use Rattle.std.specs.Int.Signed.{<ℤ_irrefl, <ℤ-≤ℤ_trans}
use Rattle.std.proofs.lemmas.Bool.{cases_lt, false_from_ne_true}
use Rattle.std.proofs.lemmas.Cmp.{int_cmp_total, then_total, on_total}
use Rattle.std.proofs.lemmas.List.{get_or_default}
use Rattle.std.proofs.lemmas.List.Sorted.{searchable_from_sorted}
use Rattle.std.proofs.lemmas.Map.Keys.{Less-from_sorted}
use Rattle.lemmas.proofs.Signs.{Decides-int_lt, int_lt-false, le_from_lt, le_lt_trans}
use Rattle.tgap_model.specs.declared.geometry.Point.{Point}
use Rattle.tgap_model.specs.declared.geometry.Window.{Window}
use Rattle.point_rope.specs.Held.{IsHeld}
use Rattle.edge_forest.specs.Removed.{point_cmp}
use Rattle.edge_forest.proofs.RemovedPoints.{found_row}
use Rattle.tgap_build.specs.Running.{has_point}
use Rattle.tgap_build.proofs.PointSets.{has_contains}

-- ---- the order of points

point_total : IsTotalOrder point_cmp
point_total = then_total (on_total (λ (p : Point). p.x) int_cmp_total) (on_total (λ (p : Point). p.y) int_cmp_total)

lt_true : (a b : ℤ) → int_lt a b ≡ true → a <ℤ b
lt_true a b e = (Decides-int_lt a b).0 e

-- of two points the one that comes first is further left, or as far left and lower
before_is : (p q : Point) → point_cmp p q ≡ Less → (p.x <ℤ q.x) ⊎ ((p.x ≤ℤ q.x) × (p.y <ℤ q.y))
before_is p q e = by (int_lt p.x q.x) (int_lt q.x p.x) (int_lt p.y q.y) (int_lt q.y p.y) refl refl refl e
  where
    by : (a b c d : Bool) → int_lt p.x q.x ≡ a → int_lt q.x p.x ≡ b → int_lt p.y q.y ≡ c
        → ordering_then (cond a Less (cond b Greater Equal)) (cond c Less (cond d Greater Equal)) ≡ Less → (p.x <ℤ q.x) ⊎ ((p.x ≤ℤ q.x) × (p.y <ℤ q.y))
    by true b c d left right low less = inl (lt_true p.x q.x left)
    by false true c d left right low less = cc
    by false false true d left right low less = inr (int_lt-false q.x p.x right, lt_true p.y q.y low)
    by false false false true left right low less = cc
    by false false false false left right low less = cc

none_back : (a b : ℤ) → a <ℤ b → b ≤ℤ a → ⊥
none_back a b less back = <ℤ_irrefl (le_lt_trans back less)

-- ---- a box

-- a point that comes before the lower left corner of a box does not lie in it
pub before_corner : (b : Window) (q : Point) → q.x ≡ b.x0 → q.y ≡ b.y0 → (p : Point) → point_cmp p q ≡ Less → IsHeld b p → ⊥
before_corner b q left low p e h =
    ⊎_elim (λ (l : p.x <ℤ q.x). none_back p.x q.x l (subst (λ (z : ℤ). z ≤ℤ p.x) (sym left) h.left))
    (λ (l : (p.x ≤ℤ q.x) × (p.y <ℤ q.y)). none_back p.y q.y l.1 (subst (λ (z : ℤ). z ≤ℤ p.y) (sym low) h.low)) (before_is p q e)

-- the place that a search tells
abbrev pub place_in : Result ℕ ℕ → ℕ
place_in (Ok n) = n
place_in (Err n) = n

module _ (ps : List Point) (ascend : IsStrictlySortedBy point_cmp ps) where
  in_order : IsSortedBy (λ p q. is_lt (point_cmp p q)) ps
  in_order k d l m =
      ap is_lt (point_total.antisymm (get_or ps (k + 1) d) (get_or ps k d)
      ∙ ap ordering_reverse (Less-from_sorted point_cmp ps k (k + 1) d ascend (omega arith) m))

  rise : (q : Point) → IsNonDecreasingBy (λ p. ordering_index (point_cmp p q)) ps
  rise q = searchable_from_sorted point_total (λ (p : Point). p) ps q in_order

  -- those before the place that a search tells come before the point that is sought
  pub come_before : (q : Point) (r : Result ℕ ℕ) → IsSearchInRange r (length ps) → IsBinarySearchResult (λ p. point_cmp p q) ps r
      → (i : ℕ) → place_in r ≡ i → (k : ℕ) (d : Point) → k < i → k < length ps → point_cmp (get_or ps k d) q ≡ Less
  come_before q (Ok n) l h i same k d less m =
      let there = get_or_default ps n d q l ∙ (found_row ps ascend q (Ok n) l h).1 in
      ap (point_cmp (get_or ps k d)) (sym there) ∙ Less-from_sorted point_cmp ps k n d ascend (omega (arith, less, same)) l
  come_before q (Err n) l h i same k d less m = (h (rise q)).0 k d (omega arith) (omega (arith, less, same))

  -- where one lies right of the box, none from there on lies in it
  pub none_behind : (b : Window) (n k : ℕ) (d : Point) → n ≤ k → k < length ps → b.x1 <ℤ (get_or ps n d).x → IsHeld b (get_or ps k d) → ⊥
  none_behind b n k d le m right held = ⊎_elim later here (cases_lt n k)
    where
      p : Point
      p = get_or ps n d

      q : Point
      q = get_or ps k d

      here : k ≤ n → ⊥
      here l = none_back b.x1 q.x (subst (λ (i : ℕ). b.x1 <ℤ (get_or ps i d).x) (omega (arith, le, l)) right) held.right

      later : n < k → ⊥
      later l =
          ⊎_elim (λ (less : p.x <ℤ q.x). none_back b.x1 q.x (<ℤ-≤ℤ_trans right (le_from_lt less)) held.right) (λ (less : (p.x ≤ℤ q.x) × (p.y <ℤ q.y)). none_back b.x1 q.x (<ℤ-≤ℤ_trans right less.0) held.right)
          (before_is p q (Less-from_sorted point_cmp ps n k d ascend l m))

-- where no point of a set lies in a box, none in the box is one of the set
pub none_in_box : (ps : List Point) (b : Window) → All (λ p. IsHeld b p → ⊥) ps → (p : Point) → IsHeld b p → has_point ps p ≡ false
none_in_box ps b none p held = false_from_ne_true (has_point ps p) (λ e.
    let c = has_contains ps p e in
    none c.0 p c.1 (subst (IsHeld b) (sym c.2) held))
