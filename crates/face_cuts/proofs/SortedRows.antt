-- Rows that are sorted by a key: those with one key stand side by side, and a stable sort leaves them in their order.
use Rattle.std.proofs.Common.{◌≡◌, ℕ, ◌+◌, ◌<◌, ◌≤◌, ◌==◌, Bool, true, false, not, ◌&&◌, cond, List, [], ◌∷◌, ◌++◌, length, map, filter, take, drop, get_or, refl, sym, ap, ap₂, ◌∙◌, true≢false, eq-eqb, length-drop, arith}
use Rattle.std.specs.declared.cmp.Ordering.{Ordering}
use Rattle.std.specs.declared.cmp.Ordering.TheVariants.{Less, Equal, Greater}
use Rattle.std.specs.Ordering.{is_lt, is_eq, ordering_index, ordering_reverse, int_cmp, nat_cmp}
use Rattle.std.specs.Cmp.{IsTotalOrder, tied_then}
use Rattle.std.specs.List.Sorted.{IsPartitionedBy, IsPartitionPoint, IsSortedBy, IsStableBy, ties}
use Rattle.std.proofs.lemmas.Bool.Decides.{nat_tests}
use Rattle.std.proofs.lemmas.Cmp.{by_ranked, int_cmp_total, then_total, on_total, ranked}
use Rattle.std.proofs.lemmas.List.{append-nil, get_or_default, get_or-drop, get_or-take, length-take, take-append-drop}
use Rattle.std.proofs.lemmas.List.Elements.{filter-append, filter_agree}
use Rattle.std.proofs.lemmas.List.Sorted.{searchable_from_sorted}
use Rattle.lemmas.proofs.Members.{filter_none}
use Rattle.tgap_model.specs.declared.geometry.Point.{Point}
use Rattle.tgap_model.specs.Base.{same_point}
use Rattle.face_cuts.specs.PointSets.{point_cmp}

-- ---- orders

lower : (a b : Ordering) → ordering_index a ≤ ordering_index b → is_lt b ≡ true → is_lt a ≡ true
lower Less b l e = refl
lower Equal Less l e = absurd (omega (arith, l))
lower Equal Equal l e = e
lower Equal Greater l e = e
lower Greater Less l e = absurd (omega (arith, l))
lower Greater Equal l e = e
lower Greater Greater l e = e

higher : (a b : Ordering) → ordering_index a ≤ ordering_index b → is_lt a ≡ false → is_eq a ≡ false → is_eq b ≡ false
higher Less b l e f = absurd (true≢false e)
higher Equal b l e f = absurd (true≢false f)
higher Greater Less l e f = refl
higher Greater Equal l e f = absurd (omega (arith, l))
higher Greater Greater l e f = refl

not_equal : (a : Ordering) → is_lt a ≡ true → is_eq a ≡ false
not_equal Less e = refl
not_equal Equal e = sym e
not_equal Greater e = refl

tied : (a : Ordering) → is_eq a ≡ (not (is_lt (ordering_reverse a)) && not (is_lt a))
tied Less = refl
tied Equal = refl
tied Greater = refl

pub point_total : IsTotalOrder point_cmp
point_total = then_total (on_total (λ (p : Point). p.x) int_cmp_total) (on_total (λ (p : Point). p.y) int_cmp_total)

pub point_ties : (p q : Point) → same_point p q ≡ is_eq (point_cmp p q)
point_ties p q = tied_then (int_cmp p.x q.x) (int_cmp p.y q.y)

pub number_ties : (m n : ℕ) → (m == n) ≡ is_eq (nat_cmp m n)
number_ties m n = by_ranked (m < n) (m ≡ n) (n < m) (nat_cmp m n) (ranked m n (nat_cmp m n) refl)
    (λ e l. let f : (m == n) ≡ false = grind (arith, nat_tests) in f ∙ sym (ap is_eq e))
    (λ e s. eq-eqb m n s ∙ sym (ap is_eq e))
    (λ e l. let f : (m == n) ≡ false = grind (arith, nat_tests) in f ∙ sym (ap is_eq e))

-- ---- rows with one key

module _ {R K : Type 0} (key : R → K) (cmp : K → K → Ordering) (o : IsTotalOrder cmp) where
  abbrev before : R → R → Bool
  before a b = is_lt (cmp (key a) (key b))

  module _ (rows : List R) (sorted : IsSortedBy before rows) (k : K) where
    abbrev order : R → Ordering
    order r = cmp (key r) k

    rise : (i j : ℕ) (d : R) → i ≤ j → j < length rows → ordering_index (order (get_or rows i d)) ≤ ordering_index (order (get_or rows j d))
    rise = searchable_from_sorted o key rows k sorted

    pub parted_by_key : IsPartitionedBy (λ r. is_lt (order r)) rows
    parted_by_key i j d l m e = lower (order (get_or rows i d)) (order (get_or rows j d)) (rise i j d l m) e

    module _ (at : R → Bool) (same : (r : R) → at r ≡ is_eq (order r)) (first : ℕ) (part : IsPartitionPoint (λ r. is_lt (order r) ≡ true) (λ r. is_lt (order r) ≡ false) rows first) where
      -- no row before the first one that is not less has the key
      pub none_before : filter at (take first rows) ≡ []
      none_before = filter_none at (take first rows) (λ i d l.
          let below : i < first = omega (arith, l, length-take first rows) in
          ap at (get_or-take first rows i d below) ∙ same (get_or rows i d) ∙ not_equal (order (get_or rows i d)) (part.0 i d (omega arith) below))

      -- none has it from one on that is not less and does not have it
      pub none_after : (i : ℕ) (r : R) → first ≤ i → i < length rows → r ≡ get_or rows i r → at r ≡ false → filter at (take i rows) ≡ filter at rows
      none_after i r l m here e =
          let rest : filter at (drop i rows) ≡ [] = filter_none at (drop i rows) (λ j d n.
          let short : i + j < length rows = omega (arith, n, length-drop i rows) in
          let is : get_or rows i d ≡ r = get_or_default rows i d r m ∙ sym here in
          ap at (get_or-drop i rows j d) ∙ same (get_or rows (i + j) d)
          ∙ higher (order (get_or rows i d)) (order (get_or rows (i + j) d)) (rise i (i + j) d (omega arith) short) (part.1 i d l m)
          (sym (same (get_or rows i d)) ∙ ap at is ∙ e)) in
          sym (
          ap (filter at) (sym (take-append-drop i rows)) ∙ filter-append at (take i rows) (drop i rows)
          ∙ ap (λ (ys : List R). filter at (take i rows) ++ ys) rest ∙ append-nil (filter at (take i rows))
          )

    -- a stable sort leaves those with the key in their order
    pub left_in_order : (at : R → Bool) → ((r : R) → at r ≡ is_eq (order r)) → (xs : List R) → IsStableBy before xs rows → (r : R) → key r ≡ k → filter at rows ≡ filter at xs
    left_in_order at same xs stable r e =
        let tie : (y : R) → at y ≡ ties before r y = λ y.
        same y ∙ ap (λ j. is_eq (cmp (key y) j)) (sym e) ∙ tied (cmp (key y) (key r))
        ∙ ap (λ (c : Ordering). not (is_lt c) && not (is_lt (cmp (key y) (key r)))) (sym (o.antisymm (key r) (key y))) in
        filter_agree at (ties before r) tie rows ∙ stable r ∙ sym (filter_agree at (ties before r) tie xs)

-- what a filter keeps of rows that were made of others
pub mapped_back : {R S : Type 0} (made : S → R) (part : R → S) (at : R → Bool) → ((s : S) → part (made s) ≡ s) → (xs : List S) → map part (filter at (map made xs)) ≡ filter (λ s. at (made s)) xs
mapped_back made part at back [] = refl
mapped_back made part at back (x ∷ xs) = by (at (made x)) (mapped_back made part at back xs)
  where
    by : (b : Bool) → map part (filter at (map made xs)) ≡ filter (λ s. at (made s)) xs → map part (cond b (made x ∷ filter at (map made xs)) (filter at (map made xs))) ≡ cond b (x ∷ filter (λ s. at (made s)) xs) (filter (λ s. at (made s)) xs)
    by true rest = ap₂ (λ y ys. y ∷ ys) (back x) rest
    by false rest = rest
