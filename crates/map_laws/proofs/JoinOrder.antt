-- The order of joining, and the nodes of degree two in that order.
use Rattle.std.proofs.Common.{◌≡◌, inl, inr, ℕ, ◌+◌, ◌≤◌, ◌==◌, ◌||◌, Bool, true, false, cond, nat_lt, int_lt, List, [], ◌∷◌, filter, refl, sym, ◌∙◌, subst, arith}
use Rattle.std.specs.Prelude.{⊤, flat_map}
use Rattle.std.specs.Ordering.{int_eq}
use Rattle.std.proofs.lemmas.Bool.{eq-eqb, eqb-true, true≢false}
use Rattle.std.proofs.lemmas.Bool.Decides.{Decides-int_eq}
use Rattle.lemmas.specs.Sorting.{IsStrictOrderOn}
use Rattle.lemmas.proofs.Orders.{nat_lt_order, int_lt_order, order_by_key}
use Rattle.tgap_model.specs.declared.geometry.Point.{Point}
use Rattle.tgap_model.specs.declared.base.BaseArc.{BaseArc}
use Rattle.lemmas.specs.Ascending.{distinct_by}
use Rattle.tgap_model.specs.Base.{same_point}
use Rattle.tgap_model.specs.Segment.{point_before}
use Rattle.tgap_model.specs.Merged.{MergedMap, is_border}
use Rattle.tgap_model.specs.Chains.{first_point, last_point, ends_at, degree, step_of_two, joins_before, joints}
use Rattle.map_laws.proofs.ChainMembers.{Among, filter_among}
use Rattle.map_laws.proofs.Lists.{ArePairs, pairs_weaker, pairs_kept, sum_some, among_kept, among_sort, sort_among, sort_pairs, sorted_ascend, distinct_sorted, among_distinct, among_flat, order_then}
use Rattle.tgap_model.proofs.Points.{same_point-true}
use Rattle.map_laws.proofs.ChainEnds.{point_order, joins_order}

-- points stand in the order of x, then y
pub point_before_order : IsStrictOrderOn (λ (p : Point). ⊤) point_before
point_before_order =
    order_then (λ (p : Point). p.x) int_lt int_eq (λ p q. int_lt p.y q.y) int_lt_order (λ x y e. (Decides-int_eq x y).0 e) (λ x. (Decides-int_eq x x).1 refl)
    (order_by_key (λ (p : Point). p.y) int_lt_order)

-- nodes stand in the order of their steps, then of the points
pub joins_before_order : (h : MergedMap) (k : ℕ) → IsStrictOrderOn (λ (p : Point). ⊤) (joins_before h k)
joins_before_order h k =
    order_then (step_of_two h k) nat_lt (λ m n. m == n) point_before nat_lt_order (λ m n e. eqb-true m n e) (λ n. eq-eqb n n refl) point_before_order

-- one of two tests passes where they do not both fail
one_passes : (s t : Bool) → (s ≡ false → t ≡ false → ⊥) → (s || t) ≡ true
one_passes true t h = refl
one_passes false true h = refl
one_passes false false h = absurd (h refl refl)

-- where an arc ends at a point, the point is one of its ends
ends_among : (p : Point) (a : BaseArc) → 1 ≤ ends_at p a → Among p (first_point a.points ∷ last_point a.points ∷ [])
ends_among p a l = by (same_point (first_point a.points) p) refl (same_point (last_point a.points) p) refl l
  where
    by : (s : Bool) → same_point (first_point a.points) p ≡ s → (t : Bool) → same_point (last_point a.points) p ≡ t
        → 1 ≤ cond {A = ℕ} s 1 0 + cond {A = ℕ} t 1 0 → Among p (first_point a.points ∷ last_point a.points ∷ [])
    by true e t f m = inl (same_point-true _ _ e)
    by false e true f m = inr (inl (same_point-true _ _ f))
    by false e false f m = absurd (omega arith)

-- the ends of the arcs of a map, and the same in ascending order, each once
abbrev pub arc_ends : MergedMap → List Point
arc_ends h = flat_map (λ (a : BaseArc). first_point a.points ∷ last_point a.points ∷ []) h.base.arcs

abbrev pub arc_nodes : MergedMap → List Point
arc_nodes h = distinct_by point_before (arc_ends h)

-- a point with a degree is one of them
pub degree_node : (h : MergedMap) (k : ℕ) (p : Point) → 1 ≤ degree h k p → Among p (arc_nodes h)
degree_node h k p some =
    let found = sum_some (λ a. cond (is_border h k a) (ends_at p a) 0) h.base.arcs some in
    among_distinct point_before point_order (arc_ends h) p
    (among_flat (λ (a : BaseArc). first_point a.points ∷ last_point a.points ∷ []) h.base.arcs found.0 p found.1
    (ends_among p found.0 (counted (is_border h k found.0) (ends_at p found.0) found.2)))
  where
    counted : (b : Bool) (n : ℕ) → 1 ≤ cond b n 0 → 1 ≤ n
    counted true n l = l
    counted false n l = absurd (omega arith)

-- they ascend
pub nodes_ascend : (h : MergedMap) → ArePairs (λ p q. point_before p q ≡ true) (arc_nodes h)
nodes_ascend h = sorted_ascend point_before point_before_order (arc_nodes h) (distinct_sorted point_before (arc_ends h))

module _ (h : MergedMap) (k : ℕ) where
  -- each joint has degree two
  pub joints_two : (p : Point) → Among p (joints h k) → degree h k p ≡ 2
  joints_two p m =
      eqb-true (degree h k p) 2 (filter_among (λ p. degree h k p == 2) (arc_nodes h) p
      (sort_among (joins_before h k) (filter (λ p. degree h k p == 2) (arc_nodes h)) p m))

  -- each node of degree two is one
  pub joints_all : (p : Point) → degree h k p ≡ 2 → Among p (joints h k)
  joints_all p two =
      among_sort (joins_before h k) (filter (λ p. degree h k p == 2) (arc_nodes h)) p
      (among_kept (λ p. degree h k p == 2) (arc_nodes h) p (degree_node h k p (omega arith)) (eq-eqb (degree h k p) 2 two))

  -- two nodes of which one stands before the other join in some order
  in_order : (p q : Point) → point_before p q ≡ true → (joins_before h k p q || joins_before h k q p) ≡ true
  in_order p q e =
      one_passes (joins_before h k p q) (joins_before h k q p) (λ s t.
      true≢false (sym (subst (λ r. point_before p r ≡ true) (sym (joins_order h k p q s t)) e) ∙ point_before_order.itself p tt))

  -- each joins before all that follow
  pub joints_ascend : ArePairs (λ p q. joins_before h k p q ≡ true) (joints h k)
  joints_ascend =
      sorted_ascend (joins_before h k) (joins_before_order h k) (joints h k)
      (sort_pairs (joins_before h k) (filter (λ p. degree h k p == 2) (arc_nodes h))
      (pairs_kept (λ p q. (joins_before h k p q || joins_before h k q p) ≡ true) (λ p. degree h k p == 2) (arc_nodes h)
      (pairs_weaker (λ p q. point_before p q ≡ true) (λ p q. (joins_before h k p q || joins_before h k q p) ≡ true) in_order (arc_nodes h)
      (nodes_ascend h))))
