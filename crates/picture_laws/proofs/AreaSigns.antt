-- The areas of rings follow how often they go round points.
use Rattle.std.proofs.Common.{◌≡◌, ℕ, Bool, true, false, cond, not, ◌&&◌, List, [], ◌∷◌, ◌++◌, map, All, Contains, ℤ, pos, neg_ℤ, ◌+ℤ◌, ◌-ℤ◌, ◌<ℤ◌, ◌≤ℤ◌, refl, sym, ap, ap₂, ◌∙◌, subst, arith}
use Rattle.std.proofs.lemmas.Int.{ints}
use Rattle.std.proofs.lemmas.List.Elements.{All-weaker}
use Rattle.lemmas.proofs.Polynomials.{same_value, var, minus, ◌⊖◌, ◌⊗◌}
use Rattle.tgap_model.specs.declared.geometry.Point.{Point}
use Rattle.tgap_model.specs.declared.geometry.Fraction.{Fraction}
use Rattle.tgap_model.specs.declared.geometry.Seg.{Seg}
use Rattle.tgap_model.specs.Base.{BaseMap}
use Rattle.tgap_model.specs.Point.{shoelace_term}
use Rattle.tgap_model.specs.Segment.{IsBetweenColumns, line_through, crosses, goes_right, is_above}
use Rattle.tgap_model.specs.Slice.{slice}
use Rattle.slice_laws.proofs.Mirrored.{one_direction, meets_ray_flip}
use Rattle.slice_laws.proofs.Paths.{flip}
use Rattle.ring_walk.specs.declared.side.Side.{Side}
use Rattle.ring_walk.specs.Rings.{rings_of}
use Rattle.ring_walk.specs.Areas.{ring_area, ring_segments}
use Rattle.topo_write.specs.Polygons.{lines_of}
use Rattle.topo_laws.specs.RingFaces.{slice_spans}
use Rattle.picture_laws.specs.FaceRings.{winding, winding_part, all_segments, all_areas, IsMidway, RingAreasFollowWinding, RingAreasGrow}
use Rattle.picture_laws.proofs.Sums.{int_sum, fold_is_sum, int_sum-append, int_sum-agree, int_sum-same, int_sum-zero, int_sum-map, int_sum-flat_map}
use Rattle.picture_laws.proofs.ClosedRings.{closed_ring}
use Rattle.picture_laws.proofs.RingAreas.{ring_terms}
use Rattle.picture_laws.proofs.AlongSegment.{seen, winding_is_seen}
use Rattle.picture_laws.proofs.AreaColumns.{area_not_negative}
use Rattle.picture_laws.proofs.AreaGrowth.{midway_between, area_is_positive}

-- ---- segments the other way round

turned_part : (p : Fraction) (s : Seg) → winding_part p (flip s) ≡ neg_ℤ (winding_part p s)
turned_part p s =
    ap (λ (b : Bool). cond b (cond (goes_right (flip s)) (neg_ℤ (pos 1)) (pos 1)) (pos 0)) (meets_ray_flip p s)
    ∙ by (crosses (line_through p) s) refl (is_above s p)
  where
    two : (g k : Bool) → cond k (cond (not g) (neg_ℤ (pos 1)) (pos 1)) (pos 0) ≡ neg_ℤ (cond k (cond g (neg_ℤ (pos 1)) (pos 1)) (pos 0))
    two true true = refl
    two true false = refl
    two false true = refl
    two false false = refl

    by : (b : Bool) → crosses (line_through p) s ≡ b → (k : Bool)
        → cond (b && k) (cond (goes_right (flip s)) (neg_ℤ (pos 1)) (pos 1)) (pos 0) ≡ neg_ℤ (cond (b && k) (cond (goes_right s) (neg_ℤ (pos 1)) (pos 1)) (pos 0))
    by true e k = ap (λ (g : Bool). cond k (cond g (neg_ℤ (pos 1)) (pos 1)) (pos 0)) (one_direction (line_through p) s e) ∙ two (goes_right s) k
    by false e k = refl

int_sum-neg : {A : Type 0} (f : A → ℤ) (xs : List A) → int_sum (λ x. neg_ℤ (f x)) xs ≡ neg_ℤ (int_sum f xs)
int_sum-neg f [] = refl
int_sum-neg f (x ∷ xs) = let rest = int_sum-neg f xs in omega (arith, ints, rest)

-- ---- rings of a slice

module _ (m : BaseMap) (k : ℕ) where
  all_closed : (rings : List (List Side)) → All (Contains (rings_of (slice_spans m k))) rings → (value : Point → ℤ)
      → int_sum (λ s. value s.b -ℤ value s.a) (all_segments m k rings) ≡ pos 0
  all_closed rings each value =
      int_sum-flat_map (λ (s : Seg). value s.b -ℤ value s.a) (ring_segments (lines_of (slice m k).edges)) rings
      ∙ int_sum-agree (λ r. int_sum (λ (s : Seg). value s.b -ℤ value s.a) (ring_segments (lines_of (slice m k).edges) r)) (λ r. pos 0) rings
      (All-weaker (Contains (rings_of (slice_spans m k))) (λ r. int_sum (λ (s : Seg). value s.b -ℤ value s.a) (ring_segments (lines_of (slice m k).edges) r) ≡ pos 0)
      (λ r has. closed_ring m k r has value) rings each)
      ∙ int_sum-zero (λ (r : List Side). pos 0) (λ r. refl) rings

  areas_are : (rings : List (List Side)) → all_areas m k rings ≡ int_sum (λ (s : Seg). shoelace_term s.a s.b) (all_segments m k rings)
  areas_are rings =
      fold_is_sum (ring_area (lines_of (slice m k).edges)) rings
      ∙ int_sum-same (ring_area (lines_of (slice m k).edges)) (λ r. int_sum (λ (s : Seg). shoelace_term s.a s.b) (ring_segments (lines_of (slice m k).edges) r)) (ring_terms (lines_of (slice m k).edges)) rings
      ∙ sym (int_sum-flat_map (λ (s : Seg). shoelace_term s.a s.b) (ring_segments (lines_of (slice m k).edges)) rings)

  module _ (qs rs : List (List Side)) (in_q : All (Contains (rings_of (slice_spans m k))) qs) (in_r : All (Contains (rings_of (slice_spans m k))) rs)
      (less : (p : Fraction) → IsBetweenColumns (line_through p) → winding p (all_segments m k qs) ≤ℤ winding p (all_segments m k rs)) where
    -- the second rings, and the first ones the other way round
    abbrev both : List Seg
    both = all_segments m k rs ++ map flip (all_segments m k qs)

    abbrev term : Seg → ℤ
    term s = shoelace_term s.a s.b

    both_closed : (value : Point → ℤ) → int_sum (λ s. value s.b -ℤ value s.a) both ≡ pos 0
    both_closed value =
        int_sum-append (λ (s : Seg). value s.b -ℤ value s.a) (all_segments m k rs) (map flip (all_segments m k qs))
        ∙ ap₂ (λ u v. u +ℤ v) (all_closed rs in_r value)
        (int_sum-map (λ (s : Seg). value s.b -ℤ value s.a) flip (all_segments m k qs)
        ∙ int_sum-same (λ (s : Seg). value s.a -ℤ value s.b) (λ s. neg_ℤ (value s.b -ℤ value s.a)) (λ s. back (value s.a) (value s.b)) (all_segments m k qs)
        ∙ int_sum-neg (λ (s : Seg). value s.b -ℤ value s.a) (all_segments m k qs) ∙ ap neg_ℤ (all_closed qs in_q value))
      where
        back : (a b : ℤ) → a -ℤ b ≡ neg_ℤ (b -ℤ a)
        back a b = omega (arith, ints)

    both_seen : (p : Fraction) → IsBetweenColumns (line_through p) → int_sum (seen p) both ≡ winding p (all_segments m k rs) +ℤ neg_ℤ (winding p (all_segments m k qs))
    both_seen p between =
        sym (winding_is_seen p between both)
        ∙ fold_is_sum (winding_part p) both
        ∙ int_sum-append (winding_part p) (all_segments m k rs) (map flip (all_segments m k qs))
        ∙ ap₂ (λ u v. u +ℤ v) (sym (fold_is_sum (winding_part p) (all_segments m k rs)))
        (int_sum-map (winding_part p) flip (all_segments m k qs) ∙ int_sum-same (λ s. winding_part p (flip s)) (λ s. neg_ℤ (winding_part p s)) (turned_part p) (all_segments m k qs)
        ∙ int_sum-neg (winding_part p) (all_segments m k qs) ∙ ap neg_ℤ (sym (fold_is_sum (winding_part p) (all_segments m k qs))))

    both_round : (p : Fraction) → IsBetweenColumns (line_through p) → pos 0 ≤ℤ int_sum (seen p) both
    both_round p between = subst (λ (z : ℤ). pos 0 ≤ℤ z) (sym (both_seen p between)) (more_than (winding p (all_segments m k rs)) (winding p (all_segments m k qs)) (less p between))
      where
        more_than : (a b : ℤ) → b ≤ℤ a → pos 0 ≤ℤ (a +ℤ neg_ℤ b)
        more_than a b h = omega (arith, ints)

    both_area : int_sum (λ (s : Seg). shoelace_term s.a s.b) both ≡ all_areas m k rs +ℤ neg_ℤ (all_areas m k qs)
    both_area =
        int_sum-append (λ (s : Seg). shoelace_term s.a s.b) (all_segments m k rs) (map flip (all_segments m k qs))
        ∙ ap₂ (λ u v. u +ℤ v) (sym (areas_are rs))
        (int_sum-map (λ (s : Seg). shoelace_term s.a s.b) flip (all_segments m k qs)
        ∙ int_sum-same (λ (s : Seg). shoelace_term s.b s.a) (λ s. neg_ℤ (shoelace_term s.a s.b)) turned_term (all_segments m k qs)
        ∙ int_sum-neg (λ (s : Seg). shoelace_term s.a s.b) (all_segments m k qs) ∙ ap neg_ℤ (sym (areas_are qs)))
      where
        turned_term : (s : Seg) → shoelace_term s.b s.a ≡ neg_ℤ (shoelace_term s.a s.b)
        turned_term s = same_value (s.a.x ∷ s.a.y ∷ s.b.x ∷ s.b.y ∷ []) (var 2 ⊗ var 1 ⊖ var 0 ⊗ var 3) (minus (var 0 ⊗ var 3 ⊖ var 2 ⊗ var 1)) refl

    no_less : all_areas m k qs ≤ℤ all_areas m k rs
    no_less = below (all_areas m k rs) (all_areas m k qs) (subst (λ (z : ℤ). pos 0 ≤ℤ z) both_area (area_not_negative both both_closed both_round))
      where
        below : (a b : ℤ) → pos 0 ≤ℤ (a +ℤ neg_ℤ b) → b ≤ℤ a
        below a b h = omega (arith, ints)

    more : (v : ℤ) (p : Fraction) → IsMidway p v → winding p (all_segments m k qs) <ℤ winding p (all_segments m k rs) → all_areas m k qs <ℤ all_areas m k rs
    more v p midway h =
        below (all_areas m k rs) (all_areas m k qs) (subst (λ (z : ℤ). pos 0 <ℤ z) both_area (area_is_positive p v midway both both_closed both_round
        (subst (λ (z : ℤ). pos 0 <ℤ z) (sym (both_seen p (midway_between p v midway))) (more_than (winding p (all_segments m k rs)) (winding p (all_segments m k qs)) h))))
      where
        below : (a b : ℤ) → pos 0 <ℤ (a +ℤ neg_ℤ b) → b <ℤ a
        below a b h = omega (arith, ints)

        more_than : (a b : ℤ) → b <ℤ a → pos 0 <ℤ (a +ℤ neg_ℤ b)
        more_than a b h = omega (arith, ints)

pub ring_areas_follow_winding : RingAreasFollowWinding
ring_areas_follow_winding m base planar k l qs rs in_q in_r less = no_less m k qs rs in_q in_r less

pub ring_areas_grow : RingAreasGrow
ring_areas_grow m base planar k l qs rs in_q in_r less v p midway h = more m k qs rs in_q in_r less v p midway h
