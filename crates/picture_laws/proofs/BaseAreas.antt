-- The areas of base faces together, and the laws of areas.
use Rattle.std.proofs.Common.{◌≡◌, ◌≢◌, inl, inr, ℕ, zero, suc, ◌+◌, ◌<◌, ◌≤◌, ◌==◌, ◌&&◌, ◌||◌, Bool, true, false, cond, not, ℤ, pos, ◌+ℤ◌, ◌-ℤ◌, unsigned_abs, List, [], ◌∷◌, map, filter, length, refl, sym, ap, ap₂, ◌∙◌, arith}
use Rattle.std.specs.Prelude.{sum_by}
use Rattle.std.specs.List.{range_with_len}
use Rattle.std.proofs.lemmas.Int.{ints}
use Rattle.std.proofs.lemmas.Bool.{cases_eq, eq-eqb, ne_eqb}
use Rattle.std.proofs.lemmas.List.Elements.{All-weaker}
use Rattle.std.proofs.lemmas.List.Sums.{sum_by-cons}
use Rattle.tgap_model.specs.declared.base.BaseArc.{BaseArc}
use Rattle.tgap_model.specs.Base.{BaseMap, is_base}
use Rattle.tgap_model.specs.Point.{cross, area2, shoelace}
use Rattle.tgap_model.specs.History.{labelled, area_part, area_of}
use Rattle.tgap_model.specs.Merged.{MergedMap, merged, label_at, labelled_at}
use Rattle.tgap_model.specs.Slice.{slice}
use Rattle.tgap_model.proofs.BaseFacts.{ArcFacts, base_facts, each_arc}
use Rattle.map_laws.specs.Inside.{borders}
use Rattle.slice_laws.proofs.Outside.{outside_label}
use Rattle.removal_laws.specs.Trace.{Taken, trace_to}
use Rattle.picture_laws.specs.Areas.{base_faces, base_area, left_later, right_later, triangle_part, BaseAreasAdd, AreasLessTriangles, FacesStayNear}
use Rattle.picture_laws.proofs.Sums.{int_sum, fold_is_sum, int_sum-agree, int_sum-same, int_sum-map, int_sum-sub, int_sum-swap}
use Rattle.picture_laws.proofs.Triangles.{area_is_sum}
use Rattle.picture_laws.proofs.SliceAreas.{arc_part, lost_part, each_areas}

-- ---- the faces of a range that pass a test

-- what the numbers of a range that pass give where each stands for z if it is x
abbrev met : (ℕ → Bool) → ℕ → ℤ → List ℕ → ℤ
met q x z ns = int_sum (λ g. cond (x == g) z (pos 0)) (filter q ns)

-- a number that is not x gives nothing
met_other : (q : ℕ → Bool) (x : ℕ) (z : ℤ) (i : ℕ) (rest : List ℕ) → x ≢ i → met q x z (i ∷ rest) ≡ met q x z rest
met_other q x z i rest ne = by (q i)
  where
    by : (b : Bool) → int_sum (λ g. cond (x == g) z (pos 0)) (cond b (i ∷ filter q rest) (filter q rest)) ≡ met q x z rest
    by true =
        let here = ap (λ (t : Bool). cond t z (pos 0)) (ne_eqb x i ne) in
        omega (arith, ints, here)
    by false = refl

-- x gives z where it passes
met_itself : (q : ℕ → Bool) (x : ℕ) (z : ℤ) (i : ℕ) (rest : List ℕ) → x ≡ i → met q x z rest ≡ pos 0 → met q x z (i ∷ rest) ≡ cond (q x) z (pos 0)
met_itself q x z i rest e none = by (q i) refl
  where
    by : (b : Bool) → q i ≡ b → int_sum (λ g. cond (x == g) z (pos 0)) (cond b (i ∷ filter q rest) (filter q rest)) ≡ cond (q x) z (pos 0)
    by true t =
        let here = ap (λ (t : Bool). cond t z (pos 0)) (eq-eqb x i e) in
        let passes = ap (λ (t : Bool). cond t z (pos 0)) (ap q e ∙ t) in
        omega (arith, ints, here, none, passes)
    by false t = none ∙ sym (ap (λ (t : Bool). cond t z (pos 0)) (ap q e ∙ t))

-- a number below a range is not met in it
below_range : (q : ℕ → Bool) (x : ℕ) (z : ℤ) (i n : ℕ) → x < i → met q x z (range_with_len i n) ≡ pos 0
below_range q x z i zero less = refl
below_range q x z i (suc n) less =
    met_other q x z i (range_with_len (i + 1) n) (λ e. omega (arith, e, less)) ∙ below_range q x z (i + 1) n (omega (arith, less))

-- one within it is met once
in_range : (q : ℕ → Bool) (x : ℕ) (z : ℤ) (i n : ℕ) → i ≤ x → x < i + n → met q x z (range_with_len i n) ≡ cond (q x) z (pos 0)
in_range q x z i zero low high = absurd (omega (arith, low, high))
in_range q x z i (suc n) low high = elim (cases_eq x i) [
  | inl e ↦ met_itself q x z i (range_with_len (i + 1) n) e (below_range q x z (i + 1) n (omega (arith, e)))
  | inr ne ↦ met_other q x z i (range_with_len (i + 1) n) ne ∙ in_range q x z (i + 1) n (omega (arith, low, ne)) (omega (arith, high))
]

-- ---- the areas of base faces

module _ (m : BaseMap) (base : is_base m ≡ true) (k f : ℕ) (inner : f ≢ 0) where
  abbrev h : MergedMap
  h = merged m

  abbrev is_part : ℕ → Bool
  is_part g = label_at (merged m) k g == f

  abbrev parts : List ℕ
  parts = base_faces (merged m) k f

  -- the outside is no base face of it
  side_part : (x : ℕ) (z : ℤ) → x ≤ length m.classes → int_sum (λ g. cond (x == g) z (pos 0)) parts ≡ cond (is_part x) z (pos 0)
  side_part zero z l =
      below_range is_part 0 z 1 (length m.classes) (omega arith)
      ∙ sym (ap (λ (t : Bool). cond t z (pos 0)) (ap (λ (g : ℕ). g == f) (outside_label m k) ∙ ne_eqb 0 f (λ e. inner (sym e))))
  side_part (suc x) z l = in_range is_part (suc x) z 1 (length m.classes) (omega arith) (omega (arith, l))

  arc_sides : (a : BaseArc) → ArcFacts (length m.classes) a → arc_part (λ g. g == f) (label_at (merged m) k) a ≡ int_sum (λ g. area_part g (labelled a)) parts
  arc_sides a facts =
      ap₂ (λ y z. y -ℤ z) (sym (side_part a.left (shoelace a.points) facts.left)) (sym (side_part a.right (shoelace a.points) facts.right))
      ∙ sym (int_sum-sub (λ g. cond (a.left == g) (shoelace a.points) (pos 0)) (λ g. cond (a.right == g) (shoelace a.points) (pos 0)) parts)

  parts_add : int_sum (arc_part (λ g. g == f) (label_at (merged m) k)) m.arcs ≡ base_area (merged m) parts
  parts_add =
      int_sum-agree (arc_part (λ g. g == f) (label_at (merged m) k)) (λ a. int_sum (λ g. area_part g (labelled a)) parts) m.arcs
      (All-weaker (λ a. ArcFacts (length m.classes) a) (λ a. arc_part (λ g. g == f) (label_at (merged m) k) a ≡ int_sum (λ g. area_part g (labelled a)) parts)
      arc_sides m.arcs (each_arc m (base_facts m base)))
      ∙ int_sum-swap (λ a g. area_part g (labelled a)) m.arcs parts
      ∙ int_sum-same (λ g. int_sum (λ a. area_part g (labelled a)) m.arcs) (λ g. area_of (map labelled m.arcs) g)
      (λ g. sym (fold_is_sum (area_part g) (map labelled m.arcs) ∙ int_sum-map (area_part g) labelled m.arcs)) parts
      ∙ sym (fold_is_sum (λ g. area_of (map labelled m.arcs) g) parts)

pub base_areas_add : BaseAreasAdd
base_areas_add m base k f inner =
    fold_is_sum (area_part f) (map (labelled_at (merged m) k) m.arcs)
    ∙ int_sum-map (area_part f) (labelled_at (merged m) k) m.arcs
    ∙ parts_add m base k f inner

pub areas_less_triangles : AreasLessTriangles
unfolding slice
areas_less_triangles m base planar k l f inner =
    area_is_sum (slice m k).edges f ∙ each_areas m base planar k l (λ g. g == f)
    ∙ ap₂ (λ y z. y -ℤ z) (parts_add m base k f inner)
    (sym (fold_is_sum (λ (t : Taken). triangle_part f (left_later (merged m) k t) (right_later (merged m) k t) t.a t.b t.c) (trace_to (merged m) k)))

-- ---- the bound

-- a triangle between two faces counts where one of them is f alone
part_bound : (b c : Bool) (z : ℤ) → unsigned_abs (cond b z (pos 0) -ℤ cond c z (pos 0)) ≡ cond ((b && not c) || (c && not b)) (unsigned_abs z) 0
part_bound true true z = omega (arith, ints)
part_bound true false z = omega (arith, ints)
part_bound false true z = omega (arith, ints)
part_bound false false z = omega (arith, ints)

lost_bound : (h : MergedMap) (k f : ℕ) (ts : List Taken)
    → unsigned_abs (int_sum (lost_part (λ g. g == f) h k) ts) ≤ sum_by (λ (t : Taken). area2 t.a t.b t.c) (filter (λ t. borders f (left_later h k t) (right_later h k t)) ts)
lost_bound h k f [] = omega (arith, ints)
lost_bound h k f (t ∷ ts) = by (borders f (left_later h k t) (right_later h k t)) (part_bound (left_later h k t == f) (right_later h k t == f) (cross t.a t.b t.c)) (lost_bound h k f ts)
  where
    rest : List Taken
    rest = filter (λ t. borders f (left_later h k t) (right_later h k t)) ts

    size : Taken → ℕ
    size t = area2 t.a t.b t.c

    more : (y z : ℤ) (a b : ℕ) → unsigned_abs y ≤ a → unsigned_abs z ≤ b → unsigned_abs (y +ℤ z) ≤ a + b
    more y z a b p q = omega (arith, ints, p, q)

    by : (b : Bool) → unsigned_abs (lost_part (λ g. g == f) h k t) ≡ cond b (area2 t.a t.b t.c) 0 → unsigned_abs (int_sum (lost_part (λ g. g == f) h k) ts) ≤ sum_by size rest
        → unsigned_abs (lost_part (λ g. g == f) h k t +ℤ int_sum (lost_part (λ g. g == f) h k) ts) ≤ sum_by size (cond b (t ∷ rest) rest)
    by true e l =
        let both = more (lost_part (λ g. g == f) h k t) (int_sum (lost_part (λ g. g == f) h k) ts) (area2 t.a t.b t.c) (sum_by size rest) (omega (arith, e)) l in
        let head = sum_by-cons size t rest in
        omega (arith, both, head)
    by false e l =
        let both = more (lost_part (λ g. g == f) h k t) (int_sum (lost_part (λ g. g == f) h k) ts) 0 (sum_by size rest) (omega (arith, e)) l in
        omega (arith, both)

pub faces_stay_near : FacesStayNear
faces_stay_near m base planar k l f inner =
    let exact = areas_less_triangles m base planar k l f inner in
    let lost = fold_is_sum (λ (t : Taken). triangle_part f (left_later (merged m) k t) (right_later (merged m) k t) t.a t.b t.c) (trace_to (merged m) k) in
    bounded _ _ _ _ _ exact lost (lost_bound (merged m) k f (trace_to (merged m) k))
  where
    bounded : (now base lost sum : ℤ) (n : ℕ) → now ≡ base -ℤ lost → lost ≡ sum → unsigned_abs sum ≤ n → unsigned_abs (now -ℤ base) ≤ n
    bounded now base lost sum n e g le = omega (arith, ints, e, g, le)
