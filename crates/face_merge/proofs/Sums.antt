-- The areas of all faces, one more arc at a time.
use Rattle.std.proofs.Common.{◌≡◌, ◌<◌, ◌≤◌, ℕ, ◌+◌, ◌*◌, Bool, true, false, ◌==◌, ◌⊎◌, inl, inr, ℤ, pos, neg_ℤ, ◌+ℤ◌, ◌-ℤ◌, ◌*ℤ◌, unsigned_abs, FitsSigned, to_z, of_z, List, [], ◌∷◌, length, get_or, take, fold, cond, sym, arith, eq-eqb, ne_eqb}
use Rattle.std.specs.Int.{w128}
use Rattle.std.specs.List.{All, AllByRecursion}
use Rattle.std.proofs.lemmas.Int.{ints, to_z-of_z, fits_signed_mul}
use Rattle.std.proofs.lemmas.Bool.{cases_eq, cond-true, cond-false}
use Rattle.std.proofs.lemmas.List.{get_or-set_same, get_or-set_other, length-set, length-take}
use Rattle.std.proofs.lemmas.List.Elements.{All-take, recursion_from_All}
use Rattle.std.proofs.lemmas.List.Sums.{fold_more}
use Rattle.tgap_model.specs.declared.merge.LabelledArc.{LabelledArc}
use Rattle.tgap_model.specs.declared.limits.TheConstants.{MAX_ARCS, MAX_WEIGHT}
use Rattle.tgap_model.specs.Bounds.{max_arc_area, max_area}
use Rattle.tgap_model.specs.History.{area_part, area_of}
use Rattle.face_merge.specs.Measures.{IsMeasured}
use Rattle.face_merge.specs.Areas.{added}

-- ---- how large an area gets

-- what an arc gives to a face
part_size : (b c : Bool) (z : ℤ) → unsigned_abs z ≤ max_arc_area → unsigned_abs (cond b z (pos 0) -ℤ cond c z (pos 0)) ≤ 2 * max_arc_area
part_size true true z p = omega (arith, ints)
part_size true false z p = omega (arith, ints)
part_size false true z p = omega (arith, ints)
part_size false false z p = omega (arith, ints)

-- one more part
more_size : (s t : ℤ) (n : ℕ) → unsigned_abs s ≤ n → unsigned_abs t ≤ 2 * max_arc_area → unsigned_abs (s +ℤ t) ≤ n + 2 * max_arc_area
more_size s t n p q = omega (arith, ints)

sum_size : (f : ℕ) (s : ℤ) (n : ℕ) (arcs : List LabelledArc) → AllByRecursion IsMeasured arcs → unsigned_abs s ≤ n
    → unsigned_abs (fold (λ sum a. sum +ℤ area_part f a) s arcs) ≤ n + length arcs * (2 * max_arc_area)
sum_size f s n [] each p = omega arith
sum_size f s n (a ∷ arcs) each p =
    let part = part_size (a.left == f) (a.right == f) a.area each.0.area in
    let more = more_size s (area_part f a) n p part in
    let rest = sum_size f (s +ℤ area_part f a) (n + 2 * max_arc_area) arcs each.1 more in
    omega (arith, rest)

-- twice the area that some arcs give to a face
area_size : (f : ℕ) (arcs : List LabelledArc) → All IsMeasured arcs → unsigned_abs (area_of arcs f) ≤ length arcs * (2 * max_arc_area)
area_size f arcs each =
    let size = sum_size f (pos 0) 0 arcs (recursion_from_All IsMeasured arcs each) (omega (arith, ints)) in
    omega (arith, size)

-- twice the area of a face
pub area_small : (f : ℕ) (arcs : List LabelledArc) → All IsMeasured arcs → length arcs ≤ MAX_ARCS → unsigned_abs (area_of arcs f) ≤ max_area
area_small f arcs each few = omega (arith, area_size f arcs each)

-- twice the area that the first arcs give to a face, with room for one more part
pub area_so_far : (f : ℕ) (arcs : List LabelledArc) (i : ℕ) → All IsMeasured arcs → i < length arcs → length arcs ≤ MAX_ARCS
    → unsigned_abs (area_of (take i arcs) f) + max_arc_area ≤ max_area
area_so_far f arcs i each inside few =
    omega (arith, area_size f (take i arcs) (All-take IsMeasured i arcs each), length-take i arcs)

-- ---- one more arc

-- the areas with one part added
pub added_at : (xs : List ℤ) (l : ℕ) (z : ℤ) (f : ℕ) → l < length xs → get_or (added xs l z) f (pos 0) ≡ get_or xs f (pos 0) +ℤ cond (l == f) z (pos 0)
added_at xs l z f p = chosen (cases_eq l f)
  where
    chosen : (l ≡ f) ⊎ (l ≡ f → ⊥) → get_or (added xs l z) f (pos 0) ≡ get_or xs f (pos 0) +ℤ cond (l == f) z (pos 0)
    chosen (inl e) =
        let here : get_or (added xs l z) l (pos 0) ≡ get_or xs l (pos 0) +ℤ z = get_or-set_same xs l (get_or xs l (pos 0) +ℤ z) (pos 0) p in
        rw (cond-true (l == f) z (pos 0) (eq-eqb l f e), ← e) here
    chosen (inr n) =
        let there : get_or (added xs l z) f (pos 0) ≡ get_or xs f (pos 0) = get_or-set_other xs l f (get_or xs l (pos 0) +ℤ z) (pos 0) (λ e. n (sym e)) in
        rw (cond-false (l == f) z (pos 0) (ne_eqb l f n)) (omega (arith, ints, there))

-- they keep their number
pub length-added : (xs : List ℤ) (l : ℕ) (z : ℤ) → length (added xs l z) ≡ length xs
length-added xs l z = length-set xs l (get_or xs l (pos 0) +ℤ z)

-- one part more or none
pub chosen_size : (s z : ℤ) (b : Bool) (n : ℕ) → unsigned_abs s + max_arc_area ≤ n → unsigned_abs z ≤ max_arc_area → unsigned_abs (s +ℤ cond b z (pos 0)) ≤ n
chosen_size s z true n p q = omega (arith, ints)
chosen_size s z false n p q = omega (arith, ints)

-- its area goes to its left face, and its negative to its right face
pub areas_next : (xs : List ℤ) (arcs : List LabelledArc) (i : ℕ) (d : LabelledArc) (f : ℕ) → i < length arcs
    → (get_or arcs i d).left < length xs → (get_or arcs i d).right < length xs → get_or xs f (pos 0) ≡ area_of (take i arcs) f
    → get_or (added (added xs (get_or arcs i d).left (get_or arcs i d).area) (get_or arcs i d).right (neg_ℤ (get_or arcs i d).area)) f (pos 0) ≡ area_of (take (i + 1) arcs) f
areas_next xs arcs i d f p l r h =
    let a = get_or arcs i d in
    let ys = added xs a.left a.area in
    let r' : a.right < length ys = omega (arith, r, length-set xs a.left (get_or xs a.left (pos 0) +ℤ a.area)) in
    let e1 = added_at xs a.left a.area f l in
    let e2 = added_at ys a.right (neg_ℤ a.area) f r' in
    let e3 = fold_more (λ sum b. sum +ℤ area_part f b) (pos 0) arcs i d p in
    joined _ _ _ _ _ (a.left == f) (a.right == f) a.area e1 e2 e3 h
  where
    joined : (x y w old new : ℤ) (b c : Bool) (z : ℤ) → y ≡ x +ℤ cond b z (pos 0) → w ≡ y +ℤ cond c (neg_ℤ z) (pos 0)
        → new ≡ old +ℤ (cond b z (pos 0) -ℤ cond c z (pos 0)) → x ≡ old → w ≡ new
    joined x y w old new true true z e1 e2 e3 h = omega (arith, ints)
    joined x y w old new true false z e1 e2 e3 h = omega (arith, ints)
    joined x y w old new false true z e1 e2 e3 h = omega (arith, ints)
    joined x y w old new false false z e1 e2 e3 h = omega (arith, ints)

-- ---- numbers as the code hands them over

-- an area times a weight fits
pub weighted_fits : (a : ℤ) (n : ℕ) → unsigned_abs a ≤ max_area → n ≤ MAX_WEIGHT → FitsSigned w128 (a *ℤ pos n)
weighted_fits a n la ln =
    let size : unsigned_abs (pos n) ≤ MAX_WEIGHT = omega (arith, ints) in
    fits_signed_mul w128 a (pos n) max_area MAX_WEIGHT la size (omega arith)

-- both, as the code hands them over
pub weighted_is : (a w : ℤ) (n : ℕ) → unsigned_abs a ≤ max_area → w ≡ pos n → n ≤ MAX_WEIGHT
    → let product = to_z w128 (of_z w128 a) *ℤ to_z w128 (of_z w128 w) in (FitsSigned w128 product) × (to_z w128 (of_z w128 product) ≡ a *ℤ pos n)
weighted_is a w n la e ln =
    let ea : to_z w128 (of_z w128 a) ≡ a = omega (arith, ints) in
    let ew : to_z w128 (of_z w128 w) ≡ pos n = omega (arith, ints) in
    let fits = weighted_fits a n la ln in
    (rw (ea, ew) fits, rw (ea, ew) (to_z-of_z w128 (a *ℤ pos n) fits))

-- an area
pub area_is : (z : ℤ) → unsigned_abs z ≤ max_arc_area → to_z w128 (of_z w128 z) ≡ z
area_is z size = omega (arith, ints)

-- its negative
pub minus_is : (z : ℤ) → unsigned_abs z ≤ max_arc_area → to_z w128 (of_z w128 (pos 0 -ℤ to_z w128 (of_z w128 z))) ≡ neg_ℤ z
minus_is z size = omega (arith, ints)

-- the areas of two faces together
pub joined_is : (x y z : ℤ) → unsigned_abs x ≤ max_area → unsigned_abs y ≤ max_area → z ≡ x +ℤ y → to_z w128 (of_z w128 z) ≡ x +ℤ y
joined_is x y z p q e = omega (arith, ints)

-- the area of a face
pub face_area_is : (x z : ℤ) → unsigned_abs x ≤ max_area → z ≡ x → to_z w128 (of_z w128 z) ≡ x
face_area_is x z p e = omega (arith, ints)
