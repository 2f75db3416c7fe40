-- The groups of rings by their faces.
use Rattle.std.proofs.Common.{◌≡◌, ◌⊎◌, inl, inr, ℕ, suc, ◌<◌, ◌≤◌, ◌==◌, Bool, true, false, cond, List, [], ◌∷◌, length, get_or, map, filter, All, sym, ap, ap₂, ◌∙◌, subst, arith}
use Rattle.std.specs.List.{range_with_len}
use Rattle.std.proofs.lemmas.Bool.{cases_lt, eqb-true, false_from_ne_true}
use Rattle.std.proofs.lemmas.List.{get_or-map, get_or_default, get_or_past, length-map}
use Rattle.std.proofs.lemmas.List.Elements.{All-filter}
use Rattle.std.proofs.lemmas.List.FromFn.{get_or-range_with_len, length-range_with_len}
use Rattle.lemmas.proofs.Members.{filter_none}
use Rattle.ring_walk.specs.declared.span.Span.{Span}
use Rattle.ring_walk.specs.declared.side.Side.{Side}
use Rattle.ring_walk.specs.Rings.{ring_face}
use Rattle.topo_write.specs.Building.{AreGroups, ring_at, rings_in}
use Rattle.topo_write.specs.Polygons.{of_face}
use Rattle.topo_write.proofs.Places.{by_places}

range_below : (n : ℕ) → All (λ i. i < n) (range_with_len 0 n)
range_below n k d l =
    let short : k < n = omega (arith, l, length-range_with_len 0 n) in
    let e = get_or-range_with_len 0 n k d short in
    omega (arith, e, short)

pub filter_le : {A : Type 0} (p : A → Bool) (xs : List A) → length (filter p xs) ≤ length xs
filter_le p [] = omega arith
filter_le {A} p (x ∷ xs) = by (p x) (filter_le p xs)
  where
    by : (b : Bool) → length (filter p xs) ≤ length xs → length (cond b (x ∷ filter p xs) (filter p xs)) ≤ suc (length xs)
    by true l = omega (arith, l)
    by false l = omega (arith, l)

-- a group past the last one is empty, as no ring has its face
pub group_is : (spans : List Span) (rings : List (List Side)) (faces : List ℕ) (groups : List (List ℕ)) (end : ℕ) → faces ≡ map (ring_face spans) rings → All (λ k. k < end) faces
    → length groups ≡ end → AreGroups faces (length faces) groups → (f : ℕ) → rings_in rings groups f ≡ of_face spans f rings
group_is spans rings faces groups end e below count known f = by (cases_lt f (length groups))
  where
    long : length faces ≡ length rings
    long = ap length e ∙ length-map rings (ring_face spans)

    no_ring : length groups ≤ f → All (λ r. (ring_face spans r == f) ≡ false) rings
    no_ring past i d l =
        let short : get_or faces i 0 < end = below i 0 (omega (arith, l, long)) in
        let is : get_or faces i 0 ≡ ring_face spans (get_or rings i d) = ap (λ (fs : List ℕ). get_or fs i 0) e ∙ get_or-map (ring_face spans) rings i d 0 l in
        false_from_ne_true (ring_face spans (get_or rings i d) == f) (λ t. let same = eqb-true (ring_face spans (get_or rings i d)) f t in absurd (omega (arith, same, is, short, count, past)))

    by : (f < length groups) ⊎ (length groups ≤ f) → rings_in rings groups f ≡ of_face spans f rings
    by (inl l) =
        ap (map (ring_at rings)) (known f l)
        ∙ ap₂ (λ (fs : List ℕ) (n : ℕ). map (ring_at rings) (filter (λ p. get_or fs p 0 == f) (range_with_len 0 n))) e long
        ∙ by_places (ring_face spans) rings [] f
    by (inr past) = ap (map (ring_at rings)) (get_or_past groups f [] past) ∙ sym (filter_none (λ r. ring_face spans r == f) rings (no_ring past))

-- each place is that of a ring
pub groups_within : (n : ℕ) (faces : List ℕ) (groups : List (List ℕ)) → length faces ≡ n → AreGroups faces (length faces) groups → All (All (λ p. p < n)) groups
groups_within n faces groups long known f d l =
    subst (All (λ p. p < n)) (sym (known_at f d l))
    (All-filter (λ p. get_or faces p 0 == f) (λ p. p < n) (range_with_len 0 (length faces)) (subst (λ m. All (λ p. p < m) (range_with_len 0 (length faces))) long (range_below (length faces))))
  where
    known_at : (k : ℕ) (e : List ℕ) → k < length groups → get_or groups k e ≡ filter (λ p. get_or faces p 0 == k) (range_with_len 0 (length faces))
    known_at k e m = get_or_default groups k e [] m ∙ known k m

-- a group is no longer than all together
pub groups_small : (n : ℕ) (faces : List ℕ) (groups : List (List ℕ)) → length faces < n → AreGroups faces (length faces) groups → All (λ g. length g < n) groups
groups_small n faces groups short known f d l =
    let is : get_or groups f d ≡ filter (λ p. get_or faces p 0 == f) (range_with_len 0 (length faces)) = get_or_default groups f d [] l ∙ known f l in
    let le = filter_le (λ p. get_or faces p 0 == f) (range_with_len 0 (length faces)) in
    let same = ap length is in
    let long = length-range_with_len 0 (length faces) in
    omega (arith, le, same, long, short)
