-- One index more of a ring.
use Rattle.std.proofs.Common.{◌≡◌, ◌<◌, ◌≤◌, ℕ, ◌+◌, ◌-◌, ◌^◌, Bool, true, false, cond, ℤ, pos, ◌+ℤ◌, List, [], ◌∷◌, length, get_or, drop, Option, Some, None, sym, ap, refl, ◌∙◌, arith, IsTrue, min, not, nat_lt, ◌⊎◌, inl, inr}
use Rattle.std.specs.Prelude.{slice_get}
use Rattle.std.proofs.lemmas.Bool.{cond-true, cond-false, lt-ltb, le-ltb, cases_lt, ltb-true, cond_both}
use Rattle.std.proofs.Math.Bool.{not-not}
use Rattle.std.proofs.lemmas.Int.{ints}
use Rattle.std.proofs.lemmas.List.{drop_more, at_drop_more, drop_all}
use Rattle.tgap_model.specs.declared.geometry.Point.{Point}
use Rattle.tgap_model.specs.Base.{same_point}
use Rattle.topology_forms.specs.Topology.{names_arc}
use Rattle.topology_forms.specs.Rings.{start_named, end_named, shoelace_named, open_from, open_place, is_collapsed, ring_area, is_raw_ring}
use Rattle.ring_sides.specs.Arcs.{are_at, index_after}
use Rattle.ring_sides.proofs.RawArcs.{ring_names}

-- ---- its area

pub area_next : (arcs : List (List Point)) (ring : List ℤ) (k : ℕ) (d s t whole : ℤ) → k < length ring → s +ℤ ring_area arcs (drop k ring) ≡ whole
    → t ≡ shoelace_named arcs (get_or ring k d) → (s +ℤ t) +ℤ ring_area arcs (drop (k + 1) ring) ≡ whole
area_next arcs ring k d s t whole inside so_far e =
    let one = at_drop_more (ring_area arcs) ring k d inside in
    omega (arith, ints, so_far, e, one)

-- ---- whether it is closed

-- the index after a place of a ring names an arc too
pub after_names : (n : ℕ) (ring : List ℤ) (place : ℕ) → IsTrue (is_raw_ring n ring) → place < length ring → IsTrue (names_arc n (index_after ring place))
after_names n ring place raw inside =
    cond_both (nat_lt (place + 1) (length ring)) _ _ (λ i. IsTrue (names_arc n i))
    (λ h. ring_names n ring (place + 1) (pos 0) raw (ltb-true _ _ h)) (λ h. ring_names n ring 0 (pos 0) raw (omega arith))

pub open_start : (arcs : List (List Point)) (ring : List ℤ) → open_from arcs (get_or ring 0 (pos 0)) 0 ring ≡ open_place arcs ring
open_start arcs [] = refl
open_start arcs (i ∷ ring) = refl

-- whether an arc ends where the next one starts, or else the first one
open_turn : (arcs : List (List Point)) (first i j : ℤ) (k : ℕ) (rest : List ℤ) → k < 2 ^ 32 - 1 → j ≡ get_or rest 0 first
    → open_from arcs first k (i ∷ rest) ≡ cond (same_point (end_named arcs i) (start_named arcs j)) (open_from arcs first (k + 1) rest) (Some k)
open_turn arcs first i j k [] small e = ap (λ n. cond (same_point (end_named arcs i) (start_named arcs n)) None (Some k)) (sym e)
open_turn arcs first i j k (m ∷ rest) small e =
    let next : min (k + 1) (2 ^ 32 - 1) ≡ k + 1 = omega arith in
    ap (λ n. cond (same_point (end_named arcs i) (start_named arcs m)) (open_from arcs first n (m ∷ rest)) (Some k)) next
    ∙ ap (λ n. cond (same_point (end_named arcs i) (start_named arcs n)) (open_from arcs first (k + 1) (m ∷ rest)) (Some k)) (sym e)

-- the next index is the first of the rest, or else of the ring
after_is : (ring : List ℤ) (k : ℕ) → index_after ring k ≡ get_or (drop (k + 1) ring) 0 (get_or ring 0 (pos 0))
after_is ring k = by (cases_lt (k + 1) (length ring))
  where
    by : ((k + 1 < length ring) ⊎ (length ring ≤ k + 1)) → index_after ring k ≡ get_or (drop (k + 1) ring) 0 (get_or ring 0 (pos 0))
    by (inl more) =
        cond-true _ _ _ (lt-ltb (k + 1) (length ring) more)
        ∙ ap (λ (is : List ℤ). get_or is 0 (get_or ring 0 (pos 0))) (sym (drop_more ring (k + 1) (pos 0) more))
    by (inr last) =
        cond-false _ _ _ (le-ltb (k + 1) (length ring) last)
        ∙ ap (λ (is : List ℤ). get_or is 0 (get_or ring 0 (pos 0))) (sym (drop_all (k + 1) ring last))

-- what is found at a place whose arc ends and the next one starts there
pub record IsTurn (arcs : List (List Point)) (ring : List ℤ) (k : ℕ) (differ : Bool) : Type 0 where
  pub inside : k < length ring
  pub small : length ring < 2 ^ 32 - 1
  pub value : differ ≡ not (same_point (end_named arcs (get_or ring k (pos 0))) (start_named arcs (index_after ring k)))

open_here : (arcs : List (List Point)) (ring : List ℤ) (k : ℕ) (differ : Bool) → IsTurn arcs ring k differ
    → open_from arcs (get_or ring 0 (pos 0)) k (drop k ring) ≡ cond (not differ) (open_from arcs (get_or ring 0 (pos 0)) (k + 1) (drop (k + 1) ring)) (Some k)
open_here arcs ring k differ turn =
    let first = get_or ring 0 (pos 0) in
    let here = at_drop_more (open_from arcs first k) ring k (pos 0) turn.inside in
    let one = open_turn arcs first (get_or ring k (pos 0)) (index_after ring k) k (drop (k + 1) ring) (omega (arith, turn.inside, turn.small)) (after_is ring k) in
    let test = same_point (end_named arcs (get_or ring k (pos 0))) (start_named arcs (index_after ring k)) in
    let back : not differ ≡ test = ap not turn.value ∙ not-not test in
    here ∙ one ∙ ap (λ b. cond b (open_from arcs first (k + 1) (drop (k + 1) ring)) (Some k)) (sym back)

-- an open place, and one that is not
pub open_stop : (arcs : List (List Point)) (ring : List ℤ) (k : ℕ) (differ : Bool) (whole : Option ℕ) → IsTurn arcs ring k differ
    → open_from arcs (get_or ring 0 (pos 0)) k (drop k ring) ≡ whole → differ ≡ true → Some k ≡ whole
open_stop arcs ring k differ whole turn so_far is =
    sym (ap (λ b. cond (not b) (open_from arcs (get_or ring 0 (pos 0)) (k + 1) (drop (k + 1) ring)) (Some k)) is) ∙ sym (open_here arcs ring k differ turn) ∙ so_far

pub open_next : (arcs : List (List Point)) (ring : List ℤ) (k : ℕ) (differ : Bool) (whole : Option ℕ) → IsTurn arcs ring k differ
    → open_from arcs (get_or ring 0 (pos 0)) k (drop k ring) ≡ whole → differ ≡ false → open_from arcs (get_or ring 0 (pos 0)) (k + 1) (drop (k + 1) ring) ≡ whole
open_next arcs ring k differ whole turn so_far is =
    sym (ap (λ b. cond (not b) (open_from arcs (get_or ring 0 (pos 0)) (k + 1) (drop (k + 1) ring)) (Some k)) is) ∙ sym (open_here arcs ring k differ turn) ∙ so_far

-- what is found at a place, from what the code compared
pub turn_from : (arcs : List (List Point)) (ring : List ℤ) (k : ℕ) (i j next : ℤ) (end start : Point) (differ : Bool) → k < length ring → length ring < 2 ^ 32 - 1
    → end ≡ end_named arcs i → i ≡ get_or ring k (pos 0) → start ≡ start_named arcs j → j ≡ next → next ≡ index_after ring k → differ ≡ not (same_point end start)
    → IsTurn arcs ring k differ
turn_from arcs ring k i j next end start differ inside small ends here starts there after e =
    let ends' : end ≡ end_named arcs (get_or ring k (pos 0)) = ends ∙ ap (end_named arcs) here in
    let starts' : start ≡ start_named arcs (index_after ring k) = starts ∙ ap (start_named arcs) (there ∙ after) in
    record { inside = inside; small = small; value = e ∙ ap (λ p. not (same_point p start)) ends' ∙ ap (λ p. not (same_point (end_named arcs (get_or ring k (pos 0))) p)) starts' }

-- ---- whether it is one place

pub collapsed_from : (arcs : List (List Point)) (ring : List ℤ) (i : ℤ) → slice_get ring 0 ≡ Some i → is_collapsed arcs ring ≡ are_at arcs ring (start_named arcs i)
collapsed_from arcs [] i e = absurd cc
collapsed_from arcs (j ∷ ring) i e =
    let same : j ≡ i = cc in
    ap (λ k. are_at arcs (j ∷ ring) (start_named arcs k)) same
