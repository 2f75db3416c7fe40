-- The rings are the orbits of the sides: each side stands in one of them, once.
use Rattle.std.proofs.Common.{◌≡◌, ◌≢◌, ⊎_elim, ℕ, zero, suc, ◌+◌, ◌-◌, ◌*◌, ◌<◌, ◌≤◌, Bool, true, false, List, [], ◌∷◌, ◌++◌, length, map, fold, get_or, All, AllPairs, Contains, refl, sym, ap, ◌∙◌, subst, true≢false, arith}
use Rattle.std.specs.List.{range_with_len, list_any}
use Rattle.std.proofs.lemmas.List.{append-nil}
use Rattle.std.proofs.lemmas.List.Concat.{flat_map-append}
use Rattle.std.proofs.lemmas.List.Elements.{All-nil, All-cons, All-append, All-contains, Contains-append_left, Contains-append_right, Contains-get_or}
use Rattle.std.proofs.lemmas.List.Folds.{Any-from_list_any, list_any-from_Any}
use Rattle.std.proofs.lemmas.Bool.{cases_lt}
use Rattle.lemmas.proofs.Members.{AllPairs-append, AllPairs-nil, Contains-flat_map, Contains-from_flat_map}
use Rattle.ring_walk.specs.declared.span.Span.{Span}
use Rattle.ring_walk.specs.declared.side.Side.{Side}
use Rattle.ring_walk.specs.Sides.{side_number, same_side, numbered}
use Rattle.ring_walk.specs.Rings.{next_side, ring_from, is_in_ring, with_ring_of, rings_of}
use Rattle.ring_walk.specs.Spans.{IsSide}
use Rattle.ring_walk.proofs.SideNumbers.{same_side-itself, same_side-true, side_number-numbered, numbered-side_number, numbered_within, number_within}
use Rattle.ring_walk.proofs.Walks.{no_ring, one_ring}
use Rattle.ring_walk.specs.Orbits.{sides_of, AreOrbits, NextIsOneToOne, RingsAreOrbits}
use Rattle.ring_walk.proofs.NextSides.{next_within, next_starts, next_inj}
use Rattle.ring_walk.proofs.Orbits.{after, IsCycle, ring_is_cycle, cycle_round, cycle_back, cycle_head, after-next, after_within}

-- ---- which sides are in rings

pub in_rings : (rings : List (List Side)) (s : Side) → Contains (sides_of rings) s → is_in_ring rings s ≡ true
in_rings rings s c =
    let r = Contains-from_flat_map (λ (ring : List Side). ring) rings s c in
    list_any-from_Any (λ ring. list_any (same_side s) ring) rings
    (r.1.0, r.0, r.1.1, r.1.2, list_any-from_Any (same_side s) r.0 (r.2.0, s, r.2.1, r.2.2, same_side-itself s))

pub from_in_rings : (rings : List (List Side)) (s : Side) → is_in_ring rings s ≡ true → Contains (sides_of rings) s
from_in_rings rings s e =
    let a = Any-from_list_any (λ ring. list_any (same_side s) ring) rings e in
    let b = Any-from_list_any (same_side s) a.1 a.4 in
    Contains-flat_map (λ (ring : List Side). ring) rings a.1 s (a.0, a.2, a.3)
    (subst (Contains a.1) (sym (same_side-true s b.1 b.4)) (b.0, b.2, b.3))

not_in_rings : (rings : List (List Side)) (s : Side) → is_in_ring rings s ≡ false → Contains (sides_of rings) s → ⊥
not_in_rings rings s e c = true≢false (sym (in_rings rings s c) ∙ e)

-- ---- the rings of the sides so far

module _ (spans : List Span) where
  abbrev n : ℕ
  n = length spans

  abbrev next : Side → Side
  next = next_side spans

  -- a ring begins with its least side, from which it is a cycle
  pub record IsRingOfSide (ring : List Side) : Type 0 where
    pub side : Side
    pub valid : IsSide n side
    pub cycle : IsCycle n next side ring
    pub least : All (λ s. side_number side ≤ side_number s) ring

  pub record AreSoFar (rings : List (List Side)) (i : ℕ) : Type 0 where
    pub formed : All IsRingOfSide rings
    pub each : (j : ℕ) → j < i → Contains (sides_of rings) (numbered j)
    pub once : AllPairs (λ s t. s ≢ t) (sides_of rings)
    pub order : AllPairs (λ q r. (d : Side) → side_number (get_or q 0 d) < side_number (get_or r 0 d)) rings
    pub below : All (λ r. (d : Side) → side_number (get_or r 0 d) < i) rings

  -- a side that comes to a ring stands in it
  back_in_rings : (rings : List (List Side)) (k : ℕ) (s : Side) → All IsRingOfSide rings → IsSide n s → Contains (sides_of rings) (after next k s) → Contains (sides_of rings) s
  back_in_rings rings k s all l c =
      let r = Contains-from_flat_map (λ (ring : List Side). ring) rings (after next k s) c in
      let h = All-contains IsRingOfSide rings r.0 all r.1 in
      Contains-flat_map (λ (ring : List Side). ring) rings r.0 s r.1
      (cycle_back n next (next_within spans) (next_inj spans) k h.side s r.0 h.cycle l r.2)

  module _ (rings : List (List Side)) (i : ℕ) (within : i < 2 * n) (h : AreSoFar rings i) where
    abbrev s : Side
    s = numbered i

    each_more : (more : List (List Side)) → ((t : Side) → Contains (sides_of rings) t → Contains (sides_of more) t) → Contains (sides_of more) s
        → (j : ℕ) → j < i + 1 → Contains (sides_of more) (numbered j)
    each_more more kept new j l = ⊎_elim (λ less. kept (numbered j) (h.each j less))
        (λ le. let same : i ≡ j = omega (arith, l, le) in subst (λ k. Contains (sides_of more) (numbered k)) same new) (cases_lt j i)

    taken : is_in_ring rings s ≡ true → AreSoFar rings (i + 1)
    taken e = record {
      formed = h.formed;
      each = each_more rings (λ t c. c) (from_in_rings rings s e);
      once = h.once;
      order = h.order;
      below = λ k d l e. let b = h.below k d l e in omega (arith, b);
    }

    module _ (e : is_in_ring rings s ≡ false) where
      abbrev ring : List Side
      ring = ring_from spans s

      valid : IsSide n s
      valid = numbered_within n i within

      cycle : IsCycle n next s ring
      cycle = ring_is_cycle n next (next_within spans) (next_inj spans) s valid

      -- none of its sides is in another ring
      fresh : (t : Side) → Contains ring t → Contains (sides_of rings) t → ⊥
      fresh t (k, l, f) c = not_in_rings rings s e
          (back_in_rings rings k s h.formed valid (subst (Contains (sides_of rings)) (sym f ∙ cycle.follows k t l) c))

      least : All (λ t. side_number s ≤ side_number t) ring
      least k d l =
          let t = get_or ring k d in
          ⊎_elim
          (λ less. absurd (fresh t (Contains-get_or ring k d l) (subst (Contains (sides_of rings)) (numbered-side_number t)
          (h.each (side_number t) (subst (λ (m : ℕ). side_number t < m) (side_number-numbered i) less)))))
          (λ le. le) (cases_lt (side_number t) (side_number s))

      more : sides_of (rings ++ ring ∷ []) ≡ sides_of rings ++ ring
      more = flat_map-append (λ (r : List Side). r) rings (ring ∷ []) ∙ ap (λ rs. sides_of rings ++ rs) (append-nil ring)

      head_is : (d : Side) → side_number (get_or ring 0 d) ≡ i
      head_is d = ap side_number (cycle_head n next (next_within spans) (next_inj spans) s ring d cycle) ∙ side_number-numbered i

      added : AreSoFar (rings ++ ring ∷ []) (i + 1)
      added = record {
        formed = All-append IsRingOfSide rings (ring ∷ []) h.formed
            (All-cons IsRingOfSide ring [] (record { side = s; valid = valid; cycle = cycle; least = least }) (All-nil IsRingOfSide));
        each = each_more (rings ++ ring ∷ []) (λ t c. subst (λ ts. Contains ts t) (sym more) (Contains-append_left (sides_of rings) ring t c))
            (subst (λ ts. Contains ts s) (sym more) (Contains-append_right (sides_of rings) ring s
            (0, cycle.some, cycle.follows 0 s cycle.some)));
        once = subst (AllPairs (λ t u. t ≢ u)) (sym more) (AllPairs-append (λ t u. t ≢ u) (sides_of rings) ring h.once cycle.differ
            (λ k d l j f m same. fresh (get_or ring j f) (Contains-get_or ring j f m)
            (subst (Contains (sides_of rings)) same (Contains-get_or (sides_of rings) k d l))));
        order = AllPairs-append (λ q r. (d : Side) → side_number (get_or q 0 d) < side_number (get_or r 0 d)) rings (ring ∷ []) h.order
            (one_pair ring)
            (λ k d l. All-cons (λ r. (e : Side) → side_number (get_or (get_or rings k d) 0 e) < side_number (get_or r 0 e)) ring []
            (λ e. let b = h.below k d l e in let here = head_is e in omega (arith, b, here)) (All-nil (λ r. (e : Side) → side_number (get_or (get_or rings k d) 0 e) < side_number (get_or r 0 e))));
        below = All-append (λ r. (d : Side) → side_number (get_or r 0 d) < i + 1) rings (ring ∷ [])
            (λ k d l e. let b = h.below k d l e in omega (arith, b))
            (All-cons (λ r. (d : Side) → side_number (get_or r 0 d) < i + 1) ring [] (λ d. let here = head_is d in omega (arith, here))
            (All-nil (λ r. (d : Side) → side_number (get_or r 0 d) < i + 1)));
      }
        where
          one_pair : (r : List Side) → AllPairs (λ q r. (d : Side) → side_number (get_or q 0 d) < side_number (get_or r 0 d)) (r ∷ [])
          one_pair r k j d less short = absurd (omega (arith, less, short))

  -- ---- all sides

  abbrev so_far : ℕ → List (List Side)
  so_far i = fold (with_ring_of spans) [] (map numbered (range_with_len 0 i))

  all_so_far : (i : ℕ) → i ≤ 2 * n → AreSoFar (so_far i) i
  all_so_far zero l = record {
    formed = All-nil IsRingOfSide;
    each = λ j m. absurd (omega (arith, m));
    once = AllPairs-nil (λ s t. s ≢ t);
    order = AllPairs-nil (λ q r. (d : Side) → side_number (get_or q 0 d) < side_number (get_or r 0 d));
    below = All-nil (λ r. (d : Side) → side_number (get_or r 0 d) < 0);
  }
  all_so_far (suc i) l = by (is_in_ring (so_far i) (numbered i)) refl (all_so_far i (omega (arith, l)))
    where
      by : (b : Bool) → is_in_ring (so_far i) (numbered i) ≡ b → AreSoFar (so_far i) i → AreSoFar (so_far (suc i)) (suc i)
      by true e h =
          let place : i + 1 ≡ suc i = omega arith in
          subst (λ j. AreSoFar (so_far j) j) place
          (subst (λ rs. AreSoFar rs (i + 1)) (no_ring spans (so_far i) i refl e) (taken (so_far i) i (omega (arith, l)) h e))
      by false e h =
          let place : i + 1 ≡ suc i = omega arith in
          subst (λ j. AreSoFar (so_far j) j) place
          (subst (λ rs. AreSoFar rs (i + 1)) (one_ring spans (so_far i) i refl e) (added (so_far i) i (omega (arith, l)) h e))

  pub rings_so_far : AreSoFar (rings_of spans) (2 * n)
  unfolding rings_of
  rings_so_far = all_so_far (2 * n) (omega arith)

  pub are_orbits : AreOrbits n next (rings_of spans)
  are_orbits = record {
    some = λ k d l. (rings_so_far.formed k d l).cycle.some;
    round = λ k d l. let h = rings_so_far.formed k d l in cycle_round n next (next_within spans) (next_inj spans) h.side (get_or (rings_of spans) k d) h.cycle;
    within = λ k d l. by (get_or (sides_of (rings_of spans)) k d) (Contains-get_or (sides_of (rings_of spans)) k d l);
    short = λ k d l. (rings_so_far.formed k d l).cycle.short;
    each = λ s l. subst (Contains (sides_of (rings_of spans))) (numbered-side_number s) (rings_so_far.each (side_number s) (number_within n s l));
    once = rings_so_far.once;
    least = λ k d l e some.
        let h = rings_so_far.formed k d l in
        subst (λ (s : Side). All (λ t. side_number s ≤ side_number t) (get_or (rings_of spans) k d))
        (sym (cycle_head n next (next_within spans) (next_inj spans) h.side (get_or (rings_of spans) k d) e h.cycle)) h.least;
    order = rings_so_far.order;
  }
    where
      by : (s : Side) → Contains (sides_of (rings_of spans)) s → IsSide n s
      by t c =
          let r = Contains-from_flat_map (λ (ring : List Side). ring) (rings_of spans) t c in
          let h = All-contains IsRingOfSide (rings_of spans) r.0 rings_so_far.formed r.1 in
          All-contains (IsSide n) r.0 t h.cycle.within r.2

pub rings_are_orbits : RingsAreOrbits
rings_are_orbits spans = are_orbits spans

-- each side is the next one of one
pub next_is_one_to_one : NextIsOneToOne
next_is_one_to_one spans = record {
  within = next_within spans;
  one = next_inj spans;
  onto = λ t l.
      let n = length spans in
      let next = next_side spans in
      let cycle = ring_is_cycle n next (next_within spans) (next_inj spans) t l in
      let long = length (ring_from spans t) in
      let some = cycle.some in
      let whole : suc (long - 1) ≡ long = omega (arith, some) in (
        after next (long - 1) t,
        after_within n next (next_within spans) (next_inj spans) (long - 1) t l,
        sym (after-next next (long - 1) t) ∙ ap (λ k. after next k t) whole ∙ cycle.back,
      );
  leaves = next_starts spans;
}
