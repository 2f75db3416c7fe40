-- The row of next sides as it is written, ring by ring.
use Rattle.std.proofs.Common.{◌≡◌, ◌⊎◌, inl, inr, ℕ, ◌+◌, ◌*◌, ◌<◌, ◌≤◌, ◌++◌, List, [], ◌∷◌, length, get_or, set, take, Contains, refl, sym, ap, ◌∙◌, subst, arith}
use Rattle.std.proofs.lemmas.List.{append-nil, get_or-set_other, take_all, take_more}
use Rattle.std.proofs.lemmas.List.Concat.{flat_map-append}
use Rattle.std.proofs.lemmas.List.Elements.{Contains-append_cases, Contains-push_cases}
use Rattle.std.proofs.lemmas.Grind.{get_or-set_at}
use Rattle.std.proofs.lemmas.Bool.{cases_eq}
use Rattle.ring_walk.specs.declared.span.Span.{Span}
use Rattle.ring_walk.specs.declared.side.Side.{Side}
use Rattle.ring_walk.specs.Sides.{side_number, numbered}
use Rattle.ring_walk.specs.Rings.{next_side, rings_of}
use Rattle.ring_walk.specs.Orbits.{sides_of}
use Rattle.ring_walk.specs.Spans.{AreNext, IsSide}
use Rattle.ring_walk.proofs.SideNumbers.{side_number-inj, side_number-numbered, number_within, numbered_within}
use Rattle.ring_walk.proofs.NextSides.{next_within}
use Rattle.ring_walk.proofs.RingOrbits.{are_orbits, rings_so_far}
use Rattle.face_cuts.specs.NodeTables.{IsToldAt}
use Rattle.face_cuts.specs.Spokes.{IsRow}

-- the side that is written, and each that was written before
pub told_now : (spans : List Span) (row : List Side) (s t : Side) → side_number s < length row → t ≡ next_side spans s → IsSide (length spans) t → IsToldAt spans (set row (side_number s) t) s
told_now spans row s t l e w = record { is = λ d. get_or-set_at row (side_number s) (side_number s) t d refl l ∙ e; within = subst (IsSide (length spans)) e w }

pub still_told : (spans : List Span) (row : List Side) (s t u : Side) → side_number s < length row → t ≡ next_side spans s → IsSide (length spans) t → IsToldAt spans row u → IsToldAt spans (set row (side_number s) t) u
still_told spans row s t u l e w h = by (cases_eq (side_number u) (side_number s))
  where
    by : (side_number u ≡ side_number s) ⊎ (side_number u ≡ side_number s → ⊥) → IsToldAt spans (set row (side_number s) t) u
    by (inl same) = subst (IsToldAt spans (set row (side_number s) t)) (side_number-inj s u (sym same)) (told_now spans row s t l e w)
    by (inr other) = record { is = λ d. get_or-set_other row (side_number s) (side_number u) t d other ∙ h.is d; within = h.within }

-- a row in which all are told
pub all_told : (spans : List Span) (row : List Side) → length row ≡ 2 * length spans → ((s : Side) → IsSide (length spans) s → IsToldAt spans row s) → AreNext spans row
all_told spans row long told = record {
  long = long;
  each = λ s w. (told s w).is s;
  within = λ k d l.
      let s = numbered k in
      let h = told s (numbered_within (length spans) k (omega (arith, l, long))) in
      subst (IsSide (length spans)) (sym (ap (λ i. get_or row i d) (sym (side_number-numbered k)) ∙ h.is d)) h.within;
}

-- one side more of a ring is written
pub told_more : (spans : List Span) (old first ring : List Side) (k i : ℕ) (d t : Side) → k < length ring → IsSide (length spans) (get_or ring k d) → i ≡ side_number (get_or ring k d) → length old ≡ 2 * length spans
    → t ≡ next_side spans (get_or ring k d) → ((s : Side) → IsToldAt spans first s ⊎ Contains (take k ring) s → IsToldAt spans old s)
    → (s : Side) → IsToldAt spans first s ⊎ Contains (take (k + 1) ring) s → IsToldAt spans (set old i t) s
told_more spans old first ring k i d t l within number long next so_far s given =
    let u = get_or ring k d in
    let n = number_within (length spans) u within in
    let inside : side_number u < length old = omega (arith, n, long) in
    let valid : IsSide (length spans) t = subst (IsSide (length spans)) (sym next) (next_within spans u within) in
    let kept : IsToldAt spans first s ⊎ Contains (take k ring) s → IsToldAt spans (set old (side_number u) t) s = λ g. still_told spans old u t s inside next valid (so_far s g) in
    subst (λ (j : ℕ). IsToldAt spans (set old j t) s) (sym number)
    (elim given [
      | inl before ↦ kept (inl before)
      | inr c ↦ elim (Contains-push_cases (take k ring) u s (subst (λ (r : List Side). Contains r s) (take_more ring k d l) c)) [
        | inl among ↦ kept (inr among)
        | inr same ↦ subst (IsToldAt spans (set old (side_number u) t)) same (told_now spans old u t inside next valid)
      ]
    ])

-- of rings, one more
pub rings_told : (spans : List Span) (rings : List (List Side)) (ring : List Side) (i : ℕ) (old new : List Side) → i < length rings → ring ≡ get_or rings i ring → ((s : Side) → IsToldAt spans old s ⊎ Contains ring s → IsToldAt spans new s)
    → ((s : Side) → Contains (sides_of (take i rings)) s → IsToldAt spans old s) → (s : Side) → Contains (sides_of (take (i + 1) rings)) s → IsToldAt spans new s
rings_told spans rings ring i old new l here more so_far s c =
    let cut : sides_of (take (i + 1) rings) ≡ sides_of (take i rings) ++ ring =
    ap sides_of (take_more rings i ring l ∙ ap (λ (r : List Side). take i rings ++ r ∷ []) (sym here))
    ∙ flat_map-append (λ (r : List Side). r) (take i rings) (ring ∷ []) ∙ ap (λ (ys : List Side). sides_of (take i rings) ++ ys) (append-nil ring) in
    elim (Contains-append_cases (sides_of (take i rings)) ring s (subst (λ (r : List Side). Contains r s) cut c)) [
      | inl before ↦ more s (inl (so_far s before))
      | inr among ↦ more s (inr among)
    ]

-- in the end all sides are told
pub rings_told_all : (spans : List Span) (rings : List (List Side)) (i : ℕ) (row : List Side) → rings ≡ rings_of spans → length rings ≤ i → length row ≡ 2 * length spans
    → ((s : Side) → Contains (sides_of (take i rings)) s → IsToldAt spans row s) → AreNext spans row
rings_told_all spans rings i row all end long told =
    all_told spans row long (λ s w. told s (subst (λ (rs : List (List Side)). Contains (sides_of rs) s) (sym (take_all i rings end ∙ all)) ((are_orbits spans).each s w)))

-- a ring among all rings
pub ring_is_row : (spans : List Span) (rings : List (List Side)) (i : ℕ) (ring : List Side) → rings ≡ rings_of spans → i < length rings → ring ≡ get_or rings i ring → IsRow spans ring
ring_is_row spans rings i ring all l here =
    let short : i < length (rings_of spans) = subst (λ (rs : List (List Side)). i < length rs) all l in
    let is : ring ≡ get_or (rings_of spans) i ring = here ∙ ap (λ (rs : List (List Side)). get_or rs i ring) all in
    let formed = (rings_so_far spans).formed i ring short in
    subst (IsRow spans) (sym is) (record {
      ring = record { sides = formed.cycle.within; short = formed.cycle.short };
      round = (are_orbits spans).round i ring short;
    })
