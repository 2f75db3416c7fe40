-- The next side of a side leaves where that one arrives, and no two sides have the same next one.
use Rattle.std.proofs.Common.{◌≡◌, ◌≢◌, ℕ, zero, suc, ◌-◌, ◌<◌, Bool, true, false, if◌then◌else◌, List, [], ◌∷◌, length, filter, get_or, AllPairs, Contains, ⊎_elim, refl, sym, ap, ◌∙◌, subst, arith}
use Rattle.std.proofs.lemmas.Bool.{cases_eq, cases_lt, false_from_ne_true}
use Rattle.std.proofs.lemmas.List.{get_or_default}
use Rattle.std.proofs.lemmas.List.Elements.{Contains-get_or}
use Rattle.std.proofs.lemmas.List.Kept.{AllPairs-filter}
use Rattle.lemmas.proofs.Members.{AllPairs-head, AllPairs-tail, Contains-filter, Contains-from_filter}
use Rattle.lemmas.proofs.Sorting.{sort_by-permutation, AllPairs-permutation, Contains-sort_by, Contains-from_sort_by}
use Rattle.lemmas.specs.Sorting.{sort_by}
use Rattle.tgap_model.specs.declared.geometry.Point.{Point}
use Rattle.tgap_model.specs.Base.{same_point}
use Rattle.grid_geo.proofs.PointOrder.{points}
use Rattle.ring_walk.specs.declared.span.Span.{Span}
use Rattle.ring_walk.specs.declared.side.Side.{Side}
use Rattle.ring_walk.specs.Sides.{turned, same_side, sides, start_of, end_of, spoke_before, spokes_at}
use Rattle.ring_walk.specs.Rings.{last_after, in_front_after, in_front, next_side}
use Rattle.ring_walk.specs.Spans.{IsSide}
use Rattle.ring_walk.proofs.SideNumbers.{same_side-itself, same_side-true, turned-turned, sides_contain, sides_differ, all_sides_within}

-- ---- what stands in front in a cyclic row of different sides

abbrev pub Differ : List Side → Type 0
Differ ts = AllPairs (λ s t. s ≢ t) ts

-- the place in front of a place of a cyclic row of n
abbrev pub place_before : ℕ → ℕ → ℕ
place_before n zero = n - 1
place_before n (suc i) = i

place_before-lt : (n i : ℕ) → i < n → place_before n i < n
place_before-lt n zero l = omega arith
place_before-lt n (suc i) l = omega arith

place_before-inj : (n i j : ℕ) → i < n → j < n → place_before n i ≡ place_before n j → i ≡ j
place_before-inj n zero zero l m e = refl
place_before-inj n zero (suc j) l m e = omega arith
place_before-inj n (suc i) zero l m e = omega arith
place_before-inj n (suc i) (suc j) l m e = ap suc e

-- two places of a row of different sides
pub place_of_side : (ts : List Side) (i j : ℕ) (d : Side) → Differ ts → i < length ts → j < length ts → get_or ts i d ≡ get_or ts j d → i ≡ j
place_of_side ts i j d apart l m e = ⊎_elim (λ less. absurd (apart i j d less m e))
    (λ le. ⊎_elim (λ same. same) (λ ne. absurd (apart j i d (omega (arith, le, ne)) l (sym e))) (cases_eq i j)) (cases_lt i j)

in_front_after-at : (z : Side) (ts : List Side) (i : ℕ) (d : Side) → Differ ts → i < length ts → in_front_after z (get_or ts i d) ts ≡ get_or (z ∷ ts) i d
in_front_after-at z [] i d apart l = absurd (omega (arith, l))
in_front_after-at z (t ∷ ts) zero d apart l = ap (λ (b : Bool). if b then z else in_front_after t t ts) (same_side-itself t)
in_front_after-at z (t ∷ ts) (suc i) d apart l =
    let s = get_or ts i d in
    let short : i < length ts = omega (arith, l) in
    let other : same_side t s ≡ false
    = false_from_ne_true (same_side t s) (λ e. AllPairs-head (λ x y. x ≢ y) t ts apart i d short (same_side-true t s e)) in
    ap (λ (b : Bool). if b then z else in_front_after t s ts) other ∙ in_front_after-at t ts i d (AllPairs-tail (λ x y. x ≢ y) t ts apart) short

last_after-at : (s : Side) (ts : List Side) (d : Side) → last_after s ts ≡ get_or (s ∷ ts) (length ts) d
last_after-at s [] d = refl
last_after-at s (t ∷ ts) d = last_after-at t ts d

pub in_front-at : (ts : List Side) (i : ℕ) (d : Side) → Differ ts → i < length ts → in_front (get_or ts i d) ts ≡ get_or ts (place_before (length ts) i) d
in_front-at [] i d apart l = absurd (omega (arith, l))
in_front-at (t ∷ ts) zero d apart l =
    in_front_after-at (last_after t (t ∷ ts)) (t ∷ ts) zero d apart l ∙ last_after-at t ts d
    ∙ ap (λ (k : ℕ). get_or (t ∷ ts) k d) (omega arith)
in_front-at (t ∷ ts) (suc i) d apart l = in_front_after-at (last_after (get_or ts i d) (t ∷ ts)) (t ∷ ts) (suc i) d apart l

module _ (ts : List Side) (apart : Differ ts) where
  -- the side in front of a side of the row is in the row
  in_front-in : (s : Side) → Contains ts s → Contains ts (in_front s ts)
  in_front-in s (i, l, e) =
      subst (Contains ts) (sym (in_front-at ts i s apart l) ∙ ap (λ (t : Side). in_front t ts) e)
      (Contains-get_or ts (place_before (length ts) i) s (place_before-lt (length ts) i l))

  -- no two have the same one in front
  in_front-inj : (s t : Side) → Contains ts s → Contains ts t → in_front s ts ≡ in_front t ts → s ≡ t
  in_front-inj s t (i, l, e) (j, m, f) same =
      let there : get_or ts j s ≡ t = get_or_default ts j s t m ∙ f in
      let places : place_before (length ts) i ≡ place_before (length ts) j = place_of_side ts (place_before (length ts) i) (place_before (length ts) j) s apart
      (place_before-lt (length ts) i l) (place_before-lt (length ts) j m)
      (sym (in_front-at ts i s apart l) ∙ ap (λ (u : Side). in_front u ts) e ∙ same ∙ ap (λ (u : Side). in_front u ts) (sym there) ∙ in_front-at ts j s apart m) in
      sym e ∙ ap (λ (k : ℕ). get_or ts k s) (place_before-inj (length ts) i j l m places) ∙ there

-- ---- the sides that leave a node

module _ (spans : List Span) where
  abbrev pub round : Point → List Side
  round v = spokes_at spans (sides (length spans)) v

  pub round_has : (v : Point) (s : Side) → IsSide (length spans) s → start_of spans s ≡ v → Contains (round v) s
  unfolding spokes_at
  round_has v s l e =
      Contains-sort_by (spoke_before spans) (filter (λ t. same_point (start_of spans t) v) (sides (length spans))) s
      (Contains-filter (λ t. same_point (start_of spans t) v) (sides (length spans)) s (sides_contain (length spans) s l)
      (subst (λ (u : Point). same_point (start_of spans s) u ≡ true) e (points.itself (start_of spans s))))

  pub from_round : (v : Point) (s : Side) → Contains (round v) s → IsSide (length spans) s × (start_of spans s ≡ v)
  unfolding spokes_at
  from_round v s c =
      let h = Contains-from_filter (λ t. same_point (start_of spans t) v) (sides (length spans)) s
      (Contains-from_sort_by (spoke_before spans) (filter (λ t. same_point (start_of spans t) v) (sides (length spans))) s c) in
      (side_within s h.0, points.same (start_of spans s) v h.1)
    where
      side_within : (s : Side) → Contains (sides (length spans)) s → IsSide (length spans) s
      side_within s (k, l, e) = subst (IsSide (length spans)) e (all_sides_within (length spans) k s l)

  pub round_differs : (v : Point) → Differ (round v)
  unfolding spokes_at
  round_differs v =
      let at = filter (λ t. same_point (start_of spans t) v) (sides (length spans)) in
      AllPairs-permutation (λ s t. s ≢ t) (λ s t ne e. ne (sym e)) at (sort_by (spoke_before spans) at) (sort_by-permutation (spoke_before spans) at)
      (AllPairs-filter (λ s t. s ≢ t) (λ t. same_point (start_of spans t) v) (sides (length spans)) (sides_differ (length spans)))

  -- ---- the next side

  next_round : (s : Side) → IsSide (length spans) s → Contains (round (end_of spans s)) (next_side spans s)
  next_round s l = in_front-in (round (end_of spans s)) (round_differs (end_of spans s)) (turned s) (round_has (end_of spans s) (turned s) l refl)

  pub next_within : (s : Side) → IsSide (length spans) s → IsSide (length spans) (next_side spans s)
  next_within s l = (from_round (end_of spans s) (next_side spans s) (next_round s l)).0

  -- it leaves where the side arrives
  pub next_starts : (s : Side) → IsSide (length spans) s → start_of spans (next_side spans s) ≡ end_of spans s
  next_starts s l = (from_round (end_of spans s) (next_side spans s) (next_round s l)).1

  -- and it is the next one of no other
  pub next_inj : (s t : Side) → IsSide (length spans) s → IsSide (length spans) t → next_side spans s ≡ next_side spans t → s ≡ t
  next_inj s t l m e =
      let node : end_of spans s ≡ end_of spans t = sym (next_starts s l) ∙ ap (start_of spans) e ∙ next_starts t m in
      let same : turned s ≡ turned t = in_front-inj (round (end_of spans s)) (round_differs (end_of spans s)) (turned s) (turned t)
      (round_has (end_of spans s) (turned s) l refl) (round_has (end_of spans s) (turned t) m (sym node))
      (e ∙ ap (λ (v : Point). in_front (turned t) (round v)) (sym node)) in
      sym (turned-turned s) ∙ ap turned same ∙ turned-turned t
