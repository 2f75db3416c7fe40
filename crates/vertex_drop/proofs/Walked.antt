-- The sweep of a row of points goes on by one vertex, and over a run of which no corner is small.
use Rattle.std.proofs.Common.{◌≡◌, ◌<◌, ◌≤◌, ◌+◌, ℕ, zero, suc, Bool, true, false, Option, None, Some, List, [], ◌∷◌, ◌++◌, take, drop, length, length-append, length-drop, get_or, All, refl, sym, ap, ap₂, ◌∙◌, true≢false, subst, arith}
use Rattle.std.proofs.Math.ListN.{get_or-append}
use Rattle.std.proofs.lemmas.Bool.{or_parts}
use Rattle.std.proofs.lemmas.List.{append-nil, append_assoc, at_drop_more, drop_all, drop_more, drop-drop, drop-append-le}
use Rattle.std.proofs.lemmas.List.Elements.{All-drop}
use Rattle.tgap_model.specs.declared.geometry.Point.{Point}
use Rattle.tgap_model.specs.declared.geometry.Seg.{Seg}
use Rattle.tgap_model.specs.Removals.{path, is_removable, Swept, sweep_from}
use Rattle.point_rope.specs.declared.run.Summary.{Summary}
use Rattle.point_rope.specs.Corners.{least_area}
use Rattle.point_rope.specs.Rows.{IsSummary}
use Rattle.vertex_drop.specs.declared.removable.Rule.{Rule}
use Rattle.vertex_drop.specs.Corners.{small_area, is_small_corner, any_small_corner}
use Rattle.vertex_drop.specs.Sweep.{sweep_after, Standing, GoesOn}
use Rattle.vertex_drop.proofs.Chosen.{stays}
use Rattle.vertex_drop.proofs.Least.{small_below, is_small_least, area_decides}
use Rattle.vertex_drop.proofs.Paths.{path_more}
use Rattle.vertex_drop.proofs.Swept.{from_gone, from_kept, begins}

-- ---- points from a place on

-- one point further
drop_next : (points : List Point) (place : ℕ) (b : Point) (more : List Point) → drop place points ≡ b ∷ more → drop (place + 1) points ≡ more
drop_next points place b more h = sym (drop-drop 1 place points) ∙ ap (drop 1) h

-- points of a row that begin at a place, from one of them on
pub drop_within : (points run more : List Point) (q j : ℕ) → drop q points ≡ run ++ more → j ≤ length run → drop (q + j) points ≡ drop j run ++ more
drop_within points run more q j h le = sym (drop-drop j q points) ∙ ap (drop j) h ∙ drop-append-le j run more le

-- two of them and what follows
pub two_within : (points run more : List Point) (q j k : ℕ) (d : Point) → drop q points ≡ run ++ more → k ≡ j + 1 → k < length run
    → drop (q + j) points ≡ get_or run j d ∷ get_or run k d ∷ (drop (k + 1) run ++ more)
two_within points run more q j k d h is l =
    drop_within points run more q j h (omega (arith, l, is))
    ∙ ap (λ (xs : List Point). xs ++ more) (drop_more run j d (omega (arith, l, is)))
    ∙ ap (λ (n : ℕ). (get_or run j d ∷ drop n run) ++ more) (sym is)
    ∙ ap (λ (xs : List Point). (get_or run j d ∷ xs) ++ more) (drop_more run k d l)

-- a row is as long as what is in it
pub within_length : (points run more : List Point) (q : ℕ) → drop q points ≡ run ++ more → q ≤ length points → q + length run ≤ length points
within_length points run more q h le =
    let n = length-drop q points in
    let m = length-append run more in
    let e = ap (λ (xs : List Point). length xs) h in
    omega (arith, n, m, e, le)

-- what holds of all points of a row holds of those in it
pub all_within : (P : Point → Type 0) (points run more : List Point) (q : ℕ) → drop q points ≡ run ++ more → All P points → All P run
all_within P points run more q h all k d l =
    subst P (get_or-append run more d k l)
    (subst (λ (xs : List Point). All P xs) h (All-drop P q points all) k d (omega (arith, l, length-append run more)))

module _ (rule : Rule) (others : List Seg) (points : List Point) where
  -- ---- one vertex

  pub goes_same : (s : Standing) → GoesOn rule others points s s
  goes_same s = record { left = refl; removed = refl }

  pub goes_then : (s t u : Standing) → GoesOn rule others points s t → GoesOn rule others points t u → GoesOn rule others points s u
  goes_then s t u h k = record { left = k.left ∙ h.left; removed = k.removed ∙ h.removed }

  module _ (kept : List Seg) (gone : List Point) (a b c : Point) (place : ℕ) (more : List Point) (ahead : drop place points ≡ b ∷ c ∷ more) where
    abbrev here : Standing
    here = record { kept = kept; gone = gone; last = a; place = place }

    next : drop (place + 1) points ≡ c ∷ more
    next = drop_next points place b (c ∷ more) ahead

    pub vertex_gone : is_removable rule.ratio rule.area (others ++ kept ++ path (drop (place + 1) points)) a b c ≡ true
        → GoesOn rule others points here (record { kept = kept; gone = gone ++ b ∷ []; last = a; place = place + 1 })
    vertex_gone e =
        let t = sweep_from rule.ratio rule.area others kept a (drop (place + 1) points) in
        let now : sweep_from rule.ratio rule.area others kept a (drop place points) ≡ record { kept = t.kept; gone = b ∷ t.gone } =
        ap (sweep_from rule.ratio rule.area others kept a) ahead
        ∙ from_gone rule.ratio rule.area others kept a b c more (ap (λ (l : List Point). is_removable rule.ratio rule.area (others ++ kept ++ path l) a b c) (sym next) ∙ e)
        ∙ ap (λ (l : List Point). let u = sweep_from rule.ratio rule.area others kept a l in record { kept = u.kept; gone = b ∷ u.gone }) (sym next) in
        record {
          left = ap (λ (u : Swept). kept ++ path u.kept) (sym now);
          removed = append_assoc gone (b ∷ []) t.gone ∙ ap (λ (u : Swept). gone ++ u.gone) (sym now);
        }

    pub vertex_kept : is_removable rule.ratio rule.area (others ++ kept ++ path (drop (place + 1) points)) a b c ≡ false
        → GoesOn rule others points here (record { kept = kept ++ record { a = a; b = b } ∷ []; gone = gone; last = b; place = place + 1 })
    vertex_kept e =
        let s : Seg = record { a = a; b = b } in
        let t = sweep_from rule.ratio rule.area others (kept ++ s ∷ []) b (drop (place + 1) points) in
        let now : sweep_from rule.ratio rule.area others kept a (drop place points) ≡ record { kept = a ∷ t.kept; gone = t.gone } =
        ap (sweep_from rule.ratio rule.area others kept a) ahead
        ∙ from_kept rule.ratio rule.area others kept a b c more (ap (λ (l : List Point). is_removable rule.ratio rule.area (others ++ kept ++ path l) a b c) (sym next) ∙ e)
        ∙ ap (λ (l : List Point). let u = sweep_from rule.ratio rule.area others (kept ++ s ∷ []) b l in record { kept = a ∷ u.kept; gone = u.gone }) (sym next) in
        record {
          left =
              append_assoc kept (s ∷ []) (path t.kept)
              ∙ ap (λ (l : List Seg). kept ++ l) (sym (begins rule.ratio rule.area others (kept ++ s ∷ []) a b (drop (place + 1) points)))
              ∙ ap (λ (u : Swept). kept ++ path u.kept) (sym now);
          removed = ap (λ (u : Swept). gone ++ u.gone) (sym now);
        }

  -- ---- all points

  -- the first point of a row
  pub sweep_begins : (first : List Seg) (d : Point) → 0 < length points
      → sweep_after rule.ratio rule.area others first points ≡ sweep_from rule.ratio rule.area others first (get_or points 0 d) (drop 1 points)
  sweep_begins first d l = at_drop_more (sweep_after rule.ratio rule.area others first) points 0 d l

  -- the last point stays
  pub sweep_ends : (first kept : List Seg) (before gone : List Point) (a : Point) (place : ℕ) (d : Point) → place + 1 ≡ length points
      → GoesOn rule others points (record { kept = first; gone = before; last = get_or points 0 d; place = 1 }) (record { kept = kept; gone = gone; last = a; place = place })
      → (kept ++ record { a = a; b = get_or points place d } ∷ [] ≡ first ++ path (sweep_after rule.ratio rule.area others first points).kept)
      × (gone ≡ before ++ (sweep_after rule.ratio rule.area others first points).gone)
  sweep_ends first kept before gone a place d all h =
      let b = get_or points place d in
      let now : sweep_from rule.ratio rule.area others kept a (drop place points) ≡ record { kept = a ∷ b ∷ []; gone = [] } =
      at_drop_more (sweep_from rule.ratio rule.area others kept a) points place d (omega (arith, all))
      ∙ ap (λ (l : List Point). sweep_from rule.ratio rule.area others kept a (b ∷ l)) (drop_all (place + 1) points (omega (arith, all))) in
      let start = sweep_begins first d (omega (arith, all)) in (
        ap (λ (u : Swept). kept ++ path u.kept) (sym now) ∙ h.left ∙ ap (λ (u : Swept). first ++ path u.kept) (sym start),
        sym (append-nil gone) ∙ ap (λ (u : Swept). gone ++ u.gone) (sym now) ∙ h.removed ∙ ap (λ (u : Swept). before ++ u.gone) (sym start),
      )

-- ---- runs of which no corner is small

-- no three points in a row of such a run have a small corner
large_at : (rule : Rule) (run : List Point) (j : ℕ) (d : Point) → any_small_corner rule.ratio rule.area run ≡ false → suc (suc j) < length run
    → is_small_corner rule.ratio rule.area (get_or run j d) (get_or run (suc j) d) (get_or run (suc (suc j)) d) ≡ false
large_at rule [] j d h l = absurd (omega (arith, l))
large_at rule (a ∷ []) j d h l = absurd (omega (arith, l))
large_at rule (a ∷ b ∷ []) j d h l = absurd (omega (arith, l))
large_at rule (a ∷ b ∷ c ∷ points) zero d h l = (or_parts (is_small_corner rule.ratio rule.area a b c) (any_small_corner rule.ratio rule.area (b ∷ c ∷ points)) h).0
large_at rule (a ∷ b ∷ c ∷ points) (suc j) d h l =
    large_at rule (b ∷ c ∷ points) j d (or_parts (is_small_corner rule.ratio rule.area a b c) (any_small_corner rule.ratio rule.area (b ∷ c ∷ points)) h).1 (omega (arith, l))

-- a summary of a run tells that there is none where its bound is not small
pub all_large : (rule : Rule) (run : List Point) (s : Summary) → IsSummary run s → small_area rule.ratio rule.area s.least ≡ false → any_small_corner rule.ratio rule.area run ≡ false
all_large rule run s known h = by (least_area run) refl
  where
    by : (o : Option ℕ) → least_area run ≡ o → any_small_corner rule.ratio rule.area run ≡ false
    by None e = area_decides rule.ratio rule.area run ∙ ap (is_small_least rule.ratio rule.area) e
    by (Some n) e = area_decides rule.ratio rule.area run ∙ ap (is_small_least rule.ratio rule.area) e ∙ test (small_area rule.ratio rule.area n) refl
      where
        test : (b : Bool) → small_area rule.ratio rule.area n ≡ b → b ≡ false
        test false f = refl
        test true f = absurd (true≢false (sym (small_below rule.ratio rule.area s.least n f (known.least n e)) ∙ h))

module _ (rule : Rule) (others : List Seg) (points run more : List Point) (q : ℕ) (d : Point) (ahead : drop q points ≡ run ++ more)
    (large : any_small_corner rule.ratio rule.area run ≡ false) (kept : List Seg) (gone : List Point) where
  -- where the sweep stands once the points of a run up to number j are kept
  abbrev kept_to : ℕ → Standing
  kept_to j = record { kept = kept ++ path (take (j + 1) run); gone = gone; last = get_or run j d; place = q + (j + 1) }

  one_kept : (j k : ℕ) → k ≡ j + 1 → k + 1 < length run → GoesOn rule others points (kept_to j) (kept_to k)
  one_kept j k is l =
      let a = get_or run j d in
      let b = get_or run k d in
      let c = get_or run (k + 1) d in
      let before = kept ++ path (take (j + 1) run) in
      let two : suc (suc j) ≡ k + 1 = omega (arith, is) in
      let one : suc j ≡ k = omega (arith, is) in
      let wide : is_small_corner rule.ratio rule.area a b c ≡ false =
      ap₂ (λ (m n : ℕ). is_small_corner rule.ratio rule.area a (get_or run m d) (get_or run n d)) (sym one) (sym two) ∙ large_at rule run j d large (omega (arith, l, is)) in
      let there : drop (q + (j + 1)) points ≡ b ∷ c ∷ (drop (k + 1 + 1) run ++ more) =
      ap (λ (n : ℕ). drop (q + n) points) (sym is) ∙ two_within points run more q k (k + 1) d ahead refl l in
      let stay = stays rule.ratio rule.area (others ++ before ++ path (drop (q + (j + 1) + 1) points)) a b c wide in
      let path_is : before ++ record { a = a; b = b } ∷ [] ≡ kept ++ path (take (k + 1) run) =
      append_assoc kept (path (take (j + 1) run)) (record { a = a; b = b } ∷ [])
      ∙ ap (λ (l : List Seg). kept ++ l) (ap (λ (n : ℕ). path (take n run) ++ record { a = a; b = b } ∷ []) (sym is) ∙ sym (path_more run j k d is (omega (arith, l)))) in
      let place_is : q + (j + 1) + 1 ≡ q + (k + 1) = omega (arith, is) in
      subst (λ (n : ℕ). GoesOn rule others points (kept_to j) (record { kept = kept ++ path (take (k + 1) run); gone = gone; last = b; place = n })) place_is
      (subst (λ (l : List Seg). GoesOn rule others points (kept_to j) (record { kept = l; gone = gone; last = b; place = q + (j + 1) + 1 })) path_is
      (vertex_kept rule others points before gone a b c (q + (j + 1)) (drop (k + 1 + 1) run ++ more) there stay))

  all_kept : (j : ℕ) → j + 1 < length run → GoesOn rule others points (kept_to 0) (kept_to j)
  all_kept zero l = goes_same rule others points (kept_to 0)
  all_kept (suc j) l =
      goes_then rule others points (kept_to 0) (kept_to j) (kept_to (suc j)) (all_kept j (omega (arith, l))) (one_kept j (suc j) (omega arith) (omega (arith, l)))

  -- So a sweep that kept the first point of such a run keeps all but the last one, which it has not come to.
  pub run_passed : (j : ℕ) → j + 2 ≡ length run
      → GoesOn rule others points (record { kept = kept; gone = gone; last = get_or run 0 d; place = q + 1 })
      (record { kept = kept ++ path (take (j + 1) run); gone = gone; last = get_or run j d; place = q + (j + 1) })
  run_passed j all =
      let none : kept ++ path (take 1 run) ≡ kept = begin_of run in
      subst (λ (l : List Seg). GoesOn rule others points (record { kept = l; gone = gone; last = get_or run 0 d; place = q + 1 }) (kept_to j)) none
      (all_kept j (omega (arith, all)))
    where
      begin_of : (row : List Point) → kept ++ path (take 1 row) ≡ kept
      begin_of [] = append-nil kept
      begin_of (a ∷ row) = append-nil kept
