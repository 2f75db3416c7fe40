-- The steps of the points of arcs, laid one arc after the other.
use Rattle.std.proofs.Common.{◌≡◌, ⊎_elim, ℕ, ◌+◌, ◌-◌, ◌<◌, ◌≤◌, List, [], ◌∷◌, ◌++◌, map, take, drop, filter, reverse, length, get_or, sym, ap, ◌∙◌, subst, append_assoc, arith}
use Rattle.std.specs.List.{slice_range}
use Rattle.std.proofs.Math.ListN.{get_or-map}
use Rattle.std.proofs.Math.Seq.{drop-append_seam}
use Rattle.std.proofs.lemmas.Bool.{cases_lt}
use Rattle.std.proofs.lemmas.List.{drop-append-le, drop_more, get_or_append_left, get_or_default, get_or_push, length-append, length-drop, length-map, length_push, reverse-append, take-append-le, take_all, take_more}
use Rattle.std.proofs.lemmas.List.Elements.{filter-append}
use Rattle.tgap_model.specs.declared.geometry.Point.{Point}
use Rattle.tgap_model.specs.declared.base.BaseArc.{BaseArc}
use Rattle.tgap_model.specs.Chains.{arc_number}
use Rattle.edge_forest.specs.Removed.{PointSteps, step_of}
use Rattle.edge_forest.specs.Spent.{is_left}

-- ---- parts of longer lists

pub range_before : (xs ys : List ℕ) (a b : ℕ) → a ≤ b → b ≤ length xs → slice_range (xs ++ ys) a b ≡ slice_range xs a b
range_before xs ys a b order within =
    ap (take (b - a)) (drop-append-le a xs ys (omega (arith, order, within)))
    ∙ take-append-le (b - a) (drop a xs) ys (omega (arith, order, within, length-drop a xs))

pub range_behind : (xs ys : List ℕ) (n : ℕ) → n ≡ length ys → slice_range (xs ++ ys) (length xs) (length xs + n) ≡ ys
range_behind xs ys n same =
    ap (take (length xs + n - length xs)) (drop-append_seam xs ys) ∙ take_all (length xs + n - length xs) ys (omega (arith, same))

-- ---- the arcs so far

pub record AreLaid (arcs : List BaseArc) (t : PointSteps) (n : ℕ) (steps starts : List ℕ) : Type 0 where
  pub count : length starts ≡ n
  pub inside : (i : ℕ) → i < n → get_or starts i 0 + length (arc_number arcs i).points ≤ length steps
  pub each : (i : ℕ) → i < n → slice_range steps (get_or starts i 0) (get_or starts i 0 + length (arc_number arcs i).points) ≡ map (step_of t) (arc_number arcs i).points

-- one more arc
pub laid_more : (arcs : List BaseArc) (t : PointSteps) (n : ℕ) (steps starts : List ℕ) → AreLaid arcs t n steps starts
    → AreLaid arcs t (n + 1) (steps ++ map (step_of t) (arc_number arcs n).points) (starts ++ length steps ∷ [])
laid_more arcs t n steps starts old = record {
  count = omega (arith, length_push starts (length steps), old.count);
  inside = λ i l. ⊎_elim (inside_before i) (inside_here i l) (cases_lt i n);
  each = λ i l. ⊎_elim (each_before i) (each_here i l) (cases_lt i n);
}
  where
    more : List ℕ
    more = map (step_of t) (arc_number arcs n).points

    starts' : List ℕ
    starts' = starts ++ length steps ∷ []

    size : ℕ → ℕ
    size i = length (arc_number arcs i).points

    start_before : (i : ℕ) → i < n → get_or starts' i 0 ≡ get_or starts i 0
    start_before i l = get_or_append_left starts (length steps ∷ []) 0 i (omega (arith, l, old.count))

    start_here : get_or starts' n 0 ≡ length steps
    start_here = get_or_push starts (length steps) 0 n old.count

    is_here : (i : ℕ) → i < n + 1 → n ≤ i → i ≡ n
    is_here i l le = omega (arith, l, le)

    inside_before : (i : ℕ) → i < n → get_or starts' i 0 + size i ≤ length (steps ++ more)
    inside_before i l = omega (arith, start_before i l, old.inside i l, length-append steps more)

    at_n : get_or starts' n 0 + size n ≤ length (steps ++ more)
    at_n = omega (arith, start_here, length-append steps more, length-map (arc_number arcs n).points (step_of t))

    inside_here : (i : ℕ) → i < n + 1 → n ≤ i → get_or starts' i 0 + size i ≤ length (steps ++ more)
    inside_here i l le = subst (λ (j : ℕ). get_or starts' j 0 + size j ≤ length (steps ++ more)) (sym (is_here i l le)) at_n

    Told : ℕ → ℕ → Type 0
    Told i start = slice_range (steps ++ more) start (start + size i) ≡ map (step_of t) (arc_number arcs i).points

    each_before : (i : ℕ) → i < n → Told i (get_or starts' i 0)
    each_before i l =
        subst (Told i) (sym (start_before i l))
        (range_before steps more (get_or starts i 0) (get_or starts i 0 + size i) (omega arith) (old.inside i l) ∙ old.each i l)

    each_here : (i : ℕ) → i < n + 1 → n ≤ i → Told i (get_or starts' i 0)
    each_here i l le =
        subst (λ (j : ℕ). Told j (get_or starts' j 0)) (sym (is_here i l le))
        (subst (Told n) (sym start_here) (range_behind steps more (size n) (sym (length-map (arc_number arcs n).points (step_of t)))))

-- ---- points with their steps

-- the step beside a point is its own
pub step_at : (t : PointSteps) (steps : List ℕ) (points : List Point) → steps ≡ map (step_of t) points → (i : ℕ) (d : Point) → i < length points
    → get_or steps i 0 ≡ step_of t (get_or points i d)
step_at t steps points same i d l =
    get_or_default steps i 0 (step_of t d) (omega (arith, l, ap length same, length-map points (step_of t)))
    ∙ ap (λ (ss : List ℕ). get_or ss i (step_of t d)) same
    ∙ get_or-map (step_of t) points i d

-- one more point from the first one on
left_more : (t : PointSteps) (k : ℕ) (points : List Point) (i : ℕ) (d : Point) → i < length points
    → filter (is_left t k) (take i points) ++ filter (is_left t k) (get_or points i d ∷ []) ≡ filter (is_left t k) (take (i + 1) points)
left_more t k points i d l =
    sym (filter-append (is_left t k) (take i points) (get_or points i d ∷ [])) ∙ ap (filter (is_left t k)) (sym (take_more points i d l))

pub pushed_on : (t : PointSteps) (k : ℕ) (points : List Point) (i : ℕ) (d : Point) → i < length points → (initial before after : List Point)
    → before ≡ initial ++ filter (is_left t k) (take i points) → after ≡ before ++ filter (is_left t k) (get_or points i d ∷ [])
    → after ≡ initial ++ filter (is_left t k) (take (i + 1) points)
pushed_on t k points i d l initial before after old new =
    new ∙ ap (λ (ps : List Point). ps ++ filter (is_left t k) (get_or points i d ∷ [])) old
    ∙ append_assoc initial (filter (is_left t k) (take i points)) (filter (is_left t k) (get_or points i d ∷ []))
    ∙ ap (λ (ps : List Point). initial ++ ps) (left_more t k points i d l)

-- and from the last one on
left_back : (t : PointSteps) (k : ℕ) (points : List Point) (done : ℕ) (d : Point) → done < length points
    → filter (is_left t k) (reverse (drop (length points - done) points)) ++ filter (is_left t k) (get_or points (length points - 1 - done) d ∷ [])
    ≡ filter (is_left t k) (reverse (drop (length points - (done + 1)) points))
left_back t k points done d l =
    let i : ℕ = length points - 1 - done in
    let next : length points - done ≡ i + 1 = omega (arith, l) in
    let same : length points - (done + 1) ≡ i = omega (arith, l) in
    sym (filter-append (is_left t k) (reverse (drop (length points - done) points)) (get_or points i d ∷ []))
    ∙ ap (filter (is_left t k))
    (ap (λ (n : ℕ). reverse (drop n points) ++ get_or points i d ∷ []) next
    ∙ sym (reverse-append (get_or points i d ∷ []) (drop (i + 1) points))
    ∙ ap reverse (sym (drop_more points i d (omega (arith, l))))
    ∙ ap (λ (n : ℕ). reverse (drop n points)) (sym same))

pub pushed_back : (t : PointSteps) (k : ℕ) (points : List Point) (done : ℕ) (d : Point) → done < length points → (initial before after : List Point)
    → before ≡ initial ++ filter (is_left t k) (reverse (drop (length points - done) points))
    → after ≡ before ++ filter (is_left t k) (get_or points (length points - 1 - done) d ∷ [])
    → after ≡ initial ++ filter (is_left t k) (reverse (drop (length points - (done + 1)) points))
pushed_back t k points done d l initial before after old new =
    let last = filter (is_left t k) (get_or points (length points - 1 - done) d ∷ []) in
    new ∙ ap (λ (ps : List Point). ps ++ last) old
    ∙ append_assoc initial (filter (is_left t k) (reverse (drop (length points - done) points))) last
    ∙ ap (λ (ps : List Point). initial ++ ps) (left_back t k points done d l)
