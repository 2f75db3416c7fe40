-- Rows of points and edges less listed vertices: how often a point stands in them, and their inner points.
use Rattle.std.proofs.Common.{◌≡◌, ◌⊎◌, inl, inr, ℕ, ◌+◌, ◌≤◌, ◌||◌, Bool, true, false, not, cond, List, [], ◌∷◌, ◌++◌, filter, All, append_assoc, refl, sym, ap, ap₂, ◌∙◌, subst, arith}
use Rattle.std.specs.Prelude.{count_by}
use Rattle.std.proofs.lemmas.List.Folds.{list_any-append}
use Rattle.std.proofs.lemmas.List.Sums.{sum_by-cons, sum_by-append}
use Rattle.tgap_model.specs.declared.geometry.Point.{Point}
use Rattle.tgap_model.specs.declared.slice.Edge.{Edge}
use Rattle.tgap_model.specs.declared.slice.Removal.{Removal}
use Rattle.tgap_model.specs.Base.{same_point}
use Rattle.tgap_model.specs.Partition.{all_but_last}
use Rattle.tgap_model.specs.Removals.{is_removed, without}
use Rattle.tgap_model.proofs.Points.{same_point-from}
use Rattle.map_laws.proofs.ChainMembers.{Among, count_passes, count_fails, count_grows}
use Rattle.map_laws.proofs.Lists.{all_members, members_all, map_among}
use Rattle.removal_laws.specs.StandLaws.{live_points, inner_points, InnerPointsStandOnce, edges_less}

-- ---- how often a point stands in a row

pub times_of_append : (b : Point) (xs ys : List Point) → count_by (same_point b) (xs ++ ys) ≡ count_by (same_point b) xs + count_by (same_point b) ys
times_of_append b xs ys = sum_by-append (λ p. cond {A = ℕ} (same_point b p) 1 0) xs ys

-- as often as a test passes in a filter at most
pub filter_counts : (p q : Point → Bool) (xs : List Point) → count_by q (filter p xs) ≤ count_by q xs
filter_counts p q [] = omega arith
filter_counts p q (x ∷ xs) = by (p x) (filter_counts p q xs)
  where
    by : (v : Bool) → count_by q (filter p xs) ≤ count_by q xs → count_by q (cond v (x ∷ filter p xs) (filter p xs)) ≤ count_by q (x ∷ xs)
    by true h = omega (arith, sum_by-cons (λ y. cond {A = ℕ} (q y) 1 0) x (filter p xs), sum_by-cons (λ y. cond {A = ℕ} (q y) 1 0) x xs)
    by false h = omega (arith, count_grows q x xs)

-- ---- rows less listed vertices

-- less some and then less others
pub without_both : (rs ss : List Removal) (points : List Point) → without ss (without rs points) ≡ without (rs ++ ss) points
without_both rs ss [] = refl
without_both rs ss (x ∷ points) =
    by (is_removed rs x) (is_removed ss x) (without_both rs ss points)
    ∙ ap (λ (v : Bool). cond (not v) (x ∷ without (rs ++ ss) points) (without (rs ++ ss) points)) (sym (list_any-append (λ r. same_point r.point x) rs ss))
  where
    by : (v w : Bool) → without ss (without rs points) ≡ without (rs ++ ss) points
        → filter (λ p. not (is_removed ss p)) (cond (not v) (x ∷ without rs points) (without rs points))
        ≡ cond (not (v || is_removed ss x)) (x ∷ without (rs ++ ss) points) (without (rs ++ ss) points)
    by true w e = e
    by false w e = ap (λ (more : List Point). cond (not (is_removed ss x)) (x ∷ more) more) e

pub without_none : (points : List Point) → without [] points ≡ points
without_none [] = refl
without_none (x ∷ points) = ap (λ (more : List Point). x ∷ more) (without_none points)

pub without_append : (rs : List Removal) (xs ys : List Point) → without rs (xs ++ ys) ≡ without rs xs ++ without rs ys
without_append rs [] ys = refl
without_append rs (x ∷ xs) ys = by (not (is_removed rs x)) (without_append rs xs ys)
  where
    by : (v : Bool) → without rs (xs ++ ys) ≡ without rs xs ++ without rs ys
        → cond v (x ∷ without rs (xs ++ ys)) (without rs (xs ++ ys)) ≡ cond v (x ∷ without rs xs) (without rs xs) ++ without rs ys
    by true e = ap (λ (more : List Point). x ∷ more) e
    by false e = e

-- one vertex that stands nowhere
pub without_absent : (r : Removal) (points : List Point) → count_by (same_point r.point) points ≡ 0 → without (r ∷ []) points ≡ points
without_absent r [] h = refl
without_absent r (x ∷ points) h = by (same_point r.point x) refl (without_absent r points)
  where
    by : (v : Bool) → same_point r.point x ≡ v → (count_by (same_point r.point) points ≡ 0 → without (r ∷ []) points ≡ points)
        → cond (not (v || false)) (x ∷ without (r ∷ []) points) (without (r ∷ []) points) ≡ x ∷ points
    by true e rest = absurd (omega (arith, count_passes (same_point r.point) x points e))
    by false e rest = ap (λ (more : List Point). x ∷ more) (rest (omega (arith, count_fails (same_point r.point) x points e)))

-- and one that stands there
pub without_this : (r : Removal) (points : List Point) → without (r ∷ []) (r.point ∷ points) ≡ without (r ∷ []) points
without_this r points =
    ap (λ (v : Bool). cond (not (v || false)) (r.point ∷ without (r ∷ []) points) (without (r ∷ []) points)) (same_point-from r.point r.point refl)

-- ---- inner points

last_cases : (x b : Point) (points : List Point) → Among b (all_but_last (x ∷ points)) → (x ≡ b) ⊎ Among b (all_but_last points)
last_cases x b [] m = absurd m
last_cases x b (y ∷ points) m = m

last_more : (x b : Point) (points : List Point) → Among b (all_but_last points) → Among b (all_but_last (x ∷ points))
last_more x b [] m = absurd m
last_more x b (y ∷ points) m = inr m

-- of a filter
filter_but_last : (p : Point → Bool) (points : List Point) (b : Point) → Among b (all_but_last (filter p points)) → Among b (all_but_last points)
filter_but_last p [] b m = m
filter_but_last p (x ∷ []) b m = by (p x) m
  where
    by : (v : Bool) → Among b (all_but_last (cond v (x ∷ []) [])) → ⊥
    by true m = m
    by false m = m
filter_but_last p (x ∷ y ∷ points) b m = by (p x) m (filter_but_last p (y ∷ points) b)
  where
    by : (v : Bool) → Among b (all_but_last (cond v (x ∷ filter p (y ∷ points)) (filter p (y ∷ points))))
        → (Among b (all_but_last (filter p (y ∷ points))) → Among b (all_but_last (y ∷ points))) → (x ≡ b) ⊎ Among b (all_but_last (y ∷ points))
    by true n f = elim (last_cases x b (filter p (y ∷ points)) n) [ inl e ↦ inl e | inr l ↦ inr (f l) ]
    by false n f = inr (f n)

pub inner_is_early : (points : List Point) (b : Point) → Among b (inner_points points) → Among b (all_but_last points)
inner_is_early [] b m = m
inner_is_early (x ∷ points) b m = last_more x b points m

pub filter_inner : (p : Point → Bool) (points : List Point) (b : Point) → Among b (inner_points (filter p points)) → Among b (inner_points points)
filter_inner p [] b m = m
filter_inner p (x ∷ points) b m = by (p x) m (filter_inner p points b)
  where
    by : (v : Bool) → Among b (inner_points (cond v (x ∷ filter p points) (filter p points)))
        → (Among b (inner_points (filter p points)) → Among b (inner_points points)) → Among b (all_but_last points)
    by true n f = filter_but_last p points b n
    by false n f = inner_is_early points b (f n)

-- a point between others
early : (front : List Point) (b c : Point) (rest : List Point) → Among b (all_but_last (front ++ b ∷ c ∷ rest))
early [] b c rest = inl refl
early (x ∷ front) b c rest = last_more x b (front ++ b ∷ c ∷ rest) (early front b c rest)

pub inner_between : (front : List Point) (a b c : Point) (rest : List Point) → Among b (inner_points (front ++ a ∷ b ∷ c ∷ rest))
inner_between [] a b c rest = early [] b c rest
inner_between (x ∷ front) a b c rest = last_more_of front
  where
    last_more_of : (us : List Point) → Among b (all_but_last (us ++ a ∷ b ∷ c ∷ rest))
    last_more_of [] = early (a ∷ []) b c rest
    last_more_of (u ∷ us) = last_more u b (us ++ a ∷ b ∷ c ∷ rest) (last_more_of us)

-- ---- edges less listed vertices

pub less_none : (edges : List Edge) → edges_less [] edges ≡ edges
less_none [] = refl
less_none (e ∷ edges) = ap₂ (λ (ps : List Point) (more : List Edge). record e { points = ps } ∷ more) (without_none e.points) (less_none edges)

pub less_both : (rs ss : List Removal) (edges : List Edge) → edges_less ss (edges_less rs edges) ≡ edges_less (rs ++ ss) edges
less_both rs ss [] = refl
less_both rs ss (e ∷ edges) = ap₂ (λ (ps : List Point) (more : List Edge). record e { points = ps } ∷ more) (without_both rs ss e.points) (less_both rs ss edges)

pub points_append : (xs ys : List Edge) → live_points (xs ++ ys) ≡ live_points xs ++ live_points ys
points_append [] ys = refl
points_append (e ∷ xs) ys = ap (λ (more : List Point). e.points ++ more) (points_append xs ys) ∙ sym (append_assoc e.points (live_points xs) (live_points ys))

-- a vertex that stands in none of them
pub less_absent : (r : Removal) (edges : List Edge) → count_by (same_point r.point) (live_points edges) ≡ 0 → edges_less (r ∷ []) edges ≡ edges
less_absent r [] h = refl
less_absent r (e ∷ edges) h = ap₂ (λ (ps : List Point) (more : List Edge). record e { points = ps } ∷ more)
    (without_absent r e.points (omega (arith, times_of_append r.point e.points (live_points edges))))
    (less_absent r edges (omega (arith, times_of_append r.point e.points (live_points edges))))

less_counts : (rs : List Removal) (b : Point) (edges : List Edge) → count_by (same_point b) (live_points (edges_less rs edges)) ≤ count_by (same_point b) (live_points edges)
less_counts rs b [] = omega arith
less_counts rs b (e ∷ edges) = omega (
  arith,
  times_of_append b (without rs e.points) (live_points (edges_less rs edges)),
  times_of_append b e.points (live_points edges),
  filter_counts (λ p. not (is_removed rs p)) (same_point b) e.points,
  less_counts rs b edges,
)

-- ---- inner points that stand once, by members

pub stands_at : (edges : List Edge) → InnerPointsStandOnce edges → (e : Edge) → Among e edges → (b : Point) → Among b (inner_points e.points)
    → count_by (same_point b) (live_points edges) ≤ 1
stands_at edges h e m b n =
    members_all (λ c. count_by (same_point c) (live_points edges) ≤ 1) (inner_points e.points) b
    (members_all (λ f. All (λ c. count_by (same_point c) (live_points edges) ≤ 1) (inner_points f.points)) edges e h m) n

pub stands_from : (edges : List Edge)
    → ((e : Edge) → Among e edges → (b : Point) → Among b (inner_points e.points) → count_by (same_point b) (live_points edges) ≤ 1) → InnerPointsStandOnce edges
stands_from edges f =
    all_members (λ e. All (λ c. count_by (same_point c) (live_points edges) ≤ 1) (inner_points e.points)) edges
    (λ e m. all_members (λ c. count_by (same_point c) (live_points edges) ≤ 1) (inner_points e.points) (f e m))

-- they still do so where vertices are left out
pub less_stands : (rs : List Removal) (edges : List Edge) → InnerPointsStandOnce edges → InnerPointsStandOnce (edges_less rs edges)
less_stands rs edges h = stands_from (edges_less rs edges) (λ e m b n.
    let old = map_among (λ (f : Edge). record f { points = without rs f.points }) edges e m in
    omega (
      arith,
      less_counts rs b edges,
      stands_at edges h old.0 old.1 b
          (filter_inner (λ p. not (is_removed rs p)) old.0.points b (subst (λ (f : Edge). Among b (inner_points f.points)) (sym old.2) n)),
    ))
