-- The position of a segment and of an inner point: found place after place, and what is put in or taken out there.
use Rattle.std.proofs.Common.{◌≡◌, ◌∙◌, ℕ, zero, suc, ◌+◌, ◌-◌, ◌≤◌, ◌<◌, true, false, List, [], ◌∷◌, length, drop, get_or, ◌++◌, map, set, take, append_assoc, Option, Some, None, insert, remove, refl, sym, ap, subst, arith, length-drop}
use Rattle.std.specs.Prelude.{option_map}
use Rattle.std.specs.List.{list_any}
use Rattle.std.proofs.lemmas.Bool.{or_from}
use Rattle.std.proofs.lemmas.List.{drop_more, length-map, length-take-le, get_or_at, set_at, set-get_or, map_more}
use Rattle.tgap_model.specs.declared.geometry.Point.{Point}
use Rattle.tgap_model.specs.Base.{same_point}
use Rattle.tgap_model.specs.Chains.{first_point, last_point}
use Rattle.edit_laws.specs.Edits.{are_ends, put_between, take_out, neighbours}
use Rattle.edit_laws.proofs.Cases.{by_test, by_option}
use Rattle.map_version.specs.Positions.{segment_at, inner_at}

-- a position further on
abbrev pub further : ℕ → Option ℕ → Option ℕ
further n o = option_map (λ k. n + k) o

pub no_further : (o : Option ℕ) → further 0 o ≡ o
no_further None = refl
no_further (Some k) = (let e : 0 + k ≡ k = omega arith in ap (λ (n : ℕ). Some n) e)

one_further : (n : ℕ) (o : Option ℕ) → further n (option_map (λ k. suc k) o) ≡ further (n + 1) o
one_further n None = refl
one_further n (Some k) = (let e : n + suc k ≡ n + 1 + k = omega arith in ap (λ (m : ℕ). Some m) e)

-- ---- a segment

-- a segment that is none of these ends is passed over
pub segment_later : (a b : Point) (points : List Point) (i : ℕ) (d : Point) → suc i < length points → are_ends a b (get_or points i d) (get_or points (i + 1) d) ≡ false
    → further i (segment_at a b (drop i points)) ≡ further (i + 1) (segment_at a b (drop (i + 1) points))
segment_later a b points i d lt apart =
    let here = drop_more points i d (omega arith) in
    let next = drop_more points (i + 1) d (omega arith) in
    rw (here, next, apart) (one_further i (segment_at a b (get_or points (i + 1) d ∷ drop (i + 1 + 1) points)))

pub segment_here : (a b : Point) (points : List Point) (i : ℕ) (d : Point) → suc i < length points → are_ends a b (get_or points i d) (get_or points (i + 1) d) ≡ true
    → segment_at a b (drop i points) ≡ Some 1
segment_here a b points i d lt found =
    let here = drop_more points i d (omega arith) in
    let next = drop_more points (i + 1) d (omega arith) in
    rw (here, next, found) refl

pub segment_short : (a b : Point) (points : List Point) → length points ≤ 1 → segment_at a b points ≡ None
segment_short a b [] h = refl
segment_short a b (p ∷ []) h = refl
segment_short a b (p ∷ q ∷ points) h = absurd (omega arith)

-- a loop that is at the second point of a segment goes on where the segment is another
pub segment_step : (a b : Point) (points : List Point) (i : ℕ) (d : Point) → 1 ≤ i → i < length points → are_ends a b (get_or points (i - 1) d) (get_or points i d) ≡ false
    → segment_at a b points ≡ further (i - 1) (segment_at a b (drop (i - 1) points)) → segment_at a b points ≡ further (i + 1 - 1) (segment_at a b (drop (i + 1 - 1) points))
segment_step a b points i d some lt apart e =
    let here : i ≡ i - 1 + 1 = omega arith in
    let next : i - 1 + 1 ≡ i + 1 - 1 = omega arith in
    e ∙ (segment_later a b points (i - 1) d (omega arith) (subst (λ (m : ℕ). are_ends a b (get_or points (i - 1) d) (get_or points m d) ≡ false) here apart)
    ∙ ap (λ (m : ℕ). further m (segment_at a b (drop m points))) next)

pub segment_found : (a b : Point) (points : List Point) (i : ℕ) (d : Point) → 1 ≤ i → i < length points → are_ends a b (get_or points (i - 1) d) (get_or points i d) ≡ true
    → segment_at a b points ≡ further (i - 1) (segment_at a b (drop (i - 1) points)) → Some i ≡ segment_at a b points
segment_found a b points i d some lt found e =
    let here : i ≡ i - 1 + 1 = omega arith in
    sym (e ∙ (ap (further (i - 1)) (segment_here a b points (i - 1) d (omega arith) (subst (λ (m : ℕ). are_ends a b (get_or points (i - 1) d) (get_or points m d) ≡ true) here found))
    ∙ ap (λ (m : ℕ). Some m) (sym here)))

pub segment_none : (a b : Point) (points : List Point) (i : ℕ) → length points ≤ i
    → segment_at a b points ≡ further (i - 1) (segment_at a b (drop (i - 1) points)) → None ≡ segment_at a b points
segment_none a b points i le e = sym (e ∙ ap (further (i - 1)) (segment_short a b (drop (i - 1) points) (omega (arith, length-drop (i - 1) points))))

-- ---- an inner point

pub inner_later : (old : Point) (points : List Point) (i : ℕ) (d : Point) → suc (suc i) < length points → same_point old (get_or points (i + 1) d) ≡ false
    → further i (inner_at old (drop i points)) ≡ further (i + 1) (inner_at old (drop (i + 1) points))
inner_later old points i d lt apart =
    let here = drop_more points i d (omega arith) in
    let next = drop_more points (i + 1) d (omega arith) in
    let last = drop_more points (i + 1 + 1) d (omega arith) in
    rw (here, next, last, apart) (one_further i (inner_at old (get_or points (i + 1) d ∷ get_or points (i + 1 + 1) d ∷ drop (i + 1 + 1 + 1) points)))

pub inner_here : (old : Point) (points : List Point) (i : ℕ) (d : Point) → suc (suc i) < length points → same_point old (get_or points (i + 1) d) ≡ true
    → inner_at old (drop i points) ≡ Some 1
inner_here old points i d lt found =
    let here = drop_more points i d (omega arith) in
    let next = drop_more points (i + 1) d (omega arith) in
    let last = drop_more points (i + 1 + 1) d (omega arith) in
    rw (here, next, last, found) refl

pub inner_short : (old : Point) (points : List Point) → length points ≤ 2 → inner_at old points ≡ None
inner_short old [] h = refl
inner_short old (p ∷ []) h = refl
inner_short old (p ∷ q ∷ []) h = refl
inner_short old (p ∷ q ∷ r ∷ points) h = absurd (omega arith)

-- a loop that is at the point after an inner one goes on where the inner one is another
pub inner_step : (old : Point) (points : List Point) (i : ℕ) (d : Point) → 2 ≤ i → i < length points → same_point old (get_or points (i - 1) d) ≡ false
    → inner_at old points ≡ further (i - 2) (inner_at old (drop (i - 2) points)) → inner_at old points ≡ further (i + 1 - 2) (inner_at old (drop (i + 1 - 2) points))
inner_step old points i d some lt apart e =
    let here : i - 1 ≡ i - 2 + 1 = omega arith in
    let next : i - 2 + 1 ≡ i + 1 - 2 = omega arith in
    e ∙ (inner_later old points (i - 2) d (omega arith) (subst (λ (m : ℕ). same_point old (get_or points m d) ≡ false) here apart)
    ∙ ap (λ (m : ℕ). further m (inner_at old (drop m points))) next)

pub inner_found : (old : Point) (points : List Point) (i : ℕ) (d : Point) → 2 ≤ i → i < length points → same_point old (get_or points (i - 1) d) ≡ true
    → inner_at old points ≡ further (i - 2) (inner_at old (drop (i - 2) points)) → Some (i - 1) ≡ inner_at old points
inner_found old points i d some lt found e =
    let here : i - 1 ≡ i - 2 + 1 = omega arith in
    sym (e ∙ (ap (further (i - 2)) (inner_here old points (i - 2) d (omega arith) (subst (λ (m : ℕ). same_point old (get_or points m d) ≡ true) here found))
    ∙ ap (λ (m : ℕ). Some m) (sym here)))

pub inner_none : (old : Point) (points : List Point) (i : ℕ) → length points ≤ i
    → inner_at old points ≡ further (i - 2) (inner_at old (drop (i - 2) points)) → None ≡ inner_at old points
inner_none old points i le e = sym (e ∙ ap (further (i - 2)) (inner_short old (drop (i - 2) points) (omega (arith, length-drop (i - 2) points))))

-- ---- what is put in and taken out

-- one point before both
onto : (p : Point) (o : Option ℕ) (f : ℕ → List Point) (g : ℕ → List Point) → ((k : ℕ) → g (suc k) ≡ p ∷ f k)
    → option_map (λ rest. p ∷ rest) (option_map f o) ≡ option_map g (option_map (λ k. suc k) o)
onto p None f g same = refl
onto p (Some k) f g same = ap (λ (xs : List Point). Some xs) (sym (same k))

-- a point is put between the ends of the first segment
pub put_is_insert : (a b new : Point) (points : List Point) → put_between a b new points ≡ option_map (λ k. insert points k new) (segment_at a b points)
put_is_insert a b new [] = refl
put_is_insert a b new (p ∷ []) = refl
put_is_insert a b new (p ∷ q ∷ points) =
    by_test (are_ends a b p q)
    (λ e. rw (e, put_between, segment_at) refl)
    (λ e. rw (e, put_between, segment_at) (ap (option_map (λ (rest : List Point). p ∷ rest)) (put_is_insert a b new (q ∷ points))
    ∙ onto p (segment_at a b (q ∷ points)) (λ k. insert (q ∷ points) k new) (λ k. insert (p ∷ q ∷ points) k new) (λ k. refl)))

-- the first inner point that is this is taken out
pub take_is_remove : (old : Point) (points : List Point) → take_out old points ≡ option_map (λ k. remove points k) (inner_at old points)
take_is_remove old [] = refl
take_is_remove old (p ∷ []) = refl
take_is_remove old (p ∷ q ∷ []) = refl
take_is_remove old (p ∷ q ∷ r ∷ points) =
    by_test (same_point old q)
    (λ e. rw (e, take_out, inner_at) refl)
    (λ e. rw (e, take_out, inner_at) (ap (option_map (λ (rest : List Point). p ∷ rest)) (take_is_remove old (q ∷ r ∷ points))
    ∙ onto p (inner_at old (q ∷ r ∷ points)) (λ k. remove (q ∷ r ∷ points) k) (λ k. remove (p ∷ q ∷ r ∷ points) k) (λ k. refl)))

-- ---- the range of a position

pub segment_within : (a b : Point) (points : List Point) (k : ℕ) → segment_at a b points ≡ Some k → (1 ≤ k) × (k < length points)
segment_within a b [] k e = absurd cc
segment_within a b (p ∷ []) k e = absurd cc
segment_within a b (p ∷ q ∷ points) k e =
    by_test (are_ends a b p q)
    (λ t. let f : segment_at a b (p ∷ q ∷ points) ≡ Some 1 = rw (t, segment_at) refl in let same : 1 ≡ k = cc in (omega arith, omega arith))
    (λ t. by_option (segment_at a b (q ∷ points))
    (λ none. absurd (let f : segment_at a b (p ∷ q ∷ points) ≡ None = rw (t, segment_at, none) refl in cc))
    (λ n some.
    let f : segment_at a b (p ∷ q ∷ points) ≡ Some (suc n) = rw (t, segment_at, some) refl in
    let same : suc n ≡ k = cc in
    let rest = segment_within a b (q ∷ points) n some in
    (omega arith, omega (arith, rest.1))))

pub inner_within : (old : Point) (points : List Point) (k : ℕ) → inner_at old points ≡ Some k → (1 ≤ k) × (suc k < length points)
inner_within old [] k e = absurd cc
inner_within old (p ∷ []) k e = absurd cc
inner_within old (p ∷ q ∷ []) k e = absurd cc
inner_within old (p ∷ q ∷ r ∷ points) k e =
    by_test (same_point old q)
    (λ t. let f : inner_at old (p ∷ q ∷ r ∷ points) ≡ Some 1 = rw (t, inner_at) refl in let same : 1 ≡ k = cc in (omega arith, omega arith))
    (λ t. by_option (inner_at old (q ∷ r ∷ points))
    (λ none. absurd (let f : inner_at old (p ∷ q ∷ r ∷ points) ≡ None = rw (t, inner_at, none) refl in cc))
    (λ n some.
    let f : inner_at old (p ∷ q ∷ r ∷ points) ≡ Some (suc n) = rw (t, inner_at, some) refl in
    let same : suc n ≡ k = cc in
    let rest = inner_within old (q ∷ r ∷ points) n some in
    (omega arith, omega (arith, rest.1))))

-- the points before and after the first inner point that is this
abbrev pub beside : List Point → Point → ℕ → Point × Point
beside points d k = (get_or points (k - 1) d, get_or points (k + 1) d)

-- the same points one position on
one_on : (p : Point) (points : List Point) (d : Point) (n : ℕ) → 1 ≤ n → beside points d n ≡ beside (p ∷ points) d (suc n)
one_on p points d zero some = absurd (omega arith)
one_on p points d (suc n) some =
    let before : suc (suc n) - 1 ≡ suc (suc n - 1) = omega arith in
    let after : suc (suc n) + 1 ≡ suc (suc n + 1) = omega arith in
    rw (before, after) refl

pub neighbours_are : (old : Point) (points : List Point) (d : Point) (k : ℕ) → inner_at old points ≡ Some k → neighbours old points ≡ Some (beside points d k)
neighbours_are old [] d k e = absurd cc
neighbours_are old (p ∷ []) d k e = absurd cc
neighbours_are old (p ∷ q ∷ []) d k e = absurd cc
neighbours_are old (p ∷ q ∷ r ∷ points) d k e =
    by_test (same_point old q)
    (λ t. let f : inner_at old (p ∷ q ∷ r ∷ points) ≡ Some 1 = rw (t, inner_at) refl in
    let same : 1 ≡ k = cc in
    let found : neighbours old (p ∷ q ∷ r ∷ points) ≡ Some (beside (p ∷ q ∷ r ∷ points) d 1) = rw (t, neighbours) refl in
    subst (λ (n : ℕ). neighbours old (p ∷ q ∷ r ∷ points) ≡ Some (beside (p ∷ q ∷ r ∷ points) d n)) same found)
    (λ t. by_option (inner_at old (q ∷ r ∷ points))
    (λ none. absurd (let f : inner_at old (p ∷ q ∷ r ∷ points) ≡ None = rw (t, inner_at, none) refl in cc))
    (λ n some.
    let f : inner_at old (p ∷ q ∷ r ∷ points) ≡ Some (suc n) = rw (t, inner_at, some) refl in
    let same : suc n ≡ k = cc in
    let some_point = (inner_within old (q ∷ r ∷ points) n some).0 in
    let found : neighbours old (p ∷ q ∷ r ∷ points) ≡ neighbours old (q ∷ r ∷ points) = rw (t, neighbours) refl in
    subst (λ (m : ℕ). neighbours old (p ∷ q ∷ r ∷ points) ≡ Some (beside (p ∷ q ∷ r ∷ points) d m)) same
    (found ∙ neighbours_are old (q ∷ r ∷ points) d n some ∙ ap (λ (x : Point × Point). Some x) (one_on p (q ∷ r ∷ points) d n some_point))))

-- where nothing is found there are no neighbours
pub no_neighbours : (old : Point) (points : List Point) → inner_at old points ≡ None → neighbours old points ≡ None
no_neighbours old [] e = refl
no_neighbours old (p ∷ []) e = refl
no_neighbours old (p ∷ q ∷ []) e = refl
no_neighbours old (p ∷ q ∷ r ∷ points) e =
    by_test (same_point old q)
    (λ t. absurd (let f : inner_at old (p ∷ q ∷ r ∷ points) ≡ Some 1 = rw (t, inner_at) refl in cc))
    (λ t. by_option (inner_at old (q ∷ r ∷ points))
    (λ none. let found : neighbours old (p ∷ q ∷ r ∷ points) ≡ neighbours old (q ∷ r ∷ points) = rw (t, neighbours) refl in
    found ∙ no_neighbours old (q ∷ r ∷ points) none)
    (λ n some. absurd (let f : inner_at old (p ∷ q ∷ r ∷ points) ≡ Some (suc n) = rw (t, inner_at, some) refl in cc)))

-- a point that is neither an end nor an inner point is none of them
pub no_inner : (old : Point) (points : List Point) → same_point old (first_point points) ≡ false → same_point old (last_point points) ≡ false → inner_at old points ≡ None
    → list_any (same_point old) points ≡ false
no_inner old [] first last none = refl
no_inner old (p ∷ []) first last none = or_from _ _ first refl
no_inner old (p ∷ q ∷ []) first last none = or_from _ _ first (or_from _ _ last refl)
no_inner old (p ∷ q ∷ r ∷ points) first last none =
    by_test (same_point old q)
    (λ t. absurd (let f : inner_at old (p ∷ q ∷ r ∷ points) ≡ Some 1 = rw (t, inner_at) refl in cc))
    (λ t. by_option (inner_at old (q ∷ r ∷ points))
    (λ rest. or_from _ _ first (no_inner old (q ∷ r ∷ points) t last rest))
    (λ n some. absurd (let f : inner_at old (p ∷ q ∷ r ∷ points) ≡ Some (suc n) = rw (t, inner_at, some) refl in cc)))

-- ---- the ends of an arc

pub first_is : (points : List Point) (d : Point) → 1 ≤ length points → first_point points ≡ get_or points 0 d
first_is [] d some = absurd (omega arith)
first_is (p ∷ points) d some = refl

pub last_is : (points : List Point) (d : Point) → 1 ≤ length points → last_point points ≡ get_or points (length points - 1) d
last_is [] d some = absurd (omega arith)
last_is (p ∷ []) d some = refl
last_is (p ∷ q ∷ points) d some =
    let e : length (p ∷ q ∷ points) - 1 ≡ suc (length (q ∷ points) - 1) = omega arith in
    last_is (q ∷ points) d (omega arith) ∙ ap (λ (n : ℕ). get_or (p ∷ q ∷ points) n d) (sym e)

-- ---- points that are moved one after another

-- one more is moved
pub moved_more : (f : Point → Point) (from points : List Point) (i : ℕ) (d : Point) → i < length from → points ≡ map f (take i from) ++ drop i from
    → set points i (f (get_or points i d)) ≡ map f (take (i + 1) from) ++ drop (i + 1) from
moved_more f from points i d lt e =
    let front : length (map f (take i from)) ≡ i = length-map (take i from) f ∙ length-take-le i from (omega arith) in
    let rest = drop_more from i d lt in
    let cut : points ≡ map f (take i from) ++ (get_or from i d ∷ drop (i + 1) from) = e ∙ ap (λ (xs : List Point). map f (take i from) ++ xs) rest in
    let here : get_or points i d ≡ get_or from i d = ap (λ (xs : List Point). get_or xs i d) cut ∙ get_or_at (map f (take i from)) (get_or from i d) (drop (i + 1) from) d i front in
    ap (λ (x : Point). set points i (f x)) here
    ∙ (ap (λ (xs : List Point). set xs i (f (get_or from i d))) cut
    ∙ (set_at (map f (take i from)) (get_or from i d) (drop (i + 1) from) (f (get_or from i d)) i front
    ∙ (sym (append_assoc (map f (take i from)) (f (get_or from i d) ∷ []) (drop (i + 1) from))
    ∙ ap (λ (xs : List Point). xs ++ drop (i + 1) from) (sym (map_more f from i d lt)))))

-- one that is not moved stays
pub kept_more : (f : Point → Point) (from points : List Point) (i : ℕ) (d : Point) → i < length from → f (get_or points i d) ≡ get_or points i d
    → points ≡ map f (take i from) ++ drop i from → points ≡ map f (take (i + 1) from) ++ drop (i + 1) from
kept_more f from points i d lt same e =
    sym (set-get_or points i d) ∙ (ap (set points i) (sym same) ∙ moved_more f from points i d lt e)
