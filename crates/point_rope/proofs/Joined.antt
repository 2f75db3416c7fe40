-- The row that runs make.
use Rattle.std.proofs.Common.{◌≡◌, ℕ, ◌+◌, ◌-◌, ◌≤◌, ◌<◌, Option, None, Some, option_to_list, MatchOption, Result, Ok, Err, OnOk, is_ok, Bool, true, false, cond, ◌||◌, nat_lt, List, [], ◌∷◌, ◌++◌, length, map, filter, reverse, take, drop, get_or, All, refl, sym, ap, ap₂, ◌∙◌, subst, append_assoc, arith}
use Rattle.std.proofs.lemmas.List.{append-nil, take_more, take-append-drop, at_drop_more, drop_all, take_all, nil_from_length, length-append, map-append, reverse-append}
use Rattle.std.specs.List.{list_any}
use Rattle.std.proofs.lemmas.Bool.{or_left, or_right, lt-ltb}
use Rattle.std.proofs.lemmas.List.Elements.{All-append, filter-append}
use Rattle.std.proofs.lemmas.List.Folds.{list_any-append}
use Rattle.std.proofs.lemmas.List.Sums.{length-filter, count_by-le-length}
use Rattle.std.proofs.Math.Seq.{take-append_seam}
use Rattle.tgap_model.specs.declared.geometry.Point.{Point}
use Rattle.point_rope.specs.Runs.{joined}

pub joined-append : (xss yss : List (List Point)) → joined (xss ++ yss) ≡ joined xss ++ joined yss
joined-append [] yss = refl
joined-append (x ∷ xss) yss = ap (λ (zs : List Point). x ++ zs) (joined-append xss yss) ∙ sym (append_assoc x (joined xss) (joined yss))

pub joined_push : (xss : List (List Point)) (x : List Point) → joined (xss ++ x ∷ []) ≡ joined xss ++ x
joined_push xss x = joined-append xss (x ∷ []) ∙ ap (λ (zs : List Point). joined xss ++ zs) (append-nil x)

-- one run more
pub joined_more : (xss : List (List Point)) (k : ℕ) (d : List Point) → k < length xss → joined (take (k + 1) xss) ≡ joined (take k xss) ++ get_or xss k d
joined_more xss k d short = ap joined (take_more xss k d short) ∙ joined_push (take k xss) (get_or xss k d)

pub count_more : (xss : List (List Point)) (k : ℕ) (d : List Point) → k < length xss → length (joined (take (k + 1) xss)) ≡ length (joined (take k xss)) + length (get_or xss k d)
count_more xss k d short = ap length (joined_more xss k d short) ∙ length-append (joined (take k xss)) (get_or xss k d)

-- a run among the others
pub joined_at : (xss : List (List Point)) (k : ℕ) (d : List Point) → k < length xss → joined xss ≡ joined (take k xss) ++ (get_or xss k d ++ joined (drop (k + 1) xss))
joined_at xss k d short =
    ap joined (sym (take-append-drop k xss)) ∙ joined-append (take k xss) (drop k xss)
    ∙ at_drop_more (λ (rest : List (List Point)). joined (take k xss) ++ joined rest) xss k d short

pub count_within : (xss : List (List Point)) (k : ℕ) (d : List Point) → k < length xss → length (joined (take k xss)) + length (get_or xss k d) ≤ length (joined xss)
count_within xss k d short =
    let here = get_or xss k d in
    let behind = joined (drop (k + 1) xss) in
    omega (arith, ap (λ (zs : List Point). length zs) (joined_at xss k d short), length-append (joined (take k xss)) (here ++ behind), length-append here behind)

pub All-joined_more : (P : Point → Type 0) (xss : List (List Point)) (k : ℕ) (d : List Point) → k < length xss → All P (joined (take k xss)) → All P (get_or xss k d) → All P (joined (take (k + 1) xss))
All-joined_more P xss k d short h here = subst (λ (zs : List Point). All P zs) (sym (joined_more xss k d short)) (All-append P (joined (take k xss)) (get_or xss k d) h here)

-- ---- changes

pub filter-joined : (test : Point → Bool) (xss : List (List Point)) → joined (map (filter test) xss) ≡ filter test (joined xss)
filter-joined test [] = refl
filter-joined test (x ∷ xss) = ap (λ (zs : List Point). filter test x ++ zs) (filter-joined test xss) ∙ sym (filter-append test x (joined xss))

-- without the empty runs
pub joined_without : (xss : List (List Point)) → joined (filter (λ x. nat_lt 0 (length x)) xss) ≡ joined xss
joined_without [] = refl
joined_without ([] ∷ xss) = joined_without xss
joined_without ((a ∷ x) ∷ xss) =
    let rest = filter (λ (y : List Point). nat_lt 0 (length y)) xss in
    let some : nat_lt 0 (length (a ∷ x)) ≡ true = lt-ltb 0 (length (a ∷ x)) (omega arith) in
    ap (λ (b : Bool). joined (cond b ((a ∷ x) ∷ rest) rest)) some ∙ ap (λ (zs : List Point). (a ∷ x) ++ zs) (joined_without xss)

pub reverse-joined : (xss : List (List Point)) → joined (map reverse (reverse xss)) ≡ reverse (joined xss)
reverse-joined [] = refl
reverse-joined (x ∷ xss) =
    ap (λ (zss : List (List Point)). joined (map reverse zss)) (reverse-append (x ∷ []) xss)
    ∙ ap joined (map-append reverse (reverse xss) (x ∷ []))
    ∙ joined_push (map reverse (reverse xss)) (reverse x)
    ∙ ap (λ (zs : List Point). zs ++ reverse x) (reverse-joined xss)
    ∙ sym (reverse-append x (joined xss))

pub any_joined : (test : Point → Bool) (xss : List (List Point)) (k : ℕ) (d : List Point) → k < length xss → list_any test (get_or xss k d) ≡ true → list_any test (joined xss) ≡ true
any_joined test xss k d short h =
    let here = get_or xss k d in
    let behind = joined (drop (k + 1) xss) in
    ap (list_any test) (joined_at xss k d short) ∙ list_any-append test (joined (take k xss)) (here ++ behind)
    ∙ or_right (list_any test (joined (take k xss))) (list_any test (here ++ behind)) (list_any-append test here behind ∙ or_left (list_any test here) (list_any test behind) h)

pub none_joined : (test : Point → Bool) (xss : List (List Point)) (k : ℕ) (d : List Point) → k < length xss → list_any test (joined (take k xss)) ≡ false → list_any test (get_or xss k d) ≡ false
    → list_any test (joined (take (k + 1) xss)) ≡ false
none_joined test xss k d short h here =
    ap (list_any test) (joined_more xss k d short) ∙ list_any-append test (joined (take k xss)) (get_or xss k d) ∙ ap₂ (λ (b c : Bool). b || c) h here

-- a list of which every part was written
pub whole_written : {X : Type 0} (old new : List X) (n : ℕ) → length new ≡ length old → n ≡ length old → take n (new ++ drop (length new) old) ≡ new
whole_written {X = X} old new n same is =
    ap (λ (zs : List X). take n (new ++ zs)) (drop_all (length new) old (omega (arith, same))) ∙ ap (take n) (append-nil new) ∙ take_all n new (omega (arith, same, is))

pub count_push : (xss : List (List Point)) (x : List Point) → length (joined (xss ++ x ∷ [])) ≡ length (joined xss) + length x
count_push xss x = ap length (joined_push xss x) ∙ length-append (joined xss) x

-- a run came in at the end, or memory was wanting
pub pushed_if : {T E : Type 0} (r : Result T E) (new full : List (List Point)) (run : List Point) → new ≡ cond (is_ok r) (full ++ run ∷ []) full → OnOk r (joined new ≡ joined full ++ run)
pushed_if (Ok x) new full run e = ap joined e ∙ joined_push full run
pushed_if (Err x) new full run e = tt

pub filter_few : (test : Point → Bool) (points : List Point) → length (filter test points) ≤ length points
filter_few test points = omega (arith, length-filter test points, count_by-le-length test points)

-- ---- what comes behind a row

-- a run or other points behind full runs, of which the last one was made of what stood behind them
pub put_behind : (new full last more rest : List Point) → rest ≡ [] → new ≡ (full ++ last) ++ more → new ++ rest ≡ (full ++ last) ++ more
put_behind new full last more rest none e = ap (λ (l : List Point). new ++ l) none ∙ append-nil new ∙ e

-- ---- a row without its last point

pub without_last : (B C : Type 0) (full last new : List Point) (o : Option Point) (n : ℕ) → last ≡ new ++ option_to_list o → MatchOption o ((n ≡ 0) × C) (λ _. B) → n ≡ length last
    → (length last ≡ 0 → length full ≡ 0) → full ++ new ≡ take (length (full ++ last) - 1) (full ++ last)
without_last B C full last new None n e m is end =
    let none : length last ≡ 0 = omega (arith, m.0, is) in
    let ef = nil_from_length full (end none) in
    let el = nil_from_length last none in
    let en = nil_from_length new (omega (arith, none, ap (λ (l : List Point). length l) e, length-append new [])) in
    ap₂ (λ (f l : List Point). f ++ l) ef en ∙ sym (ap₂ (λ (f l : List Point). take (length (f ++ l) - 1) (f ++ l)) ef el)
without_last B C full last new (Some p) n e m is end =
    let front = full ++ new in
    let all : full ++ last ≡ front ++ p ∷ [] = ap (λ (l : List Point). full ++ l) e ∙ sym (append_assoc full new (p ∷ [])) in
    let size : length (full ++ last) - 1 ≡ length front = omega (arith, ap (λ (l : List Point). length l) all, length-append front (p ∷ [])) in
    sym (ap (λ (k : ℕ). take k (full ++ last)) size ∙ ap (take (length front)) all ∙ take-append_seam front (p ∷ []))
