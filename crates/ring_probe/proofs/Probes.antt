-- Segments of a row of points, one after the other.
use Rattle.std.proofs.Common.{◌≡◌, ◌≢◌, ℕ, ◌+◌, ◌-◌, ◌<◌, ◌≤◌, Bool, true, false, cond, List, [], ◌∷◌, ◌++◌, length, get_or, take, drop, reverse, All, refl, sym, ap, ap₂, ◌∙◌, subst, arith}
use Rattle.std.specs.Prelude.{Some, None, count_by}
use Rattle.std.specs.Ordering.{int_eq}
use Rattle.std.proofs.lemmas.Bool.{false_from_ne_true}
use Rattle.std.proofs.lemmas.Bool.Decides.{Decides-int_eq}
use Rattle.std.proofs.lemmas.List.{at_drop_more, drop_all, take_all, take_more, get_or-reverse, length-reverse}
use Rattle.std.proofs.lemmas.List.Elements.{All-nil, All-cons, All-head, All-tail}
use Rattle.lemmas.specs.Parity.{is_odd, either_alone}
use Rattle.lemmas.proofs.Counts.{count_by-cons, is_odd-count_by-append}
use Rattle.tgap_model.specs.declared.geometry.Point.{Point}
use Rattle.tgap_model.specs.declared.geometry.Seg.{Seg}
use Rattle.tgap_model.specs.Bounds.{HasNearEnds, IsNear}
use Rattle.ring_walk.specs.declared.side.Way.{Way}
use Rattle.ring_walk.specs.declared.side.Way.TheVariants.{Along, Against}
use Rattle.ring_walk.specs.Areas.{first_leaning, is_over, points_by, segments_of}

-- ---- the segments of a row

length-along : (points : List Point) → length (segments_of points) ≡ length points - 1
length-along [] = refl
length-along (p ∷ []) = refl
length-along (p ∷ q ∷ points) = let e = length-along (q ∷ points) in omega (arith, e)

pub length-segments : (way : Way) (points : List Point) → length (segments_of (points_by way points)) ≡ length points - 1
length-segments Along points = length-along points
length-segments Against points = length-along (reverse points) ∙ ap (λ (n : ℕ). n - 1) (length-reverse points)

-- the first that is not vertical, from a segment on
pub leaning_here : (segments : List Seg) (i : ℕ) (s : Seg) → i < length segments → s ≡ get_or segments i s → s.a.x ≢ s.b.x → first_leaning (drop i segments) ≡ Some s
leaning_here segments i s l here leans =
    at_drop_more first_leaning segments i s l ∙ ap (λ (t : Seg). first_leaning (t ∷ drop (i + 1) segments)) (sym here)
    ∙ ap (λ (b : Bool). cond b (first_leaning (drop (i + 1) segments)) (Some s)) (false_from_ne_true (int_eq s.a.x s.b.x) (λ e. leans ((Decides-int_eq s.a.x s.b.x).0 e)))

pub leaning_later : (segments : List Seg) (i : ℕ) (s : Seg) → i < length segments → s ≡ get_or segments i s → s.a.x ≡ s.b.x → first_leaning (drop (i + 1) segments) ≡ first_leaning (drop i segments)
leaning_later segments i s l here level =
    sym (at_drop_more first_leaning segments i s l ∙ ap (λ (t : Seg). first_leaning (t ∷ drop (i + 1) segments)) (sym here)
    ∙ ap (λ (b : Bool). cond b (first_leaning (drop (i + 1) segments)) (Some s)) ((Decides-int_eq s.a.x s.b.x).1 level))

pub leaning_none : (segments : List Seg) (i : ℕ) → length segments ≤ i → first_leaning (drop i segments) ≡ None
leaning_none segments i l = ap first_leaning (drop_all i segments l)

-- one more that passes a test, or not
pub odd_more : {A : Type 0} (p : A → Bool) (xs : List A) (i : ℕ) (x : A) (b odd : Bool) → i < length xs → x ≡ get_or xs i x → b ≡ p x
    → odd ≡ is_odd (count_by p (take i xs)) → either_alone odd b ≡ is_odd (count_by p (take (i + 1) xs))
odd_more {A} p xs i x b odd l here is_b so_far =
    ap₂ either_alone so_far (is_b ∙ sym (ap is_odd (count_by-cons p x []) ∙ one (p x) (count_by p []) refl))
    ∙ sym (ap (λ (ys : List A). is_odd (count_by p ys)) (take_more xs i x l ∙ ap (λ (y : A). take i xs ++ y ∷ []) (sym here))
    ∙ is_odd-count_by-append p (take i xs) (x ∷ []))
  where
    one : (x : Bool) (n : ℕ) → n ≡ 0 → is_odd (cond x 1 0 + n) ≡ x
    one true n e = ap (λ (m : ℕ). is_odd (1 + m)) e
    one false n e = ap (λ (m : ℕ). is_odd (0 + m)) e

-- ---- the ends of a segment

pub All-reverse : {A : Type 0} (P : A → Type 0) (xs : List A) → All P xs → All P (reverse xs)
All-reverse P xs h i d l =
    let short : i < length xs = omega (arith, l, length-reverse xs) in
    subst P (sym (get_or-reverse xs i d short)) (h (length xs - 1 - i) d (omega arith))

segments_near : (points : List Point) → All IsNear points → All HasNearEnds (segments_of points)
segments_near [] h = All-nil HasNearEnds
segments_near (a ∷ []) h = All-nil HasNearEnds
segments_near (a ∷ b ∷ points) h =
    let rest = All-tail IsNear a (b ∷ points) h in
    All-cons HasNearEnds (record { a = a; b = b }) (segments_of (b ∷ points)) (record { a = All-head IsNear a (b ∷ points) h; b = All-head IsNear b points rest }) (segments_near (b ∷ points) rest)

pub near_ends : (way : Way) (points : List Point) (i : ℕ) (s : Seg) → All IsNear points → i < length points - 1 → s ≡ get_or (segments_of (points_by way points)) i s → HasNearEnds s
near_ends way points i s near l here =
    subst HasNearEnds (sym here) (by way i s (omega (arith, l, length-segments way points)))
  where
    by : (w : Way) (k : ℕ) (d : Seg) → k < length (segments_of (points_by w points)) → HasNearEnds (get_or (segments_of (points_by w points)) k d)
    by Along k d m = segments_near points near k d m
    by Against k d m = segments_near (reverse points) (All-reverse IsNear points near) k d m

pub all_taken : (probe : Seg) (way : Way) (points : List Point) (i : ℕ) → length points - 1 ≤ i
    → is_odd (count_by (is_over probe) (take i (segments_of (points_by way points)))) ≡ is_odd (count_by (is_over probe) (segments_of (points_by way points)))
all_taken probe way points i l = ap (λ (ss : List Seg). is_odd (count_by (is_over probe) ss)) (take_all i (segments_of (points_by way points)) (omega (arith, l, length-segments way points)))
