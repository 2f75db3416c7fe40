-- The points of an edge, as a loop reads them and as they are spelled.
use Rattle.std.proofs.Common.{◌≡◌, ℕ, zero, suc, ◌+◌, ◌-◌, ◌^◌, ◌<◌, ◌≤◌, Bool, true, false, cond, List, [], ◌∷◌, ◌++◌, length, Option, Some, None, refl, sym, ap, subst, ◌∙◌, arith}
use Rattle.std.specs.Prelude.{ℤ, pos, negsuc, neg_ℤ, unsigned_abs}
use Rattle.std.specs.Fmt.{signed_decimal}
use Rattle.std.specs.List.{list_all, flat_map}
use Rattle.std.proofs.lemmas.Bool.{and_parts, and_from}
use Rattle.std.proofs.lemmas.Int.{ints}
use Rattle.std.proofs.lemmas.List.{append-nil}
use Rattle.std.proofs.lemmas.Option.{option_and_then_some}
use Rattle.tgap_model.specs.declared.geometry.Point.{Point}
use Rattle.tgap_model.specs.declared.limits.TheConstants.{MAX_COORDINATE}
use Rattle.tgap_model.specs.Base.{within, in_limits, no_repeat}
use Rattle.line_forms.specs.Words.{Row, ◌>>=◌, ended}
use Rattle.line_forms.specs.ListingLines.{coordinate_at, points_at, read_points}
use Rattle.map_forms.specs.Listing.{point_words}
use Rattle.plain_io.specs.Fronts.{with_front}
use Rattle.plain_io.proofs.Words.{is_plain_word, signed_plain}
use Rattle.plain_io.proofs.Steps.{number_at_is, ended_is, number_at_again}
use Rattle.plain_io.proofs.Loops.{one_left, none_left, with_front_more, with_front_stop, with_front_done}
use Rattle.wire_text.specs.Reading.{point_at}

-- ---- as a loop reads them

-- a point, and those after it
abbrev then_points : (Row → Option (List Point × Row)) → Point × Row → Option (List Point × Row)
then_points more p = more p.1 >>= λ points. Some (p.0 ∷ points.0, points.1)

-- a point from its x and its y
abbrev with_y : ℤ → ℤ × Row → Option (Point × Row)
with_y x y = Some (record { x = x; y = y.0 }, y.1)

-- y and the points after it, put together before or after
first_y : (x : ℤ) (y : Option (ℤ × Row)) (more : Row → Option (List Point × Row)) → (y >>= λ b. then_points more (record { x = x; y = b.0 }, b.1)) ≡ ((y >>= with_y x) >>= then_points more)
first_y x (Some y) more = refl
first_y x None more = refl

-- x, y and the points after them, put together before or after
first_x : (x : Option (ℤ × Row)) (next : Row → Option (ℤ × Row)) (more : Row → Option (List Point × Row))
    → (x >>= λ a. next a.1 >>= λ b. then_points more (record { x = a.0; y = b.0 }, b.1)) ≡ ((x >>= λ a. next a.1 >>= with_y a.0) >>= then_points more)
first_x (Some x) next more = first_y x.0 (next x.1) more
first_x None next more = refl

-- one point more is a point, and those after it
one_point_more : (n : ℕ) (words : Row) → points_at MAX_COORDINATE (suc n) words ≡ (point_at words >>= then_points (points_at MAX_COORDINATE n))
unfolding points_at
one_point_more n words = first_x (coordinate_at words) coordinate_at (points_at MAX_COORDINATE n)

-- a point more
pub points_go_on : (front : List Point) (n i : ℕ) (words : Row) (p : Point) (rest : Row) → i < n → point_at words ≡ Some (p, rest)
    → with_front (front ++ p ∷ []) (points_at MAX_COORDINATE (n - (i + 1)) rest) ≡ with_front front (points_at MAX_COORDINATE (n - i) words)
points_go_on front n i words p rest lt e =
    with_front_more front p (points_at MAX_COORDINATE (n - (i + 1)) rest) (points_at MAX_COORDINATE (n - i) words) (rw (one_left n i lt, one_point_more (n - (i + 1)) words, e) refl)

-- no point where there was to be one
pub points_stop : (front : List Point) (n i : ℕ) (words : Row) → i < n → point_at words ≡ None → with_front front (points_at MAX_COORDINATE (n - i) words) ≡ None
points_stop front n i words lt e =
    with_front_stop front (points_at MAX_COORDINATE (n - i) words) (rw (one_left n i lt, one_point_more (n - (i + 1)) words, e) refl)

-- all points
pub points_done : (front : List Point) (n i : ℕ) (words : Row) → n ≤ i → with_front front (points_at MAX_COORDINATE (n - i) words) ≡ Some (front, words)
unfolding points_at
points_done front n i words le = with_front_done front words (points_at MAX_COORDINATE (n - i) words) (rw (none_left n i le) refl)

-- ---- as they are spelled

-- what is read as n points is spelled so
points_at_is : (n : ℕ) (row : Row) (x : List Point × Row) → points_at MAX_COORDINATE n row ≡ Some x → (row ≡ flat_map point_words x.0 ++ x.1) × (length x.0 ≡ n) × (list_all in_limits x.0 ≡ true)
unfolding points_at
points_at_is zero row x e =
    let made : ([], row) ≡ x = cc in
    subst (λ (y : List Point × Row). (row ≡ flat_map point_words y.0 ++ y.1) × (length y.0 ≡ 0) × (list_all in_limits y.0 ≡ true)) made (refl, refl, refl)
points_at_is (suc n) row x e =
    option_and_then_some _ (coordinate_at row) x e (λ a e0 r0.
    option_and_then_some _ (coordinate_at a.1) x r0 (λ b e1 r1.
    option_and_then_some _ (points_at MAX_COORDINATE n b.1) x r1 (λ points e2 r2.
    let g0 = number_at_is _ _ row a e0 in
    let g1 = number_at_is _ _ a.1 b e1 in
    let f0 = g0.0 in
    let f1 = g1.0 in
    let more = points_at_is n b.1 points e2 in
    let f2 = more.0 in
    let p : Point = record { x = a.0; y = b.0 } in
    let made : (p ∷ points.0, points.1) ≡ x = cc in
    let spelled : row ≡ flat_map point_words (p ∷ points.0) ++ points.1 = cc in
    subst (λ (y : List Point × Row). (row ≡ flat_map point_words y.0 ++ y.1) × (length y.0 ≡ suc n) × (list_all in_limits y.0 ≡ true)) made
    (spelled, ap suc more.1, and_from (in_limits p) (list_all in_limits points.0) (and_from _ _ g0.1 g1.1) more.2))))

-- what a test lets pass
test_then : {A : Type 0} (b : Bool) (o : Option A) (y : A) → cond b o None ≡ Some y → (b ≡ true) × (o ≡ Some y)
test_then true o y e = (refl, e)
test_then false o y e = absurd cc

-- the rest of a row that is read as n points is spelled so
pub record ArePoints (n : ℕ) (row : Row) (points : List Point) : Type 0 where
  pub spelled : row ≡ flat_map point_words points
  pub count : length points ≡ n
  pub inside : list_all in_limits points ≡ true
  pub apart : no_repeat points ≡ true

pub read_points_is : (n : ℕ) (row : Row) (points : List Point) → read_points MAX_COORDINATE n row ≡ Some points → ArePoints n row points
unfolding read_points
read_points_is n row points e =
    option_and_then_some _ (points_at MAX_COORDINATE n row) points e (λ x e0 r0.
    let read = points_at_is n row x e0 in
    let apart = test_then (no_repeat x.0) (ended x.0 x.1) points r0 in
    let done = ended_is x.0 points x.1 apart.1 in
    let spelled : row ≡ flat_map point_words x.0 = read.0 ∙ ap (λ (r : Row). flat_map point_words x.0 ++ r) done.0 ∙ append-nil (flat_map point_words x.0) in
    subst (λ (ps : List Point). ArePoints n row ps) done.1 (record { spelled = spelled; count = read.1; inside = read.2; apart = apart.0 }))

-- a coordinate within the limits has fewer than 64 bits
coordinate_small : (z : ℤ) → within (neg_ℤ MAX_COORDINATE) MAX_COORDINATE z ≡ true → unsigned_abs z < 2 ^ 63
coordinate_small (pos n) fits = grind (arith, ints)
coordinate_small (negsuc n) fits = grind (arith, ints)

-- the spelling of a coordinate is read again
pub coordinate_at_again : (z : ℤ) (rest : Row) → within (neg_ℤ MAX_COORDINATE) MAX_COORDINATE z ≡ true → coordinate_at (signed_decimal z ∷ rest) ≡ Some (z, rest)
coordinate_at_again z rest fits = number_at_again (neg_ℤ MAX_COORDINATE) MAX_COORDINATE z rest (coordinate_small z fits) fits

-- and has no separator
pub coordinate_plain : (z : ℤ) → within (neg_ℤ MAX_COORDINATE) MAX_COORDINATE z ≡ true → is_plain_word (signed_decimal z) ≡ true
coordinate_plain z fits = signed_plain z (coordinate_small z fits)

-- both coordinates of a point within the limits are so
pub coordinates : (p : Point) → in_limits p ≡ true → (within (neg_ℤ MAX_COORDINATE) MAX_COORDINATE p.x ≡ true) × (within (neg_ℤ MAX_COORDINATE) MAX_COORDINATE p.y ≡ true)
coordinates p h = and_parts (within (neg_ℤ MAX_COORDINATE) MAX_COORDINATE p.x) (within (neg_ℤ MAX_COORDINATE) MAX_COORDINATE p.y) h

-- the spelling of points is read as these points
points_at_again : (points : List Point) (rest : Row) → list_all in_limits points ≡ true → points_at MAX_COORDINATE (length points) (flat_map point_words points ++ rest) ≡ Some (points, rest)
unfolding points_at
points_at_again [] rest fits = refl
points_at_again (p ∷ points) rest fits =
    let both = and_parts (in_limits p) (list_all in_limits points) fits in
    let inside = coordinates p both.0 in
    rw (coordinate_at_again p.x (signed_decimal p.y ∷ (flat_map point_words points ++ rest)) inside.0, coordinate_at_again p.y (flat_map point_words points ++ rest) inside.1, points_at_again points rest both.1) refl

-- points that are the rest of the row, no two in a row equal, are read so
pub read_points_again : (points : List Point) → list_all in_limits points ≡ true → no_repeat points ≡ true → read_points MAX_COORDINATE (length points) (flat_map point_words points) ≡ Some points
unfolding read_points
read_points_again points fits apart =
    let all : points_at MAX_COORDINATE (length points) (flat_map point_words points) ≡ Some (points, []) = ap (points_at MAX_COORDINATE (length points)) (sym (append-nil (flat_map point_words points))) ∙ points_at_again points [] fits in
    rw (all, apart) refl

-- no word of them has a separator
pub points_plain : (points : List Point) → list_all in_limits points ≡ true → list_all is_plain_word (flat_map point_words points) ≡ true
points_plain [] fits = refl
points_plain (p ∷ points) fits =
    let both = and_parts (in_limits p) (list_all in_limits points) fits in
    let inside = coordinates p both.0 in
    rw (coordinate_plain p.x inside.0, coordinate_plain p.y inside.1, points_plain points both.1) refl
