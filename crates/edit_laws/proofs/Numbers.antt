-- Numbers and points that are read are within their limits.
use Rattle.std.proofs.Common.{◌≡◌, ℕ, zero, suc, ◌≤◌, ℤ, pos, neg_ℤ, unsigned_abs, int_le, true, ◌&&◌, List, [], ◌∷◌, length, Option, Some, None, bytes_eq, ap, sym, subst, refl, arith}
use Rattle.std.specs.List.{list_all}
use Rattle.std.specs.Fmt.{signed_decimal}
use Rattle.std.proofs.lemmas.Bool.{and_parts, and_from}
use Rattle.std.proofs.lemmas.Int.{ints}
use Rattle.lemmas.proofs.Signs.{Decides-int_le}
use Rattle.tgap_model.specs.declared.geometry.Point.{Point}
use Rattle.tgap_model.specs.declared.limits.TheConstants.{MAX_COORDINATE}
use Rattle.tgap_model.specs.Base.{within, in_limits}
use Rattle.line_forms.specs.Texts.{word_value, number_of}
use Rattle.line_forms.specs.Words.{Row, ◌>>=◌ as ◌then◌, natural_at, number_at, ended}
use Rattle.line_forms.specs.ListingLines.{coordinate_at, coordinate_to, points_at}
use Rattle.edit_laws.specs.Edits.{named, point_at, arc_at}
use Rattle.edit_laws.proofs.Cases.{by_test, by_option, passed, stopped}

-- a number that is read is in its range
pub number_within : (least most : ℤ) (word : List ℕ) (z : ℤ) → number_of least most word ≡ Some z → within least most z ≡ true
unfolding number_of
number_within least most word z e =
    let fits = bytes_eq word (signed_decimal (word_value word)) && within least most (word_value word) in
    by_test fits
    (λ t.
    let f = passed fits (Some (word_value word)) None t in
    let same : word_value word ≡ z = cc in
    subst (λ (v : ℤ). within least most v ≡ true) same (and_parts (bytes_eq word (signed_decimal (word_value word))) (within least most (word_value word)) t).1)
    (λ t. absurd (let f = stopped fits (Some (word_value word)) None t in cc))

-- a number that is named is at most the greatest
pub named_most : (least most : ℕ) (word : List ℕ) (n : ℕ) → named least most word ≡ Some n → n ≤ most
named_most least most word n e =
    by_option (number_of (pos least) (pos most) word)
    (λ none. absurd (let f : named least most word ≡ None = rw none refl in cc))
    (λ z some.
    let f : named least most word ≡ Some (unsigned_abs z) = rw some refl in
    let same : unsigned_abs z ≡ n = cc in
    let parts = and_parts (int_le (pos least) z) (int_le z (pos most)) (number_within (pos least) (pos most) word z some) in
    let low = (Decides-int_le (pos least) z).0 parts.0 in
    let high = (Decides-int_le z (pos most)).0 parts.1 in
    omega (arith, ints, low, high))

-- what is read next was read of something
pub then_gives : {A B P : Type 0} (o : Option A) (f : A → Option B) (y : B) → (o then f) ≡ Some y → ((x : A) → o ≡ Some x → f x ≡ Some y → P) → P
then_gives None f y e use_it = absurd cc
then_gives (Some x) f y e use_it = use_it x refl e

-- and at the end of its line
pub ended_gives : {A X P : Type 0} (x : A) (rest : List X) (y : A) → ended x rest ≡ Some y → (x ≡ y → P) → P
ended_gives x [] y e use_it = use_it cc
ended_gives x (r ∷ rest) y e use_it = absurd cc

coordinate_within : (row : Row) (x : ℤ × Row) → coordinate_at row ≡ Some x → within (neg_ℤ MAX_COORDINATE) MAX_COORDINATE x.0 ≡ true
coordinate_within [] x e = absurd cc
coordinate_within (w ∷ row) x e =
    then_gives (number_of (neg_ℤ MAX_COORDINATE) MAX_COORDINATE w) (λ z. Some (z, row)) x e
    (λ z read same. let s : z ≡ x.0 = cc in
    subst (λ (v : ℤ). within (neg_ℤ MAX_COORDINATE) MAX_COORDINATE v ≡ true) s (number_within (neg_ℤ MAX_COORDINATE) MAX_COORDINATE w z read))

-- a point that is read is within the limits
pub point_within : (row : Row) (p : Point × Row) → point_at row ≡ Some p → in_limits p.0 ≡ true
point_within row p e =
    then_gives (coordinate_at row) (λ x. coordinate_at x.1 then λ y. Some (record { x = x.0; y = y.0 }, y.1)) p e
    (λ x read_x more. then_gives (coordinate_at x.1) (λ y. Some (record { x = x.0; y = y.0 }, y.1)) p more
    (λ y read_y same.
    let point : Point = record { x = x.0; y = y.0 } in
    let s : point ≡ p.0 = cc in
    subst (λ (q : Point). in_limits q ≡ true) s (and_from _ _ (coordinate_within row x read_x) (coordinate_within x.1 y read_y))))

-- points that are read are so many, all within the limits
pub points_within : (n : ℕ) (row : Row) (points : List Point × Row) → points_at MAX_COORDINATE n row ≡ Some points
    → (length points.0 ≡ n) × (list_all in_limits points.0 ≡ true)
unfolding points_at
points_within zero row points e =
    let none : List Point × Row = ([], row) in
    let same : none ≡ points = cc in
    subst (λ (x : List Point × Row). (length x.0 ≡ 0) × (list_all in_limits x.0 ≡ true)) same (refl, refl)
points_within (suc n) row points e =
    then_gives (coordinate_to MAX_COORDINATE row) _ points e
    (λ x read_x more. then_gives (coordinate_to MAX_COORDINATE x.1) _ points more
    (λ y read_y most. then_gives (points_at MAX_COORDINATE n y.1) _ points most
    (λ rest read_rest all.
    let p : Point = record { x = x.0; y = y.0 } in
    let whole : List Point × Row = (p ∷ rest.0, rest.1) in
    let same : whole ≡ points = cc in
    let later = points_within n y.1 rest read_rest in
    subst (λ (z : List Point × Row). (length z.0 ≡ suc n) × (list_all in_limits z.0 ≡ true)) same (
      ap suc later.0,
      and_from (in_limits p) (list_all in_limits rest.0) (and_from _ _ (coordinate_within row x read_x) (coordinate_within x.1 y read_y)) later.1,
    ))))

-- a count that is read is at least the least
count_least : (least most : ℕ) (row : Row) (count : ℕ × Row) → natural_at least most row ≡ Some count → least ≤ count.0
count_least least most [] count e = absurd cc
count_least least most (w ∷ row) count e =
    then_gives (number_at (pos least) (pos most) (w ∷ row)) (λ z. Some (unsigned_abs z.0, z.1)) count e
    (λ z read made. then_gives (number_of (pos least) (pos most) w) (λ v. Some (v, row)) z read
    (λ v spelled same.
    let first : v ≡ z.0 = cc in
    let value : unsigned_abs z.0 ≡ count.0 = cc in
    let parts = and_parts (int_le (pos least) v) (int_le v (pos most)) (number_within (pos least) (pos most) w v spelled) in
    let low = (Decides-int_le (pos least) v).0 parts.0 in
    subst (λ (n : ℕ). least ≤ n) value (subst (λ (u : ℤ). least ≤ unsigned_abs u) first (omega (arith, ints, low)))))

-- a new arc that is read has two points at least, all within the limits
pub arc_within : (row : Row) (arc : List Point × Row) → arc_at row ≡ Some arc → (2 ≤ length arc.0) × (list_all in_limits arc.0 ≡ true)
arc_within row arc e =
    then_gives (natural_at 2 65535 row) (λ count. points_at MAX_COORDINATE count.0 count.1) arc e
    (λ count some read.
    let within_limits = points_within count.0 count.1 arc read in
    (subst (λ (n : ℕ). 2 ≤ n) (sym within_limits.0) (count_least 2 65535 row count some), within_limits.1))
