-- The readers of one line: what is read is spelled so, and what is spelled so is read.
use Rattle.std.proofs.Common.{◌≡◌, ℕ, zero, suc, ◌-◌, ◌^◌, ◌<◌, ◌≤◌, Bool, true, false, cond, eqb, ◌&&◌, List, [], ◌∷◌, ◌++◌, length, map, Option, Some, None, refl, sym, ap, subst, ◌∙◌, arith}
use Rattle.std.specs.Prelude.{ℤ, pos, negsuc, neg_ℤ, unsigned_abs, decimal, codes, bytes_eq}
use Rattle.std.specs.Fmt.{signed_decimal}
use Rattle.std.specs.List.{list_all, flat_map, AllByRecursion}
use Rattle.std.proofs.lemmas.Bool.{and_parts, and_from}
use Rattle.std.proofs.lemmas.Int.{ints}
use Rattle.std.proofs.lemmas.List.{append-nil}
use Rattle.std.proofs.lemmas.Option.{option_and_then_some}
use Rattle.tgap_model.specs.declared.geometry.Point.{Point}
use Rattle.tgap_model.specs.declared.base.Transform.{Transform}
use Rattle.tgap_model.specs.declared.limits.TheConstants.{MAX_COORDINATE, MAX_POINTS, MAX_WEIGHT, MAX_COMPATIBILITY}
use Rattle.tgap_model.specs.Base.{within, is_word, is_transform, in_limits, no_repeat}
use Rattle.line_forms.specs.Words.{Row, after_word, natural_at, after_count, ended}
use Rattle.line_forms.specs.ListingLines.{word_at, coordinate_to, read_transform, read_count, naturals_at, read_class, read_face, points_at, head_at, read_points}
use Rattle.map_forms.specs.declared.version.Version.{Version}
use Rattle.map_forms.specs.declared.version.Version.TheVariants.{One, Two}
use Rattle.map_forms.specs.Version.{coordinate_of, points_of, in_square, version_word, heading_words, version_at, read_heading}
use Rattle.map_forms.specs.Listing.{transform_words, count_words, point_words}
use Rattle.plain_io.proofs.Words.{same_bytes}
use Rattle.plain_io.proofs.Steps.{after_word_is, number_at_is, natural_at_is, after_count_is, ended_is, after_word_again, number_at_again, natural_at_again, after_count_again}

-- ---- what is read is spelled so

-- each number is from least to most
abbrev pub AreFrom : ℕ → ℕ → List ℕ → Type 0
AreFrom least most ns = AllByRecursion (λ n. (least ≤ n) × (n ≤ most)) ns

-- what is read as n numbers is spelled so
pub naturals_at_is : (least most n : ℕ) (row : Row) (x : List ℕ × Row) → naturals_at least most n row ≡ Some x → (row ≡ map decimal x.0 ++ x.1) × (length x.0 ≡ n) × AreFrom least most x.0
unfolding naturals_at
naturals_at_is least most zero row x e =
    let made : ([], row) ≡ x = cc in
    subst (λ (y : List ℕ × Row). (row ≡ map decimal y.0 ++ y.1) × (length y.0 ≡ 0) × AreFrom least most y.0) made (refl, refl, tt)
naturals_at_is least most (suc n) row x e =
    option_and_then_some _ (natural_at least most row) x e (λ v e0 r0.
    option_and_then_some _ (naturals_at least most n v.1) x r0 (λ vs e1 r1.
    let first = natural_at_is least most row v e0 in
    let more = naturals_at_is least most n v.1 vs e1 in
    let made : (v.0 ∷ vs.0, vs.1) ≡ x = cc in
    subst (λ (y : List ℕ × Row). (row ≡ map decimal y.0 ++ y.1) × (length y.0 ≡ suc n) × AreFrom least most y.0) made
    (first.0 ∙ ap (λ r. decimal v.0 ∷ r) more.0, ap suc more.1, ((first.1, first.2), more.2))))

-- a row that is read as a count is spelled so
pub read_count_is : (word : List ℕ) (least most : ℕ) (row : Row) (n : ℕ) → read_count word least most row ≡ Some n → (row ≡ count_words word n) × (least ≤ n) × (n ≤ most)
unfolding read_count
read_count_is word least most row n e =
    option_and_then_some _ (after_word word row) n e (λ start e0 r0.
    option_and_then_some _ (natural_at least most start) n r0 (λ m e1 r1.
    let f0 = after_word_is word row start e0 in
    let f1 = natural_at_is least most start m e1 in
    let done = ended_is m.0 n m.1 r1 in
    let spelled : row ≡ count_words word m.0 = let s = f1.0 in let last = done.0 in cc in
    subst (λ (k : ℕ). (row ≡ count_words word k) × (least ≤ k) × (k ≤ most)) done.1 (spelled, f1.1, f1.2)))

-- a row that is read as a transform is spelled so
pub read_transform_is : (row : Row) (t : Transform) → read_transform row ≡ Some t → (row ≡ transform_words t) × (is_transform t ≡ true)
unfolding read_transform is_transform
read_transform_is row t e =
    option_and_then_some _ (after_word (codes "transform") row) t e (λ start e0 r0.
    option_and_then_some _ (word_at start) t r0 (λ sx e1 r1.
    option_and_then_some _ (word_at sx.1) t r1 (λ sy e2 r2.
    option_and_then_some _ (word_at sy.1) t r2 (λ tx e3 r3.
    option_and_then_some _ (word_at tx.1) t r3 (λ ty e4 r4.
    let f0 = after_word_is (codes "transform") row start e0 in
    let g1 = number_at_is _ _ start sx e1 in
    let g2 = number_at_is _ _ sx.1 sy e2 in
    let g3 = number_at_is _ _ sy.1 tx e3 in
    let g4 = number_at_is _ _ tx.1 ty e4 in
    let f1 = g1.0 in
    let f2 = g2.0 in
    let f3 = g3.0 in
    let f4 = g4.0 in
    let made : Transform = record { sx = sx.0; sy = sy.0; tx = tx.0; ty = ty.0 } in
    let done = ended_is made t ty.1 r4 in
    let spelled : row ≡ transform_words made = cc in
    let fits : is_transform made ≡ true = and_from (is_word sx.0 && is_word sy.0 && is_word tx.0) (is_word ty.0) (and_from (is_word sx.0 && is_word sy.0) (is_word tx.0) (and_from (is_word sx.0) (is_word sy.0) g1.1 g2.1) g3.1) g4.1 in
    subst (λ (u : Transform). (row ≡ transform_words u) × (is_transform u ≡ true)) done.1 (spelled, fits))))))

-- the word of the version that was read
version_at_is : (row : Row) (x : Version × Row) → version_at row ≡ Some x → row ≡ version_word x.0 ∷ x.1
version_at_is [] x e = absurd cc
version_at_is (w ∷ row) x e = by (bytes_eq w (version_word One)) (bytes_eq w (version_word Two)) refl refl e
  where
    by : (one two : Bool) → bytes_eq w (version_word One) ≡ one → bytes_eq w (version_word Two) ≡ two
        → cond one (Some (One, row)) (cond two (Some (Two, row)) None) ≡ Some x → w ∷ row ≡ version_word x.0 ∷ x.1
    by true two is other given =
        let made : (One, row) ≡ x = cc in
        subst (λ (y : Version × Row). w ∷ row ≡ version_word y.0 ∷ y.1) made (ap (λ (word : List ℕ). word ∷ row) (same_bytes w (version_word One) is))
    by false true other is given =
        let made : (Two, row) ≡ x = cc in
        subst (λ (y : Version × Row). w ∷ row ≡ version_word y.0 ∷ y.1) made (ap (λ (word : List ℕ). word ∷ row) (same_bytes w (version_word Two) is))
    by false false other is given = absurd cc

-- a row that is read as the heading is spelled so
pub read_heading_is : (row : Row) (v : Version) → read_heading row ≡ Some v → row ≡ heading_words v
unfolding read_heading
read_heading_is row v e =
    option_and_then_some _ (after_word (codes "tgap") row) v e (λ start e0 r0.
    option_and_then_some _ (version_at start) v r0 (λ version e1 r1.
    let f0 = after_word_is (codes "tgap") row start e0 in
    let f1 = version_at_is start version e1 in
    let done = ended_is version.0 v version.1 r1 in
    let last = done.0 in
    let spelled : row ≡ heading_words version.0 = cc in
    subst (λ (w : Version). row ≡ heading_words w) done.1 spelled))

-- class i, of c in all
abbrev pub class_words : ℕ → ℕ → List ℕ → Row
class_words i w compat = codes "class" ∷ decimal i ∷ decimal w ∷ map decimal compat

-- a row that is read as class i, of c in all, with what is read
pub record IsClassRow (c i : ℕ) (row : Row) (x : ℕ × List ℕ) : Type 0 where
  pub spelled : row ≡ class_words i x.0 x.1
  pub count : length x.1 ≡ c
  pub least : 1 ≤ x.0
  pub most : x.0 ≤ MAX_WEIGHT
  pub compat : AreFrom 0 MAX_COMPATIBILITY x.1

pub read_class_is : (c i : ℕ) (row : Row) (x : ℕ × List ℕ) → read_class c i row ≡ Some x → IsClassRow c i row x
unfolding read_class
read_class_is c i row x e =
    option_and_then_some _ (after_word (codes "class") row) x e (λ start e0 r0.
    option_and_then_some _ (after_count i start) x r0 (λ named e1 r1.
    option_and_then_some _ (natural_at 1 MAX_WEIGHT named) x r1 (λ weight e2 r2.
    option_and_then_some _ (naturals_at 0 MAX_COMPATIBILITY c weight.1) x r2 (λ compat e3 r3.
    let f0 = after_word_is (codes "class") row start e0 in
    let f1 = after_count_is i start named e1 in
    let g2 = natural_at_is 1 MAX_WEIGHT named weight e2 in
    let f2 = g2.0 in
    let f3 = naturals_at_is 0 MAX_COMPATIBILITY c weight.1 compat e3 in
    let done = ended_is (weight.0, compat.0) x compat.1 r3 in
    let rest : weight.1 ≡ map decimal compat.0 = f3.0 ∙ ap (λ (r : Row). map decimal compat.0 ++ r) done.0 ∙ append-nil (map decimal compat.0) in
    let spelled : row ≡ class_words i weight.0 compat.0 = cc in
    subst (λ (y : ℕ × List ℕ). IsClassRow c i row y) done.1 (record { spelled = spelled; count = f3.1; least = g2.1; most = g2.2; compat = f3.2 })))))

-- face f and its class
abbrev pub face_words : ℕ → ℕ → Row
face_words f k = codes "face" ∷ decimal f ∷ decimal k ∷ []

-- a row that is read as face f is spelled so
pub read_face_is : (c f : ℕ) (row : Row) (k : ℕ) → read_face c f row ≡ Some k → (row ≡ face_words f k) × (k ≤ c - 1)
unfolding read_face
read_face_is c f row k e =
    option_and_then_some _ (after_word (codes "face") row) k e (λ start e0 r0.
    option_and_then_some _ (after_count f start) k r0 (λ named e1 r1.
    option_and_then_some _ (natural_at 0 (c - 1) named) k r1 (λ class e2 r2.
    let f0 = after_word_is (codes "face") row start e0 in
    let f1 = after_count_is f start named e1 in
    let g2 = natural_at_is 0 (c - 1) named class e2 in
    let f2 = g2.0 in
    let done = ended_is class.0 k class.1 r2 in
    let last = done.0 in
    let spelled : row ≡ face_words f class.0 = cc in
    subst (λ (j : ℕ). (row ≡ face_words f j) × (j ≤ c - 1)) done.1 (spelled, g2.2))))

-- what is read as n points is spelled so
pub points_at_is : (most : ℤ) (n : ℕ) (row : Row) (x : List Point × Row) → points_at most n row ≡ Some x → (row ≡ flat_map point_words x.0 ++ x.1) × (length x.0 ≡ n) × (list_all (in_square most) x.0 ≡ true)
unfolding points_at
points_at_is most zero row x e =
    let made : ([], row) ≡ x = cc in
    subst (λ (y : List Point × Row). (row ≡ flat_map point_words y.0 ++ y.1) × (length y.0 ≡ 0) × (list_all (in_square most) y.0 ≡ true)) made (refl, refl, refl)
points_at_is most (suc n) row x e =
    option_and_then_some _ (coordinate_to most row) x e (λ a e0 r0.
    option_and_then_some _ (coordinate_to most a.1) x r0 (λ b e1 r1.
    option_and_then_some _ (points_at most n b.1) x r1 (λ points e2 r2.
    let g0 = number_at_is _ _ row a e0 in
    let g1 = number_at_is _ _ a.1 b e1 in
    let f0 = g0.0 in
    let f1 = g1.0 in
    let more = points_at_is most n b.1 points e2 in
    let f2 = more.0 in
    let p : Point = record { x = a.0; y = b.0 } in
    let made : (p ∷ points.0, points.1) ≡ x = cc in
    let spelled : row ≡ flat_map point_words (p ∷ points.0) ++ points.1 = cc in
    subst (λ (y : List Point × Row). (row ≡ flat_map point_words y.0 ++ y.1) × (length y.0 ≡ suc n) × (list_all (in_square most) y.0 ≡ true)) made
    (spelled, ap suc more.1, and_from (in_square most p) (list_all (in_square most) points.0) (and_from _ _ g0.1 g1.1) more.2))))

-- what a test lets pass
pub cond_then : {A : Type 0} (b : Bool) (o : Option A) (y : A) → cond b o None ≡ Some y → (b ≡ true) × (o ≡ Some y)
cond_then true o y e = (refl, e)
cond_then false o y e = absurd cc

pub cond_else : {A : Type 0} (b : Bool) (o : Option A) (y : A) → cond b None o ≡ Some y → (b ≡ false) × (o ≡ Some y)
cond_else true o y e = absurd cc
cond_else false o y e = (refl, e)

-- the rest of a row that is read as n points is spelled so
pub record ArePoints (most : ℤ) (n : ℕ) (row : Row) (points : List Point) : Type 0 where
  pub spelled : row ≡ flat_map point_words points
  pub count : length points ≡ n
  pub inside : list_all (in_square most) points ≡ true
  pub apart : no_repeat points ≡ true

pub read_points_is : (most : ℤ) (n : ℕ) (row : Row) (points : List Point) → read_points most n row ≡ Some points → ArePoints most n row points
unfolding read_points
read_points_is most n row points e =
    option_and_then_some _ (points_at most n row) points e (λ x e0 r0.
    let read = points_at_is most n row x e0 in
    let apart = cond_then (no_repeat x.0) (ended x.0 x.1) points r0 in
    let done = ended_is x.0 points x.1 apart.1 in
    let spelled : row ≡ flat_map point_words x.0 = read.0 ∙ ap (λ (r : Row). flat_map point_words x.0 ++ r) done.0 ∙ append-nil (flat_map point_words x.0) in
    subst (λ (ps : List Point). ArePoints most n row ps) done.1 (record { spelled = spelled; count = read.1; inside = read.2; apart = apart.0 }))

-- the head of an arc is spelled so
pub record IsHead (n : ℕ) (row : Row) (x : (ℕ × ℕ × ℕ) × Row) : Type 0 where
  pub spelled : row ≡ codes "arc" ∷ decimal x.0.0 ∷ decimal x.0.1 ∷ decimal x.0.2 ∷ x.1
  pub left : x.0.0 ≤ n
  pub right : x.0.1 ≤ n
  pub differ : eqb x.0.0 x.0.1 ≡ false
  pub two : 2 ≤ x.0.2

pub head_at_is : (n : ℕ) (row : Row) (x : (ℕ × ℕ × ℕ) × Row) → head_at n row ≡ Some x → IsHead n row x
unfolding head_at
head_at_is n row x e =
    option_and_then_some _ (after_word (codes "arc") row) x e (λ start e0 r0.
    option_and_then_some _ (natural_at 0 n start) x r0 (λ left e1 r1.
    option_and_then_some _ (natural_at 0 n left.1) x r1 (λ right e2 r2.
    option_and_then_some _ (natural_at 2 (2 ^ 32 - 1) right.1) x r2 (λ count e3 r3.
    let f0 = after_word_is (codes "arc") row start e0 in
    let g1 = natural_at_is 0 n start left e1 in
    let g2 = natural_at_is 0 n left.1 right e2 in
    let g3 = natural_at_is 2 (2 ^ 32 - 1) right.1 count e3 in
    let f1 = g1.0 in
    let f2 = g2.0 in
    let f3 = g3.0 in
    let differ = cond_else (eqb left.0 right.0) (Some ((left.0, right.0, count.0), count.1)) x r3 in
    let spelled : row ≡ codes "arc" ∷ decimal left.0 ∷ decimal right.0 ∷ decimal count.0 ∷ count.1 = cc in
    let d = differ.1 in
    let made : ((left.0, right.0, count.0), count.1) ≡ x = cc in
    subst (λ (y : (ℕ × ℕ × ℕ) × Row). IsHead n row y) made (record { spelled = spelled; left = g1.2; right = g2.2; differ = differ.0; two = g3.1 })))))

-- ---- what is spelled so is read

-- the heading of a version is read as that version
pub read_heading_again : (v : Version) → read_heading (heading_words v) ≡ Some v
unfolding read_heading
read_heading_again One = refl
read_heading_again Two = refl

-- the row of a count is read as that count
pub read_count_again : (word : List ℕ) (least most n : ℕ) → least ≤ n → n ≤ most → n < 2 ^ 32 → read_count word least most (count_words word n) ≡ Some n
unfolding read_count
read_count_again word least most n low high small = rw (after_word_again word (decimal n ∷ []), natural_at_again least most n [] low high (omega arith)) refl

-- a number of 32 bits with a sign has fewer than 64
pub word_small : (z : ℤ) → is_word z ≡ true → unsigned_abs z < 2 ^ 63
word_small (pos n) fits = grind (arith, ints)
word_small (negsuc n) fits = grind (arith, ints)

-- a coordinate within the limits has fewer than 64 bits
pub coordinate_small : (z : ℤ) → within (neg_ℤ MAX_COORDINATE) MAX_COORDINATE z ≡ true → unsigned_abs z < 2 ^ 63
coordinate_small (pos n) fits = grind (arith, ints)
coordinate_small (negsuc n) fits = grind (arith, ints)

-- the coordinates of a version are within the limits
pub version_within : (v : Version) (z : ℤ) → within (neg_ℤ (coordinate_of v)) (coordinate_of v) z ≡ true → within (neg_ℤ MAX_COORDINATE) MAX_COORDINATE z ≡ true
version_within One (pos n) fits = grind (arith, ints)
version_within One (negsuc n) fits = grind (arith, ints)
version_within Two z fits = fits

-- and so are points of them
pub points_within : (v : Version) (points : List Point) → list_all (in_square (coordinate_of v)) points ≡ true → list_all in_limits points ≡ true
points_within v [] fits = refl
points_within v (p ∷ points) fits =
    let most = coordinate_of v in
    let both = and_parts (in_square most p) (list_all (in_square most) points) fits in
    let inside = and_parts (within (neg_ℤ most) most p.x) (within (neg_ℤ most) most p.y) both.0 in
    and_from (in_limits p) (list_all in_limits points) (and_from _ _ (version_within v p.x inside.0) (version_within v p.y inside.1)) (points_within v points both.1)

-- the points of a version are within their limit
pub points_few : (v : Version) → points_of v ≤ MAX_POINTS
points_few One = omega arith
points_few Two = omega arith

-- the spelling of a number of 32 bits with a sign is read again
word_at_again : (z : ℤ) (rest : Row) → is_word z ≡ true → word_at (signed_decimal z ∷ rest) ≡ Some (z, rest)
word_at_again z rest fits = number_at_again (neg_ℤ (pos (2 ^ 31))) (pos (2 ^ 31 - 1)) z rest (word_small z fits) fits

-- the row of a transform is read as that transform
pub read_transform_again : (t : Transform) → is_transform t ≡ true → read_transform (transform_words t) ≡ Some t
unfolding read_transform is_transform
read_transform_again t fits =
    let first = and_parts (is_word t.sx && is_word t.sy && is_word t.tx) (is_word t.ty) fits in
    let second = and_parts (is_word t.sx && is_word t.sy) (is_word t.tx) first.0 in
    let third = and_parts (is_word t.sx) (is_word t.sy) second.0 in
    rw (word_at_again t.sx (signed_decimal t.sy ∷ signed_decimal t.tx ∷ signed_decimal t.ty ∷ []) third.0, word_at_again t.sy (signed_decimal t.tx ∷ signed_decimal t.ty ∷ []) third.1, word_at_again t.tx (signed_decimal t.ty ∷ []) second.1, word_at_again t.ty [] first.1) refl

-- the spelling of numbers in a range of 32 bits is read as these numbers
pub naturals_at_again : (least most : ℕ) (ns : List ℕ) (rest : Row) → most < 2 ^ 32 → AreFrom least most ns → naturals_at least most (length ns) (map decimal ns ++ rest) ≡ Some (ns, rest)
unfolding naturals_at
naturals_at_again least most [] rest small from = refl
naturals_at_again least most (n ∷ ns) rest small from = rw (natural_at_again least most n (map decimal ns ++ rest) from.0.0 from.0.1 (omega (arith, from.0.1)), naturals_at_again least most ns rest small from.1) refl

-- the row of a class is read as that class
pub read_class_again : (i w : ℕ) (compat : List ℕ) → i < 2 ^ 32 → 1 ≤ w → w ≤ MAX_WEIGHT → AreFrom 0 MAX_COMPATIBILITY compat → read_class (length compat) i (class_words i w compat) ≡ Some (w, compat)
unfolding read_class
read_class_again i w compat small low high from =
    let all : naturals_at 0 MAX_COMPATIBILITY (length compat) (map decimal compat) ≡ Some (compat, []) = ap (naturals_at 0 MAX_COMPATIBILITY (length compat)) (sym (append-nil (map decimal compat))) ∙ naturals_at_again 0 MAX_COMPATIBILITY compat [] (omega arith) from in
    rw (after_count_again i (decimal w ∷ map decimal compat) small, natural_at_again 1 MAX_WEIGHT w (map decimal compat) low high (omega arith), all) refl

-- the row of a face is read as that face
pub read_face_again : (c f k : ℕ) → f < 2 ^ 32 → k ≤ c - 1 → k < 2 ^ 32 → read_face c f (face_words f k) ≡ Some k
unfolding read_face
read_face_again c f k small_f high small_k = rw (after_count_again f (decimal k ∷ []) small_f, natural_at_again 0 (c - 1) k [] (omega arith) high (omega arith)) refl

-- the spelling of a coordinate of a version is read again
coordinate_again : (v : Version) (z : ℤ) (rest : Row) → within (neg_ℤ (coordinate_of v)) (coordinate_of v) z ≡ true → coordinate_to (coordinate_of v) (signed_decimal z ∷ rest) ≡ Some (z, rest)
coordinate_again v z rest fits = number_at_again (neg_ℤ (coordinate_of v)) (coordinate_of v) z rest (coordinate_small z (version_within v z fits)) fits

-- the spelling of points is read as these points
pub points_at_again : (v : Version) (points : List Point) (rest : Row) → list_all (in_square (coordinate_of v)) points ≡ true
    → points_at (coordinate_of v) (length points) (flat_map point_words points ++ rest) ≡ Some (points, rest)
unfolding points_at
points_at_again v [] rest fits = refl
points_at_again v (p ∷ points) rest fits =
    let most = coordinate_of v in
    let both = and_parts (in_square most p) (list_all (in_square most) points) fits in
    let inside = and_parts (within (neg_ℤ most) most p.x) (within (neg_ℤ most) most p.y) both.0 in
    rw (coordinate_again v p.x (signed_decimal p.y ∷ (flat_map point_words points ++ rest)) inside.0, coordinate_again v p.y (flat_map point_words points ++ rest) inside.1, points_at_again v points rest both.1) refl

-- points that are the rest of the row, no two in a row equal, are read so
pub read_points_again : (v : Version) (points : List Point) → list_all (in_square (coordinate_of v)) points ≡ true → no_repeat points ≡ true
    → read_points (coordinate_of v) (length points) (flat_map point_words points) ≡ Some points
unfolding read_points
read_points_again v points fits apart =
    let all : points_at (coordinate_of v) (length points) (flat_map point_words points) ≡ Some (points, []) =
    ap (points_at (coordinate_of v) (length points)) (sym (append-nil (flat_map point_words points))) ∙ points_at_again v points [] fits in
    rw (all, apart) refl

-- the head of an arc is read again
pub head_at_again : (n l r k : ℕ) (rest : Row) → l ≤ n → r ≤ n → n < 2 ^ 32 → eqb l r ≡ false → 2 ≤ k → k < 2 ^ 32 → head_at n (codes "arc" ∷ decimal l ∷ decimal r ∷ decimal k ∷ rest) ≡ Some ((l, r, k), rest)
unfolding head_at
head_at_again n l r k rest low right small differ two count =
    rw (natural_at_again 0 n l (decimal r ∷ decimal k ∷ rest) (omega arith) low (omega arith), natural_at_again 0 n r (decimal k ∷ rest) (omega arith) right (omega arith), natural_at_again 2 (2 ^ 32 - 1) k rest two (omega arith) (omega arith), differ) refl
