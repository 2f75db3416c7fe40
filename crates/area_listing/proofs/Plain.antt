-- No word of a listing has a space or a line feed.
use Rattle.std.proofs.Common.{◌≡◌, ℕ, ◌+◌, ◌^◌, ◌<◌, ◌≤◌, true, ◌&&◌, List, [], ◌∷◌, length, take, drop, map, refl, arith}
use Rattle.std.specs.Prelude.{neg_ℤ, decimal}
use Rattle.std.specs.List.{list_all, flat_map}
use Rattle.std.proofs.lemmas.Bool.{and_from, and_parts}
use Rattle.tgap_model.specs.declared.geometry.Point.{Point}
use Rattle.tgap_model.specs.declared.base.Transform.{Transform}
use Rattle.tgap_model.specs.declared.base.BaseArc.{BaseArc}
use Rattle.tgap_model.specs.declared.limits.TheConstants.{MAX_COORDINATE, MAX_WEIGHT, MAX_COMPATIBILITY}
use Rattle.tgap_model.specs.Base.{within, is_word, is_transform, in_limits, is_arc, count_points}
use Rattle.map_forms.specs.Listing.{transform_words, count_words, class_rows, face_rows, point_words, arc_words}
use Rattle.tgap_model.proofs.BaseFacts.{arc_facts}
use Rattle.std.proofs.lemmas.List.Sums.{sum_by-cons}
use Rattle.plain_io.proofs.Words.{is_plain_word, decimal_plain, signed_plain}
use Rattle.plain_io.proofs.Rows.{is_plain_row}
use Rattle.area_listing.proofs.OneLine.{AreFrom, word_small, coordinate_small}
use Rattle.area_listing.proofs.Sections.{from_take, from_drop}

-- the row of a transform
pub transform_plain : (t : Transform) → is_transform t ≡ true → is_plain_row (transform_words t) ≡ true
unfolding is_transform
transform_plain t fits =
    let first = and_parts (is_word t.sx && is_word t.sy && is_word t.tx) (is_word t.ty) fits in
    let second = and_parts (is_word t.sx && is_word t.sy) (is_word t.tx) first.0 in
    let third = and_parts (is_word t.sx) (is_word t.sy) second.0 in
    rw (signed_plain t.sx (word_small t.sx third.0), signed_plain t.sy (word_small t.sy third.1), signed_plain t.tx (word_small t.tx second.1), signed_plain t.ty (word_small t.ty first.1)) refl

-- a row of a keyword and a count
pub count_plain : (word : List ℕ) (n : ℕ) → is_plain_word word ≡ true → n < 2 ^ 32 → is_plain_row (count_words word n) ≡ true
count_plain word n plain small = rw (plain, decimal_plain n (omega arith)) refl

-- a list of numbers
decimals_plain : (least most : ℕ) (ns : List ℕ) → most < 2 ^ 32 → AreFrom least most ns → list_all is_plain_word (map decimal ns) ≡ true
decimals_plain least most [] small from = refl
decimals_plain least most (n ∷ ns) small from = and_from _ _ (decimal_plain n (omega (arith, from.0.1))) (decimals_plain least most ns small from.1)

-- the rows of classes
pub classes_plain : (c i : ℕ) (weights compat : List ℕ) → i + length weights ≤ 2 ^ 32 → AreFrom 1 MAX_WEIGHT weights → AreFrom 0 MAX_COMPATIBILITY compat → list_all is_plain_row (class_rows c i weights compat) ≡ true
classes_plain c i [] compat room from_w from = refl
classes_plain c i (w ∷ weights) compat room from_w from =
    rw (
      decimal_plain i (omega arith),
      decimal_plain w (omega (arith, from_w.0.1)),
      decimals_plain 0 MAX_COMPATIBILITY (take c compat) (omega arith) (from_take 0 MAX_COMPATIBILITY c compat from),
      classes_plain c (i + 1) weights (drop c compat) (omega arith) from_w.1 (from_drop 0 MAX_COMPATIBILITY c compat from),
    ) refl

-- the rows of faces
pub faces_plain : (f most : ℕ) (classes : List ℕ) → f + length classes ≤ 2 ^ 32 → most < 2 ^ 32 → AreFrom 0 most classes → list_all is_plain_row (face_rows f classes) ≡ true
faces_plain f most [] room small from = refl
faces_plain f most (k ∷ classes) room small from = rw (decimal_plain f (omega arith), decimal_plain k (omega (arith, from.0.1)), faces_plain (f + 1) most classes (omega arith) small from.1) refl

-- the words of points
points_plain : (points : List Point) → list_all in_limits points ≡ true → list_all is_plain_word (flat_map point_words points) ≡ true
points_plain [] fits = refl
points_plain (p ∷ points) fits =
    let both = and_parts (in_limits p) (list_all in_limits points) fits in
    let inside = and_parts (within (neg_ℤ MAX_COORDINATE) MAX_COORDINATE p.x) (within (neg_ℤ MAX_COORDINATE) MAX_COORDINATE p.y) both.0 in
    rw (signed_plain p.x (coordinate_small p.x inside.0), signed_plain p.y (coordinate_small p.y inside.1), points_plain points both.1) refl

-- the row of an arc
arc_plain : (n : ℕ) (a : BaseArc) → n < 2 ^ 32 → is_arc n a ≡ true → length a.points < 2 ^ 32 → is_plain_row (arc_words a) ≡ true
arc_plain n a few fits small =
    let facts = arc_facts n a fits in
    rw (decimal_plain a.left (omega (arith, facts.left)), decimal_plain a.right (omega (arith, facts.right)), decimal_plain (length a.points) (omega arith), points_plain a.points facts.in_limits) refl

-- the rows of arcs
pub arcs_plain : (n : ℕ) (arcs : List BaseArc) → n < 2 ^ 32 → list_all (is_arc n) arcs ≡ true → count_points arcs < 2 ^ 32 → list_all is_plain_row (map arc_words arcs) ≡ true
arcs_plain n [] few fits small = refl
arcs_plain n (a ∷ arcs) few fits small =
    let parts = and_parts (is_arc n a) (list_all (is_arc n) arcs) fits in
    let sum : count_points (a ∷ arcs) ≡ length a.points + count_points arcs = sum_by-cons (λ (b : BaseArc). length b.points) a arcs in
    and_from _ _ (arc_plain n a few parts.0 (omega arith)) (arcs_plain n arcs few parts.1 (omega arith))
