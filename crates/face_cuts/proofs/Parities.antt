-- What a point is inside, told arc by arc.
use Rattle.std.proofs.Common.{◌≡◌, ◌∙◌, ℕ, ◌+◌, ◌==◌, ◌&&◌, ◌||◌, Bool, true, false, not, cond, List, [], ◌∷◌, map, filter, count_by, All, refl, sym, ap, ap₂}
use Rattle.std.proofs.lemmas.List.Elements.{All-head, All-tail}
use Rattle.lemmas.specs.Parity.{is_odd, either_alone}
use Rattle.lemmas.proofs.Counts.{count_by-cons, is_odd-add, is_odd-count_by-append}
use Rattle.tgap_model.specs.declared.geometry.Fraction.{Fraction}
use Rattle.tgap_model.specs.declared.geometry.Point.{Point}
use Rattle.tgap_model.specs.declared.geometry.Seg.{Seg}
use Rattle.tgap_model.specs.declared.base.BaseArc.{BaseArc}
use Rattle.tgap_model.specs.Segment.{line_through, crosses, is_above}
use Rattle.tgap_model.specs.declared.segment.LabelledSegment.{LabelledSegment}
use Rattle.tgap_model.specs.Partition.{is_empty, path_segments, arc_segments}
use Rattle.map_laws.specs.Inside.{borders, crosses_ray, is_inside}
use Rattle.ring_walk.specs.Areas.{segments_of}

-- ---- one of two tests alone

pub alone_none : (a : Bool) → either_alone a false ≡ a
alone_none true = refl
alone_none false = refl

pub alone_itself : (a : Bool) → either_alone a a ≡ false
alone_itself true = refl
alone_itself false = refl

pub alone_four : (a b c d : Bool) → either_alone (either_alone a b) (either_alone c d) ≡ either_alone (either_alone a c) (either_alone b d)
alone_four true true true true = refl
alone_four true true true false = refl
alone_four true true false true = refl
alone_four true true false false = refl
alone_four true false true true = refl
alone_four true false true false = refl
alone_four true false false true = refl
alone_four true false false false = refl
alone_four false true true true = refl
alone_four false true true false = refl
alone_four false true false true = refl
alone_four false true false false = refl
alone_four false false true true = refl
alone_four false false true false = refl
alone_four false false false true = refl
alone_four false false false false = refl

pub alone_and : (a b c : Bool) → (either_alone a b && c) ≡ either_alone (a && c) (b && c)
alone_and true true true = refl
alone_and true true false = refl
alone_and true false true = refl
alone_and true false false = refl
alone_and false b c = refl

-- a face borders an arc at one of its sides alone
pub borders_alone : (f left right : ℕ) → borders f left right ≡ either_alone (left == f) (right == f)
borders_alone f left right = by (left == f) (right == f)
  where
    by : (a b : Bool) → ((a && not b) || (b && not a)) ≡ either_alone a b
    by true true = refl
    by true false = refl
    by false true = refl
    by false false = refl

-- ---- the parity of those that pass a test

abbrev pub parity : {A : Type 0} → (A → Bool) → List A → Bool
parity q [] = false
parity q (x ∷ xs) = either_alone (q x) (parity q xs)

pub parity_alone : {A : Type 0} (q r : A → Bool) (xs : List A) → parity (λ x. either_alone (q x) (r x)) xs ≡ either_alone (parity q xs) (parity r xs)
parity_alone q r [] = refl
parity_alone q r (x ∷ xs) = ap (either_alone (either_alone (q x) (r x))) (parity_alone q r xs) ∙ alone_four (q x) (r x) (parity q xs) (parity r xs)

pub parity_agree : {A : Type 0} (q r : A → Bool) (xs : List A) → All (λ x. q x ≡ r x) xs → parity q xs ≡ parity r xs
parity_agree q r [] h = refl
parity_agree q r (x ∷ xs) h = ap₂ either_alone (All-head (λ x. q x ≡ r x) x xs h) (parity_agree q r xs (All-tail (λ x. q x ≡ r x) x xs h))

pub parity_kept : {A B : Type 0} (q : B → Bool) (f : A → B) (p : A → Bool) (xs : List A) → parity q (map f (filter p xs)) ≡ parity (λ x. p x && q (f x)) xs
parity_kept q f p [] = refl
parity_kept q f p (x ∷ xs) = by (p x) (parity_kept q f p xs)
  where
    by : (b : Bool) → parity q (map f (filter p xs)) ≡ parity (λ x. p x && q (f x)) xs
        → parity q (map f (cond b (x ∷ filter p xs) (filter p xs))) ≡ either_alone (b && q (f x)) (parity (λ x. p x && q (f x)) xs)
    by true e = ap (either_alone (q (f x))) e
    by false e = e

-- ---- a point and the arcs of a map

-- the segment is above the point
abbrev pub is_over : Fraction → Seg → Bool
is_over p s = crosses (line_through p) s && is_above s p

-- an odd number of the segments of an arc are above the point
abbrev pub is_odd_over : Fraction → List Point → Bool
is_odd_over p points = is_odd (count_by (is_over p) (segments_of points))

-- and the arc borders the face
abbrev pub counts : Fraction → ℕ → BaseArc → Bool
counts p f a = borders f a.left a.right && is_odd_over p a.points

module _ (p : Fraction) (f : ℕ) where
  abbrev test : ℕ → ℕ → Seg → Bool
  test left right s = is_over p s && borders f left right

  path_count : (i left right k : ℕ) (points : List Point)
      → is_odd (count_by (λ s. crosses_ray p s && borders f s.left s.right) (path_segments i left right k points)) ≡ (borders f left right && is_odd_over p points)
  path_count i left right k [] = none (borders f left right)
    where
      none : (b : Bool) → false ≡ (b && false)
      none true = refl
      none false = refl
  path_count i left right k (a ∷ []) = none (borders f left right)
    where
      none : (b : Bool) → false ≡ (b && false)
      none true = refl
      none false = refl
  path_count i left right k (a ∷ b ∷ points) =
      let s : LabelledSegment = record {
        segment = record { a = a; b = b };
        left = left;
        right = right;
        arc = i;
        place = k;
        starts = k == 0;
        ends = is_empty points;
      } in
      let rest = path_segments i left right (k + 1) (b ∷ points) in
      ap is_odd (count_by-cons (λ s. crosses_ray p s && borders f s.left s.right) s rest)
      ∙ one (is_over p (record { a = a; b = b })) (borders f left right) (count_by (λ s. crosses_ray p s && borders f s.left s.right) rest)
      ∙ ap (λ (t : Bool). either_alone (is_over p (record { a = a; b = b }) && borders f left right) t) (path_count i left right (k + 1) (b ∷ points))
      ∙ join (is_over p (record { a = a; b = b })) (borders f left right) (is_odd_over p (b ∷ points))
      ∙ ap (λ (t : Bool). borders f left right && t)
      (sym (ap is_odd (count_by-cons (is_over p) (record { a = a; b = b }) (segments_of (b ∷ points))) ∙ two (is_over p (record { a = a; b = b })) (count_by (is_over p) (segments_of (b ∷ points)))))
    where
      two : (x : Bool) (n : ℕ) → is_odd (cond x 1 0 + n) ≡ either_alone x (is_odd n)
      two x n = is_odd-add (cond x 1 0) n ∙ ap (λ (t : Bool). either_alone t (is_odd n)) (three x)
        where
          three : (x : Bool) → is_odd (cond x 1 0) ≡ x
          three true = refl
          three false = refl

      one : (x y : Bool) (n : ℕ) → is_odd (cond (x && y) 1 0 + n) ≡ either_alone (x && y) (is_odd n)
      one x y n = two (x && y) n

      join : (x y z : Bool) → either_alone (x && y) (y && z) ≡ (y && either_alone x z)
      join true true true = refl
      join true true false = refl
      join true false z = refl
      join false true z = refl
      join false false z = refl

  pub inside_arcs : (i : ℕ) (arcs : List BaseArc) → is_inside (arc_segments i arcs) f p ≡ parity (counts p f) arcs
  unfolding is_inside
  inside_arcs i [] = refl
  inside_arcs i (a ∷ arcs) =
      is_odd-count_by-append (λ s. crosses_ray p s && borders f s.left s.right) (path_segments i a.left a.right 0 a.points) (arc_segments (i + 1) arcs)
      ∙ ap₂ either_alone (path_count i a.left a.right 0 a.points) (inside_arcs (i + 1) arcs)
