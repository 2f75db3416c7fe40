-- No point is inside two faces: the segments above it are the front of the stack on its line, and the parity of a face's
-- borders among them tells whether the label reached below them is that face.
use Rattle.std.proofs.Common.{◌≡◌, ◌≢◌, ◌⊎◌, inl, inr, ℕ, Bool, true, false, cond, not, ◌&&◌, ◌||◌, ◌==◌, ℤ, pos, ◌<ℤ◌, ◌≤ℤ◌, ◌*ℤ◌, int_lt, arith, List, [], ◌∷◌, map, filter, refl, sym, ap, ◌∙◌, subst, suc, ◌+◌, count_by}
use Rattle.std.specs.List.{list_all}
use Rattle.std.proofs.lemmas.Bool.{and_parts, and_from, or_cases, eqb-true, true≢false}
use Rattle.tgap_model.specs.declared.segment.LabelledSegment.{LabelledSegment}
use Rattle.tgap_model.specs.declared.geometry.Fraction.{Fraction}
use Rattle.tgap_model.specs.declared.geometry.Seg.{Seg}
use Rattle.lemmas.specs.Parity.{is_odd, either_alone}
use Rattle.lemmas.proofs.Counts.{is_odd-suc, count_by-cons}
use Rattle.lemmas.specs.Sorting.{insert_by, sort_by}
use Rattle.std.proofs.lemmas.Int.{ints}
use Rattle.std.proofs.Math.IntN.{*ℤ_comm}
use Rattle.lemmas.proofs.Integers.{one-*ℤ}
use Rattle.lemmas.proofs.Signs.{Decides-int_lt, int_lt-false, lt_lt_trans, sub_positive, lt_from_mul_left}
use Rattle.lemmas.proofs.Fractions.{fraction_lt_lt, fraction_lt_le}
use Rattle.tgap_model.specs.Segment.{Line, line_through, crosses, passes, goes_right, rightward, run, height, is_higher, is_above}
use Rattle.tgap_model.specs.Partition.{Sides, sides, stack, agree_from}
use Rattle.map_laws.specs.Inside.{borders, crosses_ray, is_inside}
use Rattle.map_laws.specs.PlaneLaws.{InsideOneFace}

-- ---- parity

-- an odd number of elements pass
abbrev odd : {A : Type 0} → (A → Bool) → List A → Bool
odd t xs = is_odd (count_by t xs)

-- one more element
odd_cons : {A : Type 0} (t : A → Bool) (x : A) (xs : List A) → odd t (x ∷ xs) ≡ either_alone (t x) (odd t xs)
odd_cons t x xs = ap is_odd (count_by-cons t x xs) ∙ by (t x)
  where
    by : (b : Bool) → is_odd (cond b 1 0 + count_by t xs) ≡ either_alone b (odd t xs)
    by true = let e : 1 + count_by t xs ≡ suc (count_by t xs) = omega arith in ap is_odd e ∙ is_odd-suc (count_by t xs)
    by false = let e : 0 + count_by t xs ≡ count_by t xs = omega arith in ap is_odd e

alone_swap : (a b c : Bool) → either_alone a (either_alone b c) ≡ either_alone b (either_alone a c)
alone_swap true true c = refl
alone_swap true false c = refl
alone_swap false b c = refl

-- parity does not ask for the order
odd_insert : {A : Type 0} (t : A → Bool) (before : A → A → Bool) (x : A) (xs : List A) → odd t (insert_by before x xs) ≡ either_alone (t x) (odd t xs)
odd_insert t before x [] = odd_cons t x []
odd_insert t before x (y ∷ ys) = by (before x y) (odd_insert t before x ys)
  where
    by : (b : Bool) → odd t (insert_by before x ys) ≡ either_alone (t x) (odd t ys) → odd t (cond b (x ∷ y ∷ ys) (y ∷ insert_by before x ys)) ≡ either_alone (t x) (odd t (y ∷ ys))
    by true h = odd_cons t x (y ∷ ys)
    by false h =
        odd_cons t y (insert_by before x ys) ∙ ap (either_alone (t y)) h ∙ alone_swap (t y) (t x) (odd t ys)
        ∙ sym (ap (either_alone (t x)) (odd_cons t y ys))

odd_sort : {A : Type 0} (t : A → Bool) (before : A → A → Bool) (xs : List A) → odd t (sort_by before xs) ≡ odd t xs
odd_sort t before [] = refl
odd_sort t before (x ∷ xs) = odd_insert t before x (sort_by before xs) ∙ ap (either_alone (t x)) (odd_sort t before xs) ∙ sym (odd_cons t x xs)

-- what a filter leaves out does not count
odd_filter : {A : Type 0} (q t : A → Bool) (xs : List A) → odd (λ x. q x && t x) xs ≡ odd t (filter q xs)
odd_filter q t [] = refl
odd_filter q t (x ∷ xs) = odd_cons (λ y. q y && t y) x xs ∙ ap (either_alone (q x && t x)) (odd_filter q t xs) ∙ by (q x)
  where
    by : (b : Bool) → either_alone (b && t x) (odd t (filter q xs)) ≡ odd t (cond b (x ∷ filter q xs) (filter q xs))
    by true = sym (odd_cons t x (filter q xs))
    by false = refl

-- where no element passes the number is even
odd_none : {A : Type 0} (t u : A → Bool) (xs : List A) → list_all (λ x. not (t x)) xs ≡ true → odd (λ x. t x && u x) xs ≡ false
odd_none t u [] h = refl
odd_none t u (x ∷ xs) h =
    odd_cons (λ y. t y && u y) x xs
    ∙ ap (either_alone (t x && u x)) (odd_none t u xs (and_parts _ _ h).1)
    ∙ by (t x) (and_parts _ _ h).0
  where
    by : (b : Bool) → not b ≡ true → either_alone (b && u x) false ≡ false
    by true e = absurd (true≢false (sym e))
    by false e = refl

-- ---- the front of a list

-- those that pass are the front of the list
abbrev pub fronts : {A : Type 0} → (A → Bool) → List A → Bool
fronts t [] = true
fronts t (x ∷ xs) = cond (t x) (fronts t xs) (list_all (λ y. not (t y)) xs)

-- An order that agrees with the test: what stands before a passing element passes, and so does what no passing element stands
-- before.
pub record Follows {A : Type 0} (P : A → Type 0) (t : A → Bool) (before : A → A → Bool) : Type 0 where
  pub up : (x y : A) → P x → P y → before x y ≡ true → t y ≡ true → t x ≡ true
  pub down : (x y : A) → P x → P y → before x y ≡ false → t x ≡ true → t y ≡ true

-- members one by one
abbrev pub Each : {A : Type 0} → (A → Type 0) → List A → Type 0
Each P [] = Unit {0}
Each P (x ∷ xs) = P x × Each P xs

pub each_insert : {A : Type 0} (P : A → Type 0) (before : A → A → Bool) (x : A) (ys : List A) → P x → Each P ys → Each P (insert_by before x ys)
each_insert P before x [] p h = (p, tt)
each_insert P before x (y ∷ ys) p h = by (before x y) (each_insert P before x ys p h.1)
  where
    by : (b : Bool) → Each P (insert_by before x ys) → Each P (cond b (x ∷ y ∷ ys) (y ∷ insert_by before x ys))
    by true k = (p, h)
    by false k = (h.0, k)

pub each_sort : {A : Type 0} (P : A → Type 0) (before : A → A → Bool) (xs : List A) → Each P xs → Each P (sort_by before xs)
each_sort P before [] h = tt
each_sort P before (x ∷ xs) h = each_insert P before x (sort_by before xs) h.0 (each_sort P before xs h.1)

pub each_filter : {A : Type 0} (P : A → Type 0) (q : A → Bool) → ((x : A) → q x ≡ true → P x) → (xs : List A) → Each P (filter q xs)
each_filter P q f [] = tt
each_filter P q f (x ∷ xs) = by (q x) (f x) (each_filter P q f xs)
  where
    by : (b : Bool) → (b ≡ true → P x) → Each P (filter q xs) → Each P (cond b (x ∷ filter q xs) (filter q xs))
    by true p k = (p refl, k)
    by false p k = k

module _ {A : Type 0} (P : A → Type 0) (t : A → Bool) (before : A → A → Bool) (f : Follows P t before) where
  -- none passes after an element that does not pass was put into its place
  none_inserted : (x : A) (ys : List A) → t x ≡ false → list_all (λ y. not (t y)) ys ≡ true → list_all (λ y. not (t y)) (insert_by before x ys) ≡ true
  none_inserted x [] e h = and_from _ _ (ap not e) refl
  none_inserted x (y ∷ ys) e h = by (before x y) (none_inserted x ys e (and_parts _ _ h).1)
    where
      by : (b : Bool) → list_all (λ z. not (t z)) (insert_by before x ys) ≡ true → list_all (λ z. not (t z)) (cond b (x ∷ y ∷ ys) (y ∷ insert_by before x ys)) ≡ true
      by true k = and_from _ _ (ap not e) h
      by false k = and_from _ _ (and_parts _ _ h).0 k

  front_insert : (x : A) (ys : List A) → P x → Each P ys → fronts t ys ≡ true → fronts t (insert_by before x ys) ≡ true
  front_insert x [] p h k = alone (t x)
    where
      alone : (b : Bool) → cond b true true ≡ true
      alone true = refl
      alone false = refl
  front_insert x (y ∷ ys) p h k = by (before x y) refl (t x) refl (t y) refl (front_insert x ys p h.1)
    where
      -- the cases: x before y or not, x passes or not, y passes or not
      by : (b : Bool) → before x y ≡ b → (c : Bool) → t x ≡ c → (d : Bool) → t y ≡ d → (fronts t ys ≡ true → fronts t (insert_by before x ys) ≡ true)
          → fronts t (cond b (x ∷ y ∷ ys) (y ∷ insert_by before x ys)) ≡ true
      by true e true u d v r = subst (λ (z : Bool). cond z (fronts t (y ∷ ys)) (list_all (λ w. not (t w)) (y ∷ ys)) ≡ true) (sym u) k
      by true e false u true v r = absurd (true≢false (sym (f.up x y p h.0 e v) ∙ u))
      by true e false u false v r =
          subst (λ (z : Bool). cond z (fronts t (y ∷ ys)) (list_all (λ w. not (t w)) (y ∷ ys)) ≡ true) (sym u)
          (and_from _ _ (ap not v) (subst (λ (z : Bool). cond z (fronts t ys) (list_all (λ w. not (t w)) ys) ≡ true) v k))
      by false e c u true v r =
          subst (λ (z : Bool). cond z (fronts t (insert_by before x ys)) (list_all (λ w. not (t w)) (insert_by before x ys)) ≡ true) (sym v)
          (r (subst (λ (z : Bool). cond z (fronts t ys) (list_all (λ w. not (t w)) ys) ≡ true) v k))
      by false e true u false v r = absurd (true≢false (sym (f.down x y p h.0 e u) ∙ v))
      by false e false u false v r =
          subst (λ (z : Bool). cond z (fronts t (insert_by before x ys)) (list_all (λ w. not (t w)) (insert_by before x ys)) ≡ true) (sym v)
          (none_inserted x ys u (subst (λ (z : Bool). cond z (fronts t ys) (list_all (λ w. not (t w)) ys) ≡ true) v k))

  pub front_sort : (xs : List A) → Each P xs → fronts t (sort_by before xs) ≡ true
  front_sort [] h = refl
  front_sort (x ∷ xs) h = front_insert x (sort_by before xs) h.0 (each_sort P before xs h.1) (front_sort xs h.1)

-- ---- heights on a line

between : (l : Line) (u v : ℤ) → pos 0 <ℤ l.c → passes l u v ≡ true → u <ℤ v
between l u v c e =
    let parts = and_parts (int_lt (l.c *ℤ u) l.a) (int_lt l.a (l.c *ℤ v)) e in
    lt_from_mul_left l.c c (lt_lt_trans ((Decides-int_lt (l.c *ℤ u) l.a).0 parts.0) ((Decides-int_lt l.a (l.c *ℤ v)).0 parts.1))

-- a segment that is crossed goes on to the right
pub run_positive : (l : Line) (s : Seg) → pos 0 <ℤ l.c → crosses l s ≡ true → pos 0 <ℤ run (rightward s)
run_positive l s c h = by (goes_right s) refl
  where
    leftward : goes_right s ≡ false → (passes l s.a.x s.b.x ≡ true) ⊎ (passes l s.b.x s.a.x ≡ true) → s.b.x <ℤ s.a.x
    leftward e (inl k) = absurd (true≢false (sym ((Decides-int_lt s.a.x s.b.x).1 (between l s.a.x s.b.x c k)) ∙ e))
    leftward e (inr k) = between l s.b.x s.a.x c k

    by : (b : Bool) → goes_right s ≡ b → pos 0 <ℤ run (cond b s (record { a = s.b; b = s.a }))
    by true e = sub_positive ((Decides-int_lt s.a.x s.b.x).0 e)
    by false e = sub_positive (leftward e (or_cases (passes l s.a.x s.b.x) (passes l s.b.x s.a.x) h))

-- over 1
over_one : (z : ℤ) → z *ℤ pos 1 ≡ z
over_one z = *ℤ_comm z (pos 1) ∙ one-*ℤ z

-- a point below a segment is below each higher one, and below each that is no lower
below_higher : (y m n : ℤ) {r q : ℤ} → pos 0 <ℤ r → pos 0 <ℤ q → (m *ℤ q) <ℤ (n *ℤ r) → (y *ℤ r) <ℤ m → (y *ℤ q) <ℤ n
below_higher y m n {r} {q} pr pq h k =
    subst (λ (z : ℤ). (y *ℤ q) <ℤ z) (over_one n)
    (fraction_lt_lt y m n (omega (arith, ints)) pr pq (subst (λ (z : ℤ). (y *ℤ r) <ℤ z) (sym (over_one m)) k) h)

below_no_lower : (y m n : ℤ) {r q : ℤ} → pos 0 <ℤ r → pos 0 <ℤ q → (m *ℤ q) ≤ℤ (n *ℤ r) → (y *ℤ r) <ℤ m → (y *ℤ q) <ℤ n
below_no_lower y m n {r} {q} pr pq h k =
    subst (λ (z : ℤ). (y *ℤ q) <ℤ z) (over_one n)
    (fraction_lt_le y m n (omega (arith, ints)) pr pq (subst (λ (z : ℤ). (y *ℤ r) <ℤ z) (sym (over_one m)) k) h)

-- the order of heights agrees with being above a point of the line
pub heights_follow : (p : Fraction) → pos 0 <ℤ p.d
    → Follows (λ (s : LabelledSegment). crosses (line_through p) s.segment ≡ true) (λ s. is_above s.segment p) (λ s t. is_higher (line_through p) s.segment t.segment)
unfolding is_above is_higher
heights_follow p d = record {
  up = λ s t c e h a.
      (Decides-int_lt _ _).1 (below_higher p.ny (height (line_through p) (rightward t.segment)) (height (line_through p) (rightward s.segment))
      (run_positive (line_through p) t.segment d e) (run_positive (line_through p) s.segment d c)
      ((Decides-int_lt _ _).0 h) ((Decides-int_lt _ _).0 a));
  down = λ s t c e h a.
      (Decides-int_lt _ _).1 (below_no_lower p.ny (height (line_through p) (rightward s.segment)) (height (line_through p) (rightward t.segment))
      (run_positive (line_through p) s.segment d c) (run_positive (line_through p) t.segment d e)
      (int_lt-false _ _ h) ((Decides-int_lt _ _).0 a));
}

-- ---- labels and parity

-- the label reached below the elements of the front that pass
abbrev pub reached : (LabelledSegment → Bool) → ℕ → List LabelledSegment → ℕ
reached t u [] = u
reached t u (s ∷ ss) = cond (t s) (reached t (sides s).lower ss) u

-- a border of f leads from another label to f, or from f to another one
borders_of_sides : (f : ℕ) (s : LabelledSegment) → borders f s.left s.right ≡ either_alone ((sides s).upper == f) ((sides s).lower == f)
borders_of_sides f s = by (goes_right s.segment)
  where
    same : (a b : Bool) → ((a && not b) || (b && not a)) ≡ either_alone a b
    same true true = refl
    same true false = refl
    same false true = refl
    same false false = refl

    turned : (a b : Bool) → ((a && not b) || (b && not a)) ≡ either_alone b a
    turned true true = refl
    turned true false = refl
    turned false true = refl
    turned false false = refl

    sides_by : Bool → Sides
    sides_by b = cond b (record { upper = s.left; lower = s.right }) (record { upper = s.right; lower = s.left })

    by : (b : Bool) → borders f s.left s.right ≡ either_alone ((sides_by b).upper == f) ((sides_by b).lower == f)
    by true = same (s.left == f) (s.right == f)
    by false = turned (s.left == f) (s.right == f)

alone_through : (a b c : Bool) → either_alone (either_alone a b) (either_alone b c) ≡ either_alone a c
alone_through true true true = refl
alone_through true true false = refl
alone_through true false c = refl
alone_through false true true = refl
alone_through false true false = refl
alone_through false false c = refl

alone_self : (a : Bool) → false ≡ either_alone a a
alone_self true = refl
alone_self false = refl

-- the parity of the borders of f in the front tells whether f is reached, where it does not begin there
parity_reached : (t : LabelledSegment → Bool) (f u : ℕ) (ss : List LabelledSegment) → fronts t ss ≡ true → agree_from u (map sides ss) ≡ true
    → odd (λ s. t s && borders f s.left s.right) ss ≡ either_alone (u == f) (reached t u ss == f)
parity_reached t f u [] k h = alone_self (u == f)
parity_reached t f u (s ∷ ss) k h =
    odd_cons (λ s. t s && borders f s.left s.right) s ss
    ∙ by (t s) k (λ front. parity_reached t f (sides s).lower ss front (and_parts ((sides s).upper == u) (agree_from (sides s).lower (map sides ss)) h).1)
  where
    upper : (sides s).upper ≡ u
    upper = eqb-true (sides s).upper u (and_parts ((sides s).upper == u) (agree_from (sides s).lower (map sides ss)) h).0

    by : (b : Bool) → cond b (fronts t ss) (list_all (λ y. not (t y)) ss) ≡ true
        → (fronts t ss ≡ true → odd (λ s. t s && borders f s.left s.right) ss ≡ either_alone ((sides s).lower == f) (reached t (sides s).lower ss == f))
        → either_alone (b && borders f s.left s.right) (odd (λ s. t s && borders f s.left s.right) ss) ≡ either_alone (u == f) (cond b (reached t (sides s).lower ss) u == f)
    by true e ih =
        ap (either_alone (borders f s.left s.right)) (ih e)
        ∙ ap (λ (b : Bool). either_alone b (either_alone ((sides s).lower == f) (reached t (sides s).lower ss == f))) (borders_of_sides f s)
        ∙ alone_through ((sides s).upper == f) ((sides s).lower == f) (reached t (sides s).lower ss == f)
        ∙ ap (λ (x : ℕ). either_alone (x == f) (reached t (sides s).lower ss == f)) upper
    by false e ih = odd_none t (λ s. borders f s.left s.right) ss e ∙ alone_self (u == f)

-- ---- the law

-- the front of the stack on the line through a point: the segments that pass above it
pub above_front : (segments : List LabelledSegment) (p : Fraction) → pos 0 <ℤ p.d → fronts (λ s. is_above s.segment p) (stack (line_through p) segments) ≡ true
above_front segments p d =
    front_sort (λ s. crosses (line_through p) s.segment ≡ true) (λ s. is_above s.segment p) (λ s t. is_higher (line_through p) s.segment t.segment) (heights_follow p d)
    (filter (λ s. crosses (line_through p) s.segment) segments)
    (each_filter (λ s. crosses (line_through p) s.segment ≡ true) (λ s. crosses (line_through p) s.segment) (λ s e. e) segments)

-- whether a point is inside a face is told by the label reached above it
pub inside_parity : (segments : List LabelledSegment) (p : Fraction) (f : ℕ) → pos 0 <ℤ p.d
    → agree_from 0 (map sides (stack (line_through p) segments)) ≡ true
    → is_inside segments f p ≡ either_alone (0 == f) (reached (λ s. is_above s.segment p) 0 (stack (line_through p) segments) == f)
unfolding is_inside
inside_parity segments p f d h = in_stack ∙ parity_reached above f 0 (stack l segments) (above_front segments p d) h
  where
    l : Line
    l = line_through p

    above : LabelledSegment → Bool
    above s = is_above s.segment p

    borders_f : LabelledSegment → Bool
    borders_f s = borders f s.left s.right

    crossed : LabelledSegment → Bool
    crossed s = crosses l s.segment

    higher : LabelledSegment → LabelledSegment → Bool
    higher s t = is_higher l s.segment t.segment

    together : (a b c : Bool) → ((a && b) && c) ≡ (a && (b && c))
    together true b c = refl
    together false b c = refl

    each : (ss : List LabelledSegment) → odd (λ s. crosses_ray p s && borders_f s) ss ≡ odd (λ s. crossed s && (above s && borders_f s)) ss
    each [] = refl
    each (s ∷ ss) =
        odd_cons (λ s. crosses_ray p s && borders_f s) s ss
        ∙ ap (λ (b : Bool). either_alone b (odd (λ s. crosses_ray p s && borders_f s) ss)) (together (crossed s) (above s) (borders_f s))
        ∙ ap (either_alone (crossed s && (above s && borders_f s))) (each ss)
        ∙ sym (odd_cons (λ s. crossed s && (above s && borders_f s)) s ss)

    in_stack : is_inside segments f p ≡ odd (λ s. above s && borders_f s) (stack l segments)
    in_stack =
        each segments ∙ odd_filter crossed (λ s. above s && borders_f s) segments
        ∙ sym (odd_sort (λ s. above s && borders_f s) higher (filter crossed segments))

-- a point is inside a face other than 0 only where that face is reached from above
inside_reached : (segments : List LabelledSegment) (p : Fraction) (f : ℕ) → pos 0 <ℤ p.d → f ≢ 0
    → agree_from 0 (map sides (stack (line_through p) segments)) ≡ true → is_inside segments f p ≡ true
    → f ≡ reached (λ s. is_above s.segment p) 0 (stack (line_through p) segments)
inside_reached segments p f d n h k = sym (eqb-true label f (found (0 == f) refl))
  where
    label : ℕ
    label = reached (λ s. is_above s.segment p) 0 (stack (line_through p) segments)

    found : (b : Bool) → (0 == f) ≡ b → (label == f) ≡ true
    found true e = absurd (n (sym (eqb-true 0 f e)))
    found false e = subst (λ (b : Bool). either_alone b (label == f) ≡ true) e (sym (inside_parity segments p f d h) ∙ k)

pub inside_one_face : InsideOneFace
inside_one_face segments agree p between f g nf ng hf hg =
    inside_reached segments p f between.rational nf (agree (line_through p) between) hf
    ∙ sym (inside_reached segments p g between.rational ng (agree (line_through p) between) hg)
