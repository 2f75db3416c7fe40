-- A point is inside the face below the nearest segment above it: that segment is the last of the front of the stack.
use Rattle.std.proofs.Common.{◌≡◌, ◌⊎◌, inl, inr, ⊎_elim, ℕ, zero, suc, ◌<◌, Bool, true, false, cond, not, ◌==◌, ℤ, pos, ◌<ℤ◌, ◌*ℤ◌, List, [], ◌∷◌, length, get_or, filter, All, refl, sym, ap, ◌∙◌, subst, eq-eqb, arith}
use Rattle.std.specs.List.{list_all}
use Rattle.std.proofs.lemmas.Bool.{and_parts, and_from, true≢false, eqb-true}
use Rattle.std.proofs.lemmas.List.Elements.{All-filter}
use Rattle.tgap_model.specs.declared.segment.LabelledSegment.{LabelledSegment}
use Rattle.lemmas.specs.Parity.{either_alone}
use Rattle.lemmas.specs.Sorting.{insert_by, sort_by}
use Rattle.lemmas.proofs.Signs.{Decides-int_lt, int_lt-false, int_lt-from_le, le_from_lt}
use Rattle.lemmas.proofs.Fractions.{fraction_le_le}
use Rattle.tgap_model.specs.Segment.{Line, line_through, crosses, rightward, run, height, is_higher, is_above}
use Rattle.tgap_model.specs.Partition.{sides, stack}
use Rattle.map_laws.specs.Inside.{crosses_ray}
use Rattle.map_laws.specs.PlaneLaws.{InsideBelowNearest}
use Rattle.map_laws.proofs.ChainMembers.{Among}
use Rattle.map_laws.proofs.Inside.{Each, each_insert, each_sort, each_filter, fronts, reached, run_positive, above_front, inside_parity}

-- ---- lists in a weak order

-- what does not come before a second element of what does not come before a third does not come before it
record IsWeakOrderOn {A : Type 0} (P : A → Type 0) (before : A → A → Bool) : Type 0 where
  one_way : (x y : A) → P x → P y → before x y ≡ true → before y x ≡ false
  chain : (x y z : A) → P x → P y → P z → before x y ≡ false → before y z ≡ false → before x z ≡ false

-- no element comes before an earlier one
abbrev InOrder : {A : Type 0} → (A → A → Bool) → List A → Type 0
InOrder before [] = Unit {0}
InOrder before (x ∷ xs) = Each (λ y. before y x ≡ false) xs × InOrder before xs

each_map : {A : Type 0} (P Q : A → Type 0) → ((x : A) → P x → Q x) → (xs : List A) → Each P xs → Each Q xs
each_map P Q f [] h = tt
each_map P Q f (x ∷ xs) h = (f x h.0, each_map P Q f xs h.1)

each_both : {A : Type 0} (P Q : A → Type 0) (xs : List A) → Each P xs → Each Q xs → Each (λ x. P x × Q x) xs
each_both P Q [] h k = tt
each_both P Q (x ∷ xs) h k = ((h.0, k.0), each_both P Q xs h.1 k.1)

module _ {A : Type 0} (P : A → Type 0) (before : A → A → Bool) (o : IsWeakOrderOn P before) where
  order_inserted : (x : A) (ys : List A) → P x → Each P ys → InOrder before ys → InOrder before (insert_by before x ys)
  order_inserted x [] p h k = (tt, tt)
  order_inserted x (y ∷ ys) p h k = by (before x y) refl (order_inserted x ys p h.1 k.1)
    where
      later : before x y ≡ true → Each (λ w. before w x ≡ false) ys
      later e = each_map (λ w. P w × (before w y ≡ false)) (λ w. before w x ≡ false) (λ w q. o.chain w y x q.0 h.0 p q.1 (o.one_way x y p h.0 e)) ys (each_both P (λ w. before w y ≡ false) ys h.1 k.0)

      by : (b : Bool) → before x y ≡ b → InOrder before (insert_by before x ys) → InOrder before (cond b (x ∷ y ∷ ys) (y ∷ insert_by before x ys))
      by true e r = ((o.one_way x y p h.0 e, later e), k)
      by false e r = (each_insert (λ w. before w y ≡ false) before x ys e k.0, r)

  order_sorted : (xs : List A) → Each P xs → InOrder before (sort_by before xs)
  order_sorted [] h = tt
  order_sorted (x ∷ xs) h = order_inserted x (sort_by before xs) h.0 (each_sort P before xs h.1) (order_sorted xs h.1)

-- ---- members

among_inserted : {A : Type 0} (before : A → A → Bool) (s x : A) (ys : List A) → Among s (x ∷ ys) → Among s (insert_by before x ys)
among_inserted before s x [] m = m
among_inserted before s x (y ∷ ys) m = by (before x y) (among_inserted before s x ys) m
  where
    by : (b : Bool) → (Among s (x ∷ ys) → Among s (insert_by before x ys)) → Among s (x ∷ y ∷ ys) → Among s (cond b (x ∷ y ∷ ys) (y ∷ insert_by before x ys))
    by true ih n = n
    by false ih (inl e) = inr (ih (inl e))
    by false ih (inr (inl e)) = inl e
    by false ih (inr (inr n)) = inr (ih (inr n))

among_sorted : {A : Type 0} (before : A → A → Bool) (s : A) (xs : List A) → Among s xs → Among s (sort_by before xs)
among_sorted before s [] m = m
among_sorted before s (x ∷ xs) (inl e) = among_inserted before s x (sort_by before xs) (inl e)
among_sorted before s (x ∷ xs) (inr m) = among_inserted before s x (sort_by before xs) (inr (among_sorted before s xs m))

among_filtered : {A : Type 0} (q : A → Bool) (s : A) (xs : List A) → q s ≡ true → Among s xs → Among s (filter q xs)
among_filtered q s [] e m = m
among_filtered q s (x ∷ xs) e m = by (q x) refl (among_filtered q s xs e) m
  where
    by : (b : Bool) → q x ≡ b → (Among s xs → Among s (filter q xs)) → Among s (x ∷ xs) → Among s (cond b (x ∷ filter q xs) (filter q xs))
    by true f ih (inl same) = inl same
    by true f ih (inr n) = inr (ih n)
    by false f ih (inl same) = absurd (true≢false (sym e ∙ ap q (sym same) ∙ f))
    by false f ih (inr n) = ih n

among_from_place : {A : Type 0} (s : A) (xs : List A) (k : ℕ) → k < length xs → get_or xs k s ≡ s → Among s xs
among_from_place s [] k lt e = absurd (omega arith)
among_from_place s (x ∷ xs) zero lt e = inl e
among_from_place s (x ∷ xs) (suc k) lt e = inr (among_from_place s xs k (omega arith) e)

each_from_all : {A : Type 0} (P : A → Type 0) (xs : List A) → All P xs → Each P xs
each_from_all P [] h = tt
each_from_all P (x ∷ xs) h = (h 0 x (omega arith), each_from_all P xs (λ k d lt. h (suc k) d (omega arith)))

-- ---- the last segment of the front

-- a passing element is this one, or comes before it
abbrev Closer : (LabelledSegment → LabelledSegment → Bool) → (LabelledSegment → Bool) → LabelledSegment → LabelledSegment → Type 0
Closer before t s x = t x ≡ true → (x ≡ s) ⊎ (before x s ≡ true)

module _ (before : LabelledSegment → LabelledSegment → Bool) (t : LabelledSegment → Bool) (s : LabelledSegment) (passes : t s ≡ true) where
  -- behind it only the same segment passes
  stays : (xs : List LabelledSegment) → Each (Closer before t s) xs → Each (λ y. before y s ≡ false) xs → reached t (sides s).lower xs ≡ (sides s).lower
  stays [] c o = refl
  stays (x ∷ xs) c o = by (t x) refl (stays xs c.1 o.1)
    where
      same : t x ≡ true → x ≡ s
      same e = ⊎_elim (λ is. is) (λ b. absurd (true≢false (sym b ∙ o.0))) (c.0 e)

      by : (b : Bool) → t x ≡ b → reached t (sides s).lower xs ≡ (sides s).lower → cond b (reached t (sides x).lower xs) (sides s).lower ≡ (sides s).lower
      by true e ih = ap (λ (y : LabelledSegment). reached t (sides y).lower xs) (same e) ∙ ih
      by false e ih = refl

  none_passes : (xs : List LabelledSegment) → list_all (λ y. not (t y)) xs ≡ true → Among s xs → ⊥
  none_passes [] h m = m
  none_passes (x ∷ xs) h (inl e) = by (t x) (and_parts _ _ h).0 (ap t e ∙ passes)
    where
      by : (b : Bool) → not b ≡ true → b ≡ true → ⊥
      by true n f = true≢false (sym n)
      by false n f = true≢false (sym f)
  none_passes (x ∷ xs) h (inr m) = none_passes xs (and_parts _ _ h).1 m

  -- so its lower face is the label reached below the front
  last_reached : (u : ℕ) (xs : List LabelledSegment) → fronts t xs ≡ true → InOrder before xs → Each (Closer before t s) xs → Among s xs → reached t u xs ≡ (sides s).lower
  last_reached u [] f o c m = absurd m
  last_reached u (x ∷ xs) f o c m = by (t x) refl f m (λ g n. last_reached (sides x).lower xs g o.1 c.1 n)
    where
      here : x ≡ s → reached t (sides x).lower xs ≡ (sides s).lower
      here e =
          ap (λ (y : LabelledSegment). reached t (sides y).lower xs) e
          ∙ stays xs c.1 (subst (λ (z : LabelledSegment). Each (λ y. before y z ≡ false) xs) e o.0)

      by : (b : Bool) → t x ≡ b → cond b (fronts t xs) (list_all (λ y. not (t y)) xs) ≡ true → Among s (x ∷ xs)
          → (fronts t xs ≡ true → Among s xs → reached t (sides x).lower xs ≡ (sides s).lower) → cond b (reached t (sides x).lower xs) u ≡ (sides s).lower
      by true e g (inl is) ih = here is
      by true e g (inr n) ih = ih g n
      by false e g (inl is) ih = absurd (true≢false (sym passes ∙ ap t (sym is) ∙ e))
      by false e g (inr n) ih = absurd (none_passes xs g n)

-- ---- the law

-- heights on a line are a weak order
heights_order : (l : Line) → pos 0 <ℤ l.c → IsWeakOrderOn (λ (s : LabelledSegment). crosses l s.segment ≡ true) (λ s t. is_higher l s.segment t.segment)
unfolding is_higher
heights_order l d = record {
  one_way = λ s t c e h. int_lt-from_le {a = top s *ℤ far t} {b = top t *ℤ far s} (le_from_lt ((Decides-int_lt (top t *ℤ far s) (top s *ℤ far t)).0 h));
  chain = λ s t r c e f h k.
      int_lt-from_le {a = top r *ℤ far s} {b = top s *ℤ far r} (fraction_le_le (top s) (top t) (top r)
      (run_positive l s.segment d c) (run_positive l t.segment d e) (run_positive l r.segment d f)
      (int_lt-false (top t *ℤ far s) (top s *ℤ far t) h) (int_lt-false (top r *ℤ far t) (top t *ℤ far r) k));
}
  where
    top : LabelledSegment → ℤ
    top s = height l (rightward s.segment)

    far : LabelledSegment → ℤ
    far s = run (rightward s.segment)

pub inside_below_nearest : InsideBelowNearest
inside_below_nearest segments agree p between s member ray nearest other =
    inside_parity segments p (sides s).lower between.rational (agree l between)
    ∙ ap (λ (n : ℕ). either_alone (0 == (sides s).lower) (n == (sides s).lower)) reached_is
    ∙ told (0 == (sides s).lower) refl
  where
    l : Line
    l = line_through p

    Crossed : LabelledSegment → Type 0
    Crossed t = crosses l t.segment ≡ true

    higher : LabelledSegment → LabelledSegment → Bool
    higher a b = is_higher l a.segment b.segment

    above : LabelledSegment → Bool
    above t = is_above t.segment p

    crossed : LabelledSegment → Bool
    crossed t = crosses l t.segment

    parts : (crossed s ≡ true) × (above s ≡ true)
    parts = and_parts (crosses (line_through p) s.segment) (is_above s.segment p) ray

    each_crossed : Each Crossed (filter crossed segments)
    each_crossed = each_filter Crossed crossed (λ t e. e) segments

    closer : Each (Closer higher above s) (filter crossed segments)
    closer =
        each_map (λ t. Crossed t × (crosses_ray p t ≡ true → (t ≡ s) ⊎ (higher t s ≡ true))) (Closer higher above s) (λ t h e. h.1 (and_from _ _ h.0 e)) (filter crossed segments)
        (each_both Crossed (λ t. crosses_ray p t ≡ true → (t ≡ s) ⊎ (higher t s ≡ true)) (filter crossed segments) each_crossed
        (each_from_all (λ t. crosses_ray p t ≡ true → (t ≡ s) ⊎ (higher t s ≡ true)) (filter crossed segments)
        (All-filter crossed (λ t. crosses_ray p t ≡ true → (t ≡ s) ⊎ (higher t s ≡ true)) segments nearest)))

    among : Among s (stack l segments)
    among = among_sorted higher s (filter crossed segments) (among_filtered crossed s segments parts.0 (among_from_place s segments member.0 member.1 member.2))

    reached_is : reached above 0 (stack l segments) ≡ (sides s).lower
    reached_is =
        last_reached higher above s parts.1 0 (stack l segments) (above_front segments p between.rational)
        (order_sorted Crossed higher (heights_order l between.rational) (filter crossed segments) each_crossed)
        (each_sort (Closer higher above s) higher (filter crossed segments) closer) among

    told : (b : Bool) → (0 == (sides s).lower) ≡ b → either_alone b ((sides s).lower == (sides s).lower) ≡ true
    told true e = absurd (other (sym (eqb-true 0 (sides s).lower e)))
    told false e = eq-eqb (sides s).lower (sides s).lower refl
