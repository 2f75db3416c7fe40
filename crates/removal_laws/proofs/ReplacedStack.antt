-- The faces down a line still agree where two segments in a row become one.
use Rattle.std.proofs.Common.{◌≡◌, ℕ, Bool, true, false, cond, not, ◌||◌, ◌&&◌, List, [], ◌∷◌, ◌++◌, map, filter, All, AllPairs, pos, neg_ℤ, ◌*ℤ◌, int_lt, refl, sym, ap, ap₂, ◌∙◌, subst, true≢false, arith}
use Rattle.std.proofs.Math.Bool.{or_comm}
use Rattle.std.proofs.lemmas.List.Elements.{All-append, All-cons, All-tail, All-filter, All-contains, filter-append, filter_passes}
use Rattle.std.proofs.lemmas.List.Kept.{AllPairs-filter}
use Rattle.lemmas.specs.Parity.{either_alone}
use Rattle.lemmas.specs.Sorting.{sort_by, insert_by}
use Rattle.lemmas.proofs.Members.{All-from_members}
use Rattle.lemmas.proofs.Sorting.{All-sort_by}
use Rattle.lemmas.proofs.Signs.{Decides-int_lt, int_lt-from_le, le_from_lt, by_order, lt_lt_trans, lt_from_mul_left}
use Rattle.lemmas.proofs.Polynomials.{same_value, cross, minus, number}
use Rattle.tgap_model.specs.declared.geometry.Point.{Point}
use Rattle.tgap_model.specs.declared.geometry.Seg.{Seg}
use Rattle.tgap_model.specs.declared.segment.LabelledSegment.{LabelledSegment}
use Rattle.tgap_model.specs.Point.{cross as cross_of}
use Rattle.tgap_model.specs.Segment.{Line, IsBetweenColumns, crosses}
use Rattle.tgap_model.specs.Partition.{Sides, sides, stack, agree_from}
use Rattle.removal_laws.proofs.Spots.{IsCrossed, higher, IsDecided, height_order}
use Rattle.removal_laws.proofs.NoneBetween.{IsFreeOf, AreSides, corner_a, corner_b, corner_c, same_order}
use Rattle.removal_laws.proofs.Insertions.{sort_middle, same_insert, two_cancel}
use Rattle.removal_laws.proofs.Pairs.{mid_before, mid_after, mid_out, all_left, all_right}
use Rattle.removal_laws.proofs.Apart.{first_of_two, second_of_two, joined}

-- ---- which segments a line crosses

-- the point is left of the line
abbrev pub is_left : Line → Point → Bool
is_left l v = int_lt (l.c *ℤ v.x) l.a

module _ (l : Line) (columns : IsBetweenColumns l) where
  is_right : (v : Point) → int_lt l.a (l.c *ℤ v.x) ≡ not (is_left l v)
  is_right v = by_order (l.c *ℤ v.x) l.a
      (λ h. int_lt-from_le (le_from_lt h) ∙ sym (ap not ((Decides-int_lt (l.c *ℤ v.x) l.a).1 h)))
      (λ e. absurd (columns.apart v.x (sym e)))
      (λ h. (Decides-int_lt l.a (l.c *ℤ v.x)).1 h ∙ sym (ap not (int_lt-from_le (le_from_lt h))))

  -- its ends are on different sides
  crosses_is : (s : Seg) → crosses l s ≡ either_alone (is_left l s.a) (is_left l s.b)
  crosses_is s =
      ap₂ (λ (v w : Bool). (is_left l s.a && v) || (is_left l s.b && w)) (is_right s.b) (is_right s.a)
      ∙ by (is_left l s.a) (is_left l s.b)
    where
      by : (v w : Bool) → ((v && not w) || (w && not v)) ≡ either_alone v w
      by true true = refl
      by true false = refl
      by false true = refl
      by false false = refl

  -- the faces of a segment that is crossed, by the side of one of its ends
  from_left : LabelledSegment → Bool → Sides
  from_left s v = cond v (record { upper = s.left; lower = s.right }) (record { upper = s.right; lower = s.left })

  goes_by : (u v : Point) → is_left l u ≡ true → is_left l v ≡ false → int_lt u.x v.x ≡ true
  goes_by u v h k = (Decides-int_lt u.x v.x).1 (lt_from_mul_left l.c columns.rational (lt_lt_trans ((Decides-int_lt (l.c *ℤ u.x) l.a).0 h)
      ((Decides-int_lt l.a (l.c *ℤ v.x)).0 (is_right v ∙ ap not k))))

  goes_back : (u v : Point) → is_left l u ≡ false → is_left l v ≡ true → int_lt u.x v.x ≡ false
  goes_back u v h k = int_lt-from_le (le_from_lt ((Decides-int_lt v.x u.x).0 (goes_by v u k h)))

  sides_from_start : (s : LabelledSegment) → IsCrossed l s → sides s ≡ from_left s (is_left l s.segment.a)
  unfolding from_left
  sides_from_start s h = by (is_left l s.segment.a) (is_left l s.segment.b) refl refl (sym (crosses_is s.segment) ∙ h)
    where
      by : (v w : Bool) → is_left l s.segment.a ≡ v → is_left l s.segment.b ≡ w → either_alone v w ≡ true → sides s ≡ from_left s v
      by true true e f g = absurd (true≢false (sym g))
      by true false e f g = ap (from_left s) (goes_by s.segment.a s.segment.b e f)
      by false true e f g = ap (from_left s) (goes_back s.segment.a s.segment.b e f)
      by false false e f g = absurd (true≢false (sym g))

  sides_from_end : (s : LabelledSegment) → IsCrossed l s → sides s ≡ from_left s (not (is_left l s.segment.b))
  sides_from_end s h = sides_from_start s h ∙ ap (from_left s) (by (is_left l s.segment.a) (is_left l s.segment.b) (sym (crosses_is s.segment) ∙ h))
    where
      by : (v w : Bool) → either_alone v w ≡ true → v ≡ not w
      by true true g = absurd (true≢false (sym g))
      by true false g = refl
      by false true g = refl
      by false false g = absurd (true≢false (sym g))

-- ---- the sides of the triangle

module _ (a b c : Point) where
  at_start : (u v : Point) → cross_of u v u ≡ pos 0
  at_start u v = same_value (u.x ∷ u.y ∷ v.x ∷ v.y ∷ []) (cross 0 1 0) (number (pos 0)) refl

  at_end : (u v : Point) → cross_of u v v ≡ pos 0
  at_end u v = same_value (u.x ∷ u.y ∷ v.x ∷ v.y ∷ []) (cross 0 1 1) (number (pos 0)) refl

  turned : cross_of a b c ≡ pos 0 → cross_of a c b ≡ pos 0
  turned e = same_value (a.x ∷ a.y ∷ b.x ∷ b.y ∷ c.x ∷ c.y ∷ []) (cross 0 2 1) (minus (cross 0 1 2)) refl ∙ ap neg_ℤ e

  moved_on : cross_of a b c ≡ pos 0 → cross_of b c a ≡ pos 0
  moved_on e = same_value (a.x ∷ a.y ∷ b.x ∷ b.y ∷ c.x ∷ c.y ∷ []) (cross 1 2 0) (cross 0 1 2) refl ∙ e

  ab_ac : AreSides a b c (record { a = a; b = b }) (record { a = a; b = c })
  ab_ac = record { first_start = corner_a a b c; first_end = corner_b a b c; second_start = corner_a a b c; second_end = corner_c a b c; flat_start = λ e. at_start a b; flat_end = λ e. e }

  ac_ab : AreSides a b c (record { a = a; b = c }) (record { a = a; b = b })
  ac_ab = record { first_start = corner_a a b c; first_end = corner_c a b c; second_start = corner_a a b c; second_end = corner_b a b c; flat_start = λ e. at_start a c; flat_end = turned }

  bc_ac : AreSides a b c (record { a = b; b = c }) (record { a = a; b = c })
  bc_ac = record { first_start = corner_b a b c; first_end = corner_c a b c; second_start = corner_a a b c; second_end = corner_c a b c; flat_start = moved_on; flat_end = λ e. at_end b c }

  ac_bc : AreSides a b c (record { a = a; b = c }) (record { a = b; b = c })
  ac_bc = record { first_start = corner_a a b c; first_end = corner_c a b c; second_start = corner_b a b c; second_end = corner_c a b c; flat_start = turned; flat_end = λ e. at_end a c }

  ab_bc : AreSides a b c (record { a = a; b = b }) (record { a = b; b = c })
  ab_bc = record { first_start = corner_a a b c; first_end = corner_b a b c; second_start = corner_b a b c; second_end = corner_c a b c; flat_start = λ e. at_end a b; flat_end = λ e. e }

  bc_ab : AreSides a b c (record { a = b; b = c }) (record { a = a; b = b })
  bc_ab = record { first_start = corner_b a b c; first_end = corner_c a b c; second_start = corner_a a b c; second_end = corner_b a b c; flat_start = moved_on; flat_end = λ e. at_start b c }

-- ---- the stacks

-- the other order
decided_turned : (l : Line) (s t : LabelledSegment) → IsDecided l s t → IsDecided l t s
decided_turned l s t h ct cs = or_comm (higher l t s) (higher l s t) ∙ h cs ct

module _ (l : Line) (columns : IsBetweenColumns l) (key m left right : ℕ) (a b c : Point) (ends : Bool) (xs ys : List LabelledSegment) where
  abbrev ab : LabelledSegment
  ab = first_of_two key m left right a b c ends

  abbrev bc : LabelledSegment
  bc = second_of_two key m left right a b c ends

  abbrev ac : LabelledSegment
  ac = joined key m left right a b c ends

  abbrev is_crossed : LabelledSegment → Bool
  is_crossed s = crosses l s.segment

  abbrev AreOrdered : LabelledSegment → LabelledSegment → Type 0
  AreOrdered s t = (higher l s t || higher l t s) ≡ true

  -- what is known of each other segment that is crossed
  record IsOther (s : LabelledSegment) : Type 0 where
    free : IsFreeOf a b c s.segment
    with_ab : IsDecided l s ab
    with_bc : IsDecided l s bc
    with_ac : IsDecided l s ac

  module _ (old : AllPairs (IsDecided l) (xs ++ ab ∷ bc ∷ ys)) (new : AllPairs (IsDecided l) (xs ++ ac ∷ ys)) (free : All (λ s. IsFreeOf a b c s.segment) (xs ++ ys)) where
    others : All IsOther (xs ++ ys)
    others = All-append IsOther xs ys
        (All-from_members IsOther xs (λ s k. record {
          free = All-contains Free xs s (all_left Free xs ys free) k;
          with_ab = All-contains (λ t. IsDecided l t ab) xs s (mid_before (IsDecided l) xs ab (bc ∷ ys) old) k;
          with_bc = All-contains (λ t. IsDecided l t bc) xs s (mid_before (IsDecided l) xs bc ys (mid_out (IsDecided l) xs ab (bc ∷ ys) old)) k;
          with_ac = All-contains (λ t. IsDecided l t ac) xs s (mid_before (IsDecided l) xs ac ys new) k;
        }))
        (All-from_members IsOther ys (λ s k. record {
          free = All-contains Free ys s (all_right Free xs ys free) k;
          with_ab = decided_turned l ab s (All-contains (IsDecided l ab) ys s (All-tail (IsDecided l ab) bc ys (mid_after (IsDecided l) xs ab (bc ∷ ys) old)) k);
          with_bc = decided_turned l bc s (All-contains (IsDecided l bc) ys s (mid_after (IsDecided l) xs bc ys (mid_out (IsDecided l) xs ab (bc ∷ ys) old)) k);
          with_ac = decided_turned l ac s (All-contains (IsDecided l ac) ys s (mid_after (IsDecided l) xs ac ys new) k);
        }))
      where
        Free : LabelledSegment → Type 0
        Free s = IsFreeOf a b c s.segment

    front : List LabelledSegment
    front = filter is_crossed xs

    back : List LabelledSegment
    back = filter is_crossed ys

    rest : List LabelledSegment
    rest = sort_by (higher l) (front ++ back)

    -- each of the others that are crossed
    all_of : (Q : LabelledSegment → Type 0) → ((s : LabelledSegment) → IsCrossed l s → IsOther s → Q s) → All Q rest
    unfolding front back rest
    all_of Q on = All-sort_by (higher l) Q (filter is_crossed xs ++ filter is_crossed ys)
        (All-append Q (filter is_crossed xs) (filter is_crossed ys)
        (All-from_members Q (filter is_crossed xs) (λ s k. on s (All-contains (λ t. is_crossed t ≡ true) (filter is_crossed xs) s (filter_passes is_crossed xs) k)
        (All-contains IsOther (filter is_crossed xs) s (All-filter is_crossed IsOther xs (all_left IsOther xs ys others)) k)))
        (All-from_members Q (filter is_crossed ys) (λ s k. on s (All-contains (λ t. is_crossed t ≡ true) (filter is_crossed ys) s (filter_passes is_crossed ys) k)
        (All-contains IsOther (filter is_crossed ys) s (All-filter is_crossed IsOther ys (all_right IsOther xs ys others)) k))))

    -- two in a list of which each is crossed
    ordered : (ss : List LabelledSegment) → AllPairs (IsDecided l) ss → AllPairs AreOrdered (filter is_crossed ss)
    ordered ss h i j d less short =
        let all = filter_passes is_crossed ss in
        AllPairs-filter (IsDecided l) is_crossed ss h i j d less short (all i d (omega arith)) (all j d short)

    crossed_middle : (zs : List LabelledSegment) → filter is_crossed (xs ++ zs) ≡ front ++ filter is_crossed zs
    unfolding front
    crossed_middle zs = filter-append is_crossed xs zs

    -- a new list with one member in the middle
    abbrev sorted_with : LabelledSegment → List LabelledSegment
    sorted_with y = insert_by (higher l) y rest

    with_middle : (y : LabelledSegment) → IsCrossed l y → AllPairs AreOrdered (front ++ y ∷ back) → sort_by (higher l) (front ++ y ∷ back) ≡ insert_by (higher l) y rest
    unfolding front back rest
    with_middle y cy pairs = sort_middle (IsCrossed l) (higher l) (height_order l columns) (filter is_crossed xs) y (filter is_crossed ys)
        (All-append (IsCrossed l) (filter is_crossed xs) (y ∷ filter is_crossed ys) (filter_passes is_crossed xs)
        (All-cons (IsCrossed l) y (filter is_crossed ys) cy (filter_passes is_crossed ys))) pairs

    abbrev Agrees : List LabelledSegment → Type 0
    Agrees ss = agree_from 0 (map sides (sort_by (higher l) ss)) ≡ true

    -- one of the two is crossed, and so is the new one
    one_replaced : (y : LabelledSegment) → IsCrossed l y → IsCrossed l ac → sides y ≡ sides ac
        → ((s : LabelledSegment) → IsCrossed l s → IsOther s → higher l y s ≡ higher l ac s)
        → AllPairs AreOrdered (front ++ y ∷ back) → AllPairs AreOrdered (front ++ ac ∷ back) → Agrees (front ++ y ∷ back) → Agrees (front ++ ac ∷ back)
    one_replaced y cy cac e same p q h =
        ap (λ ss. agree_from 0 (map sides ss)) (with_middle ac cac q)
        ∙ ap (agree_from 0) (sym (same_insert (higher l) sides y ac e rest (all_of (λ s. higher l y s ≡ higher l ac s) same)))
        ∙ ap (λ ss. agree_from 0 (map sides ss)) (sym (with_middle y cy p)) ∙ h

    -- both are crossed, and the new one is not
    both_gone : IsCrossed l ab → IsCrossed l bc → AllPairs AreOrdered (front ++ ab ∷ bc ∷ back) → Agrees (front ++ ab ∷ bc ∷ back) → Agrees (front ++ back)
    unfolding front back rest from_left
    both_gone cab cbc p h =
        two_cancel (higher l) ab bc (upper_lower.0) (upper_lower.1) 0 (sort_by (higher l) (front ++ back))
        (all_of (λ s. higher l ab s ≡ higher l bc s) (λ s cs o. (same_order a b c l columns s ab bc cs cab cbc (ab_bc a b c) (bc_ab a b c) o.free o.with_ab o.with_bc).1))
        (ap (λ ss. agree_from 0 (map sides ss)) (sym sorted) ∙ h)
      where
        crossed : All (IsCrossed l) (front ++ ab ∷ bc ∷ back)
        crossed = All-append (IsCrossed l) (filter is_crossed xs) (ab ∷ bc ∷ filter is_crossed ys) (filter_passes is_crossed xs)
            (All-cons (IsCrossed l) ab (bc ∷ filter is_crossed ys) cab (All-cons (IsCrossed l) bc (filter is_crossed ys) cbc (filter_passes is_crossed ys)))

        sorted : sort_by (higher l) (front ++ ab ∷ bc ∷ back) ≡ insert_by (higher l) ab (insert_by (higher l) bc (sort_by (higher l) (front ++ back)))
        sorted =
            sort_middle (IsCrossed l) (higher l) (height_order l columns) front ab (bc ∷ back) crossed p
            ∙ ap (insert_by (higher l) ab) (with_middle bc cbc (mid_out AreOrdered front ab (bc ∷ back) p))

        upper_lower : ((sides ab).upper ≡ (sides bc).lower) × ((sides bc).upper ≡ (sides ab).lower)
        upper_lower = (
          ap (λ (s : Sides). s.upper) (sides_from_end l columns ab cab) ∙ by (is_left l b) ∙ ap (λ (s : Sides). s.lower) (sym (sides_from_start l columns bc cbc)),
          ap (λ (s : Sides). s.upper) (sides_from_start l columns bc cbc) ∙ back_by (is_left l b) ∙ ap (λ (s : Sides). s.lower) (sym (sides_from_end l columns ab cab)),
        )
          where
            by : (v : Bool) → (from_left l columns ab (not v)).upper ≡ (from_left l columns bc v).lower
            by true = refl
            by false = refl

            back_by : (v : Bool) → (from_left l columns bc v).upper ≡ (from_left l columns ab (not v)).lower
            back_by true = refl
            back_by false = refl

    -- the new one is crossed where exactly one of the two is
    crossed_once : is_crossed ac ≡ either_alone (is_crossed ab) (is_crossed bc)
    crossed_once =
        crosses_is l columns ac.segment ∙ by (is_left l a) (is_left l b) (is_left l c)
        ∙ sym (ap₂ either_alone (crosses_is l columns ab.segment) (crosses_is l columns bc.segment))
      where
        by : (u v w : Bool) → either_alone u w ≡ either_alone (either_alone u v) (either_alone v w)
        by true true true = refl
        by true true false = refl
        by true false true = refl
        by true false false = refl
        by false true true = refl
        by false true false = refl
        by false false true = refl
        by false false false = refl

    pub stack_agrees : agree_from 0 (map sides (stack l (xs ++ ab ∷ bc ∷ ys))) ≡ true → agree_from 0 (map sides (stack l (xs ++ ac ∷ ys))) ≡ true
    unfolding from_left back
    stack_agrees h =
        ap Agrees' (crossed_middle (ac ∷ ys))
        ∙ by (is_crossed ab) (is_crossed bc) (is_crossed ac) refl refl refl crossed_once
        (subst (AllPairs AreOrdered) (crossed_middle (ab ∷ bc ∷ ys)) (ordered (xs ++ ab ∷ bc ∷ ys) old))
        (subst (AllPairs AreOrdered) (crossed_middle (ac ∷ ys)) (ordered (xs ++ ac ∷ ys) new))
        (sym (ap Agrees' (crossed_middle (ab ∷ bc ∷ ys))) ∙ h)
      where
        Agrees' : List LabelledSegment → Bool
        Agrees' ss = agree_from 0 (map sides (sort_by (higher l) ss))

        by : (v w u : Bool) → is_crossed ab ≡ v → is_crossed bc ≡ w → is_crossed ac ≡ u → u ≡ either_alone v w
            → AllPairs AreOrdered (front ++ cond v (ab ∷ cond w (bc ∷ filter is_crossed ys) (filter is_crossed ys)) (cond w (bc ∷ filter is_crossed ys) (filter is_crossed ys)))
            → AllPairs AreOrdered (front ++ cond u (ac ∷ filter is_crossed ys) (filter is_crossed ys))
            → Agrees' (front ++ cond v (ab ∷ cond w (bc ∷ filter is_crossed ys) (filter is_crossed ys)) (cond w (bc ∷ filter is_crossed ys) (filter is_crossed ys))) ≡ true
            → Agrees' (front ++ cond u (ac ∷ filter is_crossed ys) (filter is_crossed ys)) ≡ true
        by true true true e f g k p q i = absurd (true≢false k)
        by true true false e f g k p q i = both_gone e f p i
        by true false true e f g k p q i = one_replaced ab e g
            (sides_from_start l columns ab e ∙ sym (sides_from_start l columns ac g))
            (λ s cs o. (same_order a b c l columns s ab ac cs e g (ab_ac a b c) (ac_ab a b c) o.free o.with_ab o.with_ac).1) p q i
        by true false false e f g k p q i = absurd (true≢false (sym k))
        by false true true e f g k p q i = one_replaced bc f g
            (sides_from_end l columns bc f ∙ sym (sides_from_end l columns ac g))
            (λ s cs o. (same_order a b c l columns s bc ac cs f g (bc_ac a b c) (ac_bc a b c) o.free o.with_bc o.with_ac).1) p q i
        by false true false e f g k p q i = absurd (true≢false (sym k))
        by false false true e f g k p q i = absurd (true≢false k)
        by false false false e f g k p q i = i
