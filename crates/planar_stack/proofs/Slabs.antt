-- A single line tells of its whole slab: the stack is one list on all lines between two neighbouring abscissas. So the faces
-- agree on each line between columns exactly where they agree on the line one half beyond each abscissa that has a next one.
use Rattle.std.proofs.Common.{◌≡◌, ◌⊎◌, inl, inr, ⊎_elim, ℕ, ◌+◌, ◌==◌, Bool, true, false, cond, ◌&&◌, ◌||◌, List, [], ◌∷◌, map, filter, All, AllPairs, Contains, get_or, ℤ, pos, ◌*ℤ◌, ◌<ℤ◌, ◌≤ℤ◌, int_lt, Option, Some, None, flat_map, refl, sym, ap, ap₂, ◌∙◌, subst, arith}
use Rattle.std.proofs.lemmas.Int.{ints, by_lt_z}
use Rattle.std.proofs.lemmas.Bool.{and_parts, and_left, and_right, or_from}
use Rattle.std.specs.Cmp.Derive.{both_true}
use Rattle.std.proofs.lemmas.List.Elements.{All-nil, All-cons, All-head, All-tail, All-filter, All-contains, All-contains_itself, filter_passes}
use Rattle.lemmas.proofs.Signs.{Decides-int_lt, int_lt-from_le, lt_lt_trans, lt_le_trans, le_lt_trans, le_from_lt, same_from_le, mul_lt_left, mul_le_left}
use Rattle.lemmas.specs.Sorting.{is_sorted_by, sort_by, IsStrictOrderOn}
use Rattle.lemmas.proofs.Sorting.{sort_by-agree, sorted_tail}
use Rattle.tgap_model.specs.declared.segment.LabelledSegment.{LabelledSegment}
use Rattle.tgap_model.specs.declared.fault.MapFault.{MapFault}
use Rattle.tgap_model.specs.declared.fault.MapFault.TheVariants.{StackDisagrees}
use Rattle.tgap_model.specs.Segment.{Line, IsBetweenColumns, line_after, passes}
use Rattle.tgap_model.specs.Partition.{AreApart, Sides, sides, stack, agree_from, stack_fault_from, stack_fault, first_fault, abscissas, all_but_last}
use Rattle.tgap_model.proofs.FirstFault.{faults_none, none_from_faults}
use Rattle.planar_stack.specs.Sweep.{FacesAgree, crossed_after, higher_after}
use Rattle.lemmas.proofs.Members.{in_head, in_tail, in_cases, All-from_members, filter_agree_on, filter_none, related_members}
use Rattle.lemmas.proofs.Ascending.{distinct_by-is_sorted, Contains-distinct_by, int_lt_decides, above_head}
use Rattle.grid_geo.proofs.Heights.{passes_parts}
use Rattle.planar_stack.proofs.Crossings.{passes_from, passes_up}
use Rattle.planar_stack.proofs.Heights.{crossed, higher, order_of_heights, higher_same}

-- an abscissa lies left of a line, or right of it
abbrev pub left_of : Line → ℤ → Bool
left_of l x = int_lt (l.c *ℤ x) l.a

abbrev pub right_of : Line → ℤ → Bool
right_of l x = int_lt l.a (l.c *ℤ x)

-- two lines have an abscissa at one side
pub record OnOneSide (k l : Line) (x : ℤ) : Type 0 where
  pub left : left_of k x ≡ left_of l x
  pub right : right_of k x ≡ right_of l x

-- it holds of the abscissas of both ends
abbrev pub BothEnds : (ℤ → Type 0) → LabelledSegment → Type 0
BothEnds P s = P s.segment.a.x × P s.segment.b.x

-- ---- lines between the same abscissas

pub crossed_same : (k l : Line) (s : LabelledSegment) → BothEnds (OnOneSide k l) s → crossed k s ≡ crossed l s
crossed_same k l s h =
    ap₂ (λ a b. a || b) (ap₂ (λ a b. a && b) h.0.left h.1.right) (ap₂ (λ a b. a && b) h.1.left h.0.right)

-- a member that both lines cross
abbrev CrossedByBoth : List LabelledSegment → Line → Line → LabelledSegment → Type 0
CrossedByBoth segments k l s = Contains segments s × ((crossed k s ≡ true) × (crossed l s ≡ true))

-- Two lines that have each end of a segment at one side have one stack.
pub one_stack : (segments : List LabelledSegment) → AllPairs AreApart segments → (k l : Line) → pos 0 <ℤ k.c → pos 0 <ℤ l.c → All (BothEnds (OnOneSide k l)) segments → stack k segments ≡ stack l segments
one_stack segments apart k l i j ends = sort_by-agree (CrossedByBoth segments k l) (higher k) (higher l) same (filter (crossed k) segments) each ∙ ap (sort_by (higher l)) kept
  where
    kept : filter (crossed k) segments ≡ filter (crossed l) segments
    kept = filter_agree_on (crossed k) (crossed l) segments (λ n d short. crossed_same k l (get_or segments n d) (ends n d short))

    each : All (CrossedByBoth segments k l) (filter (crossed k) segments)
    each n d short = (
      All-filter (crossed k) (Contains segments) segments (All-contains_itself segments) n d short,
      (filter_passes (crossed k) segments n d short, subst (λ ss. All (λ s. crossed l s ≡ true) ss) (sym kept) (filter_passes (crossed l) segments) n d short),
    )

    same : (s t : LabelledSegment) → CrossedByBoth segments k l s → CrossedByBoth segments k l t → higher l s t ≡ higher k s t
    same s t (m, (ks, ls)) (n, (kt, lt)) = ⊎_elim
        (λ e. subst (λ z. higher l s z ≡ higher k s z) e ((order_of_heights l j).itself s ls ∙ sym ((order_of_heights k i).itself s ks)))
        (higher_same k l i j s t ks kt ls lt) (related_members AreApart segments apart s t m n)

-- ---- abscissas

-- an abscissa is not strictly between two others
abbrev pub Outside : ℤ → ℤ → ℤ → Type 0
Outside u v x = (x ≤ℤ u) ⊎ (v ≤ℤ x)

-- the abscissas of the ends, as they come
abbrev pub end_abscissas : List LabelledSegment → List ℤ
end_abscissas segments = flat_map (λ s. s.segment.a.x ∷ s.segment.b.x ∷ []) segments

-- what holds of all abscissas holds of the ends of all segments
pub ends_from_abscissas : (P : ℤ → Type 0) (segments : List LabelledSegment) → All P (abscissas segments) → All (BothEnds P) segments
ends_from_abscissas P segments h = at_ends segments (All-from_members P (end_abscissas segments) (λ x c. All-contains P (abscissas segments) x h (Contains-distinct_by int_lt int_lt_decides (end_abscissas segments) x c)))
  where
    at_ends : (ss : List LabelledSegment) → All P (end_abscissas ss) → All (BothEnds P) ss
    at_ends [] k = All-nil (BothEnds P)
    at_ends (s ∷ ss) k =
        let rest = end_abscissas ss in
        let back = All-tail P s.segment.a.x (s.segment.b.x ∷ rest) k in
        All-cons (BothEnds P) s ss (All-head P s.segment.a.x (s.segment.b.x ∷ rest) k, All-head P s.segment.b.x rest back) (at_ends ss (All-tail P s.segment.b.x rest back))

-- where an abscissa lies that is not between the two that a line passes between
side_before : (l : Line) (u v x : ℤ) → pos 0 <ℤ l.c → passes l u v ≡ true → x ≤ℤ u → (left_of l x ≡ true) × (right_of l x ≡ false)
side_before l u v x c e h =
    let left = le_lt_trans (mul_le_left (le_from_lt c) h) (passes_parts l u v e).0 in
    ((Decides-int_lt (l.c *ℤ x) l.a).1 left, int_lt-from_le (le_from_lt left))

side_after : (l : Line) (u v x : ℤ) → pos 0 <ℤ l.c → passes l u v ≡ true → v ≤ℤ x → (left_of l x ≡ false) × (right_of l x ≡ true)
side_after l u v x c e h =
    let right = lt_le_trans (passes_parts l u v e).1 (mul_le_left (le_from_lt c) h) in
    (int_lt-from_le (le_from_lt right), (Decides-int_lt l.a (l.c *ℤ x)).1 right)

pub outside_on_one_side : (k l : Line) (u v x : ℤ) → pos 0 <ℤ k.c → pos 0 <ℤ l.c → passes k u v ≡ true → passes l u v ≡ true → Outside u v x → OnOneSide k l x
outside_on_one_side k l u v x i j e f (inl h) =
    let a = side_before k u v x i e h in
    let b = side_before l u v x j f h in
    record { left = a.0 ∙ sym b.0; right = a.1 ∙ sym b.1 }
outside_on_one_side k l u v x i j e f (inr h) =
    let a = side_after k u v x i e h in
    let b = side_after l u v x j f h in
    record { left = a.0 ∙ sym b.0; right = a.1 ∙ sym b.1 }

-- Two lines that pass between the same neighbouring abscissas have one stack.
pub slab_stack : (segments : List LabelledSegment) → AllPairs AreApart segments → (u v : ℤ) → All (Outside u v) (abscissas segments) → (k l : Line) → pos 0 <ℤ k.c → pos 0 <ℤ l.c
    → passes k u v ≡ true → passes l u v ≡ true → stack k segments ≡ stack l segments
slab_stack segments apart u v none k l i j e f = one_stack segments apart k l i j
    (ends_from_abscissas (OnOneSide k l) segments (λ n d short. outside_on_one_side k l u v (get_or (abscissas segments) n d) i j e f (none n d short)))

-- the line one half beyond an abscissa passes between it and each greater one
pub after_is_rational : (u : ℤ) → pos 0 <ℤ (line_after u).c
after_is_rational u = omega (arith, ints)

pub after_is_between_columns : (u : ℤ) → IsBetweenColumns (line_after u)
after_is_between_columns u = record { rational = after_is_rational u; apart = λ x e. omega (arith, ints) }

pub after_passes : (u v : ℤ) → u <ℤ v → passes (line_after u) u v ≡ true
after_passes u v h = passes_from (line_after u) u v (omega (arith, ints)) (omega (arith, ints))

-- the heights of the segments that it crosses are a strict order
pub order_after : (v : ℤ) → IsStrictOrderOn (λ s. crossed_after v s ≡ true) (higher_after v)
order_after v = order_of_heights (line_after v) (after_is_rational v)

-- so the stack of a slab is that of the line one half beyond its first abscissa
pub slab_after : (segments : List LabelledSegment) → AllPairs AreApart segments → (u v : ℤ) → All (Outside u v) (abscissas segments) → (l : Line) → pos 0 <ℤ l.c → passes l u v ≡ true → stack l segments ≡ stack (line_after u) segments
slab_after segments apart u v none l c e = slab_stack segments apart u v none l (line_after u) c (after_is_rational u) e (after_passes u v (passes_up l u v c e))

-- A line left or right of all abscissas crosses nothing.
pub stack_before_all : (segments : List LabelledSegment) (l : Line) → All (λ x. right_of l x ≡ true) (abscissas segments) → stack l segments ≡ []
stack_before_all segments l h = ap (sort_by (higher l)) (filter_none (crossed l) segments (λ n d short. none (get_or segments n d) (ends_from_abscissas (λ x. right_of l x ≡ true) segments h n d short)))
  where
    not_left : (x : ℤ) → right_of l x ≡ true → left_of l x ≡ false
    not_left x e = int_lt-from_le (le_from_lt ((Decides-int_lt l.a (l.c *ℤ x)).0 e))

    none : (s : LabelledSegment) → BothEnds (λ x. right_of l x ≡ true) s → crossed l s ≡ false
    none s k = or_from _ _ (and_left _ (right_of l s.segment.b.x) (not_left s.segment.a.x k.0)) (and_left _ (right_of l s.segment.a.x) (not_left s.segment.b.x k.1))

pub stack_after_all : (segments : List LabelledSegment) (l : Line) → All (λ x. left_of l x ≡ true) (abscissas segments) → stack l segments ≡ []
stack_after_all segments l h = ap (sort_by (higher l)) (filter_none (crossed l) segments (λ n d short. none (get_or segments n d) (ends_from_abscissas (λ x. left_of l x ≡ true) segments h n d short)))
  where
    not_right : (x : ℤ) → left_of l x ≡ true → right_of l x ≡ false
    not_right x e = int_lt-from_le (le_from_lt ((Decides-int_lt (l.c *ℤ x) l.a).0 e))

    none : (s : LabelledSegment) → BothEnds (λ x. left_of l x ≡ true) s → crossed l s ≡ false
    none s k = or_from _ _ (and_right (left_of l s.segment.a.x) _ (not_right s.segment.b.x k.1)) (and_right (left_of l s.segment.b.x) _ (not_right s.segment.a.x k.0))

-- ---- where a line passes

-- a line against an ascending list: left of all, right of all, or between two neighbours
pub data Located (l : Line) (xs : List ℤ) : Type 0 where
  before_all : All (λ x. right_of l x ≡ true) xs → Located l xs
  after_all : All (λ x. left_of l x ≡ true) xs → Located l xs
  between : (u v : ℤ) → passes l u v ≡ true → All (Outside u v) xs → Contains (all_but_last xs) u → Located l xs

pub Contains-all_but_last : {A : Type 0} (xs : List A) (x : A) → Contains (all_but_last xs) x → Contains xs x
Contains-all_but_last [] x c = c
Contains-all_but_last (y ∷ []) x c = in_tail y [] x c
Contains-all_but_last (y ∷ z ∷ zs) x c = ⊎_elim (λ e. (0, omega arith, e)) (λ k. in_tail y (z ∷ zs) x (Contains-all_but_last (z ∷ zs) x k)) (in_cases y (all_but_last (z ∷ zs)) x c)

pub locate : (l : Line) → IsBetweenColumns l → (xs : List ℤ) → is_sorted_by int_lt xs ≡ true → Located l xs
locate l columns [] s = before_all (All-nil (λ x. right_of l x ≡ true))
locate l columns (x ∷ xs) s = by_lt_z l.a (l.c *ℤ x)
    (λ right. before_all (All-cons (λ y. right_of l y ≡ true) x xs ((Decides-int_lt l.a (l.c *ℤ x)).1 right)
    (λ n d short. (Decides-int_lt l.a (l.c *ℤ get_or xs n d)).1 (lt_lt_trans right (mul_lt_left columns.rational (above_head x xs s n d short))))))
    (λ le. later xs s ((Decides-int_lt (l.c *ℤ x) l.a).1 (strictly le (columns.apart x))) (locate l columns xs (sorted_tail int_lt x xs s)))
  where
    strictly : {a b : ℤ} → b ≤ℤ a → (a ≡ b → ⊥) → b <ℤ a
    strictly {a} {b} h n = by_lt_z b a (λ less. less) (λ le. absurd (n (same_from_le le h)))

    later : (ys : List ℤ) → is_sorted_by int_lt (x ∷ ys) ≡ true → left_of l x ≡ true → Located l ys → Located l (x ∷ ys)
    later [] t left (before_all h) = after_all (All-cons (λ y. left_of l y ≡ true) x [] left (All-nil (λ y. left_of l y ≡ true)))
    later (y ∷ ys) t left (before_all h) =
        let follow = above_head y ys (sorted_tail int_lt x (y ∷ ys) t) in
        between x y (both_true left (All-head (λ z. right_of l z ≡ true) y ys h))
        (All-cons (Outside x y) x (y ∷ ys) (inl (omega (arith, ints))) (All-cons (Outside x y) y ys (inr (omega (arith, ints))) (λ n d short. inr (le_from_lt (follow n d short)))))
        (in_head x (all_but_last (y ∷ ys)))
    later ys t left (after_all h) = after_all (All-cons (λ y. left_of l y ≡ true) x ys left h)
    later [] t left (between u v e none c) = absurd (omega (arith, c.1))
    later (y ∷ ys) t left (between u v e none c) =
        let less = All-contains (λ z. x <ℤ z) (y ∷ ys) u (above_head x (y ∷ ys) t) (Contains-all_but_last (y ∷ ys) u c) in
        between u v e (All-cons (Outside u v) x (y ∷ ys) (inl (le_from_lt less)) none) (in_tail x (all_but_last (y ∷ ys)) u c)

-- ---- faults

-- a stack has no fault exactly where its faces agree
pub agree_from_no_fault : (v : ℤ) (i u : ℕ) (ss : List Sides) → stack_fault_from v i u ss ≡ None → agree_from u ss ≡ true
agree_from_no_fault v i u [] e = by (u == 0) e
  where
    by : (b : Bool) → cond b None (Some (StackDisagrees v i u 0)) ≡ None → b ≡ true
    by true h = refl
    by false h = absurd cc
agree_from_no_fault v i u (s ∷ ss) e = by (s.upper == u) e (agree_from_no_fault v (i + 1) s.lower ss)
  where
    by : (b : Bool) → ◌≡◌ {A = Option MapFault} (elim b [ true ↦ stack_fault_from v (i + 1) s.lower ss | false ↦ Some (StackDisagrees v i u s.upper) ]) None
        → (stack_fault_from v (i + 1) s.lower ss ≡ None → agree_from s.lower ss ≡ true) → (b && agree_from s.lower ss) ≡ true
    by true h rest = rest h
    by false h rest = absurd cc

pub no_fault_from_agree : (v : ℤ) (i u : ℕ) (ss : List Sides) → agree_from u ss ≡ true → stack_fault_from v i u ss ≡ None
no_fault_from_agree v i u [] e = ap (λ (b : Bool). cond b None (Some (StackDisagrees v i u 0))) e
no_fault_from_agree v i u (s ∷ ss) e =
    let parts = and_parts (s.upper == u) (agree_from s.lower ss) e in
    ap (λ (b : Bool). elim b [ true ↦ stack_fault_from v (i + 1) s.lower ss | false ↦ Some (StackDisagrees v i u s.upper) ]) parts.0
    ∙ no_fault_from_agree v (i + 1) s.lower ss parts.1

-- ---- the fourth property

pub agree_from_faults : (segments : List LabelledSegment) → AllPairs AreApart segments → first_fault (stack_fault segments) (all_but_last (abscissas segments)) ≡ None → FacesAgree segments
agree_from_faults segments apart e l columns = by (locate l columns (abscissas segments) (distinct_by-is_sorted int_lt (end_abscissas segments)))
  where
    empty : stack l segments ≡ [] → agree_from 0 (map sides (stack l segments)) ≡ true
    empty h = ap (λ ss. agree_from 0 (map sides ss)) h

    by : Located l (abscissas segments) → agree_from 0 (map sides (stack l segments)) ≡ true
    by (before_all h) = empty (stack_before_all segments l h)
    by (after_all h) = empty (stack_after_all segments l h)
    by (between u v passes none c) =
        ap (λ ss. agree_from 0 (map sides ss)) (slab_after segments apart u v none l columns.rational passes)
        ∙ agree_from_no_fault u 0 0 (map sides (stack (line_after u) segments))
        (All-contains (λ x. stack_fault segments x ≡ None) (all_but_last (abscissas segments)) u (faults_none (stack_fault segments) (all_but_last (abscissas segments)) e) c)

pub no_faults_from_agree : (segments : List LabelledSegment) → FacesAgree segments → first_fault (stack_fault segments) (all_but_last (abscissas segments)) ≡ None
no_faults_from_agree segments agree = none_from_faults (stack_fault segments) (all_but_last (abscissas segments))
    (λ n d short. let v = get_or (all_but_last (abscissas segments)) n d in
    no_fault_from_agree v 0 0 (map sides (stack (line_after v) segments)) (agree (line_after v) (after_is_between_columns v)))
