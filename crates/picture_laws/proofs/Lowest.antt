-- The lowest of segments in an order of heights, and the label that is reached below it: the point is inside the face that it tells.
use Rattle.std.proofs.Common.{◌≡◌, ◌≢◌, ◌⊎◌, inl, inr, ⊎_elim, ℕ, ◌==◌, ◌||◌, ◌&&◌, not, Bool, true, false, cond, ℤ, pos, ◌<ℤ◌, List, [], ◌∷◌, filter, map, AllPairs, All, Option, Some, None, ne_eqb, refl, sym, ap, ◌∙◌, subst, true≢false}
use Rattle.std.specs.List.{list_all}
use Rattle.std.proofs.lemmas.Bool.{and_parts, and_from, or_cases, false_from_ne_true}
use Rattle.lemmas.specs.Parity.{either_alone}
use Rattle.lemmas.specs.Sorting.{is_sorted_by, IsStrictOrderOn}
use Rattle.lemmas.proofs.Sorting.{sorted_head, sorted_tail}
use Rattle.lemmas.proofs.Members.{related_members}
use Rattle.tgap_model.specs.declared.geometry.Fraction.{Fraction}
use Rattle.tgap_model.specs.declared.segment.LabelledSegment.{LabelledSegment}
use Rattle.tgap_model.specs.Segment.{Line, line_through, crosses, is_above, is_higher}
use Rattle.tgap_model.specs.Partition.{AreApart, sides, stack, agree_from}
use Rattle.map_laws.specs.Inside.{crosses_ray, is_inside}
use Rattle.map_laws.proofs.ChainMembers.{Among, all_among, filter_among}
use Rattle.map_laws.proofs.Inside.{fronts, reached, above_front, inside_parity}
use Rattle.map_laws.proofs.Lists.{all_members, members_all, kept_among, among_kept, sort_among, among_sort}
use Rattle.planar_stack.proofs.Heights.{higher, order_of_heights, one_is_higher, stack_is_sorted}
use Rattle.removal_laws.proofs.ChainEnds.{contained}
use Rattle.window_laws.proofs.Filters.{filter_agree}
use Rattle.picture_laws.specs.FaceAt.{passes_over, is_lower, lowest}

-- this one is a member of the list, and each other member is higher; none stands for an empty list
abbrev pub IsLowestOf : (LabelledSegment → LabelledSegment → Bool) → List LabelledSegment → Option LabelledSegment → Type 0
IsLowestOf over xs None = (s : LabelledSegment) → Among s xs → ⊥
IsLowestOf over xs (Some s) = Among s xs × ((t : LabelledSegment) → Among t xs → (t ≡ s) ⊎ (over t s ≡ true))

-- ---- the one that is taken is the lowest

-- a strict order of the segments that P holds of, and a test on a line that agrees with it
pub record Tells (P : LabelledSegment → Type 0) (l : Line) (over : LabelledSegment → LabelledSegment → Bool) : Type 0 where
  pub same : (s t : LabelledSegment) → P s → P t → is_lower l s.segment t.segment ≡ over t s
  pub total : (s t : LabelledSegment) → P s → P t → (s ≡ t) ⊎ ((over s t || over t s) ≡ true)
  pub passes : (s t r : LabelledSegment) → P s → P t → P r → over s t ≡ true → over t r ≡ true → over s r ≡ true

module _ (P : LabelledSegment → Type 0) (l : Line) (over : LabelledSegment → LabelledSegment → Bool) (tells : Tells P l over) where
  -- of the first of these segments, and the lowest of the others
  module _ (x t : LabelledSegment) (xs : List LabelledSegment) (first : P x) (each : (s : LabelledSegment) → Among s xs → P s) (low : IsLowestOf over xs (Some t)) where
    p : P t
    p = each t low.0

    -- what is not below the lowest of the others, when the first is
    above_first : over x t ≡ false → (u : LabelledSegment) → Among u xs → (u ≡ x) ⊎ (over u x ≡ true)
    above_first e u n = ⊎_elim same (λ b. inr (other (or_cases (over x t) (over t x) b))) (tells.total x t first p)
      where
        same : x ≡ t → (u ≡ x) ⊎ (over u x ≡ true)
        same is = subst (λ z. (u ≡ z) ⊎ (over u z ≡ true)) (sym is) (low.1 u n)

        other : (over x t ≡ true) ⊎ (over t x ≡ true) → over u x ≡ true
        other (inl b) = absurd (true≢false (sym b ∙ e))
        other (inr b) = ⊎_elim (λ (is : u ≡ t). ap (λ (z : LabelledSegment). over z x) is ∙ b) (λ c. tells.passes u t x (each u n) p first c b) (low.1 u n)

    taken : (b : Bool) → is_lower l t.segment x.segment ≡ b → IsLowestOf over (x ∷ xs) (Some (cond b t x))
    taken true e = (inr low.0, λ u n. ⊎_elim (λ (is : x ≡ u). inr (subst (λ z. over z t ≡ true) is (sym (tells.same t x p first) ∙ e))) (λ o. low.1 u o) n)
    taken false e = (inl refl, λ u n. ⊎_elim (λ (is : x ≡ u). inl (sym is)) (λ o. above_first (sym (tells.same t x p first) ∙ e) u o) n)

  pub lowest_is : (xs : List LabelledSegment) → ((s : LabelledSegment) → Among s xs → P s) → IsLowestOf over xs (lowest l xs)
  lowest_is [] each = λ s n. n
  lowest_is (x ∷ xs) each = by (lowest l xs) (lowest_is xs (λ s n. each s (inr n)))
    where
      by : (o : Option LabelledSegment) → IsLowestOf over xs o
          → IsLowestOf over (x ∷ xs) (elim o [ None ↦ Some x | Some t ↦ Some (cond (is_lower l t.segment x.segment) t x) ])
      by None none = (inl refl, λ u n. ⊎_elim (λ (is : x ≡ u). inl (sym is)) (λ o. absurd (none u o)) n)
      by (Some t) low = taken x t xs (each x (inl refl)) (λ s n. each s (inr n)) low (is_lower l t.segment x.segment) refl

-- ---- the label reached below it

module _ (l : Line) (rational : pos 0 <ℤ l.c) (t : LabelledSegment → Bool) where
  none_reached : (u : ℕ) (xs : List LabelledSegment) → ((x : LabelledSegment) → Among x xs → t x ≡ false) → reached t u xs ≡ u
  none_reached u [] none = refl
  none_reached u (x ∷ xs) none = ap (λ (b : Bool). cond b (reached t (sides x).lower xs) u) (none x (inl refl))

  -- behind the lowest one that passes none does
  none_behind : (s : LabelledSegment) (xs : List LabelledSegment) → ((x : LabelledSegment) → Among x (s ∷ xs) → crosses l x.segment ≡ true)
      → is_sorted_by (higher l) (s ∷ xs) ≡ true → ((x : LabelledSegment) → Among x xs → t x ≡ true → (x ≡ s) ⊎ (higher l x s ≡ true))
      → (x : LabelledSegment) → Among x xs → t x ≡ false
  none_behind s xs cross sorted low x n = false_from_ne_true (t x) (λ e. ⊎_elim
      (λ (is : x ≡ s). never (subst (λ z. higher l s z ≡ true) is below))
      (λ above. never (order.passes s x s c (cross x (inr n)) c below above)) (low x n e))
    where
      order : IsStrictOrderOn (λ (x : LabelledSegment). crosses l x.segment ≡ true) (λ x y. is_higher l x.segment y.segment)
      order = order_of_heights l rational

      c : crosses l s.segment ≡ true
      c = cross s (inl refl)

      below : higher l s x ≡ true
      below = members_all (λ y. higher l s y ≡ true) xs x
          (sorted_head (higher l) order s xs c (all_members (λ y. crosses l y.segment ≡ true) xs (λ y o. cross y (inr o))) sorted) n

      never : higher l s s ≡ true → ⊥
      never e = true≢false (sym e ∙ order.itself s c)

  last_reached : (s : LabelledSegment) → t s ≡ true → (u : ℕ) (xs : List LabelledSegment) → ((x : LabelledSegment) → Among x xs → crosses l x.segment ≡ true)
      → is_sorted_by (higher l) xs ≡ true → fronts t xs ≡ true → ((x : LabelledSegment) → Among x xs → t x ≡ true → (x ≡ s) ⊎ (higher l x s ≡ true))
      → Among s xs → reached t u xs ≡ (sides s).lower
  last_reached s passes u [] cross sorted front low n = absurd n
  last_reached s passes u (x ∷ xs) cross sorted front low n =
      by (t x) refl front n
      (λ g o. last_reached s passes (sides x).lower xs (λ y r. cross y (inr r)) (sorted_tail (higher l) x xs sorted) g (λ y r. low y (inr r)) o)
    where
      here : x ≡ s → reached t (sides x).lower xs ≡ (sides s).lower
      here is =
          none_reached (sides x).lower xs
          (none_behind x xs cross sorted (λ y o e. subst (λ z. (y ≡ z) ⊎ (higher l y z ≡ true)) (sym is) (low y (inr o) e)))
          ∙ ap (λ (z : LabelledSegment). (sides z).lower) is

      by : (b : Bool) → t x ≡ b → cond b (fronts t xs) (list_all (λ y. not (t y)) xs) ≡ true → Among s (x ∷ xs)
          → (fronts t xs ≡ true → Among s xs → reached t (sides x).lower xs ≡ (sides s).lower) → cond b (reached t (sides x).lower xs) u ≡ (sides s).lower
      by true e g (inl is) rest = here is
      by true e g (inr o) rest = rest g o
      by false e g (inl is) rest = absurd (true≢false (sym passes ∙ ap t (sym is) ∙ e))
      by false e g (inr o) rest = absurd (true≢false (sym (all_among (λ y. not (t y)) xs s g o) ∙ ap not passes))

-- ---- the point is inside the face that it tells

-- the face below a segment, where there is one
abbrev pub below : Option LabelledSegment → ℕ
below o = elim o [ None ↦ 0 | Some s ↦ (sides s).lower ]

module _ (segments : List LabelledSegment) (apart : AllPairs AreApart segments) (q : Fraction) (rational : pos 0 <ℤ q.d) where
  abbrev l : Line
  l = line_through q

  abbrev above : LabelledSegment → Bool
  above s = is_above s.segment q

  in_stack : (x : LabelledSegment) → Among x (stack l segments) → Among x segments × (crosses l x.segment ≡ true)
  in_stack x n =
      let o = sort_among (λ s t. is_higher l s.segment t.segment) (filter (λ s. crosses l s.segment) segments) x n in
      (kept_among (λ s. crosses l s.segment) segments x o, filter_among (λ s. crosses l s.segment) segments x o)

  over_point : (x : LabelledSegment) → Among x (stack l segments) → above x ≡ true → Among x (filter (crosses_ray q) segments)
  over_point x n e = let g = in_stack x n in among_kept (crosses_ray q) segments x g.0 (and_from _ _ g.1 e)

  reached_below : (o : Option LabelledSegment) → IsLowestOf (higher l) (filter (crosses_ray q) segments) o → reached above 0 (stack l segments) ≡ below o
  reached_below None none =
      none_reached l rational above 0 (stack l segments) (λ x n. false_from_ne_true (above x) (λ e. none x (over_point x n e)))
  reached_below (Some s) low =
      let parts = and_parts (crosses l s.segment) (above s) (filter_among (crosses_ray q) segments s low.0) in
      last_reached l rational above s parts.1 0 (stack l segments) (λ x n. (in_stack x n).1) (stack_is_sorted l rational segments apart)
      (above_front segments q rational) (λ x n e. low.1 x (over_point x n e))
      (among_sort (λ s t. is_higher l s.segment t.segment) (filter (λ s. crosses l s.segment) segments) s
      (among_kept (λ s. crosses l s.segment) segments s (kept_among (crosses_ray q) segments s low.0) parts.0))

  pub inside_told : agree_from 0 (map sides (stack (line_through q) segments)) ≡ true → (f : ℕ) → f ≢ 0
      → (o : Option LabelledSegment) → IsLowestOf (higher (line_through q)) (filter (crosses_ray q) segments) o → is_inside segments f q ≡ (below o == f)
  inside_told agrees f other o low =
      inside_parity segments q f rational agrees
      ∙ ap (λ (b : Bool). either_alone b (reached above 0 (stack l segments) == f)) (ne_eqb 0 f (λ e. other (sym e)))
      ∙ ap (λ (x : ℕ). x == f) (reached_below o low)

  -- the lowest over another point is that over this one, where the same segments are over both, and in the same order
  module _ (p : Fraction) (seen : (s : LabelledSegment) → Among s segments → passes_over p s ≡ crosses_ray q s)
      (order : (s t : LabelledSegment) → Among s segments → Among t segments → crosses (line_through q) s.segment ≡ true → crosses (line_through q) t.segment ≡ true
      → is_lower (line_through p) s.segment t.segment ≡ is_higher (line_through q) t.segment s.segment) where
    abbrev Over : LabelledSegment → Type 0
    Over s = Among s segments × (crosses l s.segment ≡ true)

    tells : Tells Over (line_through p) (higher l)
    tells = record {
      same = λ s t g h. order s t g.0 h.0 g.1 h.1;
      total = λ s t g h. ⊎_elim inl (λ a. inr (one_is_higher l rational s t g.1 h.1 a)) (related_members AreApart segments apart s t (contained segments s g.0) (contained segments t h.0));
      passes = λ s t r g h k. (order_of_heights l rational).passes s t r g.1 h.1 k.1;
    }

    pub lowest_over_other : IsLowestOf (higher (line_through q)) (filter (crosses_ray q) segments) (lowest (line_through p) (filter (passes_over p) segments))
    lowest_over_other =
        subst (λ (xs : List LabelledSegment). IsLowestOf (higher l) (filter (crosses_ray q) segments) (lowest (line_through p) xs))
        (sym (filter_agree (passes_over p) (crosses_ray q) segments seen))
        (lowest_is Over (line_through p) (higher l) tells (filter (crosses_ray q) segments)
        (λ s n. (kept_among (crosses_ray q) segments s n, (and_parts (crosses l s.segment) (above s) (filter_among (crosses_ray q) segments s n)).0)))
