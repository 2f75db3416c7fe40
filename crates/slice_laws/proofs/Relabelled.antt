-- The segments of a base map with other labels: down each line they agree as before, and the label reached above a point is the
-- other label of what was reached.
use Rattle.std.proofs.Common.{◌≡◌, ℕ, ◌≤◌, Bool, true, false, cond, ◌==◌, List, [], ◌∷◌, map, filter, All, refl, sym, ap, ◌∙◌, subst, eq-eqb}
use Rattle.std.proofs.lemmas.Bool.{and_parts, and_from, eqb-true}
use Rattle.std.proofs.lemmas.List.Elements.{All-head, All-tail}
use Rattle.lemmas.specs.Sorting.{sort_by}
use Rattle.lemmas.proofs.Sorting.{map-sort_by}
use Rattle.tgap_model.specs.declared.segment.LabelledSegment.{LabelledSegment}
use Rattle.tgap_model.specs.Segment.{Line, crosses, goes_right, is_higher}
use Rattle.tgap_model.specs.Partition.{Sides, sides, stack, agree_from}
use Rattle.map_laws.proofs.Inside.{reached}

-- a segment with other labels
abbrev pub with_labels : (ℕ → ℕ) → LabelledSegment → LabelledSegment
with_labels g s = record s { left = g s.left; right = g s.right }

-- a filter of what a map makes
filter-of_map : {A B : Type 0} (p : B → Bool) (f : A → B) (xs : List A) → filter p (map f xs) ≡ map f (filter (λ x. p (f x)) xs)
filter-of_map p f [] = refl
filter-of_map p f (x ∷ xs) = by (p (f x)) (filter-of_map p f xs)
  where
    by : (b : Bool) → filter p (map f xs) ≡ map f (filter (λ x. p (f x)) xs)
        → cond b (f x ∷ filter p (map f xs)) (filter p (map f xs)) ≡ map f (cond b (x ∷ filter (λ x. p (f x)) xs) (filter (λ x. p (f x)) xs))
    by true e = ap (λ ys. f x ∷ ys) e
    by false e = e

-- the sides of a segment with other labels
abbrev pub other_sides : (ℕ → ℕ) → Sides → Sides
other_sides g s = record { upper = g s.upper; lower = g s.lower }

pub sides_with_labels : (g : ℕ → ℕ) (s : LabelledSegment) → sides (with_labels g s) ≡ other_sides g (sides s)
sides_with_labels g s = by (goes_right s.segment)
  where
    by : (b : Bool) → cond b (record { upper = g s.left; lower = g s.right }) (record { upper = g s.right; lower = g s.left })
        ≡ other_sides g (cond b (record { upper = s.left; lower = s.right }) (record { upper = s.right; lower = s.left }))
    by true = refl
    by false = refl

module _ (g : ℕ → ℕ) where
  -- the stack has the same order
  pub stack_with_labels : (l : Line) (segments : List LabelledSegment)
      → stack l (map (with_labels g) segments) ≡ map (with_labels g) (stack l segments)
  stack_with_labels l segments =
      let higher : LabelledSegment → LabelledSegment → Bool = λ (s t : LabelledSegment). is_higher l s.segment t.segment in
      ap (sort_by higher) (filter-of_map (λ s. crosses l s.segment) (with_labels g) segments)
      ∙ sym (map-sort_by (λ s. Unit {0}) higher higher (with_labels g) (λ s t p q. refl) (filter (λ s. crosses l s.segment) segments) (λ i d n. tt))

  -- and agrees
  pub agree_with_labels : g 0 ≡ 0 → (u : ℕ) (ss : List LabelledSegment) → agree_from u (map sides ss) ≡ true
      → agree_from (g u) (map sides (map (with_labels g) ss)) ≡ true
  agree_with_labels z u [] h = eq-eqb _ _ (ap g (eqb-true _ _ h) ∙ z)
  agree_with_labels z u (s ∷ ss) h =
      let both = and_parts ((sides s).upper == u) (agree_from (sides s).lower (map sides ss)) h in
      let e = sides_with_labels g s in
      and_from _ _ (eq-eqb _ _ (ap (λ (x : Sides). x.upper) e ∙ ap g (eqb-true _ _ both.0)))
      (subst (λ (x : Sides). agree_from x.lower (map sides (map (with_labels g) ss)) ≡ true) (sym e) (agree_with_labels z (sides s).lower ss both.1))

  -- what is reached
  pub reached_with_labels : (t : LabelledSegment → Bool) → ((s : LabelledSegment) → t (with_labels g s) ≡ t s) → (u : ℕ) (ss : List LabelledSegment)
      → reached t (g u) (map (with_labels g) ss) ≡ g (reached t u ss)
  reached_with_labels t same u [] = refl
  reached_with_labels t same u (s ∷ ss) =
      ap (λ (b : Bool). cond b (reached t (sides (with_labels g s)).lower (map (with_labels g) ss)) (g u)) (same s)
      ∙ by (t s)
      (ap (λ (x : Sides). reached t x.lower (map (with_labels g) ss)) (sides_with_labels g s) ∙ reached_with_labels t same (sides s).lower ss)
    where
      by : (b : Bool) → reached t (sides (with_labels g s)).lower (map (with_labels g) ss) ≡ g (reached t (sides s).lower ss)
          → cond b (reached t (sides (with_labels g s)).lower (map (with_labels g) ss)) (g u) ≡ g (cond b (reached t (sides s).lower ss) u)
      by true e = e
      by false e = refl

-- what is reached is a face of the segments or what was there above them
pub reached_bounded : (n : ℕ) (t : LabelledSegment → Bool) (u : ℕ) (ss : List LabelledSegment) → u ≤ n → All (λ s. (s.left ≤ n) × (s.right ≤ n)) ss
    → reached t u ss ≤ n
reached_bounded n t u [] h all = h
reached_bounded n t u (s ∷ ss) h all =
    by (t s) (reached_bounded n t (sides s).lower ss (lower (goes_right s.segment)) (All-tail (λ s. (s.left ≤ n) × (s.right ≤ n)) s ss all))
  where
    faces : (s.left ≤ n) × (s.right ≤ n)
    faces = All-head (λ s. (s.left ≤ n) × (s.right ≤ n)) s ss all

    lower : (b : Bool)
        → (let x : Sides = cond b (record { upper = s.left; lower = s.right }) (record { upper = s.right; lower = s.left }) in x.lower) ≤ n
    lower true = faces.1
    lower false = faces.0

    by : (b : Bool) → reached t (sides s).lower ss ≤ n → cond b (reached t (sides s).lower ss) u ≤ n
    by true k = k
    by false k = h
