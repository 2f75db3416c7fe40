-- Walks along a face and rings, side by side.
use Rattle.std.proofs.Common.{◌≡◌, ℕ, suc, ◌==◌, Bool, true, false, Option, Some, None, List, [], ◌∷◌, ◌++◌, length, All, refl, sym, ap, ap₂, ◌∙◌, subst, append_assoc, if◌then◌else◌, length-append, ◌+◌, arith}
use Rattle.std.specs.Prelude.{option_map}
use Rattle.std.proofs.lemmas.List.Elements.{All-nil, All-cons, All-append}
use Rattle.ring_walk.specs.declared.span.Span.{Span}
use Rattle.ring_walk.specs.declared.side.Side.{Side}
use Rattle.ring_walk.specs.Sides.{face_of, same_side}
use Rattle.ring_walk.specs.Rings.{next_side, row_until}
use Rattle.ring_walk.specs.Spans.{IsSide}
use Rattle.face_cuts.specs.Walks.{walk_along}

-- ---- a row of sides that grows

pub within_more : (n : ℕ) (row new : List Side) (s : Side) → new ≡ row ++ s ∷ [] → All (IsSide n) row → IsSide n s → All (IsSide n) new
within_more n row new s e h w = subst (All (IsSide n)) (sym e) (All-append (IsSide n) row (s ∷ []) h (All-cons (IsSide n) s [] w (All-nil (IsSide n))))

pub longer : (row new : List Side) (s : Side) (k : ℕ) → new ≡ row ++ s ∷ [] → length row ≡ k → length new ≡ k + 1
longer row new s k e f = ap length e ∙ omega (arith, length-append row (s ∷ []), f)

-- ---- the walk

-- the walk whose first sides are known
abbrev pub whole_walk : List Side → Option (List Side) → Option (List Side)
whole_walk walk o = option_map (λ more. walk ++ more) o

module _ (spans : List Span) (f : ℕ) (start end : Side) where
  -- what is left of the walk, from a side on, where so many sides are left at most
  abbrev pub left_of_walk : ℕ → Side → Option (List Side)
  left_of_walk m s = walk_along spans f start (row_until (next_side spans) end m s)

  module _ (s t : Side) (m : ℕ) (next : t ≡ next_side spans s) where
    abbrev row : Bool → List Side
    row back = if back then [] else row_until (next_side spans) end m (next_side spans s)

    abbrev along : Bool → Bool → Bool → Option (List Side)
    along face arrives back = if face then (if arrives then Some (s ∷ []) else option_map (λ walk. s ∷ walk) (walk_along spans f start (row back))) else None

    arrival : same_side t start ≡ same_side (next_side spans s) start
    arrival = ap (λ (u : Side). same_side u start) next

    return : same_side t end ≡ same_side (next_side spans s) end
    return = ap (λ (u : Side). same_side u end) next

    -- the side has another face
    pub walk_none : (face_of spans s == f) ≡ false → left_of_walk (suc m) s ≡ None
    walk_none e = ap (λ (b : Bool). along b (same_side (next_side spans s) start) (same_side (next_side spans s) end)) e

    -- the walk arrives
    pub walk_ends : (face_of spans s == f) ≡ true → same_side t start ≡ true → left_of_walk (suc m) s ≡ Some (s ∷ [])
    walk_ends e a = ap₂ (λ (b c : Bool). along b c (same_side (next_side spans s) end)) e (sym arrival ∙ a)

    -- it comes back to where it began
    pub walk_back : (face_of spans s == f) ≡ true → same_side t start ≡ false → same_side t end ≡ true → left_of_walk (suc m) s ≡ None
    walk_back e a b = ap₂ (λ (c d : Bool). along c d (same_side (next_side spans s) end)) e (sym arrival ∙ a) ∙ ap (along true false) (sym return ∙ b)

    -- it goes on
    pub walk_on : (face_of spans s == f) ≡ true → same_side t start ≡ false → same_side t end ≡ false → left_of_walk (suc m) s ≡ option_map (λ walk. s ∷ walk) (left_of_walk m t)
    walk_on e a b = ap₂ (λ (c d : Bool). along c d (same_side (next_side spans s) end)) e (sym arrival ∙ a) ∙ ap (along true false) (sym return ∙ b)
        ∙ ap (λ (u : Side). option_map (λ walk. s ∷ walk) (left_of_walk m u)) (sym next)

  module _ (walk new : List Side) (s : Side) (pushed : new ≡ walk ++ s ∷ []) where
    whole_more : (o : Option (List Side)) → whole_walk new o ≡ whole_walk walk (option_map (λ more. s ∷ more) o)
    whole_more None = refl
    whole_more (Some more) = ap Some (ap (λ (r : List Side). r ++ more) pushed ∙ append_assoc walk (s ∷ []) more)

    -- one side more is known
    pub walked_more : (m k : ℕ) (t : Side) (w : Option (List Side)) → k ≡ suc m → left_of_walk (suc m) s ≡ option_map (λ more. s ∷ more) (left_of_walk m t) → whole_walk walk (left_of_walk k s) ≡ w → whole_walk new (left_of_walk m t) ≡ w
    walked_more m k t w e on so_far =
        whole_more (left_of_walk m t) ∙ ap (whole_walk walk) (sym on) ∙ ap (λ (j : ℕ). whole_walk walk (left_of_walk j s)) (sym e) ∙ so_far

    -- the last one is
    pub walked_all : (m k : ℕ) (w : Option (List Side)) → k ≡ suc m → left_of_walk (suc m) s ≡ Some (s ∷ []) → whole_walk walk (left_of_walk k s) ≡ w → Some new ≡ w
    walked_all m k w e ends so_far =
        ap Some pushed ∙ ap (whole_walk walk) (sym ends) ∙ ap (λ (j : ℕ). whole_walk walk (left_of_walk j s)) (sym e) ∙ so_far

  -- there is none
  pub walked_none : (walk : List Side) (m k : ℕ) (s : Side) (w : Option (List Side)) → k ≡ suc m → left_of_walk (suc m) s ≡ None → whole_walk walk (left_of_walk k s) ≡ w → None ≡ w
  walked_none walk m k s w e none so_far = ap (whole_walk walk) (sym none) ∙ ap (λ (j : ℕ). whole_walk walk (left_of_walk j s)) (sym e) ∙ so_far
