-- The puts of a row of points fit: each is between two points that differ from it.
use Rattle.std.proofs.Common.{◌≡◌, inl, inr, ℕ, suc, ◌+◌, ◌-◌, ◌≤◌, ◌&&◌, Bool, true, false, not, nat_le, nat_lt, cond, List, [], ◌∷◌, ◌++◌, map, length, get_or, refl, sym, ap, ap₂, ◌∙◌, subst, arith}
use Rattle.std.proofs.lemmas.Bool.{and_parts, and_from, not-true, not_from_false, le-leb, lt-ltb, true≢false}
use Rattle.std.proofs.lemmas.List.{length-append, get_or-append-add}
use Rattle.std.proofs.Math.Seq.{get_or-append_seam}
use Rattle.lemmas.specs.Sorting.{is_sorted_by}
use Rattle.lemmas.proofs.Sorting.{sorted_cons}
use Rattle.tgap_model.specs.declared.geometry.Point.{Point}
use Rattle.tgap_model.specs.declared.slice.Removal.{Removal}
use Rattle.tgap_model.specs.declared.record.Put.{Put}
use Rattle.tgap_model.specs.Base.{same_point, no_repeat}
use Rattle.tgap_model.specs.Chains.{first_point, last_point}
use Rattle.tgap_model.specs.Removals.{is_removed, without}
use Rattle.tgap_model.specs.Records.{puts_from, puts_fit, differs_there}
use Rattle.map_laws.proofs.ChainMembers.{Among, filter_among}
use Rattle.map_laws.proofs.JoinEnds.{same_point-apart}
use Rattle.map_laws.proofs.Lists.{all_members}
use Rattle.step_laws.proofs.ChainPoints.{without_last}
use Rattle.record_laws.proofs.PutsBack.{move_front, insert_there}

module _ (now : List Removal) where
  -- ---- their places

  -- the places are no less than the first one
  places_from : (i : ℕ) (points : List Point) (n : ℕ) → Among n (map (λ p. p.at) (puts_from now i points)) → i ≤ n
  places_from i [] n o = absurd o
  places_from i (p ∷ points) n o = by (is_removed now p) o (places_from (i + 1) points n)
    where
      by : (v : Bool) → Among n (map (λ p. p.at) (cond v (record { at = i; point = p } ∷ []) [] ++ puts_from now (i + 1) points))
          → (Among n (map (λ p. p.at) (puts_from now (i + 1) points)) → i + 1 ≤ n) → i ≤ n
      by true (inl e) rest = omega (arith, e)
      by true (inr m) rest = let l = rest m in omega arith
      by false m rest = let l = rest m in omega arith

  -- and ascend
  pub puts_ascend : (i : ℕ) (points : List Point) → is_sorted_by nat_lt (map (λ p. p.at) (puts_from now i points)) ≡ true
  puts_ascend i [] = refl
  puts_ascend i (p ∷ points) = by (is_removed now p) (puts_ascend (i + 1) points)
    where
      rest : List ℕ
      rest = map (λ (p : Put). p.at) (puts_from now (i + 1) points)

      by : (v : Bool) → is_sorted_by nat_lt rest ≡ true
          → is_sorted_by nat_lt (map (λ p. p.at) (cond v (record { at = i; point = p } ∷ []) [] ++ puts_from now (i + 1) points)) ≡ true
      by true e = sorted_cons nat_lt i rest (all_members (λ n. nat_lt i n ≡ true) rest (λ n m. lt-ltb i n (omega (arith, places_from (i + 1) points n m)))) e
      by false e = e

  -- the points that are left and the puts are as many as the points
  pub puts_length : (i : ℕ) (points : List Point) → length (without now points) + length (puts_from now i points) ≡ length points
  puts_length i [] = refl
  puts_length i (p ∷ points) = by (is_removed now p) (puts_length (i + 1) points)
    where
      by : (v : Bool) → length (without now points) + length (puts_from now (i + 1) points) ≡ length points
          → length (cond (not v) (p ∷ without now points) (without now points))
          + length (cond v (record { at = i; point = p } ∷ []) [] ++ puts_from now (i + 1) points) ≡ suc (length points)
      by true e = omega (arith, e)
      by false e = omega (arith, e)

  -- ---- that they fit

  -- a point that is left is not listed
  left_free : (points : List Point) (w : Point) (ws : List Point) → without now points ≡ w ∷ ws → is_removed now w ≡ false
  left_free points w ws e =
      not-true (is_removed now w) (filter_among (λ (p : Point). not (is_removed now p)) points w (subst (Among w) (sym e) (inl refl)))

  -- the first point that is left is not one that is listed
  next_apart : (p : Point) (points : List Point) → is_removed now p ≡ true → 1 ≤ length (without now points) → (d : Point)
      → same_point (get_or (without now points) 0 d) p ≡ false
  next_apart p points e l d = by (without now points) refl l
    where
      by : (ws : List Point) → without now points ≡ ws → 1 ≤ length ws → same_point (get_or ws 0 d) p ≡ false
      by [] f l = absurd (omega arith)
      by (w ∷ ws) f l = same_point-apart w p (λ s. true≢false (sym e ∙ ap (is_removed now) (sym s) ∙ left_free points w ws f))

  -- behind some points, of which `prev` is the last one
  puts_fit_behind : (i : ℕ) (front : List Point) (prev : Point) (points : List Point) → length (front ++ prev ∷ []) ≡ i
      → no_repeat (prev ∷ points) ≡ true → is_removed now (last_point (prev ∷ points)) ≡ false
      → puts_fit ((front ++ prev ∷ []) ++ without now points) (puts_from now i points) ≡ true
  puts_fit_behind i front prev [] l apart free = refl
  puts_fit_behind i front prev (p ∷ points) l apart free =
      by (is_removed now p) refl
      (puts_fit_behind (i + 1) (front ++ prev ∷ []) p points (omega (arith, l, length-append (front ++ prev ∷ []) (p ∷ []))) (and_parts _ _ apart).1 free)
    where
      before : List Point
      before = front ++ prev ∷ []

      rest : List Point
      rest = without now points

      puts : List Put
      puts = puts_from now (i + 1) points

      -- where the point is listed, others follow that are not
      more : is_removed now p ≡ true → 1 ≤ length rest
      more e = some points free
        where
          some : (points : List Point) → is_removed now (last_point (p ∷ points)) ≡ false → 1 ≤ length (without now points)
          some [] f = absurd (true≢false (sym e ∙ f))
          some (q ∷ points) f = (without_last now (q ∷ points) (omega arith) f).0

      prev_there : get_or (before ++ rest) (i - 1) p ≡ prev
      prev_there =
          let place : i - 1 ≡ length front = omega (arith, l, length-append front (prev ∷ [])) in
          ap₂ (λ (xs : List Point) (n : ℕ). get_or xs n p) (move_front front prev rest) place
          ∙ get_or-append_seam front prev rest p

      next_there : get_or (before ++ rest) i p ≡ get_or rest 0 p
      next_there =
          let place : i ≡ length before + 0 = omega (arith, l) in
          ap (λ (n : ℕ). get_or (before ++ rest) n p) place ∙ get_or-append-add before rest 0 p

      apart_here : is_removed now p ≡ true → differs_there (before ++ rest) (record { at = i; point = p }) ≡ true
      apart_here e =
          and_from (not (same_point (get_or (before ++ rest) (i - 1) p) p)) (not (same_point (get_or (before ++ rest) i p) p))
          (ap (λ (q : Point). not (same_point q p)) prev_there ∙ (and_parts _ _ apart).0)
          (ap (λ (q : Point). not (same_point q p)) next_there ∙ not_from_false _ (next_apart p points e (more e) p))

      by : (v : Bool) → is_removed now p ≡ v → puts_fit ((before ++ p ∷ []) ++ rest) puts ≡ true
          → puts_fit (before ++ cond (not v) (p ∷ rest) rest) (cond v (record { at = i; point = p } ∷ []) [] ++ puts) ≡ true
      by true e f =
          and_from (nat_le 1 i && nat_lt i (length (before ++ rest)) && differs_there (before ++ rest) (record { at = i; point = p })) _
          (and_from (nat_le 1 i && nat_lt i (length (before ++ rest))) _
          (and_from (nat_le 1 i) _ (le-leb 1 i (omega (arith, l, length-append front (prev ∷ []))))
          (lt-ltb i (length (before ++ rest)) (omega (arith, l, length-append before rest, more e))))
          (apart_here e))
          (ap (λ (ps : List Point). puts_fit ps puts) (insert_there i before p rest l) ∙ f)
      by false e f = ap (λ (ps : List Point). puts_fit ps puts) (sym (move_front before p rest)) ∙ f

  -- those of a row whose first and last points are not listed
  pub puts_fit_row : (points : List Point) → 1 ≤ length points → is_removed now (first_point points) ≡ false → is_removed now (last_point points) ≡ false
      → no_repeat points ≡ true → puts_fit (without now points) (puts_from now 0 points) ≡ true
  puts_fit_row [] l e f apart = absurd (omega arith)
  puts_fit_row (a ∷ points) l e f apart =
      ap (λ (v : Bool). puts_fit (cond (not v) (a ∷ without now points) (without now points)) (cond v (record { at = 0; point = a } ∷ []) [] ++ puts_from now 1 points)) e
      ∙ puts_fit_behind 1 [] a points refl apart f
