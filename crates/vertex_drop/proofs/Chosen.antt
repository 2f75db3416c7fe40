-- A sweep may pass over edges without a small corner: it removes nothing of them.
use Rattle.std.proofs.Common.{◌≡◌, ◌⊎◌, ◌∙◌, inl, inr, ℕ, ℤ, pos, ◌*◌, ◌==◌, ◌&&◌, int_le, not, Bool, true, false, List, [], ◌∷◌, ◌++◌, All, Contains, refl, sym, ap, ap₂}
use Rattle.std.specs.List.{list_all, list_any}
use Rattle.std.proofs.lemmas.List.Folds.{list_any-from_Any}
use Rattle.std.proofs.lemmas.Bool.{or_parts, or_from, and_left, eq-eqb}
use Rattle.std.proofs.lemmas.List.Elements.{All-head, All-tail}
use Rattle.lemmas.proofs.Members.{All-from_members}
use Rattle.tgap_model.specs.declared.geometry.Point.{Point}
use Rattle.tgap_model.specs.declared.geometry.Seg.{Seg}
use Rattle.tgap_model.specs.declared.slice.Edge.{Edge}
use Rattle.tgap_model.specs.Clear.{is_clear}
use Rattle.tgap_model.specs.Point.{area2}
use Rattle.tgap_model.specs.Removals.{Swept, path, is_removable, sweep, sweep_from, sweep_points, live_segments, has_side}
use Rattle.vertex_drop.specs.Corners.{is_small_corner, any_small_corner, has_small_corner, is_triangle}
use Rattle.vertex_drop.specs.Left.{is_swept}
use Rattle.vertex_drop.specs.Sweep.{sweep_chosen}
use Rattle.vertex_drop.proofs.Swept.{from_kept, rest_swept, rest_passed, swept_edges, sweep_all}
use Rattle.vertex_drop.proofs.Triangles.{triangle_stays}

module _ (ratio : ℕ) (area : ℤ) where
  pub stays : (others : List Seg) (a b c : Point) → is_small_corner ratio area a b c ≡ false → is_removable ratio area others a b c ≡ false
  unfolding is_removable
  stays others a b c h =
      let both = or_parts (area2 a b c == 0) (int_le (pos (ratio * area2 a b c)) area) h in
      or_from (area2 a b c == 0) (int_le (pos (ratio * area2 a b c)) area && list_all (is_clear a b c) others) both.0
      (and_left (int_le (pos (ratio * area2 a b c)) area) (list_all (is_clear a b c) others) both.1)

  all_stay_from : (others done : List Seg) (a : Point) (points : List Point) → any_small_corner ratio area (a ∷ points) ≡ false
      → sweep_from ratio area others done a points ≡ record { kept = a ∷ points; gone = [] }
  all_stay_from others done a [] h = refl
  all_stay_from others done a (b ∷ []) h = refl
  all_stay_from others done a (b ∷ c ∷ points) h =
      let both = or_parts (is_small_corner ratio area a b c) (any_small_corner ratio area (b ∷ c ∷ points)) h in
      from_kept ratio area others done a b c points (stays (others ++ done ++ path (c ∷ points)) a b c both.0)
      ∙ ap (λ (s : Swept). record { kept = a ∷ s.kept; gone = s.gone }) (all_stay_from others (done ++ record { a = a; b = b } ∷ []) b (c ∷ points) both.1)

  none_small : (others : List Seg) (points : List Point) → any_small_corner ratio area points ≡ false
      → sweep_points ratio area others points ≡ record { kept = points; gone = [] }
  none_small others [] h = refl
  none_small others (a ∷ points) h = all_stay_from others [] a points h

  pub all_stay : (others : List Seg) (points : List Point) → has_small_corner ratio area points ≡ false
      → sweep_points ratio area others points ≡ record { kept = points; gone = [] }
  unfolding has_small_corner
  all_stay others points h = by (is_triangle points) refl
    where
      by : (t : Bool) → is_triangle points ≡ t → sweep_points ratio area others points ≡ record { kept = points; gone = [] }
      by true e = triangle_stays ratio area others points e
      by false e = none_small others points (sym (ap (λ (t : Bool). not t && any_small_corner ratio area points) e) ∙ h)

  -- so whether such an edge is swept makes no difference
  wide_passed : (swept : Edge → Bool) (before : List Seg) (e : Edge) (edges : List Edge) → has_small_corner ratio area e.points ≡ false
      → sweep_chosen ratio area swept before (e ∷ edges) ≡ sweep_chosen ratio area swept (before ++ path e.points) edges
  wide_passed swept before e edges h = by (swept e) refl
    where
      by : (b : Bool) → swept e ≡ b → sweep_chosen ratio area swept before (e ∷ edges) ≡ sweep_chosen ratio area swept (before ++ path e.points) edges
      by true s =
          rest_swept ratio area swept before e edges s
          ∙ ap (λ (t : Swept). t.gone ++ sweep_chosen ratio area swept (before ++ path t.kept) edges) (all_stay (before ++ live_segments edges) e.points h)
      by false s = rest_passed ratio area swept before e edges s

  -- the two tests agree on the edge, or it has no small corner
  abbrev AgreeOn : (Edge → Bool) → (Edge → Bool) → Edge → Type 0
  AgreeOn p q e = (p e ≡ q e) ⊎ (has_small_corner ratio area e.points ≡ false)

  chosen_alike : (p q : Edge → Bool) (before : List Seg) (edges : List Edge) → All (AgreeOn p q) edges
      → sweep_chosen ratio area p before edges ≡ sweep_chosen ratio area q before edges
  chosen_alike p q before [] h = refl
  chosen_alike p q before (e ∷ edges) h =
      by (All-head (AgreeOn p q) e edges h) (λ before. chosen_alike p q before edges (All-tail (AgreeOn p q) e edges h))
    where
      same : (b : Bool) → p e ≡ b → q e ≡ b → ((before : List Seg) → sweep_chosen ratio area p before edges ≡ sweep_chosen ratio area q before edges)
          → sweep_chosen ratio area p before (e ∷ edges) ≡ sweep_chosen ratio area q before (e ∷ edges)
      same true s t rest =
          let u = sweep_points ratio area (before ++ live_segments edges) e.points in
          rest_swept ratio area p before e edges s ∙ ap (λ (l : List Point). u.gone ++ l) (rest (before ++ path u.kept))
          ∙ sym (rest_swept ratio area q before e edges t)
      same false s t rest =
          rest_passed ratio area p before e edges s ∙ rest (before ++ path e.points) ∙ sym (rest_passed ratio area q before e edges t)

      by : AgreeOn p q e → ((before : List Seg) → sweep_chosen ratio area p before edges ≡ sweep_chosen ratio area q before edges)
          → sweep_chosen ratio area p before (e ∷ edges) ≡ sweep_chosen ratio area q before (e ∷ edges)
      by (inl s) rest = same (p e) refl (sym s) rest
      by (inr wide) rest = wide_passed p before e edges wide ∙ rest (before ++ path e.points) ∙ sym (wide_passed q before e edges wide)

  module _ (made : ℕ) (keys : List ℕ) where
    -- a key of the list is found there
    any_key : (k : ℕ) → Contains keys k → list_any (λ j. j == k) keys ≡ true
    any_key k c = list_any-from_Any (λ j. j == k) keys (c.0, k, c.1, c.2, eq-eqb k k refl)

    -- the edges with these keys are all that border the face and have a small corner
    some_agree : (live : List Edge)
        → ((e : Edge) → Contains live e → has_side made e ≡ true → has_small_corner ratio area e.points ≡ true → Contains keys e.key)
        → All (AgreeOn (is_swept made keys) (has_side made)) live
    some_agree live corners = All-from_members (AgreeOn (is_swept made keys) (has_side made)) live (λ e there. by e there (has_side made e) (has_small_corner ratio area e.points) refl refl)
      where
        by : (e : Edge) → Contains live e → (s t : Bool) → has_side made e ≡ s → has_small_corner ratio area e.points ≡ t → AgreeOn (is_swept made keys) (has_side made) e
        by e there s false f g = inr g
        by e there false true f g = inl (ap (λ (b : Bool). b && list_any (λ k. k == e.key) keys) f ∙ sym f)
        by e there true true f g =
            inl (ap₂ (λ (b c : Bool). b && c) f (any_key e.key (corners e there f g)) ∙ sym f)

    -- to sweep them is to sweep all that border the face
    pub some_swept : (live : List Edge) → ¬ (ratio ≡ 0)
        → ((e : Edge) → Contains live e → has_side made e ≡ true → has_small_corner ratio area e.points ≡ true → Contains keys e.key)
        → sweep_chosen ratio area (is_swept made keys) [] live ≡ sweep ratio area made live
    some_swept live some corners =
        chosen_alike (is_swept made keys) (has_side made) [] live (some_agree live corners)
        ∙ sym (sweep_all ratio area made live some ∙ swept_edges ratio area made [] live)
