-- The ways of a row of points out of a node: those of its two ends, also where the row is turned round, or put together of two.
use Rattle.std.proofs.Common.{append-nil, ◌≡◌, ◌≢◌, ◌⊎◌, inl, inr, ℕ, ◌+◌, ◌≤◌, ◌==◌, ◌&&◌, Bool, true, false, if◌then◌else◌, List, [], ◌∷◌, ◌++◌, flat_map, length, reverse, drop, Contains, refl, sym, ap, ap₂, ◌∙◌, subst, arith}
use Rattle.std.proofs.lemmas.Bool.{ne_eqb}
use Rattle.std.proofs.lemmas.List.{length-reverse, reverse-reverse}
use Rattle.std.proofs.lemmas.List.Elements.{Contains-append_left, Contains-append_right, Contains-append_cases}
use Rattle.lemmas.proofs.Members.{in_head, in_cases, in_none}
use Rattle.tgap_model.specs.declared.geometry.Point.{Point}
use Rattle.tgap_model.specs.Base.{same_point}
use Rattle.tgap_model.specs.Partition.{path_segments}
use Rattle.tgap_model.specs.Chains.{first_point, last_point}
use Rattle.tgap_model.proofs.Points.{same_point-true, same_point-from}
use Rattle.slice_laws.proofs.NodeLinks.{next_to_last, second_point}
use Rattle.slice_laws.proofs.Paths.{reverse_cons, last_after}
use Rattle.order_laws.specs.NodeOrder.{End, Way, ways_of}
use Rattle.order_laws.proofs.WayPlaces.{way}
use Rattle.order_laws.proofs.Ways.{end_at}

-- the way where there is one
abbrev pub way_if : Bool → Way → List Way
way_if b w = if b then w ∷ [] else []

-- the ways of a row of points that starts with one end and ends with another
abbrev pub row_ways : Point → End → End → List Point → List Way
row_ways v e f ps = way_if (same_point (first_point ps) v) (way e (second_point ps)) ++ way_if (same_point (last_point ps) v) (way f (next_to_last ps))

-- ---- they are those of its segments

path_ways : (v : Point) (n l r place : ℕ) (a b : Point) (points : List Point)
    → flat_map (ways_of v) (path_segments n l r place (a ∷ b ∷ points))
    ≡ way_if ((place == 0) && same_point a v) (way (end_at n true) b)
    ++ way_if (same_point (last_point (a ∷ b ∷ points)) v) (way (end_at n false) (next_to_last (a ∷ b ∷ points)))
path_ways v n l r place a b [] = append-nil _
path_ways v n l r place a b (c ∷ points) =
    let first : List Way = way_if ((place == 0) && same_point a v) (way (end_at n true) b) in
    let later : (place + 1 == 0) ≡ false = ne_eqb (place + 1) 0 (λ e. absurd (omega arith)) in
    ap₂ (λ (us ws : List Way). us ++ ws) (append-nil first)
    (path_ways v n l r (place + 1) b c points
    ∙ ap (λ (t : Bool). way_if (t && same_point b v) (way (end_at n true) c)
    ++ way_if (same_point (last_point (b ∷ c ∷ points)) v) (way (end_at n false) (next_to_last (b ∷ c ∷ points)))) later)

pub segment_ways : (v : Point) (n l r : ℕ) (points : List Point) → 2 ≤ length points
    → flat_map (ways_of v) (path_segments n l r 0 points) ≡ row_ways v (end_at n true) (end_at n false) points
segment_ways v n l r [] h = absurd (omega (arith, h))
segment_ways v n l r (a ∷ []) h = absurd (omega (arith, h))
segment_ways v n l r (a ∷ b ∷ points) h = path_ways v n l r 0 a b points

-- ---- a way as a fact

-- the row starts at the node, or ends there, and this is its way out of it
abbrev pub HasWay : Point → End → End → List Point → Way → Type 0
HasWay v e f ps w =
    ((first_point ps ≡ v) × (way e (second_point ps) ≡ w)) ⊎ ((last_point ps ≡ v) × (way f (next_to_last ps) ≡ w))

by_test : (p v : Point) (u w : Way) → Contains (way_if (same_point p v) u) w → (p ≡ v) × (u ≡ w)
by_test p v u w c = by (same_point p v) refl c
  where
    only : Contains (u ∷ []) w → u ≡ w
    only m = elim (in_cases u [] w m) [ inl e ↦ e | inr n ↦ absurd (in_none w n) ]

    by : (b : Bool) → same_point p v ≡ b → Contains (way_if b u) w → (p ≡ v) × (u ≡ w)
    by true e m = (same_point-true p v e, only m)
    by false e m = absurd (in_none w m)

test_by : (p v : Point) (u w : Way) → p ≡ v → u ≡ w → Contains (way_if (same_point p v) u) w
test_by p v u w e f =
    subst (λ (b : Bool). Contains (way_if b u) w) (sym (same_point-from p v e)) (subst (Contains (u ∷ [])) f (in_head u []))

pub way_of_row : (v : Point) (e f : End) (ps : List Point) (w : Way) → Contains (row_ways v e f ps) w → HasWay v e f ps w
way_of_row v e f ps w c =
    elim (Contains-append_cases (way_if (same_point (first_point ps) v) (way e (second_point ps))) (way_if (same_point (last_point ps) v) (way f (next_to_last ps))) w c) [
      | inl m ↦ inl (by_test (first_point ps) v (way e (second_point ps)) w m)
      | inr m ↦ inr (by_test (last_point ps) v (way f (next_to_last ps)) w m)
    ]

pub row_has_way : (v : Point) (e f : End) (ps : List Point) (w : Way) → HasWay v e f ps w → Contains (row_ways v e f ps) w
row_has_way v e f ps w (inl (s, g)) =
    Contains-append_left (way_if (same_point (first_point ps) v) (way e (second_point ps))) (way_if (same_point (last_point ps) v) (way f (next_to_last ps))) w
    (test_by (first_point ps) v (way e (second_point ps)) w s g)
row_has_way v e f ps w (inr (s, g)) =
    Contains-append_right (way_if (same_point (first_point ps) v) (way e (second_point ps))) (way_if (same_point (last_point ps) v) (way f (next_to_last ps))) w
    (test_by (last_point ps) v (way f (next_to_last ps)) w s g)

-- ---- a row that is turned round

last_reversed : (ps : List Point) → last_point (reverse ps) ≡ first_point ps
last_reversed [] = refl
last_reversed (p ∷ ps) = ap last_point (reverse_cons p ps) ∙ last_after (reverse ps) p

first_reversed : (ps : List Point) → first_point (reverse ps) ≡ last_point ps
first_reversed ps = sym (last_reversed (reverse ps)) ∙ ap last_point (reverse-reverse ps)

second_append : (xs ys : List Point) → 2 ≤ length xs → second_point (xs ++ ys) ≡ second_point xs
second_append [] ys h = absurd (omega (arith, h))
second_append (x ∷ []) ys h = absurd (omega (arith, h))
second_append (x ∷ y ∷ xs) ys h = refl

second_reversed : (ps : List Point) → second_point (reverse ps) ≡ next_to_last ps
second_reversed [] = refl
second_reversed (p ∷ []) = refl
second_reversed (p ∷ q ∷ []) = refl
second_reversed (p ∷ q ∷ r ∷ ps) =
    ap second_point (reverse_cons p (q ∷ r ∷ ps))
    ∙ second_append (reverse (q ∷ r ∷ ps)) (p ∷ []) (omega (arith, length-reverse (q ∷ r ∷ ps)))
    ∙ second_reversed (q ∷ r ∷ ps)

next_reversed : (ps : List Point) → next_to_last (reverse ps) ≡ second_point ps
next_reversed ps = sym (second_reversed (reverse ps)) ∙ ap second_point (reverse-reverse ps)

pub way_reversed : (v : Point) (e f : End) (ps : List Point) (w : Way) → HasWay v e f ps w → HasWay v f e (reverse ps) w
way_reversed v e f ps w (inl (s, g)) = inr (last_reversed ps ∙ s, ap (way e) (next_reversed ps) ∙ g)
way_reversed v e f ps w (inr (s, g)) = inl (first_reversed ps ∙ s, ap (way f) (second_reversed ps) ∙ g)

pub reversed_way : (v : Point) (e f : End) (ps : List Point) (w : Way) → HasWay v f e (reverse ps) w → HasWay v e f ps w
reversed_way v e f ps w h = subst (λ qs. HasWay v e f qs w) (reverse-reverse ps) (way_reversed v f e (reverse ps) w h)

-- ---- two rows of which the second starts where the first ends

-- a row whose ends differ has two points at least
two_ends : (ps : List Point) → first_point ps ≢ last_point ps → 2 ≤ length ps
two_ends [] n = absurd (n refl)
two_ends (p ∷ []) n = absurd (n refl)
two_ends (p ∷ q ∷ ps) n = omega arith

first_joined : (ps qs : List Point) → 2 ≤ length ps → first_point (ps ++ qs) ≡ first_point ps
first_joined [] qs h = absurd (omega (arith, h))
first_joined (p ∷ ps) qs h = refl

last_joined : (ps qs : List Point) → 1 ≤ length ps → 2 ≤ length qs → last_point ps ≡ first_point qs → last_point (ps ++ drop 1 qs) ≡ last_point qs
last_joined [] qs h k e = absurd (omega (arith, h))
last_joined (p ∷ ps) [] h k e = absurd (omega (arith, k))
last_joined (p ∷ []) (q ∷ qs) h k e = ap (λ (o : Point). last_point (o ∷ qs)) e
last_joined (p ∷ o ∷ ps) (q ∷ qs) h k e = last_joined (o ∷ ps) (q ∷ qs) (omega arith) k e

next_joined : (ps qs : List Point) → 1 ≤ length ps → 2 ≤ length qs → last_point ps ≡ first_point qs → next_to_last (ps ++ drop 1 qs) ≡ next_to_last qs
next_joined [] qs h k e = absurd (omega (arith, h))
next_joined (p ∷ ps) [] h k e = absurd (omega (arith, k))
next_joined (p ∷ ps) (q ∷ []) h k e = absurd (omega (arith, k))
next_joined (p ∷ []) (q ∷ r ∷ qs) h k e = ap (λ (o : Point). next_to_last (o ∷ r ∷ qs)) e
next_joined (p ∷ o ∷ []) (q ∷ r ∷ qs) h k e = next_joined (o ∷ []) (q ∷ r ∷ qs) (omega arith) k e
next_joined (p ∷ o ∷ n ∷ ps) (q ∷ r ∷ qs) h k e = next_joined (o ∷ n ∷ ps) (q ∷ r ∷ qs) (omega arith) k e

module _ (ps qs : List Point) (e a b f : End) (p : Point) (ps_last : last_point ps ≡ p) (qs_first : first_point qs ≡ p)
    (ps_first : first_point ps ≢ p) (qs_last : last_point qs ≢ p) where
  ps_long : 2 ≤ length ps
  ps_long = two_ends ps (λ s. ps_first (s ∙ ps_last))

  qs_long : 2 ≤ length qs
  qs_long = two_ends qs (λ s. qs_last (sym s ∙ qs_first))

  starts_there : first_point (ps ++ drop 1 qs) ≡ first_point ps
  starts_there = first_joined ps (drop 1 qs) ps_long

  ends_there : last_point (ps ++ drop 1 qs) ≡ last_point qs
  ends_there = last_joined ps qs (omega (arith, ps_long)) qs_long (ps_last ∙ sym qs_first)

  -- away from the point where they meet, the ways of both are those of the row that they become
  pub way_joined : (v : Point) → v ≢ p → (w : Way) → HasWay v e a ps w ⊎ HasWay v b f qs w → HasWay v e f (ps ++ drop 1 qs) w
  way_joined v other w (inl (inl (s, g))) = inl (starts_there ∙ s, ap (way e) (second_append ps (drop 1 qs) ps_long) ∙ g)
  way_joined v other w (inl (inr (s, g))) = absurd (other (sym s ∙ ps_last))
  way_joined v other w (inr (inl (s, g))) = absurd (other (sym s ∙ qs_first))
  way_joined v other w (inr (inr (s, g))) =
      inr (ends_there ∙ s, ap (way f) (next_joined ps qs (omega (arith, ps_long)) qs_long (ps_last ∙ sym qs_first)) ∙ g)

  pub joined_way : (v : Point) (w : Way) → HasWay v e f (ps ++ drop 1 qs) w → HasWay v e a ps w ⊎ HasWay v b f qs w
  joined_way v w (inl (s, g)) = inl (inl (sym starts_there ∙ s, ap (way e) (sym (second_append ps (drop 1 qs) ps_long)) ∙ g))
  joined_way v w (inr (s, g)) =
      inr (inr (sym ends_there ∙ s, ap (way f) (sym (next_joined ps qs (omega (arith, ps_long)) qs_long (ps_last ∙ sym qs_first))) ∙ g))

  -- and there it has none
  pub none_joined : (w : Way) → HasWay p e f (ps ++ drop 1 qs) w → ⊥
  none_joined w (inl (s, g)) = ps_first (sym starts_there ∙ s)
  none_joined w (inr (s, g)) = qs_last (sym ends_there ∙ s)
