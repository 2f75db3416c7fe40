-- The spokes at a node of segments that are apart go in different directions: two of one direction would have a point near the node in
-- common.
use Rattle.std.proofs.Common.{◌≡◌, ◌≢◌, ◌⊎◌, inl, inr, ℕ, ◌+◌, ◌&&◌, ◌||◌, Bool, true, false, if◌then◌else◌, List, [], ◌∷◌, All, AllPairs, flat_map, get_or, ℤ, pos, ◌+ℤ◌, ◌-ℤ◌, ◌*ℤ◌, neg_ℤ, ◌<ℤ◌, ◌≤ℤ◌, refl, sym, ap, ◌∙◌, subst, arith}
use Rattle.std.specs.Ordering.{int_eq}
use Rattle.std.proofs.lemmas.Bool.{and_parts, or_cases}
use Rattle.std.proofs.lemmas.Bool.Decides.{Decides-int_eq}
use Rattle.std.proofs.lemmas.Int.{ints}
use Rattle.std.proofs.lemmas.List.Elements.{All-nil, All-cons, All-append, All-head, All-tail, All-weaker}
use Rattle.std.proofs.lemmas.List.Kept.{AllPairs-cons}
use Rattle.lemmas.proofs.Members.{All-flat_map, AllPairs-nil, AllPairs-head, AllPairs-tail, AllPairs-append}
use Rattle.lemmas.proofs.Polynomials.{same_value, var, number, ◌⊕◌, ◌⊖◌, ◌⊗◌, x_of, y_of, x_step, y_step, cross, Polynomial}
use Rattle.lemmas.proofs.Products.{zero_from_mul_left}
use Rattle.lemmas.proofs.Signs.{le_from_lt, same_from_le, same_from_sub, mul_not_negative, apart_from_lt, int_lt-false}
use Rattle.tgap_model.specs.declared.geometry.Point.{Point}
use Rattle.tgap_model.specs.declared.geometry.Fraction.{Fraction}
use Rattle.tgap_model.specs.declared.geometry.Seg.{Seg}
use Rattle.tgap_model.specs.declared.segment.LabelledSegment.{LabelledSegment}
use Rattle.tgap_model.specs.declared.slice.Edge.{Edge}
use Rattle.tgap_model.specs.Base.{same_point, no_repeat}
use Rattle.tgap_model.specs.Point.{cross as cross_of}
use Rattle.tgap_model.specs.Segment.{is_at, is_on, half_turn, turns_before}
use Rattle.tgap_model.specs.Partition.{AreApart, Spoke, shared_ends, spokes_of, path_segments, edge_segments}
use Rattle.tgap_model.proofs.Points.{point_same}
use Rattle.grid_geo.proofs.Turns.{turns_tied}
use Rattle.base_check.proofs.Spokes.{first_spoke, last_spoke, at_first, at_last, of_end}
use Rattle.base_check.proofs.Apart.{Joins, IsDecided, GoesAlong, all_along}
use Rattle.removal_laws.specs.StandLaws.{AreSound}
use Rattle.removal_laws.proofs.Apart.{permitted_common}
use Rattle.removal_laws.proofs.Between.{IsBetween, is_on_from, between_turned}
use Rattle.removal_laws.proofs.Sound.{different, no_repeat_rest}
use Rattle.removal_laws.proofs.Opposite.{dot, dot_positive, square_step, cross_turned}

-- ---- two spokes of one node

module _ (v f g : Point) (far : v ≢ f) (other : v ≢ g) (half : half_turn v f ≡ half_turn v g) (line : cross_of v f g ≡ pos 0) where
  abbrev many : ℤ
  many = dot v f f +ℤ pos 1

  -- the point that is one of `many` parts of the way from v to f
  abbrev near_node : Fraction
  near_node = record { nx = many *ℤ v.x +ℤ (f.x -ℤ v.x); ny = many *ℤ v.y +ℤ (f.y -ℤ v.y); d = many }

  abbrev square_of : Polynomial
  square_of = x_step 0 1 ⊗ x_step 0 1 ⊕ y_step 0 1 ⊗ y_step 0 1

  abbrev inner_of : Polynomial
  inner_of = x_step 0 1 ⊗ x_step 0 2 ⊕ y_step 0 1 ⊗ y_step 0 2

  abbrev many_of : Polynomial
  many_of = square_of ⊕ number (pos 1)

  long : pos 0 <ℤ dot v f f
  long = square_step v f far

  along : pos 0 <ℤ dot v f g
  along = dot_positive v f g far other half line

  more : {x : ℤ} → pos 0 <ℤ x → pos 0 <ℤ (x +ℤ pos 1)
  more h = omega (arith, ints)

  on_first : IsBetween near_node v f
  on_first = record {
    total = pos 1;
    near = dot v f f;
    far = pos 1;
    positive = record { lt = tt };
    near_sign = le_from_lt long;
    far_sign = omega (arith, ints);
    under = same_value (dot v f f ∷ []) (number (pos 1) ⊗ (var 0 ⊕ number (pos 1))) (var 0 ⊕ number (pos 1)) refl;
    over_x = coordinate (dot v f f) v.x f.x;
    over_y = coordinate (dot v f f) v.y f.y;
  }
    where
      coordinate : (m x y : ℤ) → pos 1 *ℤ ((m +ℤ pos 1) *ℤ x +ℤ (y -ℤ x)) ≡ m *ℤ x +ℤ pos 1 *ℤ y
      coordinate m x y = same_value (m ∷ x ∷ y ∷ []) (number (pos 1) ⊗ ((var 0 ⊕ number (pos 1)) ⊗ var 1 ⊕ (var 2 ⊖ var 1))) (var 0 ⊗ var 1 ⊕ number (pos 1) ⊗ var 2) refl

  on_second : IsBetween near_node v g
  on_second = record {
    total = dot v f g;
    near = many *ℤ dot v f g -ℤ dot v f f;
    far = dot v f f;
    positive = along;
    near_sign = subst (λ (z : ℤ). pos 0 ≤ℤ z)
        (same_value (dot v f f ∷ dot v f g ∷ []) (var 0 ⊗ (var 1 ⊖ number (pos 1)) ⊕ var 1) ((var 0 ⊕ number (pos 1)) ⊗ var 1 ⊖ var 0) refl)
        (sum (mul_not_negative (le_from_lt long) (one_less along)) along);
    far_sign = le_from_lt long;
    under = same_value (dot v f f ∷ dot v f g ∷ []) (var 1 ⊗ (var 0 ⊕ number (pos 1))) (((var 0 ⊕ number (pos 1)) ⊗ var 1 ⊖ var 0) ⊕ var 0) refl;
    over_x =
        same_value (v.x ∷ v.y ∷ f.x ∷ f.y ∷ g.x ∷ g.y ∷ []) (inner_of ⊗ (many_of ⊗ x_of 0 ⊕ x_step 0 1))
        (((many_of ⊗ inner_of ⊖ square_of) ⊗ x_of 0 ⊕ square_of ⊗ x_of 2) ⊕ y_step 0 1 ⊗ cross 0 1 2) refl
        ∙ ap (λ (z : ℤ). ((many *ℤ dot v f g -ℤ dot v f f) *ℤ v.x +ℤ dot v f f *ℤ g.x) +ℤ (f.y -ℤ v.y) *ℤ z) line
        ∙ same_value (((many *ℤ dot v f g -ℤ dot v f f) *ℤ v.x +ℤ dot v f f *ℤ g.x) ∷ (f.y -ℤ v.y) ∷ []) (var 0 ⊕ var 1 ⊗ number (pos 0)) (var 0) refl;
    over_y =
        same_value (v.x ∷ v.y ∷ f.x ∷ f.y ∷ g.x ∷ g.y ∷ []) (inner_of ⊗ (many_of ⊗ y_of 0 ⊕ y_step 0 1))
        (((many_of ⊗ inner_of ⊖ square_of) ⊗ y_of 0 ⊕ square_of ⊗ y_of 2) ⊖ x_step 0 1 ⊗ cross 0 1 2) refl
        ∙ ap (λ (z : ℤ). ((many *ℤ dot v f g -ℤ dot v f f) *ℤ v.y +ℤ dot v f f *ℤ g.y) -ℤ (f.x -ℤ v.x) *ℤ z) line
        ∙ same_value (((many *ℤ dot v f g -ℤ dot v f f) *ℤ v.y +ℤ dot v f f *ℤ g.y) ∷ (f.x -ℤ v.x) ∷ []) (var 0 ⊖ var 1 ⊗ number (pos 0)) (var 0) refl;
  }
    where
      one_less : {x : ℤ} → pos 0 <ℤ x → pos 0 ≤ℤ (x -ℤ pos 1)
      one_less h = omega (arith, ints)

      sum : {x y : ℤ} → pos 0 ≤ℤ x → pos 0 <ℤ y → pos 0 ≤ℤ (x +ℤ y)
      sum h k = omega (arith, ints)

  -- it is on both segments
  on_joined : (h : Point) → IsBetween near_node v h → (s : Seg) → Joins s v h → is_on near_node s ≡ true
  on_joined h between s (inl j) =
      subst (λ (u : Point). is_on near_node (record { a = u; b = s.b }) ≡ true) (sym j.0)
      (subst (λ (u : Point). is_on near_node (record { a = v; b = u }) ≡ true) (sym j.1) (is_on_from near_node v h between))
  on_joined h between s (inr j) =
      subst (λ (u : Point). is_on near_node (record { a = u; b = s.b }) ≡ true) (sym j.0)
      (subst (λ (u : Point). is_on near_node (record { a = h; b = u }) ≡ true) (sym j.1) (is_on_from near_node h v (between_turned near_node v h between)))

  -- and at no end of the first
  not_at_node : is_at near_node v ≡ true → ⊥
  not_at_node h =
      let parts = and_parts (int_eq near_node.nx (many *ℤ v.x)) (int_eq near_node.ny (many *ℤ v.y)) h in
      far (point_same v f (same many v.x f.x ((Decides-int_eq near_node.nx (many *ℤ v.x)).0 parts.0)) (same many v.y f.y ((Decides-int_eq near_node.ny (many *ℤ v.y)).0 parts.1)))
    where
      level : (z x y : ℤ) → z +ℤ (y -ℤ x) ≡ z → x ≡ y
      level z x y e = omega (arith, ints)

      same : (m x y : ℤ) → m *ℤ x +ℤ (y -ℤ x) ≡ m *ℤ x → x ≡ y
      same m x y e = level (m *ℤ x) x y e

  not_at_far : is_at near_node f ≡ true → ⊥
  not_at_far h =
      let parts = and_parts (int_eq near_node.nx (many *ℤ f.x)) (int_eq near_node.ny (many *ℤ f.y)) h in
      far (point_same v f (same v.x f.x ((Decides-int_eq near_node.nx (many *ℤ f.x)).0 parts.0)) (same v.y f.y ((Decides-int_eq near_node.ny (many *ℤ f.y)).0 parts.1)))
    where
      zero : (z w : ℤ) → z ≡ w → w -ℤ z ≡ pos 0
      zero z w e = omega (arith, ints)

      same : (x y : ℤ) → many *ℤ x +ℤ (y -ℤ x) ≡ many *ℤ y → x ≡ y
      same x y e = same_from_sub x y (zero_from_mul_left (dot v f f) (λ i. apart_from_lt long (sym i))
          (same_value (dot v f f ∷ x ∷ y ∷ []) (var 0 ⊗ (var 2 ⊖ var 1)) ((var 0 ⊕ number (pos 1)) ⊗ var 2 ⊖ ((var 0 ⊕ number (pos 1)) ⊗ var 1 ⊕ (var 2 ⊖ var 1))) refl
          ∙ zero _ _ e))

  -- so the segments are not apart
  pub one_direction : (s t : LabelledSegment) → AreApart s t → Joins s.segment v f → Joins t.segment v g → ⊥
  one_direction s t apart j k =
      elim (or_cases (((shared_ends s t).aa || (shared_ends s t).ab) && is_at near_node s.segment.a) (((shared_ends s t).ba || (shared_ends s t).bb) && is_at near_node s.segment.b)
      (permitted_common s t apart near_node (more long) (on_joined f on_first s.segment j) (on_joined g on_second t.segment k))) [
        | inl h ↦ at_end s.segment.a (and_parts _ (is_at near_node s.segment.a) h).1 (of_first j)
        | inr h ↦ at_end s.segment.b (and_parts _ (is_at near_node s.segment.b) h).1 (of_last j)
      ]
    where
      at_end : (u : Point) → is_at near_node u ≡ true → (u ≡ v) ⊎ (u ≡ f) → ⊥
      at_end u h (inl e) = not_at_node (subst (λ (w : Point). is_at near_node w ≡ true) e h)
      at_end u h (inr e) = not_at_far (subst (λ (w : Point). is_at near_node w ≡ true) e h)

      of_first : Joins s.segment v f → (s.segment.a ≡ v) ⊎ (s.segment.a ≡ f)
      of_first (inl i) = inl i.0
      of_first (inr i) = inr i.0

      of_last : Joins s.segment v f → (s.segment.b ≡ v) ⊎ (s.segment.b ≡ f)
      of_last (inl i) = inr i.1
      of_last (inr i) = inl i.1

-- two spokes of one node stand in one order or the other
two_decided : (v : Point) (s t : LabelledSegment) → AreApart s t → (p q : Spoke) → GoesAlong s v p → GoesAlong t v q → IsDecided v p q
two_decided v s t apart p q x y = either (turns_before v p.toward q.toward) (turns_before v q.toward p.toward) (λ i k.
    let tied = turns_tied v p.toward q.toward i k in
    one_direction v p.toward q.toward x.away y.away tied.0
    (same_from_le (int_lt-false (pos 0) (cross_of v p.toward q.toward) tied.1.0) (back (cross_turned v p.toward q.toward) (int_lt-false (pos 0) (cross_of v q.toward p.toward) tied.1.1)))
    s t apart x.joins y.joins)
  where
    back : {x y : ℤ} → x ≡ neg_ℤ y → y ≤ℤ pos 0 → pos 0 ≤ℤ x
    back e h = omega (arith, ints)

    either : (b c : Bool) → (b ≡ false → c ≡ false → ⊥) → (b || c) ≡ true
    either true c h = refl
    either false true h = refl
    either false false h = absurd (h refl refl)

-- ---- all spokes of one node

-- a segment has two spokes at different points
own_pairs : (v : Point) (s : LabelledSegment) → s.segment.a ≢ s.segment.b → AllPairs (IsDecided v) (spokes_of v s)
own_pairs v s apart =
    AllPairs-append (IsDecided v) (at_first s v s.starts) (at_last s v s.ends)
    (lone (s.starts && same_point s.segment.a v) (first_spoke s)) (lone (s.ends && same_point s.segment.b v) (last_spoke s))
    (of_end v s.segment.a s.starts (first_spoke s) (λ p. All (IsDecided v p) (at_last s v s.ends)) (λ b e.
    of_end v s.segment.b s.ends (last_spoke s) (IsDecided v (first_spoke s)) (λ c f. absurd (apart (e ∙ sym f)))))
  where
    lone : (b : Bool) (q : Spoke) → AllPairs (IsDecided v) (if b then q ∷ [] else [])
    lone true q = AllPairs-cons (IsDecided v) q [] (All-nil (IsDecided v q)) (AllPairs-nil (IsDecided v))
    lone false q = AllPairs-nil (IsDecided v)

abbrev IsLong : LabelledSegment → Type 0
IsLong s = s.segment.a ≢ s.segment.b

pairs_decided : (v : Point) (ss : List LabelledSegment) → All IsLong ss → AllPairs AreApart ss → AllPairs (IsDecided v) (flat_map (spokes_of v) ss)
pairs_decided v [] differ apart = AllPairs-nil (IsDecided v)
pairs_decided v (s ∷ ss) differ apart =
    let own = All-head IsLong s ss differ in
    let later = All-tail IsLong s ss differ in
    AllPairs-append (IsDecided v) (spokes_of v s) (flat_map (spokes_of v) ss) (own_pairs v s own) (pairs_decided v ss later (AllPairs-tail AreApart s ss apart))
    (All-weaker (GoesAlong s v) (λ p. All (IsDecided v p) (flat_map (spokes_of v) ss)) (λ p along.
    All-flat_map (IsDecided v p) (spokes_of v) ss (λ k d l.
    let t = get_or ss k d in
    All-weaker (GoesAlong t v) (IsDecided v p) (λ q other. two_decided v s t (AllPairs-head AreApart s ss apart k d l) p q along other) (spokes_of v t)
    (all_along v t (later k d l))))
    (spokes_of v s) (all_along v s own))

-- ---- of sound edges

row_long : (key l r place : ℕ) (points : List Point) → no_repeat points ≡ true → All IsLong (path_segments key l r place points)
row_long key l r place [] h = All-nil IsLong
row_long key l r place (a ∷ []) h = All-nil IsLong
row_long key l r place (a ∷ b ∷ points) h =
    All-cons IsLong _ (path_segments key l r (place + 1) (b ∷ points)) (different a b points h)
    (row_long key l r (place + 1) (b ∷ points) (no_repeat_rest a (b ∷ points) h))

edges_long : (es : List Edge) → All (λ e. no_repeat e.points ≡ true) es → All IsLong (edge_segments es)
edges_long [] h = All-nil IsLong
edges_long (e ∷ es) h =
    All-append IsLong (path_segments e.key e.left e.right 0 e.points) (edge_segments es)
    (row_long e.key e.left e.right 0 e.points (All-head (λ (f : Edge). no_repeat f.points ≡ true) e es h))
    (edges_long es (All-tail (λ (f : Edge). no_repeat f.points ≡ true) e es h))

-- the spokes of sound edges at a node
abbrev pub all_spokes : Point → List Edge → List Spoke
all_spokes v es = flat_map (spokes_of v) (edge_segments es)

-- stand in one order or the other, each two of them
pub spokes_decided : (es : List Edge) → AreSound es → (v : Point) → AllPairs (IsDecided v) (all_spokes v es)
spokes_decided es sound v = pairs_decided v (edge_segments es) (edges_long es sound.steps) sound.apart

-- and leave the node
pub spokes_leave : (es : List Edge) → AreSound es → (v : Point) → All (λ q. v ≢ q.toward) (all_spokes v es)
spokes_leave es sound v = All-flat_map (λ (q : Spoke). v ≢ q.toward) (spokes_of v) (edge_segments es) (λ k d l.
    let s = get_or (edge_segments es) k d in
    All-weaker (GoesAlong s v) (λ (q : Spoke). v ≢ q.toward) (λ q along. along.away) (spokes_of v s) (all_along v s (edges_long es sound.steps k d l)))
