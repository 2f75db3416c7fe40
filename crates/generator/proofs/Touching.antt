-- Two segments that have no point in common but an end: a level and an upright one that share it, and two of which one lies before the
-- other, or below it, up to that end. Where it is an end of both arcs, or the vertex between them, they are apart.
use Rattle.std.proofs.Common.{◌≡◌, inl, inr, ℕ, ◌<◌, Bool, ◌||◌, ◌&&◌, true, ℤ, pos, negsuc, neg_ℤ, ◌+ℤ◌, ◌-ℤ◌, ◌*ℤ◌, ◌<ℤ◌, ◌≤ℤ◌, [], ◌∷◌, refl, sym, ◌∙◌, true≢false, arith}
use Rattle.std.proofs.lemmas.Int.{ints}
use Rattle.std.proofs.lemmas.Bool.{and_from, or_left, or_right}
use Rattle.lemmas.proofs.Polynomials.{same_value, var, number, minus, ◌⊕◌, ◌⊖◌, ◌⊗◌}
use Rattle.lemmas.proofs.Signs.{positive_by, zero_by, le_from_lt, mul_le_left}
use Rattle.lemmas.proofs.Products.{not_positive_cases}
use Rattle.tgap_model.specs.declared.geometry.Point.{Point}
use Rattle.tgap_model.specs.declared.geometry.Fraction.{Fraction}
use Rattle.tgap_model.specs.declared.geometry.Seg.{Seg}
use Rattle.tgap_model.specs.declared.segment.LabelledSegment.{LabelledSegment}
use Rattle.tgap_model.specs.Base.{same_point}
use Rattle.tgap_model.specs.Segment.{is_on, is_at, turn, run, rise, AreDisjoint}
use Rattle.tgap_model.specs.Partition.{AreApart, shared_ends, follows}
use Rattle.tgap_model.proofs.Points.{same_point-from}
use Rattle.grid_geo.proofs.Places.{x_gap, y_gap, on_facts, at_from_facts}
use Rattle.grid_geo.proofs.Lines.{IsOnLine, gaps_on_line}
use Rattle.grid_geo.proofs.Disjoint.{none_left, none_below, none_turned}
use Rattle.generator.proofs.Layouts.{IsFlat, IsSteep, IsIn}

-- no point but this one is on both
abbrev pub MeetAt : Point → Seg → Seg → Type 0
MeetAt v s t = (p : Fraction) → pos 0 <ℤ p.d → is_on p s ≡ true → is_on p t ≡ true → is_at p v ≡ true

-- ---- a level and an upright segment

-- the upright one turns to the left of the level one
pub turn_positive : (s t : Seg) → IsFlat s → IsSteep t → pos 0 <ℤ turn s t
turn_positive s t f g = positive_by {m = run s +ℤ rise s} {n = run s -ℤ rise s} {k = pos 2} {e = rise t -ℤ run t} {f = rise t +ℤ run t} {g = turn s t}
    f.rising f.falling (omega (arith, ints)) g.leftwards g.rightwards
    (same_value (run s ∷ rise s ∷ run t ∷ rise t ∷ [])
    ((var 0 ⊕ var 1) ⊗ (var 3 ⊖ var 2) ⊕ (var 0 ⊖ var 1) ⊗ (var 3 ⊕ var 2)) (number (pos 2) ⊗ (var 0 ⊗ var 3 ⊖ var 1 ⊗ var 2)) refl)

-- two lines that turn have one point in common
pub meet_once : (s t : Seg) (v : Point) → IsOnLine s v → IsOnLine t v → pos 0 <ℤ turn s t → MeetAt v s t
meet_once s t v a b positive p d h k =
    let e = gaps_on_line s p v (on_facts p s h).line a in
    let f = gaps_on_line t p v (on_facts p t k).line b in
    at_from_facts p v (record {
      x = zero_by (run t) (neg_ℤ (run s)) positive e f
          (same_value (run s ∷ rise s ∷ run t ∷ rise t ∷ x_gap p v ∷ y_gap p v ∷ [])
          (var 2 ⊗ (var 0 ⊗ var 5 ⊖ var 1 ⊗ var 4) ⊕ minus (var 0) ⊗ (var 2 ⊗ var 5 ⊖ var 3 ⊗ var 4)) ((var 0 ⊗ var 3 ⊖ var 1 ⊗ var 2) ⊗ var 4) refl);
      y = zero_by (rise t) (neg_ℤ (rise s)) positive e f
          (same_value (run s ∷ rise s ∷ run t ∷ rise t ∷ x_gap p v ∷ y_gap p v ∷ [])
          (var 3 ⊗ (var 0 ⊗ var 5 ⊖ var 1 ⊗ var 4) ⊕ minus (var 1) ⊗ (var 2 ⊗ var 5 ⊖ var 3 ⊗ var 4)) ((var 0 ⊗ var 3 ⊖ var 1 ⊗ var 2) ⊗ var 5) refl);
    })

-- ---- two segments of which one ends where the other begins

module _ (n d a b v : ℤ) (positive : pos 0 <ℤ d) (between : ((n -ℤ d *ℤ a) *ℤ (n -ℤ d *ℤ b)) ≤ℤ pos 0) where
  -- a number between two others is no greater than what neither of them is greater than, and no less than what neither is less than
  no_farther : a ≤ℤ v → b ≤ℤ v → n ≤ℤ (d *ℤ v)
  no_farther h k =
      let at_a : (d *ℤ a) ≤ℤ (d *ℤ v) = mul_le_left (le_from_lt positive) h in
      let at_b : (d *ℤ b) ≤ℤ (d *ℤ v) = mul_le_left (le_from_lt positive) k in
      elim (not_positive_cases (n -ℤ d *ℤ a) (n -ℤ d *ℤ b) between) [ inl e ↦ let f = e.0 in omega (arith, ints) | inr e ↦ let f = e.1 in omega (arith, ints) ]

  no_nearer : v ≤ℤ a → v ≤ℤ b → (d *ℤ v) ≤ℤ n
  no_nearer h k =
      let at_a : (d *ℤ v) ≤ℤ (d *ℤ a) = mul_le_left (le_from_lt positive) h in
      let at_b : (d *ℤ v) ≤ℤ (d *ℤ b) = mul_le_left (le_from_lt positive) k in
      elim (not_positive_cases (n -ℤ d *ℤ a) (n -ℤ d *ℤ b) between) [ inl e ↦ let f = e.1 in omega (arith, ints) | inr e ↦ let f = e.0 in omega (arith, ints) ]

-- the first one up to v, and the second one from there on
pub meet_beside : (s t : Seg) (v : Point) → IsOnLine s v → IsFlat s → s.a.x ≤ℤ v.x → s.b.x ≤ℤ v.x → v.x ≤ℤ t.a.x → v.x ≤ℤ t.b.x → MeetAt v s t
meet_beside s t v on flat sa sb ta tb p d h k =
    let f = on_facts p s h in
    let g = on_facts p t k in
    let up = no_farther p.nx p.d s.a.x s.b.x v.x d f.x sa sb in
    let down = no_nearer p.nx p.d t.a.x t.b.x v.x d g.x ta tb in
    let here : x_gap p v ≡ pos 0 = omega (arith, ints) in
    let right = flat.rising in let left = flat.falling in
    let runs : pos 0 <ℤ run s = omega (arith, ints) in
    at_from_facts p v (record {
      x = here;
      y = zero_by (pos 1) (rise s) runs (gaps_on_line s p v f.line on) here
          (same_value (run s ∷ rise s ∷ x_gap p v ∷ y_gap p v ∷ []) (number (pos 1) ⊗ (var 0 ⊗ var 3 ⊖ var 1 ⊗ var 2) ⊕ var 1 ⊗ var 2) (var 0 ⊗ var 3) refl);
    })

pub meet_stacked : (s t : Seg) (v : Point) → IsOnLine s v → IsSteep s → s.a.y ≤ℤ v.y → s.b.y ≤ℤ v.y → v.y ≤ℤ t.a.y → v.y ≤ℤ t.b.y → MeetAt v s t
meet_stacked s t v on steep sa sb ta tb p d h k =
    let f = on_facts p s h in
    let g = on_facts p t k in
    let up = no_farther p.ny p.d s.a.y s.b.y v.y d f.y sa sb in
    let down = no_nearer p.ny p.d t.a.y t.b.y v.y d g.y ta tb in
    let here : y_gap p v ≡ pos 0 = omega (arith, ints) in
    let right = steep.rightwards in let left = steep.leftwards in
    let rises : pos 0 <ℤ rise s = omega (arith, ints) in
    at_from_facts p v (record {
      x = zero_by (negsuc 0) (run s) rises (gaps_on_line s p v f.line on) here
          (same_value (run s ∷ rise s ∷ x_gap p v ∷ y_gap p v ∷ []) (number (negsuc 0) ⊗ (var 0 ⊗ var 3 ⊖ var 1 ⊗ var 2) ⊕ var 0 ⊗ var 3) (var 1 ⊗ var 2) refl);
      y = here;
    })

-- ---- what is apart

pub apart_from_none : (s t : LabelledSegment) → AreDisjoint s.segment t.segment → AreApart s t
apart_from_none s t none p h = true≢false (sym h.second ∙ none p h.rational h.first)

-- what is allowed at the end
at_first_end : (s t : LabelledSegment) → ((shared_ends s t).aa || (shared_ends s t).ab) ≡ true → MeetAt s.segment.a s.segment t.segment → AreApart s t
at_first_end s t allowed meet p h = true≢false (
    sym (or_left ((allows && is_at p s.segment.a)) (others && is_at p s.segment.b) (and_from allows (is_at p s.segment.a) allowed (meet p h.rational h.first h.second)))
    ∙ h.forbidden)
  where
    allows : Bool
    allows = (shared_ends s t).aa || (shared_ends s t).ab

    others : Bool
    others = (shared_ends s t).ba || (shared_ends s t).bb

at_last_end : (s t : LabelledSegment) → ((shared_ends s t).ba || (shared_ends s t).bb) ≡ true → MeetAt s.segment.b s.segment t.segment → AreApart s t
at_last_end s t allowed meet p h = true≢false (
    sym (or_right ((others && is_at p s.segment.a)) (allows && is_at p s.segment.b) (and_from allows (is_at p s.segment.b) allowed (meet p h.rational h.first h.second)))
    ∙ h.forbidden)
  where
    others : Bool
    others = (shared_ends s t).aa || (shared_ends s t).ab

    allows : Bool
    allows = (shared_ends s t).ba || (shared_ends s t).bb

-- an end of both arcs
pub apart_at_firsts : (s t : LabelledSegment) → s.segment.a ≡ t.segment.a → s.starts ≡ true → t.starts ≡ true → MeetAt s.segment.a s.segment t.segment → AreApart s t
apart_at_firsts s t e f g = at_first_end s t (or_left _ _ (and_from _ t.starts (and_from _ s.starts (same_point-from s.segment.a t.segment.a e) f) g))

pub apart_at_first : (s t : LabelledSegment) → s.segment.a ≡ t.segment.b → s.starts ≡ true → t.ends ≡ true → MeetAt s.segment.a s.segment t.segment → AreApart s t
apart_at_first s t e f g = at_first_end s t (or_right (shared_ends s t).aa _
    (and_from (same_point s.segment.a t.segment.b) _ (same_point-from s.segment.a t.segment.b e) (or_left _ _ (and_from s.starts t.ends f g))))

pub apart_at_last : (s t : LabelledSegment) → s.segment.b ≡ t.segment.a → s.ends ≡ true → t.starts ≡ true → MeetAt s.segment.b s.segment t.segment → AreApart s t
apart_at_last s t e f g = at_last_end s t (or_left _ _
    (and_from (same_point s.segment.b t.segment.a) _ (same_point-from s.segment.b t.segment.a e) (or_left _ _ (and_from s.ends t.starts f g))))

pub apart_at_lasts : (s t : LabelledSegment) → s.segment.b ≡ t.segment.b → s.ends ≡ true → t.ends ≡ true → MeetAt s.segment.b s.segment t.segment → AreApart s t
apart_at_lasts s t e f g = at_last_end s t (or_right (shared_ends s t).ba _ (and_from _ t.ends (and_from _ s.ends (same_point-from s.segment.b t.segment.b e) f) g))

-- the vertex between two segments of an arc
pub apart_at_bend : (s t : LabelledSegment) → s.segment.b ≡ t.segment.a → follows s t ≡ true → MeetAt s.segment.b s.segment t.segment → AreApart s t
apart_at_bend s t e f = at_last_end s t (or_left _ _
    (and_from (same_point s.segment.b t.segment.a) _ (same_point-from s.segment.b t.segment.a e) (or_right (s.ends && t.starts) _ f)))

-- boxes of which one is left of the other, or below it
module _ (s t : LabelledSegment) {x0 x1 y0 y1 u0 u1 v0 v1 : ℕ} (f : IsIn s.segment x0 x1 y0 y1) (g : IsIn t.segment u0 u1 v0 v1) where
  pub apart_left : x1 < u0 → AreApart s t
  apart_left h = apart_from_none s t (none_left s.segment t.segment (omega (arith, ints, f.a_right, g.a_left)) (omega (arith, ints, f.a_right, g.b_left))
      (omega (arith, ints, f.b_right, g.a_left)) (omega (arith, ints, f.b_right, g.b_left)))

  pub apart_right : u1 < x0 → AreApart s t
  apart_right h = apart_from_none s t (none_turned s.segment t.segment (none_left t.segment s.segment (omega (arith, ints, f.a_left, g.a_right))
      (omega (arith, ints, f.b_left, g.a_right)) (omega (arith, ints, f.a_left, g.b_right)) (omega (arith, ints, f.b_left, g.b_right))))

  pub apart_below : y1 < v0 → AreApart s t
  apart_below h = apart_from_none s t (none_below s.segment t.segment (omega (arith, ints, f.a_above, g.a_below)) (omega (arith, ints, f.a_above, g.b_below))
      (omega (arith, ints, f.b_above, g.a_below)) (omega (arith, ints, f.b_above, g.b_below)))

  pub apart_above : v1 < y0 → AreApart s t
  apart_above h = apart_from_none s t (none_turned s.segment t.segment (none_below t.segment s.segment (omega (arith, ints, f.a_below, g.a_above))
      (omega (arith, ints, f.b_below, g.a_above)) (omega (arith, ints, f.a_below, g.b_above)) (omega (arith, ints, f.b_below, g.b_above))))
