-- Segments whose boxes do not meet do not meet, and neither do those of which the box of one lies beside the other, so the search may leave them out.
use Rattle.std.proofs.Common.{if◌then◌else◌, ◌≡◌, ◌⊎◌, inl, inr, ℕ, ◌<◌, ◌≤◌, nat_lt, Bool, true, false, ◌||◌, not, ℤ, pos, ◌-ℤ◌, ◌*ℤ◌, neg_ℤ, ◌<ℤ◌, ◌≤ℤ◌, int_le, int_lt, List, [], ◌∷◌, length, get_or, None, option_map, refl, sym, ap, ◌∙◌, subst, subst₂, arith, true≢false}
use Rattle.std.specs.Int.{int_min, int_max}
use Rattle.std.proofs.lemmas.Bool.{and_cases, and_parts, or_cases, or_from, not-false}
use Rattle.std.proofs.lemmas.Int.{ints, clamps}
use Rattle.std.proofs.lemmas.List.{get_or-map, length-map}
use Rattle.tgap_model.specs.declared.geometry.Fraction.{Fraction}
use Rattle.tgap_model.specs.declared.geometry.Point.{Point}
use Rattle.tgap_model.specs.declared.geometry.Window.{Window}
use Rattle.tgap_model.specs.declared.limits.TheConstants.{MAX_COORDINATE}
use Rattle.tgap_model.specs.declared.segment.LabelledSegment.{LabelledSegment}
use Rattle.tgap_model.specs.Base.{within}
use Rattle.tgap_model.specs.Segment.{AreDisjoint, is_on, cross_at}
use Rattle.tgap_model.specs.Partition.{is_proper, meeting_point}
use Rattle.tgap_model.proofs.Proper.{proper_parts}
use Rattle.lemmas.proofs.Polynomials.{same_value, var, number, ◌⊖◌, ◌⊗◌}
use Rattle.lemmas.proofs.Products.{not_positive_cases}
use Rattle.lemmas.proofs.Signs.{Decides-int_le, int_le-false, int_lt-from_le, by_order, le_from_lt, le_le_trans, le_from_sub, mul_le_left, apart_from_lt}
use Rattle.grid_geo.proofs.Disjoint.{none_left, none_below, none_turned}
use Rattle.grid_geo.proofs.Places.{on_facts}
use Rattle.grid_index.specs.Boxes.{overlap}
use Rattle.grid_index.specs.Boxes.{meets as boxes_meet}
use Rattle.grid_index.specs.Near.{IsNextHit}
use Rattle.planar_apart.specs.declared.meeting.Meeting.{Meeting}
use Rattle.planar_apart.specs.declared.row.NumberedSegment.{NumberedSegment}
use Rattle.planar_apart.specs.Meetings.{box_of}
use Rattle.planar_apart.specs.Rows.{row_box, ordered_meeting, meeting_of, IsRow}
use Rattle.planar_apart.specs.Crossing.{limited, are_left, is_void, is_beside, is_slanting, is_missed, crosses, AtCorners, IsLeft, corners_left, left_within}
use Rattle.planar_apart.proofs.Pairs.{no_meeting}

-- ---- segments with boxes apart

-- both coordinates of one pair are less than both of the other
abbrev LieBefore : ℤ → ℤ → ℤ → ℤ → Type 0
LieBefore a b c d = (a <ℤ c) × (a <ℤ d) × (b <ℤ c) × (b <ℤ d)

before_range : (a b c d : ℤ) → int_max a b <ℤ int_min c d → LieBefore a b c d
before_range a b c d h = (omega (arith, ints, clamps), omega (arith, ints, clamps), omega (arith, ints, clamps), omega (arith, ints, clamps))

-- of two ranges without a common number one lies before the other
apart_ranges : (a b c d : ℤ) → overlap (int_min a b) (int_max a b) (int_min c d) (int_max c d) ≡ false → LieBefore a b c d ⊎ LieBefore c d a b
apart_ranges a b c d e =
    elim (and_cases (int_le (int_min a b) (int_max c d)) (int_le (int_min c d) (int_max a b)) e) [
      | inl f ↦ inr (before_range c d a b (int_le-false (int_min a b) (int_max c d) f))
      | inr f ↦ inl (before_range a b c d (int_le-false (int_min c d) (int_max a b) f))
    ]

-- segments whose boxes do not meet have no point in common
boxes_apart : (s t : LabelledSegment) → boxes_meet (box_of s) (box_of t) ≡ false → AreDisjoint s.segment t.segment
boxes_apart s t e = by (and_cases (overlap (box_of s).x0 (box_of s).x1 (box_of t).x0 (box_of t).x1) (overlap (box_of s).y0 (box_of s).y1 (box_of t).y0 (box_of t).y1) e)
  where
    by : (overlap (box_of s).x0 (box_of s).x1 (box_of t).x0 (box_of t).x1 ≡ false) ⊎ (overlap (box_of s).y0 (box_of s).y1 (box_of t).y0 (box_of t).y1 ≡ false) → AreDisjoint s.segment t.segment
    by (inl x) = elim (apart_ranges s.segment.a.x s.segment.b.x t.segment.a.x t.segment.b.x x) [
      | inl h ↦ none_left s.segment t.segment h.0 h.1 h.2 h.3
      | inr h ↦ none_turned s.segment t.segment (none_left t.segment s.segment h.0 h.1 h.2 h.3)
    ]
    by (inr y) = elim (apart_ranges s.segment.a.y s.segment.b.y t.segment.a.y t.segment.b.y y) [
      | inl h ↦ none_below s.segment t.segment h.0 h.1 h.2 h.3
      | inr h ↦ none_turned s.segment t.segment (none_below t.segment s.segment h.0 h.1 h.2 h.3)
    ]

no_ordered : (a b : NumberedSegment) → meeting_point a.segment b.segment ≡ None → ordered_meeting a b ≡ None
no_ordered a b e = ap (option_map at) e
  where
    at : Fraction → Meeting
    at p = record { i = a.number; j = b.number; at = p }

-- two of a row have no meeting where they have none in either order
pub no_pair : (a b : NumberedSegment) → meeting_point a.segment b.segment ≡ None → meeting_point b.segment a.segment ≡ None → meeting_of a b ≡ None
no_pair a b one other = by (nat_lt a.number b.number)
  where
    by : (c : Bool) → (if c then ordered_meeting a b else ordered_meeting b a) ≡ None
    by true = no_ordered a b one
    by false = no_ordered b a other

-- a point of a segment lies in its box
between : (d u v n : ℤ) → pos 0 <ℤ d → ((n -ℤ d *ℤ u) *ℤ (n -ℤ d *ℤ v)) ≤ℤ pos 0 → ((d *ℤ int_min u v) ≤ℤ n) × (n ≤ℤ (d *ℤ int_max u v))
between d u v n rational h =
    let u_least = mul_le_left {c = d} (le_from_lt rational) (least_left u v) in
    let v_least = mul_le_left {c = d} (le_from_lt rational) (least_right u v) in
    let u_most = mul_le_left {c = d} (le_from_lt rational) (most_left u v) in
    let v_most = mul_le_left {c = d} (le_from_lt rational) (most_right u v) in
    elim (not_positive_cases (n -ℤ d *ℤ u) (n -ℤ d *ℤ v) h) [
      | inl c ↦ (le_le_trans v_least (le_from_sub (d *ℤ v) n c.1), le_le_trans (le_of_gap n (d *ℤ u) c.0) u_most)
      | inr c ↦ (le_le_trans u_least (le_from_sub (d *ℤ u) n c.0), le_le_trans (le_of_gap n (d *ℤ v) c.1) v_most)
    ]
  where
    least_left : (u v : ℤ) → int_min u v ≤ℤ u
    least_left u v = omega (arith, ints, clamps)

    least_right : (u v : ℤ) → int_min u v ≤ℤ v
    least_right u v = omega (arith, ints, clamps)

    most_left : (u v : ℤ) → u ≤ℤ int_max u v
    most_left u v = omega (arith, ints, clamps)

    most_right : (u v : ℤ) → v ≤ℤ int_max u v
    most_right u v = omega (arith, ints, clamps)

    le_of_gap : (m k : ℤ) → (m -ℤ k) ≤ℤ pos 0 → m ≤ℤ k
    le_of_gap m k f = omega (arith, ints, f)

-- of coordinates within the limits nothing is cut off
limited_near : (z : ℤ) → within (neg_ℤ MAX_COORDINATE) MAX_COORDINATE z ≡ true → limited z ≡ z
limited_near z h =
    let both = and_parts (int_le (neg_ℤ MAX_COORDINATE) z) (int_le z MAX_COORDINATE) h in
    inside ((Decides-int_le (neg_ℤ MAX_COORDINATE) z).0 both.0) ((Decides-int_le z MAX_COORDINATE).0 both.1)
  where
    inside : neg_ℤ MAX_COORDINATE ≤ℤ z → z ≤ℤ MAX_COORDINATE → limited z ≡ z
    inside low high = omega (arith, ints, clamps, low, high)

-- the box of a proper segment is within them
module _ (t : LabelledSegment) (proper : is_proper t ≡ true) where
  near_x : (z : ℤ) → (z ≡ t.segment.a.x) ⊎ (z ≡ t.segment.b.x) → limited z ≡ z
  near_x z (inl e) = limited_near z (ap (within (neg_ℤ MAX_COORDINATE) MAX_COORDINATE) e ∙ (and_parts _ _ (proper_parts t proper).first).0)
  near_x z (inr e) = limited_near z (ap (within (neg_ℤ MAX_COORDINATE) MAX_COORDINATE) e ∙ (and_parts _ _ (proper_parts t proper).second).0)

  near_y : (z : ℤ) → (z ≡ t.segment.a.y) ⊎ (z ≡ t.segment.b.y) → limited z ≡ z
  near_y z (inl e) = limited_near z (ap (within (neg_ℤ MAX_COORDINATE) MAX_COORDINATE) e ∙ (and_parts _ _ (proper_parts t proper).first).1)
  near_y z (inr e) = limited_near z (ap (within (neg_ℤ MAX_COORDINATE) MAX_COORDINATE) e ∙ (and_parts _ _ (proper_parts t proper).second).1)

one_of_min : (u v : ℤ) → (int_min u v ≡ u) ⊎ (int_min u v ≡ v)
one_of_min u v = by_order u v (λ h. inl (omega (arith, ints, clamps, h))) (λ h. inl (omega (arith, ints, clamps, h))) (λ h. inr (omega (arith, ints, clamps, h)))

one_of_max : (u v : ℤ) → (int_max u v ≡ u) ⊎ (int_max u v ≡ v)
one_of_max u v = by_order u v (λ h. inr (omega (arith, ints, clamps, h))) (λ h. inl (omega (arith, ints, clamps, h))) (λ h. inl (omega (arith, ints, clamps, h)))

-- a point of a line is one of the line in the other direction
other_way : (a b : Point) (p : Fraction) → cross_at a b p ≡ pos 0 → cross_at b a p ≡ pos 0
other_way a b p e =
    same_value (a.x ∷ a.y ∷ b.x ∷ b.y ∷ p.nx ∷ p.ny ∷ p.d ∷ [])
    ((var 0 ⊖ var 2) ⊗ (var 5 ⊖ var 6 ⊗ var 3) ⊖ (var 1 ⊖ var 3) ⊗ (var 4 ⊖ var 6 ⊗ var 2))
    (number (pos 0) ⊖ ((var 2 ⊖ var 0) ⊗ (var 5 ⊖ var 6 ⊗ var 1) ⊖ (var 3 ⊖ var 1) ⊗ (var 4 ⊖ var 6 ⊗ var 0))) refl
    ∙ ap (λ (z : ℤ). pos 0 -ℤ z) e

-- no point of a segment lies beside the line on which it lies, so a segment whose box lies beside another has no point in common with it
beside_apart : (s t : LabelledSegment) → is_proper t ≡ true → is_beside s.segment (box_of t) ≡ true → AreDisjoint s.segment t.segment
beside_apart s t proper e p rational on_s = by (is_on p t.segment) refl
  where
    w : Window
    w = box_of t

    same : AtCorners (λ u v. (limited u ≡ u) × (limited v ≡ v)) w.x0 w.y0 w.x1 w.y1
    same =
        let x0 = near_x t proper w.x0 (one_of_min t.segment.a.x t.segment.b.x) in
        let x1 = near_x t proper w.x1 (one_of_max t.segment.a.x t.segment.b.x) in
        let y0 = near_y t proper w.y0 (one_of_min t.segment.a.y t.segment.b.y) in
        let y1 = near_y t proper w.y1 (one_of_max t.segment.a.y t.segment.b.y) in
        ((x0, y0), (x1, y0), (x0, y1), (x1, y1))

    lefts : (a b : Point) → are_left a b w ≡ true → AtCorners (IsLeft a b) w.x0 w.y0 w.x1 w.y1
    lefts a b h =
        let c = corners_left a b w h in
        (there _ _ same.0 c.0, there _ _ same.1 c.1, there _ _ same.2 c.2, there _ _ same.3 c.3)
      where
        there : (u v : ℤ) → (limited u ≡ u) × (limited v ≡ v) → IsLeft a b (limited u) (limited v) → IsLeft a b u v
        there u v k = subst₂ (IsLeft a b) k.0 k.1

    wide : is_void w ≡ false
    wide = or_from (int_lt w.x1 w.x0) (int_lt w.y1 w.y0) (int_lt-from_le (in_order t.segment.a.x t.segment.b.x)) (int_lt-from_le (in_order t.segment.a.y t.segment.b.y))
      where
        in_order : (u v : ℤ) → int_min u v ≤ℤ int_max u v
        in_order u v = omega (arith, ints, clamps)

    by : (b : Bool) → is_on p t.segment ≡ b → b ≡ false
    by false on_t = refl
    by true on_t =
        let facts = on_facts p t.segment on_t in
        let line = (on_facts p s.segment on_s).line in
        let x = between p.d t.segment.a.x t.segment.b.x p.nx rational facts.x in
        let y = between p.d t.segment.a.y t.segment.b.y p.ny rational facts.y in
        let left = λ (a b : Point) (h : are_left a b w ≡ true) (on : cross_at a b p ≡ pos 0).
        apart_from_lt (left_within (b.x -ℤ a.x) (b.y -ℤ a.y) a.x a.y p.d p.nx p.ny w.x0 w.y0 w.x1 w.y1 rational x.0 x.1 y.0 y.1 (lefts a b h)) (sym on) in
        elim (or_cases (is_void w || are_left s.segment.a s.segment.b w) (are_left s.segment.b s.segment.a w) e) [
          | inl f ↦ elim (or_cases (is_void w) (are_left s.segment.a s.segment.b w) f) [
            | inl g ↦ absurd (true≢false (sym g ∙ wide))
            | inr g ↦ absurd (left s.segment.a s.segment.b g line)
          ]
          | inr f ↦ absurd (left s.segment.b s.segment.a f (other_way s.segment.a s.segment.b p line))
        ]

-- so those have none of which the first one's sight passes over the second
pub far_apart : (a b : NumberedSegment) → is_proper a.segment ≡ true → is_proper b.segment ≡ true → crosses (row_box a) a.segment.segment (row_box b) ≡ false → meeting_of a b ≡ None
far_apart a b first second e =
    no_pair a b (no_meeting a.segment b.segment first apart) (no_meeting b.segment a.segment second (none_turned b.segment.segment a.segment.segment apart))
  where
    apart : AreDisjoint a.segment.segment b.segment.segment
    apart = elim (and_cases (boxes_meet (row_box a) (row_box b)) (not (is_missed a.segment.segment (row_box b))) e) [
      | inl f ↦ boxes_apart a.segment b.segment f
      | inr f ↦ beside_apart a.segment b.segment second (and_parts (is_slanting a.segment.segment) (is_beside a.segment.segment (row_box b)) (not-false (is_missed a.segment.segment (row_box b)) f)).1
    ]

-- ---- places of a row that are passed

-- what the tree passes over has no meeting with the segment
pub passed : (row : List NumberedSegment) (boxes : List Window) (a : NumberedSegment) (from next : ℕ) → IsRow row boxes → is_proper a.segment ≡ true
    → IsNextHit (crosses (row_box a) a.segment.segment) boxes from next
    → (k : ℕ) (d : NumberedSegment) → from ≤ k → k < next → meeting_of a (get_or row k d) ≡ None
passed row boxes a from next r proper n k d after lt =
    let long : length boxes ≡ length row = ap length r.boxes_are ∙ length-map row row_box in
    let within : k < length row = omega (arith, lt, n.within, long) in
    let box : get_or boxes k (row_box d) ≡ row_box (get_or row k d) = ap (λ (bs : List Window). get_or bs k (row_box d)) r.boxes_are ∙ get_or-map row_box row k d (row_box d) within in
    far_apart a (get_or row k d) proper (r.proper k d within)
    (subst (λ (b : Window). crosses (row_box a) a.segment.segment b ≡ false) box (n.apart k (row_box d) after lt))
