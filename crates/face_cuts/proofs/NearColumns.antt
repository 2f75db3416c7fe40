-- The segments that cross the line of a probe above it are among those whose abscissas the line passes.
use Rattle.std.proofs.Common.{◌≡◌, ℕ, suc, ◌+◌, ◌<◌, Bool, true, false, ◌&&◌, ◌||◌, cond, ℤ, int_lt, int_le, List, [], ◌∷◌, length, map, get_or, All, refl, sym, ap, ap₂, ◌∙◌, subst, arith}
use Rattle.std.specs.Prelude.{count_by, slice_index_or}
use Rattle.std.specs.Int.{int_min, int_max}
use Rattle.std.proofs.lemmas.Int.{ints}
use Rattle.std.proofs.lemmas.List.{get_or-map, get_or_default}
use Rattle.std.proofs.lemmas.List.Elements.{All-nil, All-cons, All-append}
use Rattle.lemmas.specs.Parity.{is_odd}
use Rattle.lemmas.proofs.Counts.{count_by-cons}
use Rattle.lemmas.proofs.Members.{All-flat_map}
use Rattle.tgap_model.specs.declared.geometry.Point.{Point}
use Rattle.tgap_model.specs.declared.base.BaseArc.{BaseArc}
use Rattle.tgap_model.specs.Bounds.{HasNearEnds}
use Rattle.tgap_model.specs.declared.geometry.Seg.{Seg}
use Rattle.tgap_model.specs.declared.geometry.Window.{Window}
use Rattle.tgap_model.specs.Segment.{crosses, is_higher, line_after}
use Rattle.grid_index.specs.Boxes.{meets}
use Rattle.grid_index.specs.Near.{boxes_near, near_boxes, cons_if}
use Rattle.ring_walk.specs.declared.side.Side.{Side}
use Rattle.ring_walk.specs.declared.side.Way.{Way}
use Rattle.ring_walk.specs.declared.side.Way.TheVariants.{Along}
use Rattle.ring_walk.specs.Areas.{are_round, is_over, line_of, points_by, points_of, ring_segments, segments_of}
use Rattle.ring_walk.specs.Spans.{IsSide}
use Rattle.ring_probe.specs.Rows.{IsLine}
use Rattle.ring_probe.proofs.RowSegments.{crosses_after}
use Rattle.ring_probe.proofs.Probes.{length-segments, near_ends}
use Rattle.face_cuts.specs.Cuts.{lines_of, new_ring}
use Rattle.face_cuts.specs.Columns.{span_box, line_box}
use Rattle.face_cuts.proofs.Cases.{by_test}

-- a segment whose abscissas the line does not pass does not cross it
crosses_none : (v : ℤ) (t : Seg) → (int_le v (int_max t.a.x t.b.x) && int_le (int_min t.a.x t.b.x) v) ≡ false → crosses (line_after v) t ≡ false
crosses_none v t apart = sym (crosses_after v t (int_le t.a.x v && int_lt v t.b.x) (int_le t.b.x v && int_lt v t.a.x) refl refl) ∙ outside v t.a.x t.b.x apart
  where
    outside : (v a b : ℤ) → (int_le v (int_max a b) && int_le (int_min a b) v) ≡ false → ((int_le a v && int_lt v b) || (int_le b v && int_lt v a)) ≡ false
    outside v a b apart = grind (arith, ints)

not_over : (s t : Seg) → meets (line_box s) (span_box t) ≡ false → is_over s t ≡ false
not_over s t apart =
    ap (λ (b : Bool). b && is_higher (line_of s) t s) (crosses_none (int_min s.a.x s.b.x) t (sym (both (int_le (int_min s.a.x s.b.x) (int_max t.a.x t.b.x) && int_le (int_min t.a.x t.b.x) (int_min s.a.x s.b.x))) ∙ apart))
  where
    both : (b : Bool) → (b && true) ≡ b
    both true = refl
    both false = refl

-- the segments of a row from a place on
module _ (s d : Seg) (all : List Seg) where
  abbrev over : ℕ → Bool
  over place = is_over s (get_or all place d)

  count_near : (i : ℕ) (rest : List Seg) → ((k : ℕ) → k < length rest → get_or all (i + k) d ≡ get_or rest k d) → count_by over (boxes_near (line_box s) i (map span_box rest)) ≡ count_by (is_over s) rest
  count_near i [] h = refl
  count_near i (t ∷ rest) h =
      let later = boxes_near (line_box s) (i + 1) (map span_box rest) in
      let same : count_by over later ≡ count_by (is_over s) rest = count_near (i + 1) rest (λ k l. let e : i + 1 + k ≡ i + suc k = omega arith in ap (λ j. get_or all j d) e ∙ h (suc k) (omega (arith, l))) in
      let first : i ≡ i + 0 = omega arith in
      let here : get_or all i d ≡ t = ap (λ j. get_or all j d) first ∙ h 0 (omega arith) in
      by_test (meets (line_box s) (span_box t))
      (λ e.
      ap (λ b. count_by over (cons_if b i later)) e ∙ count_by-cons over i later
      ∙ ap₂ (λ (b : Bool) (n : ℕ). cond b 1 0 + n) (ap (is_over s) here) same ∙ sym (count_by-cons (is_over s) t rest))
      (λ e.
      ap (λ b. count_by over (cons_if b i later)) e ∙ same
      ∙ sym (count_by-cons (is_over s) t rest ∙ ap (λ b. cond b 1 0 + count_by (is_over s) rest) (not_over s t e) ∙ zero_first (count_by (is_over s) rest)))
    where
      zero_first : (n : ℕ) → 0 + n ≡ n
      zero_first n = omega arith

  pub near_round : is_odd (count_by over (near_boxes (line_box s) (map span_box all))) ≡ are_round s all
  near_round = ap is_odd (count_near 0 all (λ k l. let e : 0 + k ≡ k = omega arith in ap (λ j. get_or all j d) e))

-- the places that are found are places of segments
pub near_inside : (area : Window) (i : ℕ) (boxes : List Window) (n : ℕ) → i + length boxes ≡ n → All (λ place. place < n) (boxes_near area i boxes)
near_inside area i [] n e = All-nil (λ place. place < n)
near_inside area i (b ∷ boxes) n e =
    let rest = near_inside area (i + 1) boxes n (omega (arith, e)) in
    by (meets area b) rest
  where
    by : (t : Bool) → All (λ place. place < n) (boxes_near area (i + 1) boxes) → All (λ place. place < n) (cons_if t i (boxes_near area (i + 1) boxes))
    by true rest = All-cons (λ place. place < n) i (boxes_near area (i + 1) boxes) (omega (arith, e)) rest
    by false rest = rest

-- the segments of a new ring are within the limits
row_near : (way : Way) (points : List Point) → IsLine points → All HasNearEnds (segments_of (points_by way points))
row_near way points h = λ k d l.
    let row = segments_of (points_by way points) in
    near_ends way points k (get_or row k d) h.near (omega (arith, l, length-segments way points)) (get_or_default row k d (get_or row k d) l)

pub ring_near : (arcs : List BaseArc) (points : List Point) (walk : List Side) → All (λ a. IsLine a.points) arcs → IsLine points → All (IsSide (length arcs)) walk → All HasNearEnds (new_ring (lines_of arcs) points walk)
ring_near arcs points walk lines line within =
    All-append HasNearEnds (segments_of points) (ring_segments (lines_of arcs) walk) (row_near Along points line)
    (All-flat_map HasNearEnds (λ s. segments_of (points_of (lines_of arcs) s)) walk (λ k d l.
    let s = get_or walk k d in
    let a : BaseArc = record { left = 0; right = 0; points = [] } in
    row_near s.way (slice_index_or (lines_of arcs) s.span [])
    (subst IsLine (sym (get_or-map (λ (b : BaseArc). b.points) arcs s.span a [] (within k d l))) (lines s.span a (within k d l)))))
