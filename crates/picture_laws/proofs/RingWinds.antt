-- The rings of a face enclose the points inside it, and go round each of them once.
use Rattle.std.proofs.Common.{◌≡◌, ◌≢◌, ℕ, ◌+◌, ◌==◌, ◌&&◌, ◌||◌, Bool, true, false, cond, not, ℤ, pos, neg_ℤ, ◌+ℤ◌, ◌-ℤ◌, ◌<ℤ◌, List, [], ◌∷◌, map, filter, length, refl, sym, ap, ◌∙◌, true≢false, arith, count_by}
use Rattle.std.specs.List.{list_all}
use Rattle.std.proofs.lemmas.Int.{ints}
use Rattle.std.proofs.lemmas.Bool.{and_parts, eqb-true, eq-eqb, ne_eqb}
use Rattle.std.proofs.lemmas.List.{length-map}
use Rattle.std.proofs.lemmas.List.Elements.{All-weaker}
use Rattle.lemmas.specs.Parity.{is_odd, either_alone}
use Rattle.lemmas.proofs.Counts.{count_by-cons}
use Rattle.tgap_model.specs.declared.geometry.Fraction.{Fraction}
use Rattle.tgap_model.specs.declared.geometry.Seg.{Seg}
use Rattle.tgap_model.specs.declared.segment.LabelledSegment.{LabelledSegment}
use Rattle.tgap_model.specs.Base.{BaseMap}
use Rattle.tgap_model.specs.Segment.{line_through, crosses, goes_right, is_above, is_higher}
use Rattle.tgap_model.specs.Partition.{Sides, sides, stack, agree_from, edge_segments}
use Rattle.tgap_model.specs.Merged.{merged}
use Rattle.tgap_model.specs.Chains.{chains_at}
use Rattle.tgap_model.specs.Removals.{edge_of, removals_to}
use Rattle.tgap_model.specs.Slice.{slice}
use Rattle.map_laws.specs.Inside.{borders, crosses_ray, is_inside}
use Rattle.map_laws.proofs.Inside.{fronts, reached, above_front, inside_parity}
use Rattle.removal_laws.specs.InsideLaws.{is_over}
use Rattle.slice_laws.proofs.Mirrored.{one_direction, meets_ray_flip}
use Rattle.slice_laws.proofs.Paths.{flip}
use Rattle.step_laws.proofs.EachSlice.{slices_stay_partitions}
use Rattle.slice_read.specs.Ends.{chain_ends, slice_ends}
use Rattle.topo_laws.proofs.SliceSpans.{rings_have_one_face}
use Rattle.picture_laws.specs.FaceRings.{face_segments, winding_part, RingsCoverFaces, RingsWindOnce}
use Rattle.picture_laws.proofs.Sums.{int_sum, fold_is_sum, int_sum-agree, int_sum-same}
use Rattle.picture_laws.proofs.SameMembers.{int_sum-filter, int_sum-sort_by}
use Rattle.picture_laws.proofs.RingSums.{beside, rings_sum}

-- ---- counts as sums

abbrev pub one_if : Bool → ℤ
one_if b = cond b (pos 1) (pos 0)

pub count_is_sum : {A : Type 0} (q : A → Bool) (xs : List A) → int_sum (λ x. one_if (q x)) xs ≡ pos (count_by q xs)
count_is_sum q [] = refl
count_is_sum q (x ∷ xs) = by (q x) (count_by-cons q x xs) (count_is_sum q xs)
  where
    by : (b : Bool) → count_by q (x ∷ xs) ≡ cond b 1 0 + count_by q xs → int_sum (λ x. one_if (q x)) xs ≡ pos (count_by q xs)
        → one_if b +ℤ int_sum (λ x. one_if (q x)) xs ≡ pos (count_by q (x ∷ xs))
    by true e h = omega (arith, ints, e, h)
    by false e h = omega (arith, ints, e, h)

same_count : (a b : ℕ) → pos a ≡ pos b → a ≡ b
same_count a b e = omega (arith, ints, e)

-- a segment over a point, between two different faces, is in the rings of a face where it borders that face
beside_count : (p : Fraction) (f : ℕ) (s : Seg) (l r : ℕ) → (l == r) ≡ false → beside (λ s. one_if (is_over p s)) f s l r ≡ one_if (is_over p s && borders f l r)
beside_count p f s l r ne =
    ap (λ (b : Bool). cond (l == f) (one_if (is_over p s)) (pos 0) +ℤ cond (r == f) (one_if b) (pos 0)) (meets_ray_flip p s)
    ∙ by (is_over p s) (l == f) refl (r == f) refl
  where
    by : (o a : Bool) → (l == f) ≡ a → (b : Bool) → (r == f) ≡ b
        → cond a (one_if o) (pos 0) +ℤ cond b (one_if o) (pos 0) ≡ one_if (o && ((a && not b) || (b && not a)))
    by o true e true g = absurd (true≢false (sym (eq-eqb l r (eqb-true l f e ∙ sym (eqb-true r f g))) ∙ ne))
    by true true e false g = refl
    by false true e false g = refl
    by true false e true g = refl
    by false false e true g = refl
    by true false e false g = refl
    by false false e false g = refl

-- ---- how often segments go round a point

-- what the sides of a segment over a point add: the face below it is entered, and the one above it is left
abbrev step_part : ℕ → Sides → ℤ
step_part f s = one_if (s.lower == f) -ℤ one_if (s.upper == f)

beside_winding : (p : Fraction) (f : ℕ) (s : LabelledSegment)
    → beside (winding_part p) f s.segment s.left s.right ≡ cond (crosses (line_through p) s.segment && is_above s.segment p) (step_part f (sides s)) (pos 0)
beside_winding p f s =
    ap (λ (b : Bool). cond (s.left == f) (winding_part p s.segment) (pos 0) +ℤ cond (s.right == f) (cond b (cond (goes_right (flip s.segment)) (neg_ℤ (pos 1)) (pos 1)) (pos 0)) (pos 0))
    (meets_ray_flip p s.segment)
    ∙ by (crosses (line_through p) s.segment) refl (is_above s.segment p)
  where
    sides_by : Bool → Sides
    sides_by b = cond b (record { upper = s.left; lower = s.right }) (record { upper = s.right; lower = s.left })

    turn : (r : Bool) (a b : Bool)
        → cond a (cond r (neg_ℤ (pos 1)) (pos 1)) (pos 0) +ℤ cond b (cond (not r) (neg_ℤ (pos 1)) (pos 1)) (pos 0)
        ≡ cond r (one_if b -ℤ one_if a) (one_if a -ℤ one_if b)
    turn true true true = refl
    turn true true false = refl
    turn true false true = refl
    turn true false false = refl
    turn false true true = refl
    turn false true false = refl
    turn false false true = refl
    turn false false false = refl

    chosen : (r : Bool) → cond r (one_if (s.right == f) -ℤ one_if (s.left == f)) (one_if (s.left == f) -ℤ one_if (s.right == f)) ≡ step_part f (sides_by r)
    chosen true = refl
    chosen false = refl

    none : (a b : Bool) → cond a (pos 0) (pos 0) +ℤ cond b (pos 0) (pos 0) ≡ pos 0
    none true true = refl
    none true false = refl
    none false true = refl
    none false false = refl

    over : (c : Bool) → crosses (line_through p) s.segment ≡ true
        → cond (s.left == f) (cond c (cond (goes_right s.segment) (neg_ℤ (pos 1)) (pos 1)) (pos 0)) (pos 0)
        +ℤ cond (s.right == f) (cond c (cond (goes_right (flip s.segment)) (neg_ℤ (pos 1)) (pos 1)) (pos 0)) (pos 0)
        ≡ cond c (step_part f (sides s)) (pos 0)
    over true e =
        ap (λ (b : Bool). cond (s.left == f) (cond (goes_right s.segment) (neg_ℤ (pos 1)) (pos 1)) (pos 0) +ℤ cond (s.right == f) (cond b (neg_ℤ (pos 1)) (pos 1)) (pos 0))
        (one_direction (line_through p) s.segment e)
        ∙ turn (goes_right s.segment) (s.left == f) (s.right == f) ∙ chosen (goes_right s.segment)
    over false e = none (s.left == f) (s.right == f)

    by : (b : Bool) → crosses (line_through p) s.segment ≡ b → (c : Bool)
        → cond (s.left == f) (cond (b && c) (cond (goes_right s.segment) (neg_ℤ (pos 1)) (pos 1)) (pos 0)) (pos 0)
        +ℤ cond (s.right == f) (cond (b && c) (cond (goes_right (flip s.segment)) (neg_ℤ (pos 1)) (pos 1)) (pos 0)) (pos 0)
        ≡ cond (b && c) (step_part f (sides s)) (pos 0)
    by true e c = over c e
    by false e c = none (s.left == f) (s.right == f)

-- where none passes there is nothing
none_over : (t : LabelledSegment → Bool) (v : LabelledSegment → ℤ) (ss : List LabelledSegment) → list_all (λ y. not (t y)) ss ≡ true → int_sum (λ s. cond (t s) (v s) (pos 0)) ss ≡ pos 0
none_over t v [] h = refl
none_over t v (s ∷ ss) h = by (t s) (and_parts _ _ h).0 (none_over t v ss (and_parts _ _ h).1)
  where
    by : (b : Bool) → not b ≡ true → int_sum (λ s. cond (t s) (v s) (pos 0)) ss ≡ pos 0 → cond b (v s) (pos 0) +ℤ int_sum (λ s. cond (t s) (v s) (pos 0)) ss ≡ pos 0
    by true e rest = absurd (true≢false (sym e))
    by false e rest = omega (arith, ints, rest)

-- down the front of a stack that agrees, what is entered and not left is the label reached
wound : (t : LabelledSegment → Bool) (f u : ℕ) (ss : List LabelledSegment) → fronts t ss ≡ true → agree_from u (map sides ss) ≡ true
    → int_sum (λ s. cond (t s) (step_part f (sides s)) (pos 0)) ss ≡ one_if (reached t u ss == f) -ℤ one_if (u == f)
wound t f u [] k h = let z = one_if (u == f) in nothing z
  where
    nothing : (z : ℤ) → pos 0 ≡ z -ℤ z
    nothing z = omega (arith, ints)
wound t f u (s ∷ ss) k h =
    by (t s) k (λ front. wound t f (sides s).lower ss front (and_parts ((sides s).upper == u) (agree_from (sides s).lower (map sides ss)) h).1)
  where
    upper : (sides s).upper ≡ u
    upper = eqb-true (sides s).upper u (and_parts ((sides s).upper == u) (agree_from (sides s).lower (map sides ss)) h).0

    rest : ℤ
    rest = int_sum (λ s. cond (t s) (step_part f (sides s)) (pos 0)) ss

    through : (low up r here more : ℤ) → more ≡ r -ℤ low → up ≡ here → (low -ℤ up) +ℤ more ≡ r -ℤ here
    through low up r here more e g = omega (arith, ints, e, g)

    still : (z more : ℤ) → more ≡ pos 0 → pos 0 +ℤ more ≡ z -ℤ z
    still z more e = omega (arith, ints, e)

    by : (b : Bool) → cond b (fronts t ss) (list_all (λ y. not (t y)) ss) ≡ true
        → (fronts t ss ≡ true → rest ≡ one_if (reached t (sides s).lower ss == f) -ℤ one_if ((sides s).lower == f))
        → cond b (step_part f (sides s)) (pos 0) +ℤ rest ≡ one_if (cond b (reached t (sides s).lower ss) u == f) -ℤ one_if (u == f)
    by true e ih = through (one_if ((sides s).lower == f)) (one_if ((sides s).upper == f)) _ (one_if (u == f)) rest (ih e) (ap (λ (n : ℕ). one_if (n == f)) upper)
    by false e ih = still (one_if (u == f)) rest (none_over t (λ s. step_part f (sides s)) ss e)

-- so over a point of a planar partition
wound_over : (segments : List LabelledSegment) (p : Fraction) (f : ℕ) → pos 0 <ℤ p.d → f ≢ 0 → agree_from 0 (map sides (stack (line_through p) segments)) ≡ true
    → int_sum (λ s. beside (winding_part p) f s.segment s.left s.right) segments ≡ one_if (is_inside segments f p)
wound_over segments p f d n h =
    int_sum-same (λ s. beside (winding_part p) f s.segment s.left s.right) (λ s. cond (crossed s) (part s) (pos 0)) (λ s. beside_winding p f s ∙ nested (crossed s) (above s) (step_part f (sides s))) segments
    ∙ sym (int_sum-filter part crossed segments)
    ∙ sym (int_sum-sort_by part (λ s t. is_higher (line_through p) s.segment t.segment) (filter crossed segments))
    ∙ wound above f 0 (stack (line_through p) segments) (above_front segments p d) h
    ∙ less_none (one_if (label == f)) (0 == f) (ne_eqb 0 f (λ e. n (sym e)))
    ∙ ap one_if (sym (inside_parity segments p f d h ∙ ap (λ (b : Bool). either_alone b (label == f)) (ne_eqb 0 f (λ e. n (sym e)))))
  where
    crossed : LabelledSegment → Bool
    crossed s = crosses (line_through p) s.segment

    above : LabelledSegment → Bool
    above s = is_above s.segment p

    part : LabelledSegment → ℤ
    part s = cond (above s) (step_part f (sides s)) (pos 0)

    label : ℕ
    label = reached above 0 (stack (line_through p) segments)

    nested : (a b : Bool) (z : ℤ) → cond (a && b) z (pos 0) ≡ cond a (cond b z (pos 0)) (pos 0)
    nested true b z = refl
    nested false b z = refl

    less_none : (z : ℤ) (b : Bool) → b ≡ false → z -ℤ one_if b ≡ z
    less_none z true e = absurd (true≢false e)
    less_none z false e = omega (arith, ints)

-- ---- the laws

-- each edge of a slice has its ends
pub paired : (m : BaseMap) (k : ℕ) → length (slice_ends m k) ≡ length (slice m k).edges
unfolding slice slice_ends
paired m k = length-map (chains_at (merged m) k) (chain_ends m.arcs) ∙ sym (length-map (chains_at (merged m) k) (edge_of (merged m) k (removals_to (merged m) k)))

pub rings_cover_faces : RingsCoverFaces
unfolding is_inside
rings_cover_faces m base planar k l f p =
    let edges = (slice m k).edges in
    let rings = rings_sum (λ s. one_if (is_over p s)) f edges (slice_ends m k) (paired m k) (rings_have_one_face m base planar k l) in
    let partition = slices_stay_partitions m base planar k l in
    let counted = int_sum-agree (λ s. beside (λ s. one_if (is_over p s)) f s.segment s.left s.right) (λ s. one_if (crosses_ray p s && borders f s.left s.right)) (edge_segments edges)
    (All-weaker (λ s. (s.left == s.right) ≡ false) (λ s. beside (λ s. one_if (is_over p s)) f s.segment s.left s.right ≡ one_if (crosses_ray p s && borders f s.left s.right))
    (λ s ne. beside_count p f s.segment s.left s.right ne) (edge_segments edges) partition.arcs.two_faces) in
    ap is_odd (sym (same_count _ _ (
    sym (count_is_sum (is_over p) (face_segments m k f)) ∙ rings ∙ counted ∙ count_is_sum (λ s. crosses_ray p s && borders f s.left s.right) (edge_segments edges))))

pub rings_wind_once : RingsWindOnce
rings_wind_once m base planar k l f n p between =
    fold_is_sum (winding_part p) (face_segments m k f)
    ∙ rings_sum (winding_part p) f (slice m k).edges (slice_ends m k) (paired m k) (rings_have_one_face m base planar k l)
    ∙ wound_over (edge_segments (slice m k).edges) p f between.rational n ((slices_stay_partitions m base planar k l).stacks (line_through p) between)
