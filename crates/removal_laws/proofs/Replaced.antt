-- The first property of planar partitions stays where a point is taken out of an edge.
use Rattle.std.proofs.Common.{◌≡◌, ◌≢◌, ◌⊎◌, inl, inr, ⊎_elim, ℕ, ◌+◌, ◌<◌, ◌≤◌, ◌==◌, Bool, true, false, List, [], ◌∷◌, ◌++◌, map, All, AllPairs, append_assoc, pos, ◌<ℤ◌, unsigned_abs, refl, sym, ap, ap₂, ◌∙◌, subst, arith}
use Rattle.std.specs.List.{list_all}
use Rattle.std.proofs.lemmas.Bool.{or_cases, eqb-true, eqb-false, cases_Bool, true≢false}
use Rattle.std.proofs.lemmas.List.{map-append}
use Rattle.std.proofs.lemmas.List.Concat.{flat_map-append}
use Rattle.std.proofs.lemmas.List.Elements.{All-nil, All-cons, All-head, All-tail, All-append, All-contains, All-map, All-weaker}
use Rattle.lemmas.proofs.Signs.{zero_from_unsigned_abs}
use Rattle.lemmas.proofs.Members.{All-from_members}
use Rattle.tgap_model.specs.declared.geometry.Point.{Point}
use Rattle.tgap_model.specs.declared.geometry.Fraction.{Fraction}
use Rattle.tgap_model.specs.declared.geometry.Seg.{Seg}
use Rattle.tgap_model.specs.declared.slice.Edge.{Edge}
use Rattle.tgap_model.specs.declared.segment.LabelledSegment.{LabelledSegment}
use Rattle.tgap_model.specs.Point.{cross as cross_of, area2}
use Rattle.tgap_model.specs.Segment.{is_on}
use Rattle.tgap_model.specs.Clear.{is_clear}
use Rattle.tgap_model.specs.Removals.{path, live_segments}
use Rattle.tgap_model.specs.Partition.{is_empty, path_segments, edge_segments, AreApart}
use Rattle.removal_laws.specs.ReplaceLaws.{is_free, other_segments, ReplacedIsApart}
use Rattle.removal_laws.proofs.OneLine.{one_line_covers}
use Rattle.removal_laws.proofs.Pairs.{all_left, all_right, all_pass, mid_before, mid_after, mid_out, mid_in, pairs_map}
use Rattle.removal_laws.proofs.Places.{place_after, front_segments, path_in_parts, segments_of_path, segments_of_front, segments_of_edges, moved, IsElsewhere, all_other, all_before, path_lowered}
use Rattle.removal_laws.proofs.Apart.{apart_turned, apart_moved, first_of_two, second_of_two, joined, joined_apart, clear_covers}

-- ---- where the segments of the edges are

-- all of one arc, and from a place on
path_arcs : (arc left right place : ℕ) (points : List Point) → All (λ s. (s.arc ≡ arc) × (place ≤ s.place)) (path_segments arc left right place points)
path_arcs arc left right place [] = All-nil (λ s. (s.arc ≡ arc) × (place ≤ s.place))
path_arcs arc left right place (a ∷ []) = All-nil (λ s. (s.arc ≡ arc) × (place ≤ s.place))
path_arcs arc left right place (a ∷ b ∷ points) =
    All-cons (λ s. (s.arc ≡ arc) × (place ≤ s.place)) _ (path_segments arc left right (place + 1) (b ∷ points)) (refl, omega arith)
    (All-weaker (λ s. (s.arc ≡ arc) × (place + 1 ≤ s.place)) (λ s. (s.arc ≡ arc) × (place ≤ s.place)) (λ s h. (h.0, after s.place h.1))
    (path_segments arc left right (place + 1) (b ∷ points)) (path_arcs arc left right (place + 1) (b ∷ points)))
  where
    after : (n : ℕ) → place + 1 ≤ n → place ≤ n
    after n l = omega arith

place_grows : (n : ℕ) (front : List Point) → n ≤ place_after n front
place_grows n [] = omega arith
place_grows n (x ∷ front) = omega (arith, place_grows (n + 1) front)

front_arcs : (arc left right place : ℕ) (front : List Point) (a : Point)
    → All (λ s. (s.arc ≡ arc) × (s.place < place_after place front)) (front_segments arc left right place front a)
front_arcs arc left right place [] a = All-nil (λ s. (s.arc ≡ arc) × (s.place < place_after place []))
front_arcs arc left right place (x ∷ front) a =
    All-cons (λ s. (s.arc ≡ arc) × (s.place < place_after (place + 1) front)) _ (front_segments arc left right (place + 1) front a)
    (refl, omega (arith, place_grows (place + 1) front)) (front_arcs arc left right (place + 1) front a)

other_arcs : (key : ℕ) (edges : List Edge) → All (λ f. key ≢ f.key) edges → All (λ s. s.arc ≢ key) (edge_segments edges)
other_arcs key [] h = All-nil (λ (s : LabelledSegment). s.arc ≢ key)
other_arcs key (e ∷ edges) h =
    All-append (λ (s : LabelledSegment). s.arc ≢ key) (path_segments e.key e.left e.right 0 e.points) (edge_segments edges)
    (All-weaker (λ (s : LabelledSegment). (s.arc ≡ e.key) × (0 ≤ s.place)) (λ s. s.arc ≢ key) (λ s k f. All-head (λ g. key ≢ g.key) e edges h (sym f ∙ k.0))
    (path_segments e.key e.left e.right 0 e.points) (path_arcs e.key e.left e.right 0 e.points))
    (other_arcs key edges (All-tail (λ g. key ≢ g.key) e edges h))

-- the segments of edges, of which one is in two parts
pub edges_in_parts : (before after : List Edge) (e : Edge) (front : List Point) (a z : Point) (more : List Point)
    → edge_segments (before ++ record e { points = front ++ a ∷ z ∷ more } ∷ after)
    ≡ (edge_segments before ++ front_segments e.key e.left e.right 0 front a)
    ++ (path_segments e.key e.left e.right (place_after 0 front) (a ∷ z ∷ more) ++ edge_segments after)
edges_in_parts before after e front a z more =
    flat_map-append (λ (f : Edge). path_segments f.key f.left f.right 0 f.points) before (record e { points = front ++ a ∷ z ∷ more } ∷ after)
    ∙ ap (λ (path : List LabelledSegment). edge_segments before ++ (path ++ edge_segments after)) (path_in_parts e.key e.left e.right 0 front a z more)
    ∙ ap (λ (rest : List LabelledSegment). edge_segments before ++ rest)
    (append_assoc (front_segments e.key e.left e.right 0 front a) (path_segments e.key e.left e.right (place_after 0 front) (a ∷ z ∷ more)) (edge_segments after))
    ∙ sym (append_assoc (edge_segments before) (front_segments e.key e.left e.right 0 front a) (path_segments e.key e.left e.right (place_after 0 front) (a ∷ z ∷ more) ++ edge_segments after))

module _ (before after : List Edge) (e : Edge) (front rest : List Point) (a b c : Point) (others : All (λ f. e.key ≢ f.key) (before ++ after)) where
  unfoldable pub m : ℕ
  m = place_after 0 front

  -- the segments before a-b and those after b-c
  unfoldable pub xs : List LabelledSegment
  xs = edge_segments before ++ front_segments e.key e.left e.right 0 front a

  unfoldable pub ys : List LabelledSegment
  ys = path_segments e.key e.left e.right (m + 1 + 1) (c ∷ rest) ++ edge_segments after

  unfoldable pub ab : LabelledSegment
  ab = first_of_two e.key m e.left e.right a b c (is_empty rest)

  unfoldable pub bc : LabelledSegment
  bc = second_of_two e.key m e.left e.right a b c (is_empty rest)

  unfoldable pub ac : LabelledSegment
  ac = joined e.key m e.left e.right a b c (is_empty rest)

  in_parts : (z : Point) (more : List Point)
      → edge_segments (before ++ record e { points = front ++ a ∷ z ∷ more } ∷ after)
      ≡ (edge_segments before ++ front_segments e.key e.left e.right 0 front a)
      ++ (path_segments e.key e.left e.right m (a ∷ z ∷ more) ++ edge_segments after)
  unfolding m
  in_parts z more = edges_in_parts before after e front a z more

  pub old_is : edge_segments (before ++ record e { points = front ++ a ∷ b ∷ c ∷ rest } ∷ after) ≡ xs ++ ab ∷ bc ∷ ys
  unfolding xs ys ab bc
  old_is = in_parts b (c ∷ rest)

  front_stays : map (moved e.key m) xs ≡ xs
  unfolding xs m
  front_stays =
      map-append (moved e.key m) (edge_segments before) (front_segments e.key e.left e.right 0 front a)
      ∙ ap₂ (λ (us vs : List LabelledSegment). us ++ vs)
      (all_other e.key m (edge_segments before) (other_arcs e.key before (all_left (λ f. e.key ≢ f.key) before after others)))
      (all_before e.key m (front_segments e.key e.left e.right 0 front a)
      (All-weaker (λ (s : LabelledSegment). (s.arc ≡ e.key) × (s.place < place_after 0 front)) (λ s. s.place < place_after 0 front) (λ s h. h.1)
      (front_segments e.key e.left e.right 0 front a) (front_arcs e.key e.left e.right 0 front a)))

  back_lowered : map (moved e.key m) ys ≡ path_segments e.key e.left e.right (m + 1) (c ∷ rest) ++ edge_segments after
  unfolding ys
  back_lowered =
      map-append (moved e.key m) (path_segments e.key e.left e.right (m + 1 + 1) (c ∷ rest)) (edge_segments after)
      ∙ ap₂ (λ (us vs : List LabelledSegment). us ++ vs)
      (path_lowered e.key m e.left e.right (m + 1) (c ∷ rest) (omega arith))
      (all_other e.key m (edge_segments after) (other_arcs e.key after (all_right (λ f. e.key ≢ f.key) before after others)))

  pub new_is : edge_segments (before ++ record e { points = front ++ a ∷ c ∷ rest } ∷ after) ≡ map (moved e.key m) xs ++ ac ∷ map (moved e.key m) ys
  unfolding xs ac
  new_is =
      in_parts c rest
      ∙ ap₂ (λ (us vs : List LabelledSegment). us ++ joined e.key m e.left e.right a b c (is_empty rest) ∷ vs) (sym front_stays) (sym back_lowered)

  pub elsewhere : All (IsElsewhere e.key m) (xs ++ ys)
  unfolding xs ys m
  elsewhere =
      All-append (IsElsewhere e.key m) xs ys
      (All-append (IsElsewhere e.key m) (edge_segments before) (front_segments e.key e.left e.right 0 front a)
      (All-weaker (λ (s : LabelledSegment). s.arc ≢ e.key) (IsElsewhere e.key m) (λ s h. inl h) (edge_segments before) (other_arcs e.key before (all_left (λ f. e.key ≢ f.key) before after others)))
      (All-weaker (λ (s : LabelledSegment). (s.arc ≡ e.key) × (s.place < m)) (IsElsewhere e.key m) (λ s h. inr (inl h)) (front_segments e.key e.left e.right 0 front a) (front_arcs e.key e.left e.right 0 front a)))
      (All-append (IsElsewhere e.key m) (path_segments e.key e.left e.right (m + 1 + 1) (c ∷ rest)) (edge_segments after)
      (All-weaker (λ (s : LabelledSegment). (s.arc ≡ e.key) × (m + 1 + 1 ≤ s.place)) (IsElsewhere e.key m) (λ s h. inr (inr (h.0, above s.place h.1)))
      (path_segments e.key e.left e.right (m + 1 + 1) (c ∷ rest)) (path_arcs e.key e.left e.right (m + 1 + 1) (c ∷ rest)))
      (All-weaker (λ (s : LabelledSegment). s.arc ≢ e.key) (IsElsewhere e.key m) (λ s h. inl h) (edge_segments after) (other_arcs e.key after (all_right (λ f. e.key ≢ f.key) before after others))))
    where
      above : (n : ℕ) → m + 1 + 1 ≤ n → m + 1 < n
      above n l = omega arith

  -- a point of a-c that the segment holds is one of a-b or of b-c
  abbrev IsCovered : LabelledSegment → Type 0
  IsCovered s =
      (x : Fraction) → pos 0 <ℤ x.d → is_on x (record { a = a; b = c }) ≡ true → is_on x s.segment ≡ true
      → (is_on x (record { a = a; b = b }) ≡ true) ⊎ (is_on x (record { a = b; b = c }) ≡ true)

  -- what holds of all other live segments holds of these
  pub of_others : (Q : Seg → Type 0) → All Q (other_segments before after front a c rest) → All (λ s. Q s.segment) (xs ++ ys)
  unfolding xs ys
  of_others Q all =
      All-append P xs ys
      (All-append P (edge_segments before) (front_segments e.key e.left e.right 0 front a)
      (plain (edge_segments before) (segments_of_edges before) parts.0)
      (plain (front_segments e.key e.left e.right 0 front a) (segments_of_front e.key e.left e.right 0 front a) parts.2))
      (All-append P (path_segments e.key e.left e.right (m + 1 + 1) (c ∷ rest)) (edge_segments after)
      (plain (path_segments e.key e.left e.right (m + 1 + 1) (c ∷ rest)) (segments_of_path e.key e.left e.right (m + 1 + 1) (c ∷ rest)) parts.3)
      (plain (edge_segments after) (segments_of_edges after) parts.1))
    where
      P : LabelledSegment → Type 0
      P s = Q s.segment

      parts : All Q (live_segments before) × All Q (live_segments after) × All Q (path (front ++ a ∷ [])) × All Q (path (c ∷ rest))
      parts =
          let three = all_left Q (live_segments before ++ live_segments after ++ path (front ++ a ∷ [])) (path (c ∷ rest)) all in
          let two = all_left Q (live_segments before ++ live_segments after) (path (front ++ a ∷ [])) three in (
            all_left Q (live_segments before) (live_segments after) two,
            all_right Q (live_segments before) (live_segments after) two,
            all_right Q (live_segments before ++ live_segments after) (path (front ++ a ∷ [])) three,
            all_right Q (live_segments before ++ live_segments after ++ path (front ++ a ∷ [])) (path (c ∷ rest)) all,
          )

      plain : (ss : List LabelledSegment) {ts : List Seg} → map (λ (s : LabelledSegment). s.segment) ss ≡ ts → All Q ts → All P ss
      plain ss f k = of_map ss (subst (All Q) (sym f) k)
        where
          of_map : (ss : List LabelledSegment) → All Q (map (λ (s : LabelledSegment). s.segment) ss) → All P ss
          of_map [] l = All-nil P
          of_map (s ∷ ss) l = All-cons P s ss (All-head Q s.segment (map (λ (s : LabelledSegment). s.segment) ss) l)
              (of_map ss (All-tail Q s.segment (map (λ (s : LabelledSegment). s.segment) ss) l))

  pub clear_of_all : (p : Seg → Bool) → list_all p (other_segments before after front a c rest) ≡ true → All (λ s. p s.segment ≡ true) (xs ++ ys)
  clear_of_all p h = of_others (λ s. p s ≡ true) (all_pass p (other_segments before after front a c rest) h)

  module _ (free : is_free (other_segments before after front a c rest) a b c ≡ true) where
    covered : All IsCovered (xs ++ ys)
    covered = by (cases_Bool (area2 a b c == 0))
      where
        by : ((area2 a b c == 0) ≡ true) ⊎ ((area2 a b c == 0) ≡ false) → All IsCovered (xs ++ ys)
        by (inl f) = All-from_members IsCovered (xs ++ ys) (λ s k x positive on other.
            one_line_covers a b c x (zero_from_unsigned_abs (cross_of a b c) (eqb-true (area2 a b c) 0 f)) positive on)
        by (inr f) = All-weaker (λ (s : LabelledSegment). is_clear a b c s.segment ≡ true) IsCovered
            (λ s clear. clear_covers a b c s.segment (λ z. eqb-false (area2 a b c) 0 f (ap unsigned_abs z)) clear)
            (xs ++ ys) (clear_of_all (is_clear a b c) (⊎_elim (λ g. absurd (true≢false (sym g ∙ f))) (λ g. g)
            (or_cases (area2 a b c == 0) (list_all (is_clear a b c) (other_segments before after front a c rest)) free)))

    module _ (apart : AllPairs AreApart (xs ++ ab ∷ bc ∷ ys)) where
      without_first : AllPairs AreApart (xs ++ bc ∷ ys)
      without_first = mid_out AreApart xs ab (bc ∷ ys) apart

      -- the new segment against an old one that both replaced ones are apart from
      against : (s : LabelledSegment) → IsElsewhere e.key m s → IsCovered s → AreApart ab s → AreApart bc s → AreApart ac (moved e.key m s)
      unfolding ab bc ac
      against s p covers first second = joined_apart e.key m e.left e.right a b c (is_empty rest) s p first second covers

      new_apart : AllPairs AreApart (map (moved e.key m) xs ++ ac ∷ map (moved e.key m) ys)
      new_apart =
          mid_in AreApart (map (moved e.key m) xs) ac (map (moved e.key m) ys)
          (subst (AllPairs AreApart) (map-append (moved e.key m) xs ys)
          (pairs_map AreApart (moved e.key m) (IsElsewhere e.key m) (apart_moved e.key m) (xs ++ ys) elsewhere (mid_out AreApart xs bc ys without_first)))
          (All-map (λ s. AreApart s ac) (moved e.key m) xs (All-from_members (λ s. AreApart (moved e.key m s) ac) xs (λ s k.
          apart_turned ac (moved e.key m s) (against s
          (All-contains (IsElsewhere e.key m) xs s (all_left (IsElsewhere e.key m) xs ys elsewhere) k)
          (All-contains IsCovered xs s (all_left IsCovered xs ys covered) k)
          (apart_turned s ab (All-contains (λ t. AreApart t ab) xs s (mid_before AreApart xs ab (bc ∷ ys) apart) k))
          (apart_turned s bc (All-contains (λ t. AreApart t bc) xs s (mid_before AreApart xs bc ys without_first) k))))))
          (All-map (AreApart ac) (moved e.key m) ys (All-from_members (λ s. AreApart ac (moved e.key m s)) ys (λ s k. against s
          (All-contains (IsElsewhere e.key m) ys s (all_right (IsElsewhere e.key m) xs ys elsewhere) k)
          (All-contains IsCovered ys s (all_right IsCovered xs ys covered) k)
          (All-contains (AreApart ab) ys s (All-tail (AreApart ab) bc ys (mid_after AreApart xs ab (bc ∷ ys) apart)) k)
          (All-contains (AreApart bc) ys s (mid_after AreApart xs bc ys without_first) k))))

pub replaced_is_apart : ReplacedIsApart
replaced_is_apart before after e front rest a b c others free apart =
    subst (AllPairs AreApart) (sym (new_is before after e front rest a b c others))
    (new_apart before after e front rest a b c others free (subst (AllPairs AreApart) (old_is before after e front rest a b c others) apart))
