-- At how many places of the row the faces differ, as a number comes in or goes out.
use Rattle.std.proofs.Common.{◌≡◌, ⊎_elim, ℕ, zero, suc, ◌+◌, ◌<◌, ◌≤◌, List, [], ◌∷◌, ◌++◌, length, map, get_or, All, Bool, true, false, ◌==◌, if◌then◌else◌, refl, sym, ap, ◌∙◌, subst, subst₂, arith, ◌^◌}
use Rattle.std.specs.List.{insert, remove}
use Rattle.std.proofs.lemmas.Bool.{cases_lt}
use Rattle.std.proofs.lemmas.List.{get_or-map, length-map}
use Rattle.std.proofs.lemmas.List.Elements.{All-head, All-tail}
use Rattle.tgap_model.specs.declared.geometry.Seg.{Seg}
use Rattle.tgap_model.specs.Partition.{Sides}
use Rattle.linked_row.specs.Linked.{Linked, uppers, lowers}
use Rattle.planar_sweep.specs.Faces.{sides_at, differ, gaps_from, reached_at, standing_at}
use Rattle.tgap_model.specs.declared.segment.LabelledSegment.{LabelledSegment}
use Rattle.planar_sweep.specs.Ends.{no_segment, segment_at}
use Rattle.planar_sweep.specs.Swept.{face_pair, AreFaces, HasFaces, sides_in, gaps_in}
use Rattle.planar_sweep.proofs.FaceGaps.{gaps_insert, gaps_remove}
use Rattle.planar_sweep.proofs.Nodes.{get_or-append_last, get_or-last}

-- there are few of them
pub few_gaps : (u : ℕ) (ss : List Sides) → gaps_from u ss ≤ length ss + 1
few_gaps u [] = one (u == 0)
  where
    one : (b : Bool) → (if b then 0 else 1) ≤ 1
    one true = omega arith
    one false = omega arith
few_gaps u (s ∷ ss) = by (u == s.upper) (few_gaps s.lower ss)
  where
    by : (b : Bool) → gaps_from s.lower ss ≤ length ss + 1 → ((if b then 0 else 1) + gaps_from s.lower ss) ≤ length (s ∷ ss) + 1
    by true h = omega (arith, h)
    by false h = omega (arith, h)

module _ (segs : List Seg) (faces : List (ℕ × ℕ)) (has : HasFaces segs faces) (row : Linked) (count : row.count ≡ length segs) where
  abbrev pub below_node : (n : ℕ) → ℕ
  below_node n = (get_or faces n (0, 0)).1

  abbrev pub above_node : (n : ℕ) → ℕ
  above_node n = (get_or faces n (0, 0)).0

  outside : get_or faces row.count (0, 0) ≡ (0, 0)
  outside = subst (λ (n : ℕ). get_or faces n (0, 0) ≡ (0, 0)) (sym count) has.outside

  -- the faces of the nodes are those that the place has
  reached : (k : ℕ) → k ≤ length row.row → below_node (get_or (uppers row) k 0) ≡ reached_at (sides_in faces) 0 row.row k
  reached zero le = ap (λ p. p.1) outside
  reached (suc k) le = sym (get_or-map (λ n. (sides_in faces n).lower) row.row k 0 0 (omega (arith, le)))

  abbrev fs : List ℕ
  fs = map (λ n. (sides_in faces n).upper) row.row

  standing : (k : ℕ) → k ≤ length row.row → above_node (get_or (lowers row) k 0) ≡ standing_at (sides_in faces) row.row k
  standing k le = ⊎_elim inside last (cases_lt k (length row.row))
    where
      long : length fs ≡ length row.row
      long = length-map row.row (λ n. (sides_in faces n).upper)

      inside : k < length row.row → above_node (get_or (lowers row) k 0) ≡ standing_at (sides_in faces) row.row k
      inside short =
          ap above_node (get_or-append_last row.row row.count 0 k short)
          ∙ sym (get_or-append_last fs 0 0 k (omega (arith, short, long)) ∙ get_or-map (λ n. (sides_in faces n).upper) row.row k 0 0 short)

      last : length row.row ≤ k → above_node (get_or (lowers row) k 0) ≡ standing_at (sides_in faces) row.row k
      last more =
          let all : k ≡ length row.row = omega (arith, le, more) in
          ap (λ (i : ℕ). above_node (get_or (lowers row) i 0)) all
          ∙ ap above_node (get_or-last row.row row.count 0)
          ∙ ap (λ p. p.0) outside
          ∙ sym (ap (λ (i : ℕ). get_or (fs ++ 0 ∷ []) i 0) (all ∙ sym long) ∙ get_or-last fs 0 0)

  -- one where the faces of two nodes differ
  abbrev pub between : ℕ → ℕ → ℕ
  between m n = differ (below_node m) (above_node n)

  at_place : (k j : ℕ) → k ≤ length row.row → j ≤ length row.row → between (get_or (uppers row) k 0) (get_or (lowers row) j 0) ≡ differ (reached_at (sides_in faces) 0 row.row k) (standing_at (sides_in faces) row.row j)
  at_place k j le more = ap (λ (u : ℕ). differ u (above_node (get_or (lowers row) j 0))) (reached k le) ∙ ap (differ (reached_at (sides_in faces) 0 row.row k)) (standing j more)

  pub gaps_come : (k n : ℕ) → k ≤ length row.row
      → gaps_in faces (insert row.row k n) + between (get_or (uppers row) k 0) (get_or (lowers row) k 0) ≡ gaps_in faces row.row + (between (get_or (uppers row) k 0) n + between n (get_or (lowers row) k 0))
  gaps_come k n le = sum (gaps_in faces (insert row.row k n)) (gaps_in faces row.row)
      (differ (reached_at (sides_in faces) 0 row.row k) (standing_at (sides_in faces) row.row k)) (between (get_or (uppers row) k 0) (get_or (lowers row) k 0))
      (differ (reached_at (sides_in faces) 0 row.row k) (above_node n)) (between (get_or (uppers row) k 0) n)
      (differ (below_node n) (standing_at (sides_in faces) row.row k)) (between n (get_or (lowers row) k 0))
      (gaps_insert (sides_in faces) 0 row.row k n le) (at_place k k le le) (ap (λ (u : ℕ). differ u (above_node n)) (reached k le)) (ap (differ (below_node n)) (standing k le))
    where
      sum : (new old a b c d e f : ℕ) → new + a ≡ old + c + e → b ≡ a → d ≡ c → f ≡ e → new + b ≡ old + (d + f)
      sum new old a b c d e f h i j l = omega (arith, h, i, j, l)

  pub gaps_leave : (k n : ℕ) → k < length row.row → get_or row.row k 0 ≡ n
      → gaps_in faces (remove row.row k) + (between (get_or (uppers row) k 0) n + between n (get_or (lowers row) (k + 1) 0)) ≡ gaps_in faces row.row + between (get_or (uppers row) k 0) (get_or (lowers row) (k + 1) 0)
  gaps_leave k n short at = sum (gaps_in faces (remove row.row k)) (gaps_in faces row.row)
      (differ (reached_at (sides_in faces) 0 row.row k) (standing_at (sides_in faces) row.row k)) (between (get_or (uppers row) k 0) n)
      (differ (reached_at (sides_in faces) 0 row.row (k + 1)) (standing_at (sides_in faces) row.row (k + 1))) (between n (get_or (lowers row) (k + 1) 0))
      (differ (reached_at (sides_in faces) 0 row.row k) (standing_at (sides_in faces) row.row (k + 1))) (between (get_or (uppers row) k 0) (get_or (lowers row) (k + 1) 0))
      (gaps_remove (sides_in faces) 0 row.row k short)
      (ap (between (get_or (uppers row) k 0)) (sym at ∙ sym (get_or-append_last row.row row.count 0 k short)) ∙ at_place k k (omega (arith, short)) (omega (arith, short)))
      (ap (λ (m : ℕ). between m (get_or (lowers row) (k + 1) 0)) (sym at ∙ sym (ap (λ (i : ℕ). get_or (uppers row) i 0) next)) ∙ at_place (k + 1) (k + 1) (omega (arith, short)) (omega (arith, short)))
      (at_place k (k + 1) (omega (arith, short)) (omega (arith, short)))
    where
      next : k + 1 ≡ suc k
      next = omega arith

      sum : (new old a b c d e f : ℕ) → new + a + c ≡ old + e → b ≡ a → d ≡ c → f ≡ e → new + (b + d) ≡ old + f
      sum new old a b c d e f h i j l = omega (arith, h, i, j, l)

  -- as they are counted
  pub counted_come : (k n upper lower : ℕ) → k ≤ length row.row → get_or (uppers row) k 0 ≡ upper → lower ≡ get_or (lowers row) k 0
      → gaps_in faces (insert row.row k n) + between upper lower ≡ gaps_in faces row.row + (between upper n + between n lower)
  counted_come k n upper lower le up low = subst₂ (λ (u l : ℕ). gaps_in faces (insert row.row k n) + between u l ≡ gaps_in faces row.row + (between u n + between n l)) up (sym low) (gaps_come k n le)

  pub counted_leave : (k n upper lower : ℕ) → k < length row.row → get_or row.row k 0 ≡ n → upper ≡ get_or (uppers row) k 0 → lower ≡ get_or (lowers row) (k + 1) 0
      → gaps_in faces (remove row.row k) + (between upper n + between n lower) ≡ gaps_in faces row.row + between upper lower
  counted_leave k n upper lower short at up low =
      subst₂ (λ (u l : ℕ). gaps_in faces (remove row.row k) + (between u n + between n l) ≡ gaps_in faces row.row + between u l) (sym up) (sym low) (gaps_leave k n short at)

-- a place counts one at most
pub differ_few : (u v : ℕ) → differ u v ≤ 1
differ_few u v = by (u == v)
  where
    by : (b : Bool) → (if b then 0 else 1) ≤ 1
    by true = omega arith
    by false = omega arith

-- what is counted fits a word
pub counted_few : (faces : List (ℕ × ℕ)) (row : List ℕ) → length row < 2 ^ 32 → gaps_in faces row ≤ 2 ^ 32
counted_few faces row few = omega (arith, few_gaps 0 (map (sides_in faces) row), length-map row (sides_in faces), few)

-- of numbers of segments they are the faces at their sides
pub sides_known : (segments : List LabelledSegment) (faces : List (ℕ × ℕ)) → AreFaces segments faces → (row : List ℕ) → All (λ n. n < length segments) row → map (sides_in faces) row ≡ map (sides_at segments) row
sides_known segments faces are [] known = refl
sides_known segments faces are (n ∷ ns) known = ap (λ s. s ∷ map (sides_in faces) ns) here ∙ ap (λ ss. sides_at segments n ∷ ss) (sides_known segments faces are ns (All-tail (λ n. n < length segments) n ns known))
  where
    short : n < length segments
    short = All-head (λ n. n < length segments) n ns known

    pair : get_or faces n (0, 0) ≡ face_pair (segment_at segments n)
    pair = ap (λ (fs : List (ℕ × ℕ)). get_or fs n (0, 0)) are
        ∙ get_or-append_last (map face_pair segments) (0, 0) (0, 0) n (omega (arith, short, length-map segments face_pair))
        ∙ get_or-map face_pair segments n no_segment (0, 0) short

    here : sides_in faces n ≡ sides_at segments n
    here = ap (λ (p : ℕ × ℕ). record { upper = p.0; lower = p.1 }) pair

-- so where they are counted to none, none is there
pub gaps_known : (segments : List LabelledSegment) (faces : List (ℕ × ℕ)) → AreFaces segments faces → (row : List ℕ) → All (λ n. n < length segments) row → gaps_in faces row ≡ gaps_from 0 (map (sides_at segments) row)
gaps_known segments faces are row known = ap (gaps_from 0) (sides_known segments faces are row known)
