-- The segment of least number, of the arcs of a row of sides, that is not vertical.
use Rattle.std.proofs.Common.{◌≡◌, ⊎_elim, ℕ, zero, suc, ◌+◌, ◌<◌, ◌≤◌, ◌==◌, Bool, true, false, Option, Some, None, List, [], ◌∷◌, ◌++◌, length, get_or, All, refl, sym, ap, ◌∙◌, subst, eqb-true, arith}
use Rattle.std.specs.Prelude.{cond, slice_index_or}
use Rattle.std.specs.List.{flat_map, list_any, range_with_len}
use Rattle.std.specs.Ordering.{int_eq}
use Rattle.std.proofs.lemmas.Bool.{cases_eq}
use Rattle.std.proofs.lemmas.Bool.Decides.{nat_tests}
use Rattle.std.proofs.lemmas.List.Folds.{list_any-append, Any-from_list_any}
use Rattle.std.proofs.lemmas.List.Elements.{All-nil, All-cons, All-append}
use Rattle.tgap_model.specs.declared.geometry.Point.{Point}
use Rattle.tgap_model.specs.declared.geometry.Seg.{Seg}
use Rattle.ring_walk.specs.declared.side.Side.{Side}
use Rattle.ring_walk.specs.Areas.{first_leaning, segments_of}
use Rattle.ring_walk.specs.Spans.{IsSide}
use Rattle.ring_probe.specs.Rows.{IsLeaning}
use Rattle.face_cuts.specs.declared.new_ring.Leaning.{Leaning}
use Rattle.face_cuts.specs.Cuts.{least_leaning}
use Rattle.face_cuts.specs.NewRings.{IsLeast, IsLeastOf, leaning_of}
use Rattle.face_cuts.proofs.Cases.{by_test, or_left, or_right}

-- ---- one side more

pub least_skips : (lines : List (List Point)) (row : List Side) (least : Option Leaning) (s : Side) → leaning_of lines s.span ≡ None → IsLeast lines row least → IsLeast lines (row ++ s ∷ []) least
least_skips lines row None s none h =
    let P = λ (t : Side). leaning_of lines t.span ≡ None in
    All-append P row (s ∷ []) h (All-cons P s [] none (All-nil P))
least_skips lines row (Some l) s none h =
    let P = λ (t : Side). t.span < l.arc → leaning_of lines t.span ≡ None in
    record {
      here = h.here;
      leaning = h.leaning;
      among = list_any-append (λ (t : Side). t.span == l.arc) row (s ∷ []) ∙ or_left (list_any (λ (t : Side). t.span == l.arc) row) (list_any (λ (t : Side). t.span == l.arc) (s ∷ [])) h.among;
      least = All-append P row (s ∷ []) h.least (All-cons P s [] (λ less. none) (All-nil P));
    }

-- one with a number that is not less
pub least_stays : (lines : List (List Point)) (row : List Side) (l : Leaning) (s : Side) → l.arc ≤ s.span → IsLeastOf lines row l → IsLeastOf lines (row ++ s ∷ []) l
least_stays lines row l s le h =
    let P = λ (t : Side). t.span < l.arc → leaning_of lines t.span ≡ None in
    record {
      here = h.here;
      leaning = h.leaning;
      among = list_any-append (λ (t : Side). t.span == l.arc) row (s ∷ []) ∙ or_left (list_any (λ (t : Side). t.span == l.arc) row) (list_any (λ (t : Side). t.span == l.arc) (s ∷ [])) h.among;
      least = All-append P row (s ∷ []) h.least (All-cons P s [] (λ less. absurd (omega (arith, less, le))) (All-nil P));
    }

-- one that comes before the others
module _ (lines : List (List Point)) (row : List Side) (s : Side) (segment : Seg) (here : leaning_of lines s.span ≡ Some segment) (leans : IsLeaning segment)
    (before : All (λ (t : Side). t.span < s.span → leaning_of lines t.span ≡ None) row) where
  pub least_new : IsLeastOf lines (row ++ s ∷ []) (record { arc = s.span; segment = segment })
  least_new =
      let P = λ (t : Side). t.span < s.span → leaning_of lines t.span ≡ None in
      let itself : (s.span == s.span) ≡ true = grind (arith, nat_tests) in
      record {
        here = here;
        leaning = leans;
        among = list_any-append (λ (t : Side). t.span == s.span) row (s ∷ [])
            ∙ or_right (list_any (λ (t : Side). t.span == s.span) row) (list_any (λ (t : Side). t.span == s.span) (s ∷ [])) (or_left (s.span == s.span) false itself);
        least = All-append P row (s ∷ []) before (All-cons P s [] (λ less. absurd (omega (arith, less))) (All-nil P));
      }

-- the segment of a side before which there is none, or only one of a greater number
pub least_taken : (lines : List (List Point)) (row : List Side) (least : Option Leaning) (s : Side) (segment : Seg) → ((l : Leaning) → least ≡ Some l → s.span < l.arc) → leaning_of lines s.span ≡ Some segment
    → IsLeaning segment → IsLeast lines row least → IsLeastOf lines (row ++ s ∷ []) (record { arc = s.span; segment = segment })
least_taken lines row None s segment less here leans h = least_new lines row s segment here leans (λ k d l below. h k d l)
least_taken lines row (Some m) s segment less here leans h =
    let first = less m refl in
    least_new lines row s segment here leans (λ k d l below. h.least k d l (omega (arith, below, first)))

-- ---- the definition

leaning_skips : (xs ys : List Seg) → first_leaning xs ≡ None → first_leaning (xs ++ ys) ≡ first_leaning ys
leaning_skips [] ys e = refl
leaning_skips (x ∷ xs) ys e = by (int_eq x.a.x x.b.x) e (leaning_skips xs ys)
  where
    by : (b : Bool) → cond b (first_leaning xs) (Some x) ≡ None → (first_leaning xs ≡ None → first_leaning (xs ++ ys) ≡ first_leaning ys)
        → cond b (first_leaning (xs ++ ys)) (Some x) ≡ first_leaning ys
    by true f rest = rest f
    by false f rest = absurd cc

leaning_here : (xs ys : List Seg) (s : Seg) → first_leaning xs ≡ Some s → first_leaning (xs ++ ys) ≡ Some s
leaning_here [] ys s e = absurd cc
leaning_here (x ∷ xs) ys s e = by (int_eq x.a.x x.b.x) e (leaning_here xs ys s)
  where
    by : (b : Bool) → cond b (first_leaning xs) (Some x) ≡ Some s → (first_leaning xs ≡ Some s → first_leaning (xs ++ ys) ≡ Some s) → cond b (first_leaning (xs ++ ys)) (Some x) ≡ Some s
    by true f rest = rest f
    by false f rest = f

module _ (g : ℕ → List Seg) where
  leaning_none : (a n : ℕ) → ((i : ℕ) → first_leaning (g i) ≡ None) → first_leaning (flat_map g (range_with_len a n)) ≡ None
  leaning_none a zero h = refl
  leaning_none a (suc n) h = leaning_skips (g a) (flat_map g (range_with_len (a + 1) n)) (h a) ∙ leaning_none (a + 1) n h

  leaning_first : (a n i : ℕ) (s : Seg) → a ≤ i → i < a + n → ((j : ℕ) → j < i → first_leaning (g j) ≡ None) → first_leaning (g i) ≡ Some s → first_leaning (flat_map g (range_with_len a n)) ≡ Some s
  leaning_first a zero i s le l h e = absurd (omega (arith, le, l))
  leaning_first a (suc n) i s le l h e =
      ⊎_elim
      (λ same. leaning_here (g a) (flat_map g (range_with_len (a + 1) n)) s (ap (λ j. first_leaning (g j)) same ∙ e))
      (λ other. leaning_skips (g a) (flat_map g (range_with_len (a + 1) n)) (h a (omega (arith, le, other)))
      ∙ leaning_first (a + 1) n i s (omega (arith, le, other)) (omega (arith, l)) h e)
      (cases_eq a i)

module _ (lines : List (List Point)) (row : List Side) where
  abbrev segments_at : ℕ → List Seg
  segments_at i = cond (list_any (λ (s : Side). s.span == i) row) (segments_of (slice_index_or lines i [])) []

  -- an arc of the row gives its segments, and another one none
  not_leaning : (i : ℕ) → (list_any (λ (s : Side). s.span == i) row ≡ true → leaning_of lines i ≡ None) → first_leaning (segments_at i) ≡ None
  not_leaning i h = by_test (list_any (λ (s : Side). s.span == i) row)
      (λ e. ap (λ (b : Bool). first_leaning (cond b (segments_of (slice_index_or lines i [])) [])) e ∙ h e)
      (λ e. ap (λ (b : Bool). first_leaning (cond b (segments_of (slice_index_or lines i [])) [])) e)

  -- what holds of the arcs of all sides holds of one that is that of a side
  at_side : (P : ℕ → Type 0) (i : ℕ) → All (λ (s : Side). P s.span) row → list_any (λ (s : Side). s.span == i) row ≡ true → P i
  at_side P i h e =
      let a = Any-from_list_any (λ (s : Side). s.span == i) row e in
      let is : get_or row a.0 a.1 ≡ a.1 = a.3 in
      subst P (ap (λ (s : Side). s.span) is ∙ eqb-true a.1.span i a.4) (h a.0 a.1 a.2)

  pub least_none : IsLeast lines row None → None ≡ least_leaning lines row
  least_none h = sym (leaning_none segments_at 0 (length lines) (λ i. not_leaning i (at_side (λ j. leaning_of lines j ≡ None) i h)))

  pub least_some : (l : Leaning) → All (IsSide (length lines)) row → IsLeastOf lines row l → Some l.segment ≡ least_leaning lines row
  least_some l within h = sym (leaning_first segments_at 0 (length lines) l.arc l.segment (omega arith)
      (let inside = at_side (λ j. j < length lines) l.arc within h.among in omega (arith, inside))
      (λ j less. not_leaning j (λ e. at_side (λ k. k < l.arc → leaning_of lines k ≡ None) j h.least e less))
      (ap (λ (b : Bool). first_leaning (cond b (segments_of (slice_index_or lines l.arc [])) [])) h.among ∙ h.here))
