-- The places of a stack at which the faces differ, as members come and go, and what their number says of the rows so far.
use Rattle.std.proofs.Common.{◌≡◌, ◌⊎◌, inl, inr, ℕ, zero, suc, ◌+◌, ◌<◌, ◌≤◌, ◌==◌, Bool, true, false, cond, List, [], ◌∷◌, length, map, take, drop, get_or, Contains, ℤ, pos, ◌+ℤ◌, ◌*ℤ◌, ◌<ℤ◌, ◌≤ℤ◌, refl, sym, subst, arith}
use Rattle.std.specs.List.{insert, remove}
use Rattle.std.proofs.lemmas.Int.{ints}
use Rattle.std.proofs.lemmas.Bool.{cases_order}
use Rattle.std.proofs.lemmas.Bool.Decides.{Decides-eqb}
use Rattle.std.specs.Cmp.Derive.{both_true}
use Rattle.std.proofs.lemmas.List.{take_more, drop_more}
use Rattle.std.proofs.lemmas.List.Elements.{All-contains, Contains-append_right}
use Rattle.lemmas.proofs.Members.{in_head}
use Rattle.tgap_model.specs.declared.geometry.Seg.{Seg}
use Rattle.tgap_model.specs.declared.segment.LabelledSegment.{LabelledSegment}
use Rattle.tgap_model.specs.Partition.{Sides, agree_from}
use Rattle.planar_sweep.specs.Rows.{Moment, changes_of, IsRow}
use Rattle.planar_sweep.specs.Faces.{sides_at, differ, gaps_from, reached_at, standing_at, IsColumn, HadAgreement, AreOfOneColumn, AgreesBehind}
use Rattle.planar_sweep.proofs.Whole.{first_row}

-- ---- a member comes or goes

module _ {A : Type 0} (faces : A → Sides) where
  -- the place at which it comes in becomes the places above and below it
  pub gaps_insert : (u : ℕ) (xs : List A) (k : ℕ) (x : A) → k ≤ length xs
      → gaps_from u (map faces (insert xs k x)) + differ (reached_at faces u xs k) (standing_at faces xs k)
      ≡ gaps_from u (map faces xs) + differ (reached_at faces u xs k) (faces x).upper + differ (faces x).lower (standing_at faces xs k)
  gaps_insert u [] zero x le = last (differ u (faces x).upper) (differ (faces x).lower 0) (differ u 0)
    where
      last : (a b c : ℕ) → a + b + c ≡ c + a + b
      last a b c = omega arith
  gaps_insert u [] (suc k) x le = absurd (omega (arith, le))
  gaps_insert u (y ∷ ys) zero x le = first (differ u (faces x).upper) (differ (faces x).lower (faces y).upper) (gaps_from (faces y).lower (map faces ys)) (differ u (faces y).upper)
    where
      first : (a b m c : ℕ) → a + (b + m) + c ≡ c + m + a + b
      first a b m c = omega arith
  gaps_insert u (y ∷ ys) (suc k) x le = later (differ u (faces y).upper)
      (gaps_from (faces y).lower (map faces (insert ys k x))) (differ (reached_at faces (faces y).lower ys k) (standing_at faces ys k))
      (gaps_from (faces y).lower (map faces ys)) (differ (reached_at faces (faces y).lower ys k) (faces x).upper) (differ (faces x).lower (standing_at faces ys k))
      (gaps_insert (faces y).lower ys k x (omega (arith, le)))
    where
      later : (m a b c d e : ℕ) → a + b ≡ c + d + e → m + a + b ≡ m + c + d + e
      later m a b c d e h = omega (arith, h)

  -- and where it goes, these two become one
  pub gaps_remove : (u : ℕ) (xs : List A) (k : ℕ) → k < length xs
      → gaps_from u (map faces (remove xs k)) + differ (reached_at faces u xs k) (standing_at faces xs k) + differ (reached_at faces u xs (k + 1)) (standing_at faces xs (k + 1))
      ≡ gaps_from u (map faces xs) + differ (reached_at faces u xs k) (standing_at faces xs (k + 1))
  gaps_remove u xs k short =
      subst (λ (n : ℕ). gaps_from u (map faces (remove xs k)) + differ (reached_at faces u xs k) (standing_at faces xs k) + differ (reached_at faces u xs n) (standing_at faces xs n)
      ≡ gaps_from u (map faces xs) + differ (reached_at faces u xs k) (standing_at faces xs n)) next (by u xs k short)
    where
      next : suc k ≡ k + 1
      next = omega arith

      by : (u : ℕ) (xs : List A) (k : ℕ) → k < length xs
          → gaps_from u (map faces (remove xs k)) + differ (reached_at faces u xs k) (standing_at faces xs k) + differ (reached_at faces u xs (suc k)) (standing_at faces xs (suc k))
          ≡ gaps_from u (map faces xs) + differ (reached_at faces u xs k) (standing_at faces xs (suc k))
      by u [] k short = absurd (omega (arith, short))
      by u (x ∷ []) zero short = last (differ u 0) (differ u (faces x).upper) (differ (faces x).lower 0)
        where
          last : (a b c : ℕ) → a + b + c ≡ b + c + a
          last a b c = omega arith
      by u (x ∷ y ∷ ys) zero short = first (differ u (faces y).upper) (gaps_from (faces y).lower (map faces ys)) (differ u (faces x).upper) (differ (faces x).lower (faces y).upper)
        where
          first : (a m b c : ℕ) → a + m + b + c ≡ b + (c + m) + a
          first a m b c = omega arith
      by u (x ∷ xs) (suc k) short = later (differ u (faces x).upper)
          (gaps_from (faces x).lower (map faces (remove xs k))) (differ (reached_at faces (faces x).lower xs k) (standing_at faces xs k)) (differ (reached_at faces (faces x).lower xs (suc k)) (standing_at faces xs (suc k)))
          (gaps_from (faces x).lower (map faces xs)) (differ (reached_at faces (faces x).lower xs k) (standing_at faces xs (suc k)))
          (by (faces x).lower xs k (omega (arith, short)))
        where
          later : (m a b c d e : ℕ) → a + b + c ≡ d + e → m + a + b + c ≡ m + d + e
          later m a b c d e h = omega (arith, h)

-- a stack without such a place agrees
pub agree_from_no_gaps : (u : ℕ) (ss : List Sides) → gaps_from u ss ≡ 0 → agree_from u ss ≡ true
agree_from_no_gaps u [] h = by (u == 0) h
  where
    by : (b : Bool) → ◌≡◌ {A = ℕ} (cond b 0 1) 0 → b ≡ true
    by true e = refl
    by false e = absurd (omega (arith, e))
agree_from_no_gaps u (s ∷ ss) h =
    let here = same u s.upper (none (differ u s.upper) (gaps_from s.lower ss) h) in
    let rest = agree_from_no_gaps s.lower ss (omega (arith, h)) in
    both_true ((Decides-eqb s.upper u).1 (sym here)) rest
  where
    none : (m n : ℕ) → m + n ≡ 0 → m ≡ 0
    none m n e = omega (arith, e)

    same : (u v : ℕ) → differ u v ≡ 0 → u ≡ v
    same u v e = (Decides-eqb u v).0 (by (u == v) e)
      where
        by : (b : Bool) → ◌≡◌ {A = ℕ} (cond b 0 1) 0 → b ≡ true
        by true f = refl
        by false f = absurd (omega (arith, f))

-- ---- the rows so far

module _ (segments : List LabelledSegment) (segs : List Seg) (events : List Moment) where
  -- before all events there is nothing
  pub agreement_first : HadAgreement segments segs events 0
  agreement_first j le v is =
      let none : 0 ≡ j = omega (arith, le) in
      ([], subst (λ i. IsRow segs (changes_of (take i events)) []) none (first_row segs), refl)

  -- the next event ends no column where the one after it is of the same abscissa
  no_column : (k : ℕ) (d : Moment) (v : ℤ) → k + 1 < length events → AreOfOneColumn (get_or events k d).time (get_or events (k + 1) d).time
      → IsColumn v (take (k + 1) events) (drop (k + 1) events) → ⊥
  no_column k d v short one is = clash v one.abscissa (get_or events k d).time (get_or events (k + 1) d).time one.from one.to
      (All-contains (λ e. e.time ≤ℤ (pos 4 *ℤ v +ℤ pos 3)) (take (k + 1) events) (get_or events k d) is.done
      (subst (λ es. Contains es (get_or events k d)) (sym (take_more events k d (omega (arith, short)))) (Contains-append_right (take k events) (get_or events k d ∷ []) (get_or events k d) (in_head (get_or events k d) []))))
      (All-contains (λ e. (pos 4 *ℤ v +ℤ pos 3) <ℤ e.time) (drop (k + 1) events) (get_or events (k + 1) d) is.ahead
      (subst (λ es. Contains es (get_or events (k + 1) d)) (sym (drop_more events (k + 1) d short)) (in_head (get_or events (k + 1) d) (drop (k + 1 + 1) events))))
    where
      clash : (v u s t : ℤ) → (pos 4 *ℤ u) ≤ℤ s → t ≤ℤ (pos 4 *ℤ u +ℤ pos 3) → s ≤ℤ (pos 4 *ℤ v +ℤ pos 3) → (pos 4 *ℤ v +ℤ pos 3) <ℤ t → ⊥
      clash v u s t h i j k = omega (arith, ints)

  -- the rows so far, and the next one
  pub agreement_more : (k : ℕ) (d : Moment) (row : List ℕ) → HadAgreement segments segs events k → IsRow segs (changes_of (take (k + 1) events)) row → AgreesBehind segments events k d row
      → HadAgreement segments segs events (k + 1)
  agreement_more k d row had next agrees j le v is = by (cases_order j (k + 1)) agrees
    where
      Found : Type 0
      Found = (ns : List ℕ) × IsRow segs (changes_of (take j events)) ns × (gaps_from 0 (map (sides_at segments) ns) ≡ 0)

      by : (j ≡ k + 1) ⊎ ((j < k + 1) ⊎ (k + 1 < j)) → AgreesBehind segments events k d row → Found
      by (inl e) (inl none) = (row, subst (λ i. IsRow segs (changes_of (take i events)) row) (sym e) next, none)
      by (inl e) (inr (short, one)) = absurd (no_column k d v short one (subst (λ i. IsColumn v (take i events) (drop i events)) e is))
      by (inr (inl less)) _ = had j (omega (arith, less)) v is
      by (inr (inr more)) _ = absurd (omega (arith, more, le))
