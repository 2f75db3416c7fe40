-- The row before all events, and what all rows together say: two segments have no point in common but ends of both.
use Rattle.std.proofs.Common.{◌≡◌, ◌≢◌, ◌⊎◌, inl, inr, ℕ, ◌+◌, ◌<◌, List, [], length, take, All, Contains, ℤ, pos, ◌<ℤ◌, ◌≤ℤ◌, sym, subst, arith}
use Rattle.std.proofs.lemmas.Bool.{cases_order}
use Rattle.std.specs.Int.Signed.{clash_ℤ}
use Rattle.lemmas.proofs.Members.{in_none, All-from_members, AllPairs-nil}
use Rattle.tgap_model.specs.declared.geometry.Fraction.{Fraction}
use Rattle.tgap_model.specs.declared.geometry.Seg.{Seg}
use Rattle.grid_geo.proofs.Places.{IsOn, on_facts}
use Rattle.planar_sweep.specs.Over.{GoesForward, IsEnd}
use Rattle.planar_sweep.specs.Times.{IsInRow}
use Rattle.planar_sweep.specs.Rows.{no_seg, seg_at, Change, coming, Moment, changes_of, AreEvents, IsRow, HadRows}
use Rattle.planar_sweep.specs.Ends.{IsReady, HaveCommonEnds}
use Rattle.planar_sweep.proofs.EventFacts.{FrontUpTo, front_up_to, in_row_from, from_in_row}
use Rattle.planar_sweep.proofs.Moments.{Together, together, in_row_reaches}
use Rattle.planar_sweep.proofs.Squeezed.{IsMet, common_end}

-- before all events nothing is in the row
pub first_row : (segs : List Seg) → IsRow segs [] []
first_row segs = record {
  ordered = tt;
  once = AllPairs-nil (λ m n. m ≢ n);
  into = λ n c. absurd (in_none n c);
  back = λ n short done out. absurd (in_none (coming n) done);
}

pub first_rows : (segs : List Seg) (events : List Moment) → HadRows segs events 0
first_rows segs events j le =
    let none : 0 ≡ j = omega (arith, le) in
    ([], subst (λ i. IsRow segs (changes_of (take i events)) []) none (first_row segs))

-- the rows so far, and the next one
pub one_row_more : (segs : List Seg) (events : List Moment) (k : ℕ) (row : List ℕ) → HadRows segs events k → IsRow segs (changes_of (take (k + 1) events)) row → HadRows segs events (k + 1)
one_row_more segs events k row had next j le = by (cases_order j (k + 1))
  where
    by : (j ≡ k + 1) ⊎ ((j < k + 1) ⊎ (k + 1 < j)) → (ns : List ℕ) × IsRow segs (changes_of (take j events)) ns
    by (inl e) = (row, subst (λ i. IsRow segs (changes_of (take i events)) row) (sym e) next)
    by (inr (inl less)) = had j (omega (arith, less))
    by (inr (inr more)) = absurd (omega (arith, more, le))

module _ (segs : List Seg) (events : List Moment) (r : AreEvents segs events) (forward : (n : ℕ) → n < length segs → GoesForward (seg_at segs n)) (had : HadRows segs events (length events)) where
  -- at each time the row has the segments of that time, and no others
  module _ (time : ℤ) where
    abbrev part : FrontUpTo time events
    part = front_up_to time events r.ascend

    abbrev done : List Change
    done = changes_of (take part.count events)

    there : (row : List ℕ) → IsRow segs done row → (n : ℕ) → n < length segs → IsInRow time (seg_at segs n) → Contains row n
    there row is n known (come, leave) = in_row_from segs events r part.count (λ z. z ≤ℤ time) (λ z. time <ℤ z) (λ z h i. clash_ℤ i h) part.done part.ahead row is n known come leave

    here : (row : List ℕ) → IsRow segs done row → (n : ℕ) → Contains row n → IsInRow time (seg_at segs n)
    here row is n c = from_in_row segs events r part.count (λ z. z ≤ℤ time) (λ z. time <ℤ z) part.done part.ahead row is n c

  -- a common point of two segments is an end of both
  pub common_points : (m n : ℕ) → m < length segs → n < length segs → m ≢ n → (p : Fraction) → pos 0 <ℤ p.d → IsOn p (seg_at segs m) → IsOn p (seg_at segs n) → IsEnd (seg_at segs m) p × IsEnd (seg_at segs n) p
  common_points m n known_m known_n differ p rational on_m on_n = by (together p rational (seg_at segs m) (seg_at segs n) (forward m known_m) (forward n known_n) on_m on_n)
    where
      met : (w : Together p (seg_at segs m) (seg_at segs n)) (row : List ℕ) → IsRow segs (done w.time) row → (k : ℕ) → Contains row k → IsMet segs p rational k
      met w row is k c =
          let up = forward k (is.into k c).0 in
          record { forward = up; reaches = in_row_reaches p w.time (seg_at segs k) rational up w.shows (here w.time row is k c) }

      by : (IsEnd (seg_at segs m) p × IsEnd (seg_at segs n) p) ⊎ Together p (seg_at segs m) (seg_at segs n) → IsEnd (seg_at segs m) p × IsEnd (seg_at segs n) p
      by (inl h) = h
      by (inr w) =
          let found = had (part w.time).count (part w.time).within in
          let row = found.0 in
          common_end segs p rational row found.1.ordered
          (All-from_members (IsMet segs p rational) row (λ k c. met w row found.1 k c))
          m n (there w.time row found.1 m known_m w.first) (there w.time row found.1 n known_n w.second) differ on_m on_n

  pub have_common_ends : HaveCommonEnds segs
  have_common_ends m n known_m known_n differ p rational on_m on_n =
      common_points m n known_m known_n differ p rational (on_facts p (seg_at segs m) on_m) (on_facts p (seg_at segs n) on_n)

-- of segments that are ready
pub forward_ready : (segs : List Seg) → All (λ s. IsReady s) segs → (n : ℕ) → n < length segs → GoesForward (seg_at segs n)
forward_ready segs ready n short = (ready n no_seg short).forward
