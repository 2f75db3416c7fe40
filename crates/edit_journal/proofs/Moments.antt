-- How what a crash leaves goes on over a run of calls.
use Rattle.std.proofs.Common.{inl, inr, ⊎_elim, ℕ, List, arith}
use Rattle.edit_journal.specs.Disk.{Elapses, LeavesOnly}

module _ {D : Type 0} (moment : D → ℕ) (left_since : D → ℕ → List ℕ → Type 0) where
  -- before the first call
  pub started : (old : D) (P : List ℕ → Type 0) → ((image : List ℕ) → left_since old (moment old) image → P image) → LeavesOnly moment left_since old old P
  started old P here = record { later = omega arith; each = here; before = λ start image le left. inl left }

  -- one call more, after which a crash leaves what has P
  pub goes_on : (old mid new : D) (P may_leave : List ℕ → Type 0) → LeavesOnly moment left_since old mid P → Elapses (moment mid) (moment new) (left_since mid) (left_since new) may_leave
      → ((image : List ℕ) → may_leave image → P image) → LeavesOnly moment left_since old new P
  goes_on old mid new P may_leave so_far time here = record {
    later = omega (arith, so_far.later, time.later);
    each = λ image left. ⊎_elim (so_far.each image) (here image) (time.nothing_else (moment old) image so_far.later left);
    before =
        λ start image le left. ⊎_elim (so_far.before start image le) (λ now. inr (here image now)) (time.nothing_else start image (omega (arith, le, so_far.later)) left);
  }

  -- and one that says as much of itself
  pub and_then : (old mid new : D) (P Q : List ℕ → Type 0) → LeavesOnly moment left_since old mid P → LeavesOnly moment left_since mid new Q
      → ((image : List ℕ) → Q image → P image) → LeavesOnly moment left_since old new P
  and_then old mid new P Q first next here = record {
    later = omega (arith, first.later, next.later);
    each = λ image left. ⊎_elim (first.each image) (here image) (next.before (moment old) image first.later left);
    before =
        λ start image le left. ⊎_elim (first.before start image le) (λ q. inr (here image q)) (next.before start image (omega (arith, le, first.later)) left);
  }

  -- what has P has Q
  pub weaker : (old new : D) (P Q : List ℕ → Type 0) → LeavesOnly moment left_since old new P → ((image : List ℕ) → P image → Q image) → LeavesOnly moment left_since old new Q
  weaker old new P Q first here = record {
    later = first.later;
    each = λ image left. here image (first.each image left);
    before = λ start image le left. ⊎_elim (λ was. inl was) (λ p. inr (here image p)) (first.before start image le left);
  }
