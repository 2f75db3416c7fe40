-- What the calls of a disk do to its bytes, and what a crash at any moment may leave of them.
use Rattle.std.specs.Prelude.{◌≡◌, ◌⊎◌, ℕ, ◌+◌, ◌≤◌, max, Bool, List, ◌++◌, length, take, drop, if◌then◌else◌}
use Rattle.plain_io.specs.Loads.{Told, Untold, Holds}

-- the bytes of a disk that tells them
abbrev pub bytes_told : Bool → List ℕ → Told
bytes_told told bytes = if told then Holds bytes else Untold

-- new is old with these bytes at this place
abbrev pub IsWritten : List ℕ → ℕ → List ℕ → List ℕ → Type 0
IsWritten old at bytes new = new ≡ take at old ++ bytes ++ drop (at + length bytes) old

-- After a write of n bytes at this place that no sync has followed: any bytes in this range, as much of it as there is past the old
-- end, and the old bytes elsewhere.
pub record Torn (at n : ℕ) (old new : List ℕ) : Type 0 where
  pub before : take at new ≡ take at old
  pub after : drop (at + n) new ≡ drop (at + n) old
  pub no_shorter : length old ≤ length new
  pub no_longer : length new ≤ max (length old) (at + n)

-- whatever a crash leaves now, it might have left before, but for one such change
abbrev pub Follows : (List ℕ → List ℕ → Type 0) → (List ℕ → Type 0) → (List ℕ → Type 0) → Type 0
Follows change old new = (image : List ℕ) → new image → (earlier : List ℕ) × old earlier × change earlier image

-- whatever a crash leaves now, it might have left before
abbrev pub Stays : (List ℕ → Type 0) → (List ℕ → Type 0) → Type 0
Stays old new = (image : List ℕ) → new image → old image

-- a crash leaves these bytes and no others
abbrev pub Only : List ℕ → (List ℕ → Type 0) → Type 0
Only bytes may_leave = (image : List ℕ) → may_leave image → image ≡ bytes

-- Time goes on: what a crash since an earlier moment might have left is what it might have left up to then, and what it may leave
-- now.
pub record Elapses (before now : ℕ) (past since : ℕ → List ℕ → Type 0) (may_leave : List ℕ → Type 0) : Type 0 where
  pub later : before ≤ now
  pub nothing_else : (moment : ℕ) (image : List ℕ) → moment ≤ before → since moment image → past moment image ⊎ may_leave image
  pub keeps : (moment : ℕ) (image : List ℕ) → moment ≤ before → past moment image → since moment image

-- A crash at any moment from old to new leaves bytes that have P.
pub record LeavesOnly {D : Type 0} (moment : D → ℕ) (left_since : D → ℕ → List ℕ → Type 0) (old new : D) (P : List ℕ → Type 0) : Type 0 where
  pub later : moment old ≤ moment new
  pub each : (image : List ℕ) → left_since new (moment old) image → P image
  -- for a run of calls that began earlier
  pub before : (start : ℕ) (image : List ℕ) → start ≤ moment old → left_since new start image → left_since old start image ⊎ P image

-- whatever a crash leaves now, it might have left before, with one such change or without
abbrev pub LeftOrChanged : (List ℕ → List ℕ → Type 0) → (List ℕ → Type 0) → List ℕ → Type 0
LeftOrChanged change old image = old image ⊎ ((earlier : List ℕ) × old earlier × change earlier image)
