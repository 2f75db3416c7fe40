-- Counts of faults: a call that answers a failure raises the count of its object by one, and no other call changes it.
use Rattle.std.specs.Prelude.{◌≡◌, ℕ, ◌+◌, ◌-◌, ◌^◌, ◌≤◌, min}

-- a count after one failure: one more, or the end of its type
abbrev pub Rises : ℕ → ℕ → Type 0
Rises before now = now ≡ min (before + 1) (2 ^ 64 - 1)

-- A count after some calls of which one failed. One that stands at its type's end counts as risen.
abbrev pub Rose : ℕ → ℕ → Type 0
Rose before now = min (before + 1) (2 ^ 64 - 1) ≤ now
