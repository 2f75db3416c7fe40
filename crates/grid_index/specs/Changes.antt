-- Keys that ascend, and how far one passes through them.
use Rattle.std.specs.Prelude.{◌<◌, ◌≤◌, ℕ, ◌==◌, not, Bool, List, length, get_or}
use Rattle.std.specs.List.{list_any}

-- the first n of the keys are less
abbrev pub AreBelow : List ℕ → ℕ → ℕ → Type 0
AreBelow keys n key = (k : ℕ) → k < n → k < length keys → get_or keys k 0 < key

-- the first n of the keys are not greater
abbrev pub AreUpTo : List ℕ → ℕ → ℕ → Type 0
AreUpTo keys n key = (k : ℕ) → k < n → k < length keys → get_or keys k 0 ≤ key

-- the key is not among these
abbrev pub is_new : List ℕ → ℕ → Bool
is_new keys key = not (list_any (λ k. k == key) keys)
