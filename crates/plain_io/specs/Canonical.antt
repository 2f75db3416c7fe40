-- How a number in canonical decimal begins.
use Rattle.std.specs.Prelude.{◌≡◌, ◌≢◌, ℕ, ◌≤◌, List, length, slice_index}

-- no plus sign is in front, no zero before another byte, and no zero behind a minus
abbrev pub IsPlain : List ℕ → Type 0
IsPlain word =
    (slice_index word 0 ≢ 43) × (slice_index word 0 ≡ 48 → length word ≤ 1) × (slice_index word 0 ≡ 45 → slice_index word 1 ≢ 48)
