-- Texts that are cut at a separator.
use Rattle.std.proofs.Common.{◌≡◌, ℕ, ◌+◌, ◌<◌, ◌≤◌, ◌==◌, true, false, List, [], ◌∷◌, length, get_or, take, drop, ap, ◌∙◌, arith}
use Rattle.std.specs.List.{slice_split, position_or_len}
use Rattle.std.proofs.lemmas.List.{get_or_default}
use Rattle.std.proofs.lemmas.List.Sums.{position_or_len_is}
use Rattle.std.proofs.lemmas.List.Splits.{slice_split_first, slice_split_none}

-- the first piece ends at the first separator
pub cut_at : (separator : ℕ) (bytes : List ℕ) (i : ℕ) → i < length bytes → ((k : ℕ) → k < i → (get_or bytes k 0 == separator) ≡ false) → (get_or bytes i 0 == separator) ≡ true
    → slice_split (λ b. b == separator) bytes ≡ take i bytes ∷ slice_split (λ b. b == separator) (drop (i + 1) bytes)
cut_at separator bytes i inside before here =
    let place : position_or_len (λ b. b == separator) bytes ≡ i = position_or_len_is (λ b. b == separator) bytes i 0 (omega arith) before (λ _. here) in
    let first = slice_split_first (λ b. b == separator) bytes 0 (omega (arith, place)) in
    first ∙ ap (λ (n : ℕ). take n bytes ∷ slice_split (λ b. b == separator) (drop (n + 1) bytes)) place

-- a text with no separator is one piece
pub uncut : (separator : ℕ) (bytes : List ℕ) (i : ℕ) → length bytes ≤ i → ((k : ℕ) → k < i → (get_or bytes k 0 == separator) ≡ false) → slice_split (λ b. b == separator) bytes ≡ bytes ∷ []
uncut separator bytes i end before =
    slice_split_none (λ b. b == separator) bytes (λ k d h. rw (get_or_default bytes k d 0 h) (before k (omega arith)))
