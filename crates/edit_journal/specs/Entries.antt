-- The entries of a journal in its bytes.
use Rattle.std.specs.Prelude.{ℕ, zero, suc, ◌+◌, ◌||◌, ◌==◌, nat_lt, List, [], ◌∷◌, ◌++◌, take, drop, length, Option, Some, None, if◌then◌else◌}
use Rattle.std.specs.Int.{w32, w64, from_be_bytes, to_be_bytes}
use Rattle.tgap_model.specs.Keeping.{KeptEntry}

-- The entry at the front of some bytes: one byte that is not 0, the number in 8 bytes and the length of the batch in 4, both with
-- the highest byte first, and the batch. There is none at the end, at a byte 0, or where it is not whole.
abbrev pub entry_at : List ℕ → Option KeptEntry
entry_at [] = None
entry_at (first ∷ rest) =
    if (first == 0) || nat_lt (length rest) (12 + from_be_bytes w32 (take 4 (drop 8 rest))) then None
    else Some (record { number = from_be_bytes w64 (take 8 rest); batch = take (from_be_bytes w32 (take 4 (drop 8 rest))) (drop 12 rest) })

-- how many bytes an entry takes
abbrev pub entry_size : KeptEntry → ℕ
entry_size e = 13 + length e.batch

-- the entry, if there is one, and those that follow it, with the place where they end
abbrev pub with_entry : Option KeptEntry → (KeptEntry → List KeptEntry × ℕ) → List KeptEntry × ℕ
with_entry None following = ([], 0)
with_entry (Some e) following = (e ∷ (following e).0, entry_size e + (following e).1)

-- the entries from the front on, at most so many, and the place where they end
abbrev pub entries_from : ℕ → List ℕ → List KeptEntry × ℕ
entries_from zero bytes = ([], 0)
entries_from (suc most) bytes = with_entry (entry_at bytes) (λ e. entries_from most (drop (entry_size e) bytes))

-- the entries of a journal, in order, and the place where they end
abbrev pub entries_of : List ℕ → List KeptEntry × ℕ
entries_of bytes = entries_from (length bytes) bytes

-- the bytes of an entry behind its first one
abbrev pub body_of : KeptEntry → List ℕ
body_of e = to_be_bytes w64 e.number ++ (to_be_bytes w32 (length e.batch) ++ e.batch)
