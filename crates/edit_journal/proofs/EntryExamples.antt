-- The entries of worked bytes.
use Rattle.std.proofs.Common.{◌≡◌, ℕ, List, [], ◌∷◌, ◌++◌, take, map, refl, codes}
use Rattle.std.specs.List.{range_with_len}
use Rattle.tgap_model.specs.Keeping.{KeptEntry}
use Rattle.edit_journal.specs.Entries.{entries_of}

abbrev moved : List ℕ
moved = codes "move 20 10 24 10\n"

abbrev entry : ℕ → List ℕ → KeptEntry
entry number batch = record { number = number; batch = batch }

-- a journal of one entry, that of an edit of 17 bytes
abbrev one_edit : List ℕ
one_edit = 1 ∷ 0 ∷ 0 ∷ 0 ∷ 0 ∷ 0 ∷ 0 ∷ 0 ∷ 1 ∷ 0 ∷ 0 ∷ 0 ∷ 17 ∷ (moved ++ 0 ∷ [])

one_edit_has_it : entries_of one_edit ≡ (entry 1 moved ∷ [], 30)
one_edit_has_it = refl

none_in_no_bytes : entries_of [] ≡ ([], 0)
none_in_no_bytes = refl

-- a byte 0 ends them, whatever stands behind it
none_behind_0 : entries_of (0 ∷ one_edit) ≡ ([], 0)
none_behind_0 = refl

-- cut at any length up to 29 it has none
none_where_cut : map (λ n. entries_of (take n one_edit)) (range_with_len 0 30) ≡ map (λ n. ([], 0)) (range_with_len 0 30)
none_where_cut = refl

-- and at 30 it has the entry: no byte need follow
whole_at_its_end : entries_of (take 30 one_edit) ≡ (entry 1 moved ∷ [], 30)
whole_at_its_end = refl

-- any first byte but 0 opens an entry
any_byte_opens : entries_of (take 30 (255 ∷ (0 ∷ 0 ∷ 0 ∷ 0 ∷ 0 ∷ 0 ∷ 0 ∷ 1 ∷ 0 ∷ 0 ∷ 0 ∷ 17 ∷ moved))) ≡ (entry 1 moved ∷ [], 30)
any_byte_opens = refl

torn_bytes_open : map {A = ℕ} (λ first. entries_of (first ∷ (0 ∷ 0 ∷ 0 ∷ 0 ∷ 0 ∷ 0 ∷ 0 ∷ 1 ∷ 0 ∷ 0 ∷ 0 ∷ 17 ∷ moved))) (2 ∷ 13 ∷ 128 ∷ 255 ∷ [])
    ≡ map {A = ℕ} (λ first. (entry 1 moved ∷ [], 30)) (2 ∷ 13 ∷ 128 ∷ 255 ∷ [])
torn_bytes_open = refl

-- what stands behind the last entry counts for nothing, be it closed or no whole entry
tail_behind_0 : entries_of (one_edit ++ codes "move") ≡ (entry 1 moved ∷ [], 30)
tail_behind_0 = refl

tail_not_whole : entries_of (take 30 one_edit ++ 1 ∷ 0 ∷ 0 ∷ []) ≡ (entry 1 moved ∷ [], 30)
tail_not_whole = refl

-- an entry of an empty batch takes 13 bytes, also at the end
empty_batch : entries_of (take 30 one_edit ++ 1 ∷ 0 ∷ 0 ∷ 0 ∷ 0 ∷ 0 ∷ 0 ∷ 0 ∷ 2 ∷ 0 ∷ 0 ∷ 0 ∷ 0 ∷ [])
    ≡ (entry 1 moved ∷ entry 2 [] ∷ [], 43)
empty_batch = refl

-- a length that points beyond the end, by one byte and by many
beyond_by_one : entries_of (1 ∷ 0 ∷ 0 ∷ 0 ∷ 0 ∷ 0 ∷ 0 ∷ 0 ∷ 1 ∷ 0 ∷ 0 ∷ 0 ∷ 18 ∷ moved) ≡ ([], 0)
beyond_by_one = refl

beyond_by_many : entries_of (take 30 one_edit ++ 1 ∷ 0 ∷ 0 ∷ 0 ∷ 0 ∷ 0 ∷ 0 ∷ 0 ∷ 2 ∷ 255 ∷ 255 ∷ 255 ∷ 255 ∷ moved)
    ≡ (entry 1 moved ∷ [], 30)
beyond_by_many = refl

-- two entries of one number are two
one_number_twice : entries_of (take 30 one_edit ++ one_edit) ≡ (entry 1 moved ∷ entry 1 moved ∷ [], 60)
one_number_twice = refl

-- the highest byte comes first
high_number : entries_of (1 ∷ 1 ∷ 0 ∷ 0 ∷ 0 ∷ 0 ∷ 0 ∷ 0 ∷ 2 ∷ 0 ∷ 0 ∷ 0 ∷ 1 ∷ 77 ∷ 0 ∷ []) ≡ (entry 72057594037927938 (77 ∷ []) ∷ [], 14)
high_number = refl
