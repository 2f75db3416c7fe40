-- Marks on the entries of a list, one entry a face from face 1 on: an entry with a mark is higher by MARK.
use Rattle.std.specs.Prelude.{ℕ, zero, suc, ◌+◌, Bool, nat_lt, List, [], ◌∷◌, slice_index, slice_set, if◌then◌else◌}
use Rattle.tgap_model.specs.declared.bordered.TheConstants.{MARK}

-- the entries from face f on, with a mark on each whose face passes the test
abbrev pub marked : (ℕ → Bool) → ℕ → List ℕ → List ℕ
marked test f [] = []
marked test f (k ∷ ks) = (if test f then k + MARK else k) ∷ marked test (f + 1) ks

-- the entries with a mark on that of this face, where it has none; the outside, 0, has no entry
abbrev pub mark_on : ℕ → List ℕ → List ℕ
mark_on zero ks = ks
mark_on (suc n) ks = if nat_lt (slice_index ks n) MARK then slice_set ks n (slice_index ks n + MARK) else ks
