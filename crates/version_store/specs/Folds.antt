-- What a press and its keeper know of each other: the batches of the versions, and what the entries that are kept come to.
use Rattle.std.specs.Prelude.{◌≡◌, ℕ, ◌+◌, ◌≤◌, List, [], ◌∷◌, ◌++◌, map, take, drop, length, Option, Some, None}
use Rattle.tgap_model.specs.Keeping.{KeptEntry, Kept, folded, bad_entry}

-- the batches by which the versions from number 1 on were made
abbrev pub batches_of : {V : Type 0} → (V → List ℕ) → List V → List (List ℕ)
batches_of batch list = drop 1 (map batch list)

-- Each of these entries follows those before it. What they come to begins with all these batches, and has at most one more.
abbrev pub FitsFold : List (List ℕ) → List KeptEntry → Type 0
FitsFold batches entries =
    (take (length batches) (folded entries) ≡ batches) × (length (folded entries) ≤ length batches + 1) × (bad_entry entries ≡ None)

-- so it is of the entries that are kept, and of these with the entry in doubt
abbrev pub FitsKept : List (List ℕ) → Kept → Type 0
FitsKept batches kept = FitsFold batches kept.entries × ((d : KeptEntry) → kept.doubt ≡ Some d → FitsFold batches (kept.entries ++ d ∷ []))

-- so it is, where it is told what is kept
abbrev pub FitsTold : List (List ℕ) → Option Kept → Type 0
FitsTold batches told = (kept : Kept) → told ≡ Some kept → FitsKept batches kept
