-- Laws of edits: where one is not refused, it makes a base map of a base map; and batches that are joined make what each by itself
-- makes, one after the other.
use Rattle.std.specs.Prelude.{◌≡◌, ◌≤◌, ℕ, ◌==◌, Bool, true, List, [], ◌∷◌, ◌++◌, length, IsTrue, None, Result, Ok}
use Rattle.std.specs.List.{list_all, concat}
use Rattle.std.specs.Result.{result_ok}
use Rattle.tgap_model.specs.declared.geometry.Point.{Point}
use Rattle.tgap_model.specs.Base.{BaseMap, in_limits, is_base}
use Rattle.tgap_model.specs.Keeping.{KeptEntry, folded, bad_entry}
use Rattle.line_forms.specs.Lines.{◌>>=◌}
use Rattle.edit_laws.specs.Edits.{Edit, Class, Move, Add, Drop, Node, Cut, Fuse, set_class, move_point, add_point, drop_point, edited}

-- the new points of an edit are within the limits, and a new arc has two at least
abbrev pub FitsLimits : Edit → Type 0
FitsLimits (Class face class) = Unit {0}
FitsLimits (Move old new) = IsTrue (in_limits new)
FitsLimits (Add a b new) = IsTrue (in_limits new)
FitsLimits (Drop old) = Unit {0}
FitsLimits (Node at) = Unit {0}
FitsLimits (Cut face class points) = (2 ≤ length points) × IsTrue (list_all in_limits points)
FitsLimits (Fuse kept gone) = Unit {0}

abbrev pub ClassesKeepMaps : Type 0
ClassesKeepMaps = (m e : BaseMap) (face class : List ℕ) → IsTrue (is_base m) → set_class m face class ≡ Ok e → IsTrue (is_base e)

abbrev pub MovesKeepMaps : Type 0
MovesKeepMaps =
    (m e : BaseMap) (old new : Point) → IsTrue (is_base m) → IsTrue (in_limits new) → move_point m old new ≡ Ok e → IsTrue (is_base e)

abbrev pub AddsKeepMaps : Type 0
AddsKeepMaps =
    (m e : BaseMap) (a b new : Point) → IsTrue (is_base m) → IsTrue (in_limits new) → add_point m a b new ≡ Ok e → IsTrue (is_base e)

abbrev pub DropsKeepMaps : Type 0
DropsKeepMaps = (m e : BaseMap) (old : Point) → IsTrue (is_base m) → drop_point m old ≡ Ok e → IsTrue (is_base e)

abbrev pub BatchesKeepMaps : Type 0
BatchesKeepMaps = (m e : BaseMap) (batch : List ℕ) → IsTrue (is_base m) → edited m batch ≡ Ok e → IsTrue (is_base e)

-- ---- batches that are joined

-- the batch is empty, or its last byte is a line feed
abbrev pub ends_line : List ℕ → Bool
ends_line [] = true
ends_line (b ∷ []) = b == 10
ends_line (b ∷ c ∷ batch) = ends_line (c ∷ batch)

-- the map after these batches, each applied to what the one before it left
abbrev pub edited_by : BaseMap → List (List ℕ) → Result BaseMap (ℕ × ℕ)
edited_by m [] = Ok m
edited_by m (batch ∷ batches) = edited m batch >>= λ e. edited_by e batches

-- the entry of a journal that has the batches of all these entries, one after the other
abbrev pub joined_entry : List KeptEntry → KeptEntry
joined_entry entries = record { number = 1; batch = concat (folded entries) }

abbrev pub AcceptedBatchesEnd : Type 0
AcceptedBatchesEnd = (m e : BaseMap) (batch : List ℕ) → edited m batch ≡ Ok e → IsTrue (ends_line batch)

-- A batch and one behind it make of a map what both make as one batch, and where either of them is refused, so is that. The line at
-- fault has another number there, so it is left out.
abbrev pub JoinedBatches : Type 0
JoinedBatches =
    (m : BaseMap) (a b : List ℕ) → IsTrue (ends_line a) → result_ok (edited m (a ++ b)) ≡ result_ok (edited m a >>= λ e. edited e b)

-- so it is of any number of batches
abbrev pub JoinedLists : Type 0
JoinedLists =
    (m : BaseMap) (batches : List (List ℕ)) → IsTrue (list_all ends_line batches) → result_ok (edited m (concat batches)) ≡ result_ok (edited_by m batches)

-- Where all batches of a journal are accepted, one after the other, the journal of the one entry that has them all follows too, and
-- makes the same map.
abbrev pub JoinedJournals : Type 0
JoinedJournals =
    (m e : BaseMap) (entries : List KeptEntry) → edited_by m (folded entries) ≡ Ok e
    → (bad_entry (joined_entry entries ∷ []) ≡ None) × (edited_by m (folded (joined_entry entries ∷ [])) ≡ Ok e)
