-- What the entries of a journal come to: the maps that their batches make, one after the other.
use Rattle.std.specs.Prelude.{◌≡◌, ◌⊎◌, ℕ, ◌+◌, ◌-◌, nat_lt, List, [], ◌∷◌, ◌++◌, map, take, length, slice_get, slice_index, unwrap_or, option_map, Option, Some, None, Result, Ok, Err, if◌then◌else◌}
use Rattle.tgap_model.specs.Base.{BaseMap}
use Rattle.tgap_model.specs.Partition.{map_fault}
use Rattle.tgap_model.specs.Keeping.{KeptEntry, folded, bad_entry}
use Rattle.edit_laws.specs.Edits.{edited}
use Rattle.journal_fold.specs.declared.fail.FoldFail.{FoldFail}
use Rattle.journal_fold.specs.declared.fail.FoldFail.TheVariants.{Entry, Long, Memory}

-- ---- the maps that batches make

-- the map, where it has no fault
abbrev pub faultless : BaseMap → Option BaseMap
faultless m = elim (map_fault m) [ None ↦ Some m | Some fault ↦ None ]

-- the edited map, where no line is at fault and it has no fault itself
abbrev pub sound_of : Result BaseMap (ℕ × ℕ) → Option BaseMap
sound_of (Ok m) = faultless m
sound_of (Err fault) = None

-- the map that a batch makes
unfoldable pub map_after : BaseMap → List ℕ → Option BaseMap
map_after m batch = sound_of (edited m batch)

-- the maps with those after them
abbrev pub prepended : List BaseMap → Result (List BaseMap) ℕ → Result (List BaseMap) ℕ
prepended maps (Ok rest) = Ok (maps ++ rest)
prepended maps (Err i) = Err i

-- the map, and those that follow it; or this place, where there is no map
abbrev pub with_map : ℕ → Option BaseMap → (BaseMap → Result (List BaseMap) ℕ) → Result (List BaseMap) ℕ
with_map i None following = Err i
with_map i (Some m) following = prepended (m ∷ []) (following m)

-- The maps that batches make, each of the map before it; or the place of the first batch that makes none. The first batch has
-- place i.
abbrev pub maps_from : ℕ → BaseMap → List (List ℕ) → Result (List BaseMap) ℕ
maps_from i m [] = Ok []
maps_from i m (batch ∷ batches) = with_map i (map_after m batch) (λ made. maps_from (i + 1) made batches)

-- ---- which entries are left

-- the places after one more entry: those of the versions before its own, and its own
abbrev pub with_place : List ℕ → KeptEntry → ℕ → List ℕ
with_place places e place = take (e.number - 1) places ++ place ∷ []

-- the places after these entries, of which the first has place i
abbrev pub places_after : ℕ → List ℕ → List KeptEntry → List ℕ
places_after i places [] = places
places_after i places (e ∷ entries) = places_after (i + 1) (with_place places e i) entries

-- the places of the entries that are left, that of version 1 first
abbrev pub places_of : List KeptEntry → List ℕ
places_of entries = places_after 0 [] entries

-- the batch of the entry at this place; that of no entry is empty
abbrev pub batch_at : List KeptEntry → ℕ → List ℕ
batch_at entries place = unwrap_or (option_map (λ e. e.batch) (slice_get entries place)) []

abbrev pub batches_at : List KeptEntry → List ℕ → List (List ℕ)
batches_at entries places = map (batch_at entries) places

-- ---- what a journal gives

-- the maps, where with the first one they are no more than there may be
abbrev pub unless_long : ℕ → List BaseMap → Result (List BaseMap) FoldFail
unless_long limit maps = if nat_lt limit (length maps + 1) then Err (Long (length maps)) else Ok maps

-- the same, or the entry whose batch makes no map
abbrev pub told_maps : ℕ → List ℕ → Result (List BaseMap) ℕ → Result (List BaseMap) FoldFail
told_maps limit places (Ok maps) = unless_long limit maps
told_maps limit places (Err i) = Err (Entry (slice_index places i))

-- the same, or before that the entry that does not follow
abbrev pub unless_bad : Option ℕ → Result (List BaseMap) FoldFail → Result (List BaseMap) FoldFail
unless_bad None told = told
unless_bad (Some place) told = Err (Entry place)

-- The maps of the versions after the first one, which is built of m; or why there are none. An entry that does not follow is told
-- before one whose batch makes no map, and both before too many.
abbrev pub journal_maps : ℕ → BaseMap → List KeptEntry → Result (List BaseMap) FoldFail
journal_maps limit m entries =
    unless_bad (bad_entry entries) (told_maps limit (places_of entries) (maps_from 0 m (folded entries)))

-- ---- what the steps tell

-- want of memory, or the place of the first entry that does not follow
abbrev pub TellsBadEntry : Option ℕ → FoldFail → Type 0
TellsBadEntry bad why = (why ≡ Memory) ⊎ ((place : ℕ) × (bad ≡ Some place) × (why ≡ Entry place))

-- want of memory, or the place of the entry whose batch makes no map
abbrev pub TellsPlace : Result (List BaseMap) ℕ → List ℕ → FoldFail → Type 0
TellsPlace made places why = (why ≡ Memory) ⊎ ((i : ℕ) × (made ≡ Err i) × (why ≡ Entry (slice_index places i)))
