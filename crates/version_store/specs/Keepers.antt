-- What a publish does to the keeper of batches, and to the counts of the seat by which it is asked.
use Rattle.std.specs.Prelude.{◌≡◌, ◌⊎◌, ℕ, List, [], ◌∷◌, ◌++◌, Option, Some, Result, Ok, Err, ⊤}
use Rattle.tgap_model.specs.Faults.{Rises, Rose}
use Rattle.tgap_model.specs.Keeping.{KeptEntry, Kept, IsStart, sure_of, keep_size, IsAbove, IsWithin}
use Rattle.version_store.specs.declared.press.fail.PublishFail.{PublishFail}
use Rattle.version_store.specs.declared.press.fail.PublishFail.TheVariants.{Stale, VersionsFull, Unkept, KeeperFull, Memory}

-- the list of versions refuses it: it is stale, or there is no room
abbrev pub ComesOfList : PublishFail → Type 0
ComesOfList (Stale newest) = ⊤
ComesOfList (VersionsFull limit) = ⊤
ComesOfList Unkept = ⊥
ComesOfList (KeeperFull limit) = ⊥
ComesOfList Memory = ⊥

-- a keeper that is asked for nothing where the list of versions refuses
abbrev pub LeavesKeeper : {T K : Type 0} → K → K → Result T PublishFail → Type 0
LeavesKeeper before now (Ok x) = ⊤
LeavesKeeper before now (Err (Stale newest)) = now ≡ before
LeavesKeeper before now (Err (VersionsFull limit)) = now ≡ before
LeavesKeeper before now (Err Unkept) = ⊤
LeavesKeeper before now (Err (KeeperFull limit)) = ⊤
LeavesKeeper before now (Err Memory) = ⊤

-- What is kept after a publish that would keep this entry, where what was kept before was this list. It is published only where the entry
-- stands at the end of that list, and nothing is in doubt; then there was room for it, as there was none where the keeper is full.
abbrev pub PublishKeepsFrom : {T : Type 0} → Option ℕ → List KeptEntry → Kept → Kept → KeptEntry → Result T PublishFail → Type 0
PublishKeepsFrom limit start before now e (Ok x) = (now ≡ sure_of (start ++ e ∷ [])) × IsWithin limit (keep_size start e)
PublishKeepsFrom limit start before now e (Err (Stale newest)) = now ≡ before
PublishKeepsFrom limit start before now e (Err (VersionsFull most)) = now ≡ before
PublishKeepsFrom limit start before now e (Err Unkept) = (now ≡ before) ⊎ (now ≡ record { entries = start; doubt = Some e })
PublishKeepsFrom limit start before now e (Err (KeeperFull most)) =
    ((now ≡ before) ⊎ (now ≡ sure_of start)) × IsAbove limit (keep_size start e)
PublishKeepsFrom limit start before now e (Err Memory) = (now ≡ before) ⊎ (now ≡ sure_of start)

-- a publish, with the list that was kept before it: with an entry in doubt, or without; what is told before it is told after it
abbrev pub PublishKeeps : {T : Type 0} → Option ℕ → Kept → Option Kept → KeptEntry → Result T PublishFail → Type 0
PublishKeeps limit before told e result =
    (start : List KeptEntry) × IsStart before start
    × ((now : Kept) × (told ≡ Some now) × PublishKeepsFrom limit start before now e result)

-- ---- counts

-- the keeper's count of faults rises where it failed to keep, and else it stays
abbrev pub CountsFault : {T : Type 0} → ℕ → ℕ → Result T PublishFail → Type 0
CountsFault before now (Ok x) = now ≡ before
CountsFault before now (Err (Stale newest)) = now ≡ before
CountsFault before now (Err (VersionsFull limit)) = now ≡ before
CountsFault before now (Err Unkept) = Rose before now
CountsFault before now (Err (KeeperFull limit)) = now ≡ before
CountsFault before now (Err Memory) = now ≡ before

-- a seat's count of the publishes that were not kept
abbrev pub CountsUnkept : {T : Type 0} → ℕ → ℕ → Result T PublishFail → Type 0
CountsUnkept before now (Ok x) = now ≡ before
CountsUnkept before now (Err (Stale newest)) = now ≡ before
CountsUnkept before now (Err (VersionsFull limit)) = now ≡ before
CountsUnkept before now (Err Unkept) = Rises before now
CountsUnkept before now (Err (KeeperFull limit)) = now ≡ before
CountsUnkept before now (Err Memory) = now ≡ before

-- a seat's count of the publishes for which the keeper had no room
abbrev pub CountsKeeperFull : {T : Type 0} → ℕ → ℕ → Result T PublishFail → Type 0
CountsKeeperFull before now (Ok x) = now ≡ before
CountsKeeperFull before now (Err (Stale newest)) = now ≡ before
CountsKeeperFull before now (Err (VersionsFull limit)) = now ≡ before
CountsKeeperFull before now (Err Unkept) = now ≡ before
CountsKeeperFull before now (Err (KeeperFull limit)) = Rises before now
CountsKeeperFull before now (Err Memory) = now ≡ before
