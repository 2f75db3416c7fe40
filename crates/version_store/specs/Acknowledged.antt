-- Runs of publishes by a press, and what a crash leaves of what its keeper keeps.
use Rattle.std.specs.Prelude.{◌≡◌, ◌⊎◌, ℕ, ◌+◌, ◌≤◌, List, [], ◌∷◌, ◌++◌, length, Option, Some, None, Result, Ok, Err, MatchOption}
use Rattle.tgap_model.specs.declared.holds.Holds as Held
use Rattle.tgap_model.specs.declared.keep.Keep as Keeper
use Rattle.tgap_model.specs.Keeping.{KeptEntry, Kept, IsStart, folded}
use Rattle.version_store.specs.declared.name.StoreName as Named
use Rattle.version_store.specs.declared.press.PressOf.{PressOf}
use Rattle.version_store.specs.declared.press.fail.PublishFail.{PublishFail}
use Rattle.version_store.specs.Growth.{IsPrefix}
use Rattle.version_store.specs.Folds.{batches_of}
use Rattle.version_store.specs.Keepers.{PublishKeeps}
use Rattle.version_store.specs.Store.{press_versions, press_keeper}

-- a publish of a version, with its answer
pub record Publish (V : Type 0) : Type 0 where
  pub next : V
  pub answer : Result ℕ PublishFail

-- the versions after a publish
abbrev pub versions_after : {V : Type 0} → List V → V → Result ℕ PublishFail → List V
versions_after list next (Ok number) = list ++ next ∷ []
versions_after list next (Err fail) = list

-- batches that are acknowledged, and then those of the versions whose publishes answered Ok
abbrev pub acknowledged : {V : Type 0} → (V → List ℕ) → List (List ℕ) → List (Publish V) → List (List ℕ)
acknowledged batch batches [] = batches
acknowledged batch batches (p ∷ ps) = elim p.answer [
  | Ok number ↦ acknowledged batch (batches ++ batch p.next ∷ []) ps
  | Err fail ↦ acknowledged batch batches ps
]

-- a crash leaves these entries of what is kept: the list, or that with the entry in doubt
abbrev pub IsLeft : Option Kept → List KeptEntry → Type 0
IsLeft told left = (kept : Kept) × (told ≡ Some kept) × IsStart kept left

-- a crash within a call that keeps this entry: so it is, or the entry stands at the end as well
abbrev pub IsLeftWithin : Option Kept → KeptEntry → List KeptEntry → Type 0
IsLeftWithin told e left = (start : List KeptEntry) × IsLeft told start × ((left ≡ start) ⊎ (left ≡ start ++ e ∷ []))

module _ {V N K P : Type 0} {held : Held.Ghosts V} {named : Named.Ghosts N} {keep : Keeper.Ghosts K} where
  -- the entry of a version that is to be the next one
  abbrev pub entry_of : PressOf V N K P held named keep → V → KeptEntry
  entry_of press next = record { number = length (press_versions press); batch = held.batched next }

  -- One publish: this is what its contract says.
  pub record Published (before now : PressOf V N K P held named keep) (p : Publish V) : Type 0 where
    pub versions : press_versions now ≡ versions_after (press_versions before) p.next p.answer
    pub kept : MatchOption (keep.told (press_keeper before)) (keep.told (press_keeper now) ≡ None)
        (λ kept. PublishKeeps (keep.limit (press_keeper before)) kept (keep.told (press_keeper now)) (entry_of before p.next) p.answer)

  -- one publish after the other
  abbrev pub Run : PressOf V N K P held named keep → List (Publish V) → PressOf V N K P held named keep → Type 0
  Run before [] now = now ≡ before
  Run before (p ∷ ps) now = (next : PressOf V N K P held named keep) × Published before next p × Run next ps now

  -- The batches of the press's versions, and those that are acknowledged after them.
  abbrev pub all_acknowledged : PressOf V N K P held named keep → List (Publish V) → List (List ℕ)
  all_acknowledged press ps = acknowledged held.batched (batches_of held.batched (press_versions press)) ps

-- What these entries come to: all these batches, in order, none skipped and none in part, and after them at most one more.
pub record HoldsAll (batches : List (List ℕ)) (entries : List KeptEntry) : Type 0 where
  pub front : IsPrefix batches (folded entries)
  pub most : length (folded entries) ≤ length batches + 1

-- a crash between two calls leaves what comes to all batches that were acknowledged
abbrev pub OutlastsCrash : {V N K : Type 0} (P : Type 0) (held : Held.Ghosts V) (named : Named.Ghosts N) (keep : Keeper.Ghosts K) → Type 0
OutlastsCrash {V} {N} {K} P held named keep =
    (press now : PressOf V N K P held named keep) (ps : List (Publish V)) (left : List KeptEntry) → Run press ps now
    → IsLeft (keep.told (press_keeper now)) left → HoldsAll (all_acknowledged press ps) left

-- so does one within the next call
abbrev pub OutlastsCrashWithin : {V N K : Type 0} (P : Type 0) (held : Held.Ghosts V) (named : Named.Ghosts N) (keep : Keeper.Ghosts K) → Type 0
OutlastsCrashWithin {V} {N} {K} P held named keep =
    (press now : PressOf V N K P held named keep) (ps : List (Publish V)) (next : V) (left : List KeptEntry) → Run press ps now
    → IsLeftWithin (keep.told (press_keeper now)) (entry_of now next) left → HoldsAll (all_acknowledged press ps) left
