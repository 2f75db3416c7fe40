-- What is served where edits are stored in a journal: the map and what the journal's entries come to of it, and what the journal has at the
-- end. Without a journal there are no entries.
use Rattle.std.specs.Prelude.{◌≡◌, ◌⊎◌, ℕ, ◌+◌, ◌<◌, ◌≤◌, Bool, true, List, [], ◌∷◌, drop, length, Option, Some, None, IfSome, Ok, Err, ⊤}
use Rattle.tgap_model.specs.declared.fault.MapFault.TheVariants.{InputLong}
use Rattle.tgap_model.specs.Base.{BaseMap}
use Rattle.tgap_model.specs.Keeping.{KeptEntry, Kept, folded}
use Rattle.edit_journal.specs.declared.disk.Disk as OfDisk
use Rattle.edit_journal.specs.declared.entry.JournalFail.{JournalFail}
use Rattle.edit_journal.specs.declared.entry.JournalFail.TheVariants.{Failed, TooLong}
use Rattle.edit_journal.specs.declared.entry.JournalFail.TheVariants as no_journal
use Rattle.edit_journal.specs.Entries.{entries_of}
use Rattle.plain_io.specs.declared.files.Which.{Which}
use Rattle.plain_io.specs.Doors.{Connections}
use Rattle.plain_io.specs.declared.link.Link as OfLink
use Rattle.plain_io.specs.Loads.{Told}
use Rattle.session.specs.Versions.{Extends}
use Rattle.version_store.specs.Folds.{FitsFold, FitsTold}
use Rattle.journal_fold.specs.declared.fail.FoldFail.{FoldFail}
use Rattle.journal_fold.specs.declared.fail.FoldFail.TheVariants.{Entry, Long, Memory}
use Rattle.journal_fold.specs.JournalFolds.{journal_maps}
use Rattle.commands.specs.declared.outcome.Outcome.{Outcome}
use Rattle.commands.specs.declared.outcome.Outcome.TheVariants.{JournalFault, BadEntry, LongJournal, Refused, OutOfMemory}
use Rattle.serving.specs.Serving.{ServeCommand, IsLoaded, IsRefusal, ServesAll}

-- The journal may have these entries: where it is told what the disks hold, they are those in its bytes, of which there are not too many.
abbrev pub MayHave : Option (List ℕ) → Bool → (List ℕ → List ℕ) → List KeptEntry → Type 0
MayHave None told held entries = entries ≡ []
MayHave (Some name) told held entries = told ≡ true → (entries ≡ (entries_of (held name)).0) × (length (held name) ≤ 67108864)

-- The journal may have these entries, which come to these maps of the map: they and the first one find room among the versions.
pub record ComesTo (journal : Option (List ℕ)) (versions : ℕ) (told : Bool) (held : List ℕ → List ℕ) (first : BaseMap) : Type 0 where
  pub entries : List KeptEntry
  pub read : MayHave journal told held entries
  pub maps : List BaseMap
  pub come_to : journal_maps versions first entries ≡ Ok maps

-- why a journal is not opened, as an outcome
abbrev pub journal_refusal : JournalFail → Outcome
journal_refusal Failed = JournalFault
journal_refusal (TooLong max) = Refused (InputLong 67108864)
journal_refusal no_journal.Memory = OutOfMemory

-- why there are no versions, as an outcome
abbrev pub fold_refusal : FoldFail → Outcome
fold_refusal (Entry place) = BadEntry place
fold_refusal (Long batches) = LongJournal batches
fold_refusal Memory = OutOfMemory

-- Why the journal of this name is refused for a map: a disk failed, which the count tells; there are too many bytes; or its entries come to
-- no versions.
abbrev pub IsRefusedJournal : ℕ → List ℕ → Bool → (List ℕ → List ℕ) → Type 0 → BaseMap → Outcome → Type 0
IsRefusedJournal versions name told held rose m outcome =
    ((outcome ≡ JournalFault) × rose)
    ⊎ (((outcome ≡ Refused (InputLong 67108864)) × (told ≡ true → 67108864 < length (held name)))
    ⊎ ((entries : List KeptEntry) × MayHave (Some name) told held entries
    × ((fail : FoldFail) × (journal_maps versions m entries ≡ Err fail) × (outcome ≡ fold_refusal fail))))

-- why a map is not served: memory is wanting, or its journal is refused
abbrev pub IsRefusedServing : ServeCommand → Bool → (List ℕ → List ℕ) → Type 0 → BaseMap → Outcome → Type 0
IsRefusedServing c told held rose m outcome =
    (outcome ≡ OutOfMemory)
    ⊎ ((name : List ℕ) × (c.journal ≡ Some name) × IsRefusedJournal c.versions name told held rose m outcome)

-- why nothing is served: the check of the map tells it, or it is loaded and not served
abbrev pub RefusesServing : ServeCommand → (Which → List ℕ → Told) → (Which → Type 0) → Bool → (List ℕ → List ℕ) → Type 0 → Outcome → Type 0
RefusesServing c files rose told held disk_rose outcome =
    IsRefusal c.source files rose outcome
    ⊎ ((m : BaseMap) × IsLoaded c.source files m × IsRefusedServing c told held disk_rose m outcome)

-- What is kept at the end: the batches begin with these, and what is told of the keeper comes to those of the versions from 1 on.
abbrev pub KeepsOn : List (List ℕ) → Option Kept → List (List ℕ) → Type 0
KeepsOn start told batches = Extends start batches × FitsTold (drop 1 batches) told

-- The disk came back, and whatever a crash leaves of it, as what a read gives, has entries each of which follows; what they come to begins
-- with these batches, and has at most one more.
abbrev pub HasAll : {D : Type 0} → OfDisk.Ghosts D → Option D → List (List ℕ) → Type 0
HasAll {D} disk returned batches =
    (d : D) × (returned ≡ Some d) × (disk.told d ≡ true)
    × ((image : List ℕ) → disk.may_leave d image → FitsFold batches (entries_of image).0)

-- The batches of the versions begin with none, that of the first version, and with those that the entries come to. Where it is told what the
-- disks hold, the disk of the journal came back and has them all.
abbrev pub KeepsJournal : {D : Type 0} → OfDisk.Ghosts D → Option (List ℕ) → Bool → Option D → List KeptEntry → List (List ℕ) → Type 0
KeepsJournal disk journal told returned entries batches =
    Extends ([] ∷ folded entries) batches
    × IfSome journal (λ name. told ≡ true → HasAll disk returned (drop 1 batches))

-- What is served of a map: its versions from the first one on, and those that the journal's entries come to; and what the journal has at the
-- end.
abbrev pub IsServed : {G L D : Type 0} → (G → Bool) → (G → ℕ) → (G → Option (Connections L)) → OfLink.Ghosts L → (List G → Type 0) → ServeCommand
    → OfDisk.Ghosts D → Bool → (List ℕ → List ℕ) → Option D → BaseMap → ℕ → Type 0
IsServed closed faults told link back c disk disks_told held returned m status =
    (s : ComesTo c.journal c.versions disks_told held m)
    × ServesAll closed faults told link back c.workers c.versions (m ∷ s.maps)
    (KeepsJournal disk c.journal disks_told returned s.entries) status
