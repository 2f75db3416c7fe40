-- What the program answers, from its words and from what is told of the files.
use Rattle.std.specs.Prelude.{◌≡◌, ◌⊎◌, ◌<◌, ◌≤◌, ℕ, List, [], ◌∷◌, length, Contains, MatchOption, Option, Some, None, Result, Ok, Err, ⊤}
use Rattle.tgap_model.specs.declared.fault.MapFault.{MapFault}
use Rattle.tgap_model.specs.declared.fault.MapFault.TheVariants.{InputLong}
use Rattle.tgap_model.specs.Base.{BaseMap}
use Rattle.map_forms.specs.Listing.{IsListing, listing}
use Rattle.plain_io.specs.declared.files.Which.{Which}
use Rattle.tgap_model.specs.Faults.{Rises}
use Rattle.plain_io.specs.Loads.{Told, Missing, Holds, OfFile, OthersStay}
use Rattle.plain_io.specs.Puts.{Appends}
use Rattle.wire_text.specs.declared.row_reading.BadText.{BadText}
use Rattle.commands.specs.declared.outcome.Misfit.{Misfit}
use Rattle.commands.specs.declared.outcome.Outcome.{Outcome}
use Rattle.commands.specs.declared.outcome.Outcome.TheVariants.{Done, Usage, LoadFault, Refused, OutOfMemory, Unfit}
use Rattle.commands.specs.Outcomes.{text_of, IsOfFiles}
use Rattle.commands.specs.Command.{Command, Source}
use Rattle.topology_forms.specs.Rings.{topology_base}
use Rattle.commands.specs.MapFile.{Contents, FileName, files_of_map, IsTopologyOf, IsMapFile, IsRefusedFile, read_map}
use Rattle.commands.specs.Commands.{command, files_of, Says, outcome_of}

-- ---- what is told of files

-- These may be the contents of the named files. After one that is too long no other is loaded.
abbrev pub MayHold : (Which → List ℕ → Told) → List FileName → Contents → Type 0
MayHold told [] files = ⊤
MayHold told (n ∷ names) files =
    OfFile (told n.which n.name) (λ bytes. files n.which ≡ bytes) × (length (files n.which) ≤ n.max → MayHold told names files)

-- It is told of one of the named files that there is none, and of those before it that they are there and not too long.
abbrev pub MissesOne : (Which → List ℕ → Told) → List FileName → Type 0
MissesOne told [] = ⊥
MissesOne told (n ∷ names) =
    (told n.which n.name ≡ Missing)
    ⊎ ((bytes : List ℕ) × (told n.which n.name ≡ Holds bytes) × (length bytes ≤ n.max) × MissesOne told names)

-- It is one of the named files, and those before it are loaded: as far as is told, each is there and not too long.
abbrev pub IsReached : (Which → List ℕ → Told) → List FileName → FileName → Type 0
IsReached told [] file = ⊥
IsReached told (n ∷ names) file =
    (file ≡ n) ⊎ (OfFile (told n.which n.name) (λ bytes. length bytes ≤ n.max) × IsReached told names file)

-- ---- the outcomes of a command

-- Between two moments a load of this kind failed, and none of another: its count rose by one, and those of the others stayed.
abbrev pub Failed : (Which → ℕ) → (Which → ℕ) → Which → Type 0
Failed before now kind = Rises (before kind) (now kind) × OthersStay kind before now

-- A load of one of the named files failed, which the counts show. It is the first that did: those before it are loaded.
abbrev pub FailsToLoad : (Which → List ℕ → Told) → List FileName → (Which → Type 0) → Outcome → Type 0
FailsToLoad told names rose outcome = (n : FileName) × IsReached told names n × (outcome ≡ LoadFault n.which) × rose n.which

-- The outcomes of what reads the named files: a load failed; memory is wanting; or what P says of contents that the files may have,
-- which f computes.
abbrev pub Answering : List FileName → (Contents → Outcome → Type 0) → (Contents → Outcome) → (Which → List ℕ → Told) → (Which → Type 0) → Outcome → Type 0
Answering names P f told rose outcome =
    FailsToLoad told names rose outcome
    ⊎ ((outcome ≡ OutOfMemory)
    ⊎ ((files : Contents) × MayHold told names files × P files outcome × (outcome ≡ f files) × IsOfFiles outcome))

-- The outcome of what has been read: memory is wanting, or what P says of it, which is the one that is computed.
abbrev pub IsEither : (Outcome → Type 0) → Outcome → Outcome → Type 0
IsEither P computed outcome = (outcome ≡ OutOfMemory) ⊎ (P outcome × (outcome ≡ computed) × IsOfFiles outcome)

-- the outcomes of a command
abbrev pub AnswersCommand : Command → (Which → List ℕ → Told) → (Which → Type 0) → Outcome → Type 0
AnswersCommand c = Answering (files_of c) (Says c) (outcome_of c)

-- The outcomes for these words, where `told` says what is told of a file by its kind and name, and `rose` that a load of a kind
-- failed.
abbrev pub Answers : List (List ℕ) → (Which → List ℕ → Told) → (Which → Type 0) → Outcome → Type 0
Answers words told rose outcome = MatchOption (command words) (outcome ≡ Usage) (λ c. AnswersCommand c told rose outcome)

-- what was done, or what came in its place
abbrev pub outcome_from : Result (List ℕ) Outcome → Outcome
outcome_from (Ok text) = Done text
outcome_from (Err outcome) = outcome

-- ---- the steps to it

-- a file is loaded, or what comes of it: a load failed, memory is wanting, or there are too many bytes
abbrev pub Fetches : Told → ℕ → Which → Type 0 → Result (List ℕ) Outcome → Type 0
Fetches told max which rose (Ok text) = (length text ≤ max) × OfFile told (λ bytes. text ≡ bytes)
Fetches told max which rose (Err outcome) =
    ((outcome ≡ LoadFault which) × rose)
    ⊎ ((outcome ≡ OutOfMemory) ⊎ ((outcome ≡ Refused (InputLong max)) × OfFile told (λ bytes. max < length bytes)))

-- a listing is read, or what comes of it
abbrev pub ReadsListing : List ℕ → Result BaseMap Outcome → Type 0
ReadsListing bytes (Ok m) = IsListing bytes m × (listing bytes ≡ Ok m)
ReadsListing bytes (Err outcome) =
    (outcome ≡ OutOfMemory)
    ⊎ ((fault : MapFault) × (outcome ≡ Refused fault) × (listing bytes ≡ Err fault) × ((m : BaseMap) → ¬ (IsListing bytes m)))

-- a topology is read with its rules, or what comes of it
abbrev pub ReadsTopology : List ℕ → List ℕ → List ℕ → Result BaseMap Outcome → Type 0
ReadsTopology map object rules (Ok m) = IsTopologyOf map object rules m
ReadsTopology map object rules (Err outcome) =
    (outcome ≡ OutOfMemory) ⊎ ((fault : MapFault) × (outcome ≡ Refused fault) × (topology_base map object rules ≡ Err fault))

-- A text of a replay, of which P says what it spells, is read; or what comes of it: memory is wanting, or it spells nothing, and its
-- first line that is not of its form is told.
abbrev pub ReadsText : {A : Type 0} → (A → Type 0) → Result A BadText → (ℕ → Misfit) → Result A Outcome → Type 0
ReadsText P read told (Ok x) = P x × (read ≡ Ok x)
ReadsText {A} P read told (Err outcome) =
    (outcome ≡ OutOfMemory)
    ⊎ ((line : ℕ) × (outcome ≡ Unfit (told line)) × ((x : A) → ¬ (P x)) × (read ≡ Err (record { line = line })))

-- a map is read, or what comes of it
abbrev pub ReadsMap : Source → (Which → List ℕ → Told) → (Which → Type 0) → Result BaseMap Outcome → Type 0
ReadsMap source told rose (Ok m) =
    (files : Contents) × MayHold told (files_of_map source) files × IsMapFile source files m × (read_map source files ≡ Ok m)
ReadsMap source told rose (Err outcome) =
    FailsToLoad told (files_of_map source) rose outcome
    ⊎ ((outcome ≡ OutOfMemory)
    ⊎ ((files : Contents) × MayHold told (files_of_map source) files
    × ((fault : MapFault) × (outcome ≡ Refused fault) × IsRefusedFile source files fault × (read_map source files ≡ Err fault))))

-- ---- counts of faults

-- the count of a kind stays, or it is told that a load of it failed, and a file of it is among the named ones
abbrev pub KeepCounts : List FileName → (Which → ℕ) → (Which → ℕ) → (Which → Type 0) → Type 0
KeepCounts names before now tells =
    (which : Which) → (now which ≡ before which) ⊎ ((n : FileName) × Contains names n × (n.which ≡ which) × tells which)

-- no named file is of this kind
abbrev pub LeavesKind : List FileName → Which → Type 0
LeavesKind names which = (n : FileName) → Contains names n → ¬ (n.which ≡ which)

-- the files that the words make the program read
abbrev pub files_for : Option Command → List FileName
files_for o = elim o [ None ↦ [] | Some c ↦ files_of c ]

-- ---- what a status says

-- What the words ask for says this of contents that the files may have, and its text is put.
abbrev pub PutsAnswer : {A : Type 0} → List (List ℕ) → (Which → List ℕ → Told) → Option (List ℕ) → Option (List ℕ) → (A → Outcome) → Type 0
PutsAnswer {A} words told old new make =
    (c : Command) × (command words ≡ Some c)
    × ((files : Contents) × MayHold told (files_of c) files × ((x : A) × Says c files (make x) × Appends old new (text_of (make x))))
