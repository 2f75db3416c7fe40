-- The command that serves a map, and what comes of it.
use Rattle.std.specs.Prelude.{◌≡◌, ◌≢◌, ◌⊎◌, ◌↔◌, ℕ, ◌+◌, ◌<◌, ◌≤◌, ◌++◌, pos, unsigned_abs, Bool, true, List, [], ◌∷◌, length, All, codes, decimal, bytes_eq, Option, Some, None, option_map, option_and_then, if◌then◌else◌}
use Rattle.tgap_model.specs.Base.{BaseMap}
use Rattle.tgap_model.specs.Partition.{IsPartition, base_segments}
use Rattle.line_forms.specs.Texts.{line, number_of}
use Rattle.plain_io.specs.declared.files.Which.{Which}
use Rattle.plain_io.specs.declared.link.Link as OfLink
use Rattle.plain_io.specs.Doors.{Connections}
use Rattle.tgap_model.specs.Faults.{Rises, Rose}
use Rattle.plain_io.specs.Harbours.{Doors}
use Rattle.plain_io.specs.Loads.{Told}
use Rattle.plain_io.specs.Puts.{Appends, AppendsFront}
use Rattle.workers.specs.Closing.{TakesAllBack}
use Rattle.version_store.specs.Publishers.{places_from, IsOneOf}
use Rattle.map_workers.specs.Seats.{newest_of, ServedRight, EachNumbered}
use Rattle.commands.specs.declared.outcome.Outcome.{Outcome}
use Rattle.commands.specs.declared.outcome.Outcome.TheVariants.{PortFault}
use Rattle.commands.specs.Outcomes.{status_of, text_of}
use Rattle.commands.specs.Delivery.{PutsWhole}
use Rattle.commands.specs.Command.{Source, source_named, Check}
use Rattle.commands.specs.MapFile.{Contents, files_of_map, IsMapFile}
use Rattle.commands.specs.Answers.{AnswersCommand, MayHold}

-- what is asked for: the map of a source is served at a port by so many workers, and so many versions of it may be kept; where a journal is
-- named, each batch of edits is stored there before its version is published
pub record ServeCommand : Type 0 where
  pub source : Source
  pub journal : Option (List ℕ)
  pub port : ℕ
  pub workers : ℕ
  pub versions : ℕ

-- the number from 1 to `most` that a word spells in canonical decimal
abbrev pub number_to : ℕ → List ℕ → Option ℕ
number_to most word = elim (number_of (pos 1) (pos most) word) [ None ↦ None | Some z ↦ Some (unsigned_abs z) ]

-- the file of a map and that of a journal, if there is one, a port, how many workers and how many versions, and what else its source names
abbrev pub serve_named : List ℕ → Option (List ℕ) → List (List ℕ) → Option ServeCommand
serve_named map journal (port ∷ workers ∷ versions ∷ words) =
    option_and_then (λ source. option_and_then (λ p. option_and_then (λ w.
    option_map (λ v. record { source = source; journal = journal; port = p; workers = w; versions = v }) (number_to 64 versions))
    (number_to 16 workers)) (number_to 65535 port)) (source_named map words)
serve_named map journal words = None

-- the words after `serve`
abbrev pub serve_command : List (List ℕ) → Option ServeCommand
serve_command (map ∷ words) = serve_named map None words
serve_command words = None

-- the words after `keep`
abbrev pub keep_command : List (List ℕ) → Option ServeCommand
keep_command (map ∷ journal ∷ words) = serve_named map (Some journal) words
keep_command words = None

-- the command that the words are, or none
unfoldable pub serve_words : List (List ℕ) → Option ServeCommand
serve_words [] = None
serve_words (name ∷ words) =
    if bytes_eq name (codes "serve") then serve_command words else if bytes_eq name (codes "keep") then keep_command words else None

-- the line that tells the port
abbrev pub serving_text : ℕ → List ℕ
serving_text port = line (codes "serving" ∷ decimal port ∷ [])

-- The files may have contents that are this map, which is a planar partition.
abbrev pub IsLoaded : Source → (Which → List ℕ → Told) → BaseMap → Type 0
IsLoaded source told m =
    (files : Contents) × MayHold told (files_of_map source) files × IsMapFile source files m × IsPartition (base_segments m)

-- there is such a map
abbrev pub IsSoundMap : Source → (Which → List ℕ → Told) → Type 0
IsSoundMap source told = (m : BaseMap) × IsLoaded source told m

-- it comes before there is a port: of a load that failed, a map that is refused, or want of memory
abbrev pub IsStop : Outcome → Type 0
IsStop outcome = (status_of outcome ≡ 3) ⊎ ((status_of outcome ≡ 4) ⊎ (status_of outcome ≡ 7))

-- the outcome is one that the check of this map has where it does not pass, or memory is wanting
abbrev pub IsRefusal : Source → (Which → List ℕ → Told) → (Which → Type 0) → Outcome → Type 0
IsRefusal source told rose outcome = AnswersCommand (Check source) told rose outcome

-- one of these outcomes is put whole
abbrev pub PutsOne : (Outcome → Type 0) → Option (List ℕ) → Option (List ℕ) → ℕ → Type 0
PutsOne Refusal old new status = (outcome : Outcome) × Refusal outcome × PutsWhole outcome old new status

-- ---- a put that failed

-- A front is put of one of these outcomes, or of the port's fault, of which the count tells.
abbrev pub PutsFrontOfRefusal : (Outcome → Type 0) → ℕ → ℕ → Option (List ℕ) → Option (List ℕ) → Type 0
PutsFrontOfRefusal Refusal count count' old new =
    (outcome : Outcome) × ((Refusal outcome × (count' ≡ count)) ⊎ ((outcome ≡ PortFault) × Rose count count')) × AppendsFront old new (text_of outcome)

-- the first text is put, and then a front of the second
abbrev pub AppendsFrontAfter : Option (List ℕ) → Option (List ℕ) → List ℕ → List ℕ → Type 0
AppendsFrontAfter old new first second = (middle : Option (List ℕ)) × Appends old middle first × AppendsFront middle new second

-- What is put where a put fails: a front of a refusal, before there are doors or in the place of them; a front of the line, and no door has
-- failed; or the line and a front of the port's fault, after connections were served.
abbrev pub PutsFront : {D : Type 0} → List ℕ → (List D → Type 0) → Type 0 → (Outcome → Type 0) → ℕ → ℕ → Option (List ℕ) → Option (List ℕ) → Type 0
PutsFront first Back Served Refusal count count' told told' =
    (Back [] × PutsFrontOfRefusal Refusal count count' told told')
    ⊎ (((count' ≡ count) × AppendsFront told told' first)
    ⊎ (Rose count count' × Served × AppendsFrontAfter told told' first (text_of PortFault)))

-- so many doors more were given
abbrev pub Gave : {D : Type 0} → ℕ → Option (Doors D) → Option (Doors D) → Type 0
Gave n old new = new ≡ option_map (λ all. record { given = all.given + n; back = all.back }) old

-- these doors were given, and came back
abbrev pub CameBack : {D : Type 0} → Option (Doors D) → Option (Doors D) → List D → Type 0
CameBack old new doors = new ≡ option_map (λ all. record { given = all.given + length doors; back = all.back ++ doors }) old

-- these are so many doors, and they came back
abbrev pub TakesEach : {D : Type 0} → ℕ → Option (Doors D) → Option (Doors D) → List D → Type 0
TakesEach n old new doors = (length doors ≡ n) × TakesAllBack old new doors

-- What came of serving connections at doors, where `start` are the maps of the versions that were there before, `Back` says which doors were
-- given and came back, `told` tells of a door which links came and were handed back, and `limit` is the number of versions that there may
-- be. As many doors as workers came back, and each is closed or has failed. The status is 0 exactly where each is closed and none has
-- failed. There is one list of versions for all of them: those from the start, and then those that were published. There are no more of
-- them than there may be, and the map of each is a planar partition; each has a batch of edits. Each that was published has a publisher, which is
-- one of the doors by its number, counted from 1 on. Over this list each connection of each door is right, each link that came was handed
-- back, and the versions that its connections were told to have published are those of which the door is the publisher. `Kept` says of the
-- batches what is kept of them.
pub record ServesAll {D L : Type 0} (closed : D → Bool) (faults : D → ℕ) (told : D → Option (Connections L)) (link : OfLink.Ghosts L)
    (Back : List D → Type 0) (workers limit : ℕ) (start : List BaseMap) (Kept : List (List ℕ) → Type 0) (status : ℕ) : Type 0 where
  pub doors : List D
  pub back : Back doors
  pub number : length doors ≡ workers
  pub stopped : All (λ door. (closed door ≡ true) ⊎ (0 < faults door)) doors
  pub end : (status ≡ 0) ↔ All (λ door. (closed door ≡ true) × (faults door ≡ 0)) doors
  pub published : List BaseMap
  pub batches : List (List ℕ)
  pub publishers : List ℕ
  pub with_batches : length batches ≡ length (start ++ published)
  pub kept : Kept batches
  pub with_publishers : length publishers ≡ length published
  pub publishers_are : All (IsOneOf workers) publishers
  pub room : length (start ++ published) ≤ limit
  pub planar : All (λ m. IsPartition (base_segments m)) (start ++ published)
  pub right : EachNumbered
      (λ n door. ServedRight link limit (start ++ published) batches (newest_of start) (places_from (length start) n publishers) (told door)) 1 doors

-- No doors could be given: none came back, and the port's fault alone is told.
abbrev pub HasNoDoors : {D : Type 0} → (List D → Type 0) → Option (List ℕ) → Option (List ℕ) → Type 0
HasNoDoors Back told told' = Back [] × Appends told told' (text_of PortFault)

-- What came of serving, where `first` is the line that tells the port, `Back` says which doors were given and came back, `Served` tells of
-- the connections at them, and the other statuses are of an outcome that is a `Refusal`. Status 0: that line was put, and connections were
-- served. Status 8: the count of the harbour rose, and no doors could be given, or one of them failed after the line. Status 6: a put
-- failed, and a front of one of these texts is there. In any case all doors that were given came back.
pub record Serves {D : Type 0} (first : List ℕ) (Back : List D → Type 0) (Served : Type 0) (count count' : ℕ) (told told' : Option (List ℕ))
    (sunk sunk' status : ℕ) (Refusal : Outcome → Type 0) : Type 0 where
  pub line : status ≡ 0 → Appends told told' first × Served
  pub fault_line : status ≡ 8 → HasNoDoors Back told told' ⊎ (Appends told told' (first ++ text_of PortFault) × Served)
  pub port_fault : status ≡ 8 → Rose count count'
  pub sound : status ≢ 6 → status ≢ 8 → count' ≡ count
  pub doors : (doors : List D) × Back doors
  pub other : status ≢ 0 → status ≢ 6 → status ≢ 8 → PutsOne Refusal told told' status
  pub front : status ≡ 6 → PutsFront first Back Served Refusal count count' told told'
  pub sink_fault : status ≡ 6 → Rises sunk sunk'
  pub sink_kept : status ≢ 6 → sunk' ≡ sunk
