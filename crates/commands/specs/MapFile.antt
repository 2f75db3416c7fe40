-- A map that is read from its file, or why it is refused.
use Rattle.std.specs.Prelude.{◌≡◌, ◌<◌, ◌≤◌, ◌⊎◌, ℕ, nat_lt, List, [], ◌∷◌, length, Result, Ok, Err, if◌then◌else◌}
use Rattle.tgap_model.specs.declared.limits.TheConstants.{MAX_MAP_BYTES}
use Rattle.tgap_model.specs.declared.fault.MapFault.{MapFault}
use Rattle.tgap_model.specs.declared.fault.MapFault.TheVariants.{InputLong}
use Rattle.tgap_model.specs.Base.{BaseMap}
use Rattle.tgap_model.specs.declared.topology.NamedRules.{NamedRules}
use Rattle.tgap_model.specs.declared.topology.RawMap.{RawMap}
use Rattle.map_forms.specs.Listing.{IsListing, listing}
use Rattle.map_forms.specs.RulesFile.{rules_of}
use Rattle.topology_forms.specs.Topology.{topology}
use Rattle.topology_forms.specs.Rings.{based, topology_base}
use Rattle.plain_io.specs.declared.files.Which.{Which}
use Rattle.plain_io.specs.declared.files.Which.TheVariants.{Map, Rules}
use Rattle.commands.specs.declared.outcome.Outcome.{Outcome}
use Rattle.commands.specs.declared.outcome.Outcome.TheVariants.{Refused}
use Rattle.commands.specs.Command.{Source, Listing, Topology}

-- the bytes of each kind of file
abbrev pub Contents : Type 0
Contents = Which → List ℕ

-- a file that a command reads, and how many bytes it may have
pub record FileName : Type 0 where
  pub which : Which
  pub name : List ℕ
  pub max : ℕ

-- the file of a map, and that of its rules
abbrev pub map_file : List ℕ → FileName
map_file name = record { which = Map; name = name; max = MAX_MAP_BYTES }

abbrev pub rules_file : List ℕ → FileName
rules_file name = record { which = Rules; name = name; max = MAX_MAP_BYTES }

-- the files from which a map is read, in the order in which they are loaded
abbrev pub files_of_map : Source → List FileName
files_of_map (Listing name) = map_file name ∷ []
files_of_map (Topology map object rules) = map_file map ∷ rules_file rules ∷ []

-- a topology with this object chosen, its rules, and the base map that its rings make
pub record IsTopologyOf (map object rules : List ℕ) (m : BaseMap) : Type 0 where
  pub named : NamedRules
  pub raw : RawMap
  pub rules_are : rules_of rules ≡ Ok named
  pub topology_is : topology map object named.property ≡ Ok raw
  pub rings_make : based raw named ≡ Ok m

-- These files are a map: the bytes are its listing; or they are a topology and rules, of which it is the base map. There are not
-- too many bytes.
abbrev pub IsMapFile : Source → Contents → BaseMap → Type 0
IsMapFile (Listing name) files m = (length (files Map) ≤ MAX_MAP_BYTES) × IsListing (files Map) m
IsMapFile (Topology map object rules) files m =
    (length (files Map) ≤ MAX_MAP_BYTES) × (length (files Rules) ≤ MAX_MAP_BYTES) × IsTopologyOf (files Map) object (files Rules) m

-- there are too many bytes of this kind, which is told
abbrev pub IsTooLong : List ℕ → MapFault → Type 0
IsTooLong bytes fault = (MAX_MAP_BYTES < length bytes) × (fault ≡ InputLong MAX_MAP_BYTES)

-- These files are refused as a map: there are too many bytes, or they are the listing of no map, or no topology with rules, and this
-- is their first fault.
abbrev pub IsRefusedFile : Source → Contents → MapFault → Type 0
IsRefusedFile (Listing name) files fault =
    IsTooLong (files Map) fault
    ⊎ ((length (files Map) ≤ MAX_MAP_BYTES) × (listing (files Map) ≡ Err fault) × ((m : BaseMap) → ¬ (IsListing (files Map) m)))
IsRefusedFile (Topology map object rules) files fault =
    IsTooLong (files Map) fault
    ⊎ ((length (files Map) ≤ MAX_MAP_BYTES) × (IsTooLong (files Rules) fault
    ⊎ ((length (files Rules) ≤ MAX_MAP_BYTES) × (topology_base (files Map) object (files Rules) ≡ Err fault))))

-- what is read of bytes that are not too many
abbrev pub if_not_long : List ℕ → Result BaseMap MapFault → Result BaseMap MapFault
if_not_long bytes read = if nat_lt MAX_MAP_BYTES (length bytes) then Err (InputLong MAX_MAP_BYTES) else read

-- the same as a function
abbrev pub read_map : Source → Contents → Result BaseMap MapFault
read_map (Listing name) files = if_not_long (files Map) (listing (files Map))
read_map (Topology map object rules) files =
    if_not_long (files Map) (if_not_long (files Rules) (topology_base (files Map) object (files Rules)))

-- what comes of files that are read as a map: they are refused, or they are a map, of which P says what comes
abbrev pub OfMap : Source → (BaseMap → Outcome → Type 0) → Contents → Outcome → Type 0
OfMap source P files outcome =
    ((fault : MapFault) × IsRefusedFile source files fault × (outcome ≡ Refused fault))
    ⊎ ((m : BaseMap) × IsMapFile source files m × P m outcome)

-- the same as a function
abbrev pub of_map : Source → (BaseMap → Outcome) → Contents → Outcome
of_map source f files = elim (read_map source files) [ Err fault ↦ Refused fault | Ok m ↦ f m ]
