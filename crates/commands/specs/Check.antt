-- The command that tells whether a map is a planar partition.
use Rattle.std.specs.Prelude.{◌≡◌, ℕ, List, ◌∷◌, Option, Some, None, option_map}
use Rattle.tgap_model.specs.declared.fault.MapFault.{MapFault}
use Rattle.tgap_model.specs.Base.{BaseMap}
use Rattle.tgap_model.specs.Partition.{IsPartition, base_segments, map_fault}
use Rattle.grid_geo.specs.Evidence.{IsShownBy}
use Rattle.line_forms.specs.Texts.{ok_text}
use Rattle.commands.specs.declared.outcome.Outcome.{Outcome}
use Rattle.commands.specs.declared.outcome.Outcome.TheVariants.{Done, Refused}
use Rattle.commands.specs.Command.{Command, source_named, Check}

-- the words after its name: the source of a map
abbrev pub check_command : List (List ℕ) → Option Command
check_command (map ∷ words) = option_map Check (source_named map words)
check_command words = None

-- the base map is no planar partition, and this fault shows it: what it names is wrong, and nothing before it is
abbrev pub IsFirstFault : BaseMap → MapFault → Type 0
IsFirstFault m fault = (¬ (IsPartition (base_segments m))) × IsShownBy (base_segments m) fault

-- What comes of it for a base map: it is a planar partition, and its faces, arcs and points are counted; or it is none, and its
-- first fault is told.
abbrev pub SaysCheck : BaseMap → Outcome → Type 0
SaysCheck m (Done text) = IsPartition (base_segments m) × (text ≡ ok_text m)
SaysCheck m (Refused fault) = IsFirstFault m fault
SaysCheck m other = ⊥

-- the same as a function
unfoldable pub check_outcome : BaseMap → Outcome
check_outcome m = elim (map_fault m) [ Some fault ↦ Refused fault | None ↦ Done (ok_text m) ]
