-- The command that tells the packet of a map between two steps of its history.
use Rattle.std.specs.Prelude.{◌≡◌, ◌<◌, ◌≤◌, ℕ, nat_lt, true, List, ◌∷◌, ◌++◌, length, Option, Some, None, option_map, option_and_then, if◌then◌else◌}
use Rattle.tgap_model.specs.declared.merge.MergeStep.{MergeStep}
use Rattle.tgap_model.specs.declared.record.Packet.{Packet}
use Rattle.tgap_model.specs.Base.{BaseMap}
use Rattle.tgap_model.specs.Partition.{IsPartition, base_segments, map_fault}
use Rattle.tgap_model.specs.History.{IsHistory, history_of}
use Rattle.tgap_model.specs.Merged.{merged}
use Rattle.tgap_model.specs.Slice.{slice}
use Rattle.tgap_model.specs.Records.{packet_of, replayed}
use Rattle.wire_text.specs.SliceTexts.{packet_text, slice_text}
use Rattle.wire_text.specs.SliceReading.{IsPacketText}
use Rattle.record_laws.specs.PacketLaws.{each_fits}
use Rattle.commands.specs.declared.outcome.Outcome.{Outcome}
use Rattle.commands.specs.declared.outcome.Outcome.TheVariants.{Done, Refused, StepTooHigh, NotCoarser}
use Rattle.commands.specs.Command as spec
use Rattle.commands.specs.Check.{IsFirstFault}
use Rattle.commands.specs.Replay.{texts_outcome}

-- the words after its name: the file of a map, the step to go from, the step to go to, and what else its source names
abbrev pub packet_command : List (List ℕ) → Option spec.Command
packet_command (map ∷ from ∷ to ∷ words) =
    option_and_then (λ source. option_and_then (λ first. option_map (spec.Packet source first) (spec.step_of to)) (spec.step_of from))
    (spec.source_named map words)
packet_command words = None

-- The text of the packet of a map from one step of its history to another. It is the packet by the definition: the records of the
-- steps between them, from the last one down. Each record fits the slice that those before it leave, from the slice at the first
-- step on; all together lead to the slice at the other step; and over any step between, the packet is one packet after the other. So
-- the text, replayed on the text of the slice at the first step, gives that of the slice at the other.
pub record IsPacketOf (m : BaseMap) (from to : ℕ) (text : List ℕ) : Type 0 where
  pub packet : Packet
  pub exact : packet ≡ packet_of (merged m) from to
  pub spelled : IsPacketText text packet
  pub fits : each_fits (slice m from) packet.steps ≡ true
  pub leads : replayed (slice m from) packet ≡ slice m to
  pub joins : (middle : ℕ) → to ≤ middle → middle ≤ from
      → packet.steps ≡ (packet_of (merged m) from middle).steps ++ (packet_of (merged m) middle to).steps
  pub replays : texts_outcome (slice_text (slice m from)) text ≡ Done (slice_text (slice m to))

-- What comes of it for a planar partition: the packet between the two steps; or the step to go to is above that to go from, which is
-- told first; or the step to go from is above the number of the steps of the merge history.
abbrev pub SaysPacketOf : ℕ → ℕ → BaseMap → Outcome → Type 0
SaysPacketOf from to m (Done text) =
    IsHistory m (history_of m) × (to ≤ from) × (from ≤ length (history_of m)) × IsPacketOf m from to text
SaysPacketOf from to m (NotCoarser first last) = (first ≡ from) × (last ≡ to) × (from < to)
SaysPacketOf from to m (StepTooHigh last) =
    (to ≤ from) × ((steps : List MergeStep) × IsHistory m steps × (last ≡ length steps) × (length steps < from))
SaysPacketOf from to m other = ⊥

-- What comes of it for a base map: it is no planar partition, and its first fault is told; or it is one, of which that comes.
abbrev pub SaysPacket : ℕ → ℕ → BaseMap → Outcome → Type 0
SaysPacket from to m (Refused fault) = IsFirstFault m fault
SaysPacket from to m outcome = IsPartition (base_segments m) × SaysPacketOf from to m outcome

-- the same as functions
unfoldable pub packet_of_outcome : ℕ → ℕ → BaseMap → Outcome
packet_of_outcome from to m =
    if nat_lt from to then NotCoarser from to
    else if nat_lt (length (history_of m)) from then StepTooHigh (length (history_of m))
    else Done (packet_text (packet_of (merged m) from to))

unfoldable pub packet_outcome : ℕ → ℕ → BaseMap → Outcome
packet_outcome from to m = elim (map_fault m) [ Some fault ↦ Refused fault | None ↦ packet_of_outcome from to m ]
