-- The command that replays a packet on a slice.
use Rattle.std.specs.Prelude.{◌≡◌, ◌≢◌, ◌<◌, ◌≤◌, ◌⊎◌, ℕ, nat_lt, true, List, [], ◌∷◌, ◌++◌, length, fold, Option, Some, None, Result, Ok, Err, if◌then◌else◌}
use Rattle.tgap_model.specs.declared.limits.TheConstants.{MAX_TEXT_BYTES}
use Rattle.tgap_model.specs.declared.fault.MapFault.TheVariants.{InputLong}
use Rattle.tgap_model.specs.declared.slice.Slice.{Slice}
use Rattle.tgap_model.specs.declared.record.StepRecord.{StepRecord}
use Rattle.tgap_model.specs.declared.record.Packet.{Packet}
use Rattle.tgap_model.specs.Records.{broken_rule, undo, replayed}
use Rattle.wire_text.specs.SliceTexts.{slice_text}
use Rattle.wire_text.specs.SliceReading.{IsSliceText, IsPacketText, slice_of_text, packet_of_text}
use Rattle.plain_io.specs.declared.files.Which.TheVariants as kind
use Rattle.wire_text.specs.declared.row_reading.BadText.{BadText}
use Rattle.wire_text.specs.Reading.{bad_text}
use Rattle.client_replay.specs.declared.unfit.Unfit.{Unfit as Misfitting}
use Rattle.client_replay.specs.Replaying.{outcome}
use Rattle.record_laws.specs.PacketLaws.{each_fits}
use Rattle.commands.specs.declared.outcome.Misfit.TheVariants.{SliceLine, PacketLine, Rule}
use Rattle.commands.specs.declared.outcome.Outcome.{Outcome}
use Rattle.commands.specs.declared.outcome.Outcome.TheVariants.{Done, Refused, Unfit}
use Rattle.commands.specs.Command as spec
use Rattle.commands.specs.MapFile.{Contents, FileName}

-- the words after its name: the file of a slice, and that of a packet
abbrev pub replay_command : List (List ℕ) → Option spec.Command
replay_command (slice ∷ packet ∷ []) = Some (spec.Replay slice packet)
replay_command words = None

-- the file of a slice, and that of a packet
abbrev pub slice_file : List ℕ → FileName
slice_file name = record { which = kind.Slice; name = name; max = MAX_TEXT_BYTES }

abbrev pub packet_file : List ℕ → FileName
packet_file name = record { which = kind.Packet; name = name; max = MAX_TEXT_BYTES }

-- the files that are read, in the order in which they are loaded
abbrev pub files_of_replay : List ℕ → List ℕ → List FileName
files_of_replay slice packet = slice_file slice ∷ packet_file packet ∷ []

-- ---- what comes of two texts

-- the packet begins at the step of the slice, and each record fits the slice that those before it leave
abbrev pub LeadsOn : Slice → Packet → Type 0
LeadsOn s p = (s.step ≡ p.from) × (each_fits s p.steps ≡ true)

-- Some first records fit one after the other. The next one, of this step, does not fit the slice that they leave, and this is the
-- least rule that it breaks.
pub record IsBroken (s : Slice) (records : List StepRecord) (step rule : ℕ) : Type 0 where
  pub before : List StepRecord
  pub refused : StepRecord
  pub after : List StepRecord
  pub split : records ≡ before ++ (refused ∷ after)
  pub fit : each_fits s before ≡ true
  pub step_is : refused.step ≡ step
  pub breaks : broken_rule (fold undo s before) refused ≡ Some rule

-- The packet begins at another step than that of the slice, which is told as rule 1; or it begins there, and a record is broken.
abbrev pub IsUnfit : Slice → Packet → ℕ → ℕ → Type 0
IsUnfit s p step rule =
    ((s.step ≢ p.from) × (step ≡ p.from) × (rule ≡ 1)) ⊎ ((s.step ≡ p.from) × IsBroken s p.steps step rule)

-- the bytes are the text of no slice, and this is the first line that is not of its form; and the same of a packet
abbrev pub IsBadSlice : List ℕ → ℕ → Type 0
IsBadSlice bytes line = ((s : Slice) → ¬ (IsSliceText bytes s)) × (slice_of_text bad_text bytes ≡ Err (record { line = line }))

abbrev pub IsBadPacket : List ℕ → ℕ → Type 0
IsBadPacket bytes line = ((p : Packet) → ¬ (IsPacketText bytes p)) × (packet_of_text bad_text bytes ≡ Err (record { line = line }))

-- What comes of the bytes of a slice and of a packet. They are the texts of both, each record fits, and the slice that is reached is
-- told; or a record does not fit; or one of them is no such text, that of the slice before that of the packet.
abbrev pub SaysTexts : List ℕ → List ℕ → Outcome → Type 0
SaysTexts slice packet (Done text) =
    (s : Slice) × IsSliceText slice s × ((p : Packet) × IsPacketText packet p × LeadsOn s p × (text ≡ slice_text (replayed s p)))
SaysTexts slice packet (Unfit (SliceLine line)) = IsBadSlice slice line
SaysTexts slice packet (Unfit (PacketLine line)) = ((s : Slice) × IsSliceText slice s) × IsBadPacket packet line
SaysTexts slice packet (Unfit (Rule step rule)) =
    (s : Slice) × IsSliceText slice s × ((p : Packet) × IsPacketText packet p × IsUnfit s p step rule)
SaysTexts slice packet other = ⊥

-- the same as functions
abbrev pub reached : Slice × Option Misfitting → Outcome
reached (s, None) = Done (slice_text s)
reached (s, Some u) = Unfit (Rule u.step u.rule)

abbrev pub texts_told : Result Slice BadText → Result Packet BadText → Outcome
texts_told (Err bad) packet = Unfit (SliceLine bad.line)
texts_told (Ok s) (Err bad) = Unfit (PacketLine bad.line)
texts_told (Ok s) (Ok p) = reached (outcome s p)

unfoldable pub texts_outcome : List ℕ → List ℕ → Outcome
texts_outcome slice packet = texts_told (slice_of_text bad_text slice) (packet_of_text bad_text packet)

-- ---- what comes of two files

-- there are too many bytes, which is told
abbrev pub IsTooLong : List ℕ → Outcome → Type 0
IsTooLong bytes outcome = (MAX_TEXT_BYTES < length bytes) × (outcome ≡ Refused (InputLong MAX_TEXT_BYTES))

-- What comes of the files: one is too long, the slice's before the packet's, or both are read.
abbrev pub SaysReplay : Contents → Outcome → Type 0
SaysReplay files outcome =
    IsTooLong (files kind.Slice) outcome
    ⊎ ((length (files kind.Slice) ≤ MAX_TEXT_BYTES) × (IsTooLong (files kind.Packet) outcome
    ⊎ ((length (files kind.Packet) ≤ MAX_TEXT_BYTES) × SaysTexts (files kind.Slice) (files kind.Packet) outcome)))

-- what comes of bytes that are not too many
abbrev pub unless_long : List ℕ → Outcome → Outcome
unless_long bytes outcome = if nat_lt MAX_TEXT_BYTES (length bytes) then Refused (InputLong MAX_TEXT_BYTES) else outcome

-- the same as a function
abbrev pub replay_outcome : Contents → Outcome
replay_outcome files =
    unless_long (files kind.Slice) (unless_long (files kind.Packet) (texts_outcome (files kind.Slice) (files kind.Packet)))
