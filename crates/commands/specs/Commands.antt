-- All commands: which words ask for one, which files it reads, and what comes of it.
use Rattle.std.specs.Prelude.{ℕ, List, [], ◌∷◌, codes, bytes_eq, Option, None, if◌then◌else◌}
use Rattle.commands.specs.declared.outcome.Outcome.{Outcome}
use Rattle.commands.specs.Command.{Command, Borders, Check, Slice, Packet, Replay, Grid}
use Rattle.commands.specs.MapFile.{Contents, FileName, files_of_map, OfMap, of_map}
use Rattle.commands.specs.Borders.{borders_command, SaysBorders, borders_outcome}
use Rattle.commands.specs.Check.{check_command, SaysCheck, check_outcome}
use Rattle.commands.specs.Slice.{slice_command, SaysSlice, slice_outcome}
use Rattle.commands.specs.Packet.{packet_command, SaysPacket, packet_outcome}
use Rattle.commands.specs.Replay.{replay_command, files_of_replay, SaysReplay, replay_outcome}
use Rattle.commands.specs.Grid.{grid_command, SaysGrid, grid_outcome}

-- the command that the words are, or none
unfoldable pub command : List (List ℕ) → Option Command
command [] = None
command (name ∷ words) =
    if bytes_eq name (codes "borders") then borders_command words
    else if bytes_eq name (codes "check") then check_command words
    else if bytes_eq name (codes "slice") then slice_command words
    else if bytes_eq name (codes "packet") then packet_command words
    else if bytes_eq name (codes "replay") then replay_command words
    else if bytes_eq name (codes "grid") then grid_command words
    else None

-- the files that it reads
abbrev pub files_of : Command → List FileName
files_of (Borders map k) = files_of_map map
files_of (Check map) = files_of_map map
files_of (Slice map k) = files_of_map map
files_of (Packet map from to) = files_of_map map
files_of (Replay slice packet) = files_of_replay slice packet
files_of (Grid rows) = []

-- what comes of it, in the words of the subject
abbrev pub Says : Command → Contents → Outcome → Type 0
Says (Borders map k) = OfMap map (SaysBorders k)
Says (Check map) = OfMap map SaysCheck
Says (Slice map k) = OfMap map (SaysSlice k)
Says (Packet map from to) = OfMap map (SaysPacket from to)
Says (Replay slice packet) = SaysReplay
Says (Grid rows) = λ files. SaysGrid rows

-- and as a function
abbrev pub outcome_of : Command → Contents → Outcome
outcome_of (Borders map k) = of_map map (borders_outcome k)
outcome_of (Check map) = of_map map check_outcome
outcome_of (Slice map k) = of_map map (slice_outcome k)
outcome_of (Packet map from to) = of_map map (packet_outcome from to)
outcome_of (Replay slice packet) = replay_outcome
outcome_of (Grid rows) = λ files. grid_outcome rows
