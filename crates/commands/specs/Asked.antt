-- The commands of the code as those of the definitions.
use Rattle.std.specs.Prelude.{Option, option_map}
use Rattle.commands.specs.declared.command.Source.{Source}
use Rattle.commands.specs.declared.command.Source.TheVariants.{Listing, Topology}
use Rattle.commands.specs.declared.command.Command.{Command}
use Rattle.commands.specs.declared.command.Command.TheVariants.{Borders, Check, Slice, Packet, Replay, Grid}
use Rattle.commands.specs.Command as spec

abbrev pub source_of : Source → spec.Source
source_of (Listing name) = spec.Listing name.now
source_of (Topology map object rules) = spec.Topology map.now object.now rules.now

abbrev pub command_of : Command → spec.Command
command_of (Borders source step) = spec.Borders (source_of source) step
command_of (Check source) = spec.Check (source_of source)
command_of (Slice source step) = spec.Slice (source_of source) step
command_of (Packet source from to) = spec.Packet (source_of source) from to
command_of (Replay slice packet) = spec.Replay slice.now packet.now
command_of (Grid size) = spec.Grid size.rows

abbrev pub asked : Option Command → Option spec.Command
asked command = option_map command_of command
