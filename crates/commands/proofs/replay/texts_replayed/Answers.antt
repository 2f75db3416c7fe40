use Rattle.commands.proofs.Replays.{no_slice_text, no_packet_text, not_replayed, all_replayed}
use Rattle.commands.proofs.replay.texts_replayed.Goals as goal

pub returns-in_err-slice : goal.returns-in_err-slice
returns-in_err-slice c =
    no_slice_text c.args.slice.now c.args.packet.now c.in_err-slice.field-0.0 c.from_residual.result c.from_residual.ensures.1 c.in_err-slice.ensures.read

pub returns-in_err-packet : goal.returns-in_err-packet
returns-in_err-packet c =
    no_packet_text c.args.slice.now c.args.packet.now c.in_ok-slice.slice c.in_ok-slice.ensures.read.0 c.in_ok-slice.ensures.read.1
    c.in_err-packet.field-0.0 c.from_residual-in_err-packet.result c.from_residual-in_err-packet.ensures.1 c.in_err-packet.ensures.read

pub returns-in_err-replay : goal.returns-in_err-replay
returns-in_err-replay c =
    not_replayed c.args.slice.now c.args.packet.now c.in_ok-slice.slice c.in_ok-slice.ensures.read.0 c.in_ok-slice.ensures.read.1
    c.in_ok-packet.packet c.in_ok-packet.ensures.read.0 c.in_ok-packet.ensures.read.1
    c.in_err-replay.field-0.0 c.replay.new.slice c.from_residual-in_err-replay.result c.from_residual-in_err-replay.ensures.1 c.in_err-replay.ensures.exact

pub returns : goal.returns
returns c =
    all_replayed c.args.slice.now c.args.packet.now c.in_ok-slice.slice c.in_ok-slice.ensures.read.0 c.in_ok-slice.ensures.read.1
    c.in_ok-packet.packet c.in_ok-packet.ensures.read.0 c.in_ok-packet.ensures.read.1
    c.replay.new.slice c.in_ok-slice_text.field-0 c.in_ok-replay.ensures.exact c.in_ok-replay.ensures.done c.in_ok-slice_text.ensures
