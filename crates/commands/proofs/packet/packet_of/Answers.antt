use Rattle.commands.proofs.Packets.{packet_done, packet_refused, steps_within}
use Rattle.commands.proofs.packet.packet_of.Goals as goal

pub returns-in-Ok : goal.returns-in-Ok
returns-in-Ok c =
    let m = c.args.built.now in
    let text = c.in-Ok.text in
    let h = c.in-Ok.ensures in
    let within = steps_within m c.args.from c.args.to text h.coarser h.high in
    packet_done m c.args.from c.args.to text c.base-base.ensures.base c.base-base.ensures.partition within.0 within.1 h.exact

pub returns-in-Err : goal.returns-in-Err
returns-in-Err c =
    packet_refused c.args.built.now c.args.from c.args.to c.in-Err.fail c.without_packet.result c.without_packet.ensures
    c.in-Err.ensures.coarser c.in-Err.ensures.high
