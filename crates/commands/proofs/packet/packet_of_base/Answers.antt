use Rattle.commands.proofs.Packets.{packet_failed, packet_passed}
use Rattle.commands.proofs.packet.packet_of_base.Goals as goal

pub returns-in_err-checked : goal.returns-in_err-checked
returns-in_err-checked g c =
    let h = c.in_err-checked.ensures in
    packet_failed c.args.base c.args.from c.args.to c.in_err-checked.field-0.0 c.from_residual.result c.from_residual.ensures.1 (h.fault, h.shown, h.refused)

pub returns : goal.returns
returns g c =
    let same = c.in_ok-checked.ensures.sound in
    packet_passed c.args.base c.args.from c.args.to _ (rw same.0 at c.in_ok-checked.ensures.partition) same.1
    (rw same.0 at c.packet_of_checked.ensures)
