use Rattle.commands.proofs.packet.packet_of_checked.Goals as goal

pub returns : goal.returns
returns g c = rw c.in_ok-built.ensures at c.packet_of.ensures
