use Rattle.wire_text.proofs.PacketLaws.{packet_read, packet_found, packet_fault}
use Rattle.wire_text.proofs.Room.{packet_room}
use Rattle.wire_text.proofs.packet_reading.read_packet.Goals as goal

pub returns-clause-read : goal.returns-clause-read
returns-clause-read c = packet_read c.args.bytes.now c.read_checked.result c.read_checked.ensures

pub returns-clause-spelled : goal.returns-clause-spelled
returns-clause-spelled c = λ p is. packet_found c.args.bytes.now c.read_checked.result p is c.read_checked.ensures

pub returns-clause-fault : goal.returns-clause-fault
returns-clause-fault c = λ f is p. packet_fault c.args.bytes.now c.read_checked.result f p is c.read_checked.ensures

pub returns-clause-room : goal.returns-clause-room
returns-clause-room c = packet_room c.args.bytes.now c.read_checked.result (packet_read c.args.bytes.now c.read_checked.result c.read_checked.ensures)
