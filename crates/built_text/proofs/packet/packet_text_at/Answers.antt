-- What is written part after part is the text of the packet.
use Rattle.tgap_model.specs.Merged.{merged}
use Rattle.built_text.proofs.PacketParts.{packet_put}
use Rattle.built_text.proofs.packet.packet_text_at.Goals as goal

pub returns-clause-exact : goal.returns-clause-exact
returns-clause-exact c =
    packet_put c.new-text.result c.put_packet_line.new.out c.put_records.new.out c.push_slice.new.self (merged c.args.built.now) c.args.from c.args.to
    c.new-text.ensures c.in_ok-put_packet_line.ensures c.in_ok-put_records.ensures c.in_ok-push_slice.ensures
