mod SliceParts
mod PacketParts
