pub mod RunLaws
pub mod PieceLaws
pub mod UndoLaws
pub mod PacketLaws
