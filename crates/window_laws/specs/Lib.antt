pub mod WindowLaws
pub mod WindowPacketLaws
