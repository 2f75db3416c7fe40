pub mod Between
pub mod Coming
pub mod Labels
pub mod Rules
pub mod Replaying
pub mod Working
pub mod Windows
