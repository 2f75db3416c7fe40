pub mod Ways
pub mod Live
pub mod LiveList
pub mod Climb
pub mod Merged
pub mod Backwards
pub mod Jumps
