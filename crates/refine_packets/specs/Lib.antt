pub mod Near
pub mod Walk
pub mod Counts
