pub mod Spokes
pub mod Faults
