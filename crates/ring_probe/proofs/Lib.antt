pub mod RowSegments
pub mod Probes
pub mod Turned
