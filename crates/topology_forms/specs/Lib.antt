pub mod Topology
pub mod Rings
