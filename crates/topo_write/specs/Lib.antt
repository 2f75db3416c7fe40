pub mod Polygons
pub mod Topology
pub mod Building
pub mod Writing
pub mod Flats
