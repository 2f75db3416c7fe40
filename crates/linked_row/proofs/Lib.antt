pub mod Changes
pub mod Distinct
pub mod Entries
pub mod Neighbours
pub mod Nodes
