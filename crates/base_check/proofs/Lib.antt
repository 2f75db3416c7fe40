pub mod Order
pub mod Spokes
pub mod Rings
pub mod Nodes
pub mod Apart
pub mod Faults
pub mod Evidence
pub mod Agreement
