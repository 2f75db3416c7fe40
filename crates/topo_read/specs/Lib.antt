pub mod Arcs
pub mod Parts
pub mod Positions
pub mod Seen
pub mod Sizes
pub mod Walk
