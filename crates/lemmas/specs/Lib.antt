pub mod Sorting
pub mod Parity
pub mod Ascending
