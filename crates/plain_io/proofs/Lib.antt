pub mod Numbers
pub mod Cuts
pub mod Words
pub mod Rows
pub mod LineEnds
pub mod Steps
pub mod Fields
pub mod Loops
mod JsonTrees
