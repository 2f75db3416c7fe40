pub mod Held
pub mod Corners
pub mod Ends
pub mod Runs
pub mod Rows
pub mod Lent
