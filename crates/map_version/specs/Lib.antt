pub mod Lines
pub mod Indexed
pub mod Labels
pub mod Positions
pub mod Faults
pub mod Firsts
pub mod Drops
pub mod Drafts
