pub mod Texts
pub mod Words
pub mod Lines
pub mod ListingLines
pub mod Json
