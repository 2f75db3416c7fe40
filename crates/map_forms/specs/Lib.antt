pub mod Version
pub mod Listing
pub mod RulesFile
