pub mod Servings
pub mod Laters
pub mod Journals
pub mod Refusals
