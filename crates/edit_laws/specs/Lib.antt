pub mod EditLaws
pub mod Edits
