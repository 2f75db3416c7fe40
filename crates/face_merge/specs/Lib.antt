pub mod Measures
pub mod Merging
pub mod Choice
pub mod Areas
pub mod Links
pub mod Linking
pub mod Queue
pub mod Running
