mod Examples
pub mod Cases
pub mod Laws
pub mod Numbers
pub mod EditsKeep
pub mod Batches
pub mod Joined
