pub mod Serving
pub mod Asked
pub mod Journals
pub mod Later
