pub mod Sizes
pub mod Within
pub mod Directions
pub mod Heights
pub mod Evidence
