pub mod Sides
pub mod Rings
pub mod Areas
pub mod Spans
pub mod Orbits
