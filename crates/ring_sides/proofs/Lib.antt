pub mod Measures
pub mod RawArcs
pub mod RingLoops
pub mod Steps
pub mod TakenSides
pub mod TakenFaces
pub mod BasedIsBase
pub mod Read
pub mod Takings
pub mod FaceRings
pub mod RingTakings
pub mod RingSides
pub mod OneBase
pub mod TurnedRings
mod Examples
