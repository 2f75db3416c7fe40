pub mod Arcs
pub mod FaceRings
pub mod Places
pub mod Turned
pub mod Sides
pub mod RingFaults
pub mod Taking
