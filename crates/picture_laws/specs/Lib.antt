pub mod FaceAt
pub mod JoinLaws
pub mod Joined
pub mod PlaceLaws
pub mod Areas
pub mod FaceRings
pub mod FacePolygons
