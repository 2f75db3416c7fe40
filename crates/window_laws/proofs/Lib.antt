pub mod ComesOf
pub mod Examples
pub mod Filters
pub mod NewFaces
pub mod WindowEdges
pub mod WindowFaces
pub mod WindowPacketSteps
pub mod WindowSteps
