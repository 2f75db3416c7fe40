pub mod Marks
pub mod Parts
pub mod BaseFacts
pub mod Segments
pub mod Points
pub mod Proper
pub mod FirstFault
pub mod ShoelaceSums
