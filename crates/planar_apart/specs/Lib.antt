pub mod Meetings
pub mod Rows
pub mod Ends
pub mod Crossing
pub mod Doubts
