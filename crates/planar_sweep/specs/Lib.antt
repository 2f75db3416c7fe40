pub mod Over
pub mod Times
pub mod Rows
pub mod EventKeys
pub mod Ends
pub mod Line
pub mod Faces
pub mod Swept
