pub mod RingFaces
pub mod Told
pub mod ReadBack
