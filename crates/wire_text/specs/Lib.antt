pub mod Reading
pub mod SliceTexts
pub mod SliceReading
