pub mod TextExamples
pub mod ListingExamples
pub mod TopologyExamples
pub mod WindowTexts
