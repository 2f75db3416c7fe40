pub mod AfterSteps
pub mod EntrySteps
pub mod Examples
pub mod MapSteps
pub mod PlaceLaws
pub mod PlaceSteps
pub mod VersionSteps
