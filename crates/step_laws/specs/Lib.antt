pub mod StepLaws
pub mod NodeLaws
