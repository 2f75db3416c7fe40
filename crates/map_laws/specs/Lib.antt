pub mod PlaneLaws
pub mod ChainLaws
pub mod Inside
