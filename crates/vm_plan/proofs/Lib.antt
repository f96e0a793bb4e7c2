pub mod Growing
pub mod PlanPlanning
pub mod Planned
