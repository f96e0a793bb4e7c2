pub mod HasPlan
pub mod Called
pub mod PlanLaws
