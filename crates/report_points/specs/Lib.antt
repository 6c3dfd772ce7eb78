pub mod Reports
pub mod Private
