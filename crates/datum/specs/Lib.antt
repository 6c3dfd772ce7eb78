pub mod Step
pub mod Private
