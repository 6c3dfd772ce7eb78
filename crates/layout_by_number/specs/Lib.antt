pub mod Private
pub mod Inner
