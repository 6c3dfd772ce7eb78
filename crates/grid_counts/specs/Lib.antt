pub mod Counts
pub mod Private
pub mod Inner
