pub mod Shift
pub mod Private
pub mod Inner
