pub mod Indexed
pub mod Find
pub mod Private
pub mod Inner
