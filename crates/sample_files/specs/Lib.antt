pub mod File
pub mod Private
pub mod Held
pub mod Inner
