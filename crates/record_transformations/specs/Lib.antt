pub mod Transformations
pub mod Private
