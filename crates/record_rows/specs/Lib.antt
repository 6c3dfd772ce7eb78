pub mod Numbers
pub mod Private
pub mod Inner
