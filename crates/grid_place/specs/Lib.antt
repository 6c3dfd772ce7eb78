pub mod Position
pub mod Private
pub mod Inner
