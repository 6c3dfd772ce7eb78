pub mod Grids
pub mod Private
pub mod Inner
