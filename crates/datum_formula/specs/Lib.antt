pub mod Formula
pub mod Private
