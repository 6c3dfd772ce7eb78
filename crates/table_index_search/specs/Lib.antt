pub mod Index
pub mod Search
pub mod Agree
pub mod Means
pub mod Place
pub mod Private
pub mod Inner
