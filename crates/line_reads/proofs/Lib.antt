pub mod Passing
pub mod Known
pub mod Last
