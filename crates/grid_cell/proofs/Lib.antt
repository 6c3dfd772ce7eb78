pub mod Sum
pub mod Held
