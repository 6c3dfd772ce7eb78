pub mod Appends
pub mod Inverse
