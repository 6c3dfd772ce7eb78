pub mod Length
pub mod Parts
pub mod Decode
