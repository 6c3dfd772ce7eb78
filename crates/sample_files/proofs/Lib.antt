pub mod Bytes
pub mod Fields
pub mod Back
pub mod Shape
