pub mod Natural
pub mod Parts
pub mod Names
pub mod Inverse
