pub mod Linear
pub mod Parts
