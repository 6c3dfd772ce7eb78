pub mod Halves
pub mod Parts
pub mod Run
pub mod Line
pub mod Counts
pub mod Fills
