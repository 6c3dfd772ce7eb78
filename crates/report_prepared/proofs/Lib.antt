pub mod Filled
pub mod Means
pub mod Ranges
pub mod Served
