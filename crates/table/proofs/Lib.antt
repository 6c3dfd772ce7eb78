pub mod Count
pub mod Whole
pub mod Marks
pub mod Calls
pub mod Filled
