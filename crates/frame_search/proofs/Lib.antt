pub mod Inside
pub mod Whole
