pub mod Rows
pub mod Appends
pub mod Maps
