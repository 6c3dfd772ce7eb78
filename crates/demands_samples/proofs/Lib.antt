pub mod Checks
pub mod Written
pub mod Changed
