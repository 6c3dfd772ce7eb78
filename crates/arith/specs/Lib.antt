pub mod Lists
pub mod Whole
pub mod First
pub mod Places
pub mod Inner
pub mod Refusals
