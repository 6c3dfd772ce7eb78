pub mod Quotient
pub mod About
pub mod Error
pub mod Refusals
