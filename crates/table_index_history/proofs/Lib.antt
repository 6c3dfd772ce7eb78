pub mod Named
pub mod Keys
pub mod Found
pub mod Step
pub mod Histories
